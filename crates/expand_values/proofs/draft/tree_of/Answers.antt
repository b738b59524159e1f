use Rattle.std.proofs.Common.{◌≡◌, ◌++◌, ◌∷◌, List, ℕ}
use Rattle.ld_model.specs.Tree.{put}
use Rattle.ld_tree.specs.View.{view, members_view}
use Rattle.ld_tree.specs.declared.value.Tree.{Tree}
use Rattle.expand_values.proofs.Entries.{put_next}
use Rattle.expand_values.proofs.draft.tree_of.Goals as goal

pub loop-key-preserved : goal.loop-key-preserved
loop-key-preserved c =
    put_next (members_view c.loop-key.many.entries) (members_view c.put_entry.new.entries.entries) (c.in-Some.key, view c.in-Some.value) c.next.new.self c.loop-key.key-iterator c.args.members
    c.into_iter-key-iterator.ensures.into_iter_gives.1 c.in-Some.ensures.steps c.loop-key.invariant c.in_ok-put_entry.ensures
