use Rattle.std.proofs.lemmas.List.{map-append}
use Rattle.ld_tree.specs.View.{view, members_view}
use Rattle.ld_tree.proofs.ViewLemmas.{ascending_push}
use Rattle.ld_tree.proofs.value.Members.append.Goals as goal

pub invariant_of-self-2 : goal.invariant_of-self-2
invariant_of-self-2 c =
    rw (c.in_ok-push.ensures.items, map-append) (ascending_push (members_view c.self.inside.pairs.items) c.args.key (view c.args.tree) c.self.invariant (rw c.self.view_is c.requires))
