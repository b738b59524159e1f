use Rattle.std.proofs.Common.{◌∙◌}
use Rattle.ld_tree.specs.View.{view}
use Rattle.json_canon.specs.Canonical.{with_members_in_order}
use Rattle.ld_json.proofs.Printing.{printed_alone}
use Rattle.json_canon.proofs.writing.canonical.Goals as goal

pub returns : goal.returns
returns c =
    printed_alone (with_members_in_order (view c.args.tree.now)) _ _ _ _ _ (c.new-out.ensures.before ∙ c.new.ensures.items) c.new-out.ensures.tokens c.in_ok-write_tree.ensures.before c.in_ok-write_tree.ensures.tokens c.into_inner.ensures.items
