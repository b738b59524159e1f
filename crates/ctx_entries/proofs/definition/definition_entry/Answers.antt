use Rattle.std.proofs.Common.{ap, sym, ◌∙◌}
use Rattle.ld_model.specs.Tree.{member_at}
use Rattle.ld_tree.specs.View.{view}
use Rattle.ctx_model.specs.Definition.{entries_of}
use Rattle.ctx_entries.proofs.Listed.{of_object}
use Rattle.ctx_entries.proofs.definition.definition_entry.Goals as goal

pub returns-in-Map : goal.returns-in-Map
returns-in-Map c =
    c.get.ensures ∙ sym (of_object (member_at c.args.key.now) c.in-Map.entries) ∙ sym (ap (λ v. member_at c.args.key.now (entries_of (view v))) c.in-Map.is)
