use Rattle.std.proofs.Common.{ap, sym, ◌∙◌}
use Rattle.std.specs.List.{list_all}
use Rattle.ld_tree.specs.View.{view}
use Rattle.ctx_model.specs.Definition.{entries_of, is_known_entry}
use Rattle.ctx_entries.proofs.Listed.{of_object}
use Rattle.ctx_entries.proofs.definition.has_known_entries.Goals as goal

pub returns-in-Map : goal.returns-in-Map
returns-in-Map c =
    c.are_known_entries.ensures ∙ sym (of_object (list_all is_known_entry) c.in-Map.entries)
    ∙ sym (ap (λ v. list_all is_known_entry (entries_of (view v))) c.in-Map.is)
