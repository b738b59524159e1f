use Rattle.std.proofs.Common.{ap, ◌∙◌}
use Rattle.std.specs.List.{slice_get}
use Rattle.case_tables.proofs.Numbered.{copied_get}
use Rattle.case_tables.specs.declared.datatype.TheConstants.{DATATYPES}
use Rattle.case_tables.proofs.datatype.datatype_at.Goals as goal

pub returns : goal.returns
returns c = c.copied.ensures ∙ copied_get DATATYPES c.from.result c.get.result c.get.ensures.lookup ∙ ap (slice_get DATATYPES) c.from.ensures
