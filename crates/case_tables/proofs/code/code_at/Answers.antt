use Rattle.std.proofs.Common.{ap, ◌∙◌}
use Rattle.std.specs.List.{slice_get}
use Rattle.case_tables.proofs.Numbered.{copied_get}
use Rattle.case_tables.specs.declared.code.TheConstants.{CODES}
use Rattle.case_tables.proofs.code.code_at.Goals as goal

pub returns : goal.returns
returns c = c.copied.ensures ∙ copied_get CODES c.from.result c.get.result c.get.ensures.lookup ∙ ap (slice_get CODES) c.from.ensures
