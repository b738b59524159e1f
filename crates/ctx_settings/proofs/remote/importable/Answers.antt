use Rattle.std.proofs.Common.{ap, ◌∙◌}
use Rattle.ld_tree.specs.View.{view}
use Rattle.ctx_model.specs.Process.{importable, without_import}
use Rattle.ctx_entries.proofs.Listed.{of_object}
use Rattle.ctx_entries.proofs.Carried.{answers_of}
use Rattle.ctx_settings.proofs.remote.importable.Goals as goal

pub returns-in-Map : goal.returns-in-Map
returns-in-Map c =
    answers_of c.without_import.result (λ ms. ms.now) (ap (λ v. importable (view v)) c.in-Map.is ∙ of_object without_import c.in-Map.entries) c.without_import.ensures
