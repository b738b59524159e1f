use Rattle.std.proofs.Common.{ap, sym, ◌∙◌}
use Rattle.std.specs.Prelude.{codes}
use Rattle.ld_model.specs.Tree.{member_at}
use Rattle.ld_tree.specs.View.{view}
use Rattle.ctx_model.specs.Process.{context_entry, given_context}
use Rattle.ctx_entries.specs.View.{tree_view}
use Rattle.ctx_entries.proofs.Listed.{of_object}
use Rattle.ctx_settings.proofs.remote.context_entry.Goals as goal

pub returns-in-Some : goal.returns-in-Some
returns-in-Some c =
    ap (λ v. context_entry (view v)) c.in-Map.is ∙ of_object (λ es. given_context (member_at (codes "@context") es)) c.in-Map.entries ∙ ap given_context (sym c.get.ensures ∙ ap tree_view c.in-Some.is)

pub returns-in-None : goal.returns-in-None
returns-in-None c =
    ap (λ v. context_entry (view v)) c.in-Map.is ∙ of_object (λ es. given_context (member_at (codes "@context") es)) c.in-Map.entries ∙ ap given_context (sym c.get.ensures ∙ ap tree_view c.in-None.is)
