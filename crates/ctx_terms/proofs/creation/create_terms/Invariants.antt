-- The terms that are left, created from here, come to what all of them come to.
use Rattle.std.proofs.Common.{◌≡◌, drop}
use Rattle.ctx_model.specs.Process.{terms_created}
use Rattle.ctx_entries.specs.View.{pairs_view, state_view}
use Rattle.ctx_entries.specs.Left.{creation}
use Rattle.ctx_terms.proofs.creation.create_terms.Given as goal

abbrev pub invariant-loop-entry : goal.invariant-loop-entry
invariant-loop-entry g l = terms_created (λ t v s. creation l.local t v s) (pairs_view (drop l.entry-index l.entries)) (state_view l.state) ≡ terms_created (λ t v s. creation l.local t v s) (pairs_view l.entries) (state_view l.initial.state)
