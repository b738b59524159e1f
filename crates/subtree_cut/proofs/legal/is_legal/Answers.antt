use Rattle.std.proofs.Common.{◌≡◌, map, sym, ap, ◌∙◌}
use Rattle.cut_model.specs.LegalTest as test
use Rattle.cut_laws.proofs.LegalTest.{legal_from, legal_to}
use Rattle.subtree_cut.specs.View.{piece_view, plan_view}
use Rattle.subtree_cut.proofs.legal.is_legal.Goals as goal

pub returns : goal.returns
returns c =
    let told : c.are_apart.result ≡ test.is_legal (plan_view c.args.plan.now) = c.are_apart.ensures c.args.plan.now.contexts.items ∙ ap (λ xs. test.is_legal (map (piece_view c.args.plan.now.contexts.items) xs)) c.as_slice.ensures.value in
    (λ h. legal_from (plan_view c.args.plan.now) (sym told ∙ h), λ h. told ∙ legal_to (plan_view c.args.plan.now) h)
