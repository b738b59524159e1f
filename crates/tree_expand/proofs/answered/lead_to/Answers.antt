use Rattle.std.proofs.Common.{sym, ap, ◌∙◌}
use Rattle.expand_types.specs.View.{trail_view}
use Rattle.cut_model.specs.Pieces.{same_place}
use Rattle.tree_expand.proofs.PlaceLemmas.{place_exact}
use Rattle.tree_expand.proofs.answered.lead_to.Goals as goal

pub returns-then-leads_by : goal.returns-then-leads_by
returns-then-leads_by c =
    sym (place_exact (trail_view c.args.trail.now) c.args.place.now (ap (same_place (trail_view c.args.trail.now)) (sym c.as_slice.ensures) ∙ sym c.leads_by.ensures ∙ c.if-leads_by.true))
