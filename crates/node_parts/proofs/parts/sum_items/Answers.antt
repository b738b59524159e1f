use Rattle.std.proofs.Common.{◌≡◌, ◌∙◌, ap}
use Rattle.std.specs.Prelude.{map as each}
use Rattle.chunk_ops.specs.Views.{chunk_view}
use Rattle.division_model.specs.ByWeight.{cut_expanded}
use Rattle.node_parts.proofs.Whole.{cuts_are_placed, cuts_are_whole}
use Rattle.node_parts.proofs.parts.sum_items.Goals as goal

pub sum_chunks-requires : goal.sum_chunks-requires
sum_chunks-requires c =
    cuts_are_placed (each chunk_view c.as_slice.result.now) c.args.items.now c.args.weight
    (ap (each chunk_view) c.as_slice.ensures.value ∙ c.in_ok-plan.ensures.same ∙ ap (λ ts. cut_expanded ts c.args.weight) c.as_slice-slice.ensures)

pub returns : goal.returns
returns c =
    cuts_are_whole (each chunk_view c.as_slice.result.now) c.args.items.now c.args.weight
    (ap (each chunk_view) c.as_slice.ensures.value ∙ c.in_ok-plan.ensures.same ∙ ap (λ ts. cut_expanded ts c.args.weight) c.as_slice-slice.ensures) c.in_ok-told.ensures
