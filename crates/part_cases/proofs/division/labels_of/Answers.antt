use Rattle.std.proofs.Common.{ap, ◌∙◌}
use Rattle.std.specs.Prelude.{map as each}
use Rattle.std.proofs.lemmas.List.{drop_all}
use Rattle.shard_model.specs.Numbered.{names_of}
use Rattle.subtree_summary.specs.Uses.{uses_view}
use Rattle.part_cases.proofs.Numbered.{all_told}
use Rattle.part_cases.proofs.division.labels_of.Goals as goal

pub returns : goal.returns
returns c =
    c.in_ok-labels.ensures
    ∙ ap (λ us. names_of (each uses_view us)) c.as_slice.ensures.value
    ∙ all_told c.args.chunks.now (each uses_view c.loop-ops.uses.items) c.loop-ops.ops-index (drop_all c.loop-ops.ops-index c.args.chunks.now c.loop-ops-test.false) c.loop-ops.invariant
