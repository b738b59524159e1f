use Rattle.std.proofs.Common.{ap₂, ◌∙◌}
use Rattle.summary_merge.specs.Runs.{runs_joined}
use Rattle.part_cases.proofs.Runs.{halves}
use Rattle.part_cases.proofs.merging.+merged.Goals as goal

pub returns : goal.returns
returns t c =
    c.in_ok-run.ensures
    ∙ ap₂ runs_joined c.in_ok-earlier.ensures c.in_ok-later.ensures
    ∙ halves c.args.shard.count c.args.shard.number c.args.first c.split_of-at.result.at c.args.chunks.now c.split_at.result.0.now c.split_at.result.1.now c.split_at.ensures.by_index.0 c.split_at.ensures.front_len
