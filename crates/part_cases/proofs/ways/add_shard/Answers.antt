use Rattle.std.proofs.Common.{sym, ap, ◌∙◌, subst}
use Rattle.summary_merge.specs.Runs.{RunOf}
use Rattle.shard_model.specs.Own.{SumHasOwn}
use Rattle.part_cases.specs.Chunks.{run_of}
use Rattle.part_cases.proofs.Numbered.{all_own}
use Rattle.part_cases.proofs.ways.add_shard.Goals as goal

pub rename-requires : goal.rename-requires
rename-requires c =
    subst (λ (r : RunOf). SumHasOwn c.args.division.now.labels r.sum) (sym (c.in_ok-run.ensures ∙ ap (run_of c.args.shard.count c.args.shard.number 0) c.as_slice.ensures.value))
    (all_own c.args.division.now c.args.shard.count c.args.shard.number c.requires.numbered)
