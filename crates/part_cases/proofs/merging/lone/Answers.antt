use Rattle.std.proofs.Common.{◌<◌, ◌+◌, sym, subst, ◌∙◌}
use Rattle.part_cases.proofs.Runs.{lone_is}
use Rattle.part_cases.proofs.merging.lone.Goals as goal

pub returns : goal.returns
returns c =
    let at = c.args.shard.number in
    let parts = c.in_ok-parts.ensures.parts in
    let sum-is = lone_is c.args.shard.count at c.args.number c.args.ops.now c.in_ok-parts.field-0.parts.items c.remove-part.result (subst (λ n. at < n) (sym parts.0) c.requires.shard.0) (parts.1 at) c.remove-part.ensures.value in
    c.of.ensures ∙ (λ i. record { first = c.args.number; end = c.args.number + 1; sum = sum-is i })
