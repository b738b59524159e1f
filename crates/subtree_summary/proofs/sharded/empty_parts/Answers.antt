use Rattle.std.proofs.Common.{[], ◌∷◌, ◌+◌, length, ap, ◌∙◌}
use Rattle.std.proofs.lemmas.List.{length-append}
use Rattle.subtree_summary.specs.Summing.{part_at}
use Rattle.subtree_summary.proofs.Joining.{all_empty}
use Rattle.subtree_summary.proofs.sharded.empty_parts.Goals as goal

pub loop-preserved : goal.loop-preserved
loop-preserved c = record {
  long = ap length c.in_ok-push.ensures.items ∙ length-append c.loop.parts.items (c.new.result ∷ []) ∙ ap (λ n. n + 1) c.loop.invariant.long;
  empty = λ k. ap (λ ps. part_at ps k) c.in_ok-push.ensures.items ∙ all_empty c.loop.parts.items c.new.result c.new.ensures c.loop.invariant.empty k;
}
