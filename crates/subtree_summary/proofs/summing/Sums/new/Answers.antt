use Rattle.subtree_summary.proofs.summing.Sums.new.Goals as goal

pub returns : goal.returns
returns c i = record {
  chunk = c.args.chunk;
  count = 0;
  shards = c.in_ok-new.ensures.shards i;
  said = λ k. c.in_ok-new.ensures.empty k i;
  names = c.new-2.ensures i;
}
