use Rattle.std.proofs.Common.{sym}
use Rattle.sum_laws.proofs.Sums as laws
use Rattle.subtree_summary.specs.Summing.{part_at}
use Rattle.subtree_summary.proofs.summing.Sums.use_label.Goals as goal

pub returns : goal.returns
returns c i =
    let s = c.args.self.now in
    record {
      chunk = s.chunk;
      count = c.in_ok-self.ensures i;
      shards = s.sharded.shards;
      said = λ k. sym (laws.join_is_a_monoid.right (part_at s.sharded.parts.items k)) i;
      names = c.in_ok-note_name.ensures i;
    }
