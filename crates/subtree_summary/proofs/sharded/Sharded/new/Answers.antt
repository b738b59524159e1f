use Rattle.subtree_summary.proofs.Joining.{nothing_in_place}
use Rattle.subtree_summary.proofs.sharded.Sharded.new.Goals as goal

pub invariant_of-result : goal.invariant_of-result
invariant_of-result c = record {
  some = c.requires;
  long = c.in_ok-empty_parts.ensures.length;
  in_place = nothing_in_place c.in_ok-empty_parts.field-0.items c.args.shards c.in_ok-empty_parts.ensures.empty;
}
