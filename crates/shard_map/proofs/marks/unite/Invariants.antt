use Rattle.shard_map.proofs.Listing.{UnitedBelow}
use Rattle.shard_map.proofs.marks.unite.Given as goal

abbrev pub invariant-loop-at : goal.invariant-loop-at
invariant-loop-at l = record {
  united : UnitedBelow l.at l.initial.marks.items l.others.items l.marks.items;
}
