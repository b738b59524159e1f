use Rattle.std.proofs.Common.{rules, of_calls, Bool}
use Rattle.std.specs.Prelude.{nat_le}
use Rattle.std.proofs.lemmas.Bool.{leb-true, leb-false}
use Rattle.std.proofs.lemmas.List.Sorted.{IsPartitionPoint-from_clause}
use Rattle.shard_map.proofs.Places.{parted}
use Rattle.shard_map.proofs.runs.place_of.Goals as goal

pub returns-clause-parted : goal.returns-clause-parted
returns-clause-parted g c =
    let test : g.row.P.Denot → Bool = λ x. nat_le (g.P.Merge.end_of x) c.args.piece in
    let h = IsPartitionPoint-from_clause test c.args.runs.now c.partition_point.result c.partition_point.ensures.partitioned (parted g.P.Merge.start_of g.P.Merge.end_of c.args.runs.now c.args.piece c.requires.rises) (λ a r f' k. search (rules, of_calls)) in
    ((λ k d low high. leb-true _ c.args.piece (h.0 k d low high)), (λ k d low high. leb-false _ c.args.piece (h.1 k d low high)))
