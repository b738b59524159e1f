use Rattle.std.proofs.Common.{◌≡◌}
use Rattle.std.specs.List.{fold}
use Rattle.shard_model.specs.Joined.{earlier_of}
use Rattle.label_repair.specs.Finished.{pairs_put}
use Rattle.label_repair.specs.Shards.{conflict_in, built_view, shards_view}
use Rattle.label_repair.proofs.joining.join_shards.Given as goal

abbrev pub invariant-loop-shard : goal.invariant-loop-shard
invariant-loop-shard l =
    record {
      graphs : fold (λ graphs s. pairs_put s.graphs graphs) (built_view l.graphs.entries) (shards_view l.shard-iterator.rest.items) ≡ fold (λ graphs s. pairs_put s.graphs graphs) (built_view l.initial.graphs.entries) (shards_view l.initial.shard-iterator.rest.items);
      conflict : fold (λ c s. earlier_of c s.conflict) (conflict_in l.conflict) (shards_view l.shard-iterator.rest.items) ≡ fold (λ c s. earlier_of c s.conflict) (conflict_in l.initial.conflict) (shards_view l.initial.shard-iterator.rest.items);
    }
