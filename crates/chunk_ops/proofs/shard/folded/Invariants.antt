use Rattle.std.proofs.Common.{◌≡◌, drop}
use Rattle.sum_model.specs.Shards.{folded}
use Rattle.chunk_ops.proofs.shard.folded.Given as goal

abbrev pub invariant-loop-byte : goal.invariant-loop-byte
invariant-loop-byte l = folded l.sum (drop l.byte-index l.bytes) ≡ folded 0 l.bytes
