-- What the operations of a chunk have said, on the way through them.
use Rattle.std.specs.Prelude.{ℕ, ◌+◌, List, []}
use Rattle.op_model.specs.Names.{Name}
use Rattle.op_model.specs.Ops.{Op}
use Rattle.op_model.specs.Running.{used, uses}
use Rattle.sum_model.specs.Sums.{Sum, empty_sum, join}
use Rattle.subtree_summary.specs.declared.summing.Sums.{Sums}
use Rattle.subtree_summary.specs.Summing.{part_at, one_in}
use Rattle.subtree_summary.specs.Uses.{uses_view}

-- The number of the chunk, how many operations there were, of how many shards what they say is divided into, what they say in each of them,
-- and the names that need labels, in the order of first use.
pub record SoFar : Type 0 where
  pub chunk : ℕ
  pub count : ℕ
  pub shards : ℕ
  pub said : ℕ → Sum
  pub names : List Name

-- Before the first operation.
abbrev pub nothing_said : ℕ → ℕ → SoFar
nothing_said chunk shards = record { chunk = chunk; count = 0; shards = shards; said = λ k. empty_sum; names = [] }

-- Once another chunk has begun, of which nothing was said yet.
abbrev pub turned_to : ℕ → SoFar → SoFar
turned_to chunk s = record { chunk = chunk; count = 0; shards = s.shards; said = s.said; names = s.names }

-- Once a further operation has said what it says.
abbrev pub tell : Op → SoFar → SoFar
tell o s = record {
  chunk = s.chunk;
  count = s.count + 1;
  shards = s.shards;
  said = λ k. join (s.said k) (one_in s.shards k (record { chunk = s.chunk; number = s.count }) o);
  names = used s.names (uses o);
}

-- What sums have been told.
abbrev pub sums_view : Sums → SoFar
sums_view s = record {
  chunk = s.chunk;
  count = s.number;
  shards = s.sharded.shards;
  said = λ k. part_at s.sharded.parts.items k;
  names = uses_view s.uses;
}
