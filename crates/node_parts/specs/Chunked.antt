-- What the chunks of a document say, one behind the other.
use Rattle.std.specs.Prelude.{ℕ, ◌+◌, ◌≡◌, List, [], ◌∷◌, IsTrue}
use Rattle.std.specs.List.{AllByRecursion}
use Rattle.ld_model.specs.Tree.{Tree}
use Rattle.op_model.specs.Noting.{Chunk, is_placed, ops_of}
use Rattle.division_model.specs.Dividing.{IsDivision}
use Rattle.subtree_summary.specs.OnTheWay.{SoFar, nothing_said}
use Rattle.chunk_sums.specs.Summing.{then_said}

-- A range has a subject exactly where it has a property, and only then may it be a reverse property's.
abbrev pub ArePlaced : List Chunk → Type 0
ArePlaced chunks = AllByRecursion (λ c. IsTrue (is_placed c)) chunks

-- What was said before, and then by chunks that are numbered from this number on.
abbrev pub chunks_said : ℕ → List Chunk → SoFar → SoFar
chunks_said number [] s = s
chunks_said number (c ∷ cs) s = chunks_said (number + 1) cs (then_said number s (ops_of number c))

-- It is what the chunks of some division of the items say, in one shard.
pub record IsWholeOf (items : List Tree) (s : SoFar) : Type 0 where
  pub chunks : List Chunk
  pub divided : IsDivision chunks items
  pub said : s ≡ chunks_said 0 chunks (nothing_said 0 1)
