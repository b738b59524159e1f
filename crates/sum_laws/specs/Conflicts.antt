-- The first conflict of indexes, as operations come one after another.
use Rattle.std.specs.Prelude.{ℕ, zero, suc, ◌≡◌, ◌<◌, List, [], ◌∷◌, ◌++◌, true, if◌then◌else◌, Option, Some, None, ⊤, flat_map}
use Rattle.std.specs.List.{AllByRecursion}
use Rattle.std.specs.Option.{option_or}
use Rattle.std.specs.Str.{bytes_eq}
use Rattle.op_model.specs.Names.{Name}
use Rattle.op_model.specs.Ops.{Op, set_index}
use Rattle.sum_model.specs.Sums.{Place, Placed, placed_chunks, Sum, sum}
use Rattle.sum_model.specs.Conflicts.{ConflictAt, is_before, earlier, first_conflict}
use Rattle.sum_model.specs.Shards.{in_shard, part_in}
use Rattle.sum_laws.specs.Said.{index_set}

-- Each operation's place comes before those of the operations after it.
abbrev pub AreInOrder : List Placed → Type 0
AreInOrder [] = ⊤
AreInOrder (o ∷ os) = AllByRecursion (λ p. is_before o.0 p.0 ≡ true) os × AreInOrder os

-- The conflict where this index is set and these were set before: the first of them is another.
abbrev pub differing : Place → Name → List ℕ → List (Place × List ℕ) → Option ConflictAt
differing at n i [] = None
differing at n i (x ∷ xs) = if bytes_eq x.1 i then None else Some (record { place = at; node = n; first = x.1; second = i })

-- The conflict that an operation makes, after those that are done.
abbrev pub new_conflict : List Placed → Placed → Option ConflictAt
new_conflict done (at, set_index g n i) = differing at n i (flat_map (index_set (g, n)) done)
new_conflict done _ = None

-- The first that any of these makes, one after another.
abbrev pub conflict_from : List Placed → List Placed → Option ConflictAt
conflict_from done [] = None
conflict_from done (o ∷ os) = option_or (new_conflict done o) (conflict_from (done ++ o ∷ []) os)

abbrev pub TheFirstConflictComesFirst : Type 0
TheFirstConflictComesFirst = (os : List Placed) → AreInOrder os → first_conflict (sum os) ≡ conflict_from [] os

-- The operations of chunks come in the order of their places.
abbrev pub ChunksAreInOrder : Type 0
ChunksAreInOrder = (chunks : List (List Op)) → AreInOrder (placed_chunks 0 chunks)

-- The earliest of the first conflicts that a sum has in the shards before this one, of so many.
abbrev pub first_of_shards : ℕ → ℕ → Sum → Option ConflictAt
first_of_shards shards zero s = None
first_of_shards shards (suc k) s = earlier (first_of_shards shards k s) (first_conflict (part_in (in_shard shards k) s))

abbrev pub TheFirstConflictIsThatOfAShard : Type 0
TheFirstConflictIsThatOfAShard = (shards : ℕ) → 0 < shards → (os : List Placed) → AreInOrder os → first_of_shards shards shards (sum os) ≡ first_conflict (sum os)
