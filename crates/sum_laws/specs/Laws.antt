-- Laws of sums and their join.
use Rattle.std.specs.Prelude.{ℕ, ◌≡◌, ◌↔◌, ◌<◌, List, [], ◌++◌, Bool, true, false}
use Rattle.op_model.specs.Names.{Name, same_name}
use Rattle.op_model.specs.Ops.{Entry, list}
use Rattle.op_model.specs.Running.{used}
use Rattle.sum_model.specs.Joins.{lists_joined}
use Rattle.sum_model.specs.Sums.{Placed, Key, same_key, same_entry, empty_sum, join, sum}
use Rattle.sum_model.specs.Shards.{shard_of, ops_in, part_in}

-- Three values come to the same in both bracketings, and the empty one makes no difference on either side.
pub record IsMonoid {V : Type 0} (empty : V) (join : V → V → V) : Type 0 where
  pub assoc : (a b c : V) → join (join a b) c ≡ join a (join b c)
  pub left : (a : V) → join empty a ≡ a
  pub right : (a : V) → join a empty ≡ a

abbrev pub JoinIsAMonoid : Type 0
JoinIsAMonoid = IsMonoid empty_sum join

abbrev pub TheSumOfBothIsTheJoin : Type 0
TheSumOfBothIsTheJoin = (a b : List Placed) → sum (a ++ b) ≡ join (sum a) (sum b)

-- Whichever names are meant: those of a shard, as `in_shard` tells them, are such.
abbrev pub TheSumOfAShardIsItsPart : Type 0
TheSumOfAShardIsItsPart = (here : Name → Bool) (os : List Placed) → sum (ops_in here os) ≡ part_in here (sum os)

-- Where there are shards at all, each name falls in one of them.
abbrev pub EachNameHasAShard : Type 0
EachNameHasAShard = (shards : ℕ) → 0 < shards → (name : Name) → shard_of shards name < shards

-- The names that are used in one list and then in another, in the order of first use.
abbrev pub TheUsesOfBothAreJoined : Type 0
TheUsesOfBothAreJoined = (a b : List Name) → used [] (a ++ b) ≡ lists_joined same_name (used [] a) (used [] b)

-- Two names, or two nodes of graphs, are the same exactly where they are equal.
abbrev pub SameNamesAreEqual : Type 0
SameNamesAreEqual = (a b : Name) → (same_name a b ≡ true) ↔ (a ≡ b)

abbrev pub SameNodesAreEqual : Type 0
SameNodesAreEqual = (a b : Key) → (same_key a b ≡ true) ↔ (a ≡ b)

-- Two entries are the same exactly where they are equal and no list.
abbrev pub is_list : Entry → Bool
is_list (list es) = true
is_list _ = false

abbrev pub SameEntriesAreEqual : Type 0
SameEntriesAreEqual = (a b : Entry) → (same_entry a b ≡ true) ↔ ((a ≡ b) × (is_list a ≡ false))
