-- Conflicts of indexes in a sum (JSON-LD 1.1 API, section 7.2, step 6.8), and the first of them.
use Rattle.std.specs.Prelude.{ℕ, ◌==◌, List, [], ◌∷◌, Bool, ◌&&◌, ◌||◌, nat_lt, if◌then◌else◌, Option, Some, None}
use Rattle.op_model.specs.Names.{Name}
use Rattle.sum_model.specs.Sums.{Place, Key, Index, PartEntry, Sum}

-- An operation sets a second index of a node, which differs from the first.
pub record ConflictAt : Type 0 where
  pub place : Place
  pub node : Name
  pub first : List ℕ
  pub second : List ℕ

-- Whether a place comes before another: in an earlier chunk, or earlier in the same one.
abbrev pub is_before : Place → Place → Bool
is_before a b = nat_lt a.chunk b.chunk || ((a.chunk == b.chunk) && nat_lt a.number b.number)

abbrev pub conflict_by : Name → List ℕ → Option (Place × List ℕ) → Option ConflictAt
conflict_by node first (Some second) = Some (record { place = second.0; node = node; first = first; second = second.1 })
conflict_by node first None = None

-- The conflict of a node, by what was set as its index.
abbrev pub conflict_of : Name → Option Index → Option ConflictAt
conflict_of node (Some i) = conflict_by node i.text i.conflict
conflict_of node None = None

abbrev pub earlier : Option ConflictAt → Option ConflictAt → Option ConflictAt
earlier None b = b
earlier (Some a) None = Some a
earlier (Some a) (Some b) = if is_before b.place a.place then Some b else Some a

abbrev pub earliest : List (Key × PartEntry) → Option ConflictAt
earliest [] = None
earliest (e ∷ es) = earlier (conflict_of e.0.1 e.1.index) (earliest es)

-- The first conflict in a sum, by its place.
abbrev pub first_conflict : Sum → Option ConflictAt
first_conflict s = earliest s.nodes
