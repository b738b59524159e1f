-- A map and its seats as clauses see them, and what a call may do to a seat.
use Rattle.std.specs.Prelude.{◌≡◌, ◌≢◌, ℕ, ◌<◌, ◌≤◌, ◌+◌, ◌*◌, ◌%◌, ◌⊎◌, Bool, true, false, ◌&&◌, ◌||◌, ◌==◌, nat_lt, List, [], ◌∷◌, ◌++◌, length, Some, None, slice_index_or, Contains}
use Rattle.atomic_table.specs.Seated.{TableId}
use Rattle.shard_map.specs.declared.entering.Entering.{Entering}
use Rattle.shard_map.specs.declared.entering.Entering.TheVariants.{Entered, Filled, Busy}
use Rattle.shard_map.specs.declared.view.View.{View}
use Rattle.shard_map.specs.Views.{covers, keep_of, whole}

-- which map it is, and its job
pub record Shared (J : Type 0) : Type 0 where
  pub which : TableId
  pub job : J

abbrev pub shared : {J : Type 0} → TableId → J → Shared J
shared which job = record { which = which; job = job }

-- which map the seat is of, and what it knows
pub record Seen (J : Type 0) : Type 0 where
  pub which : TableId
  pub view : View J

abbrev pub seen : {J : Type 0} → TableId → View J → Seen J
seen which v = record { which = which; view = v }

-- the seat was opened with this map, or split from such a seat
abbrev pub IsSeatOf : {J : Type 0} → Shared J → Seen J → Type 0
IsSeatOf m s = (s.which ≡ m.which) × (s.view.job ≡ Some m.job)

-- the mark of a pair in a list that has the pieces of one shard after those of another
abbrev pub is_marked : ℕ → List Bool → ℕ → ℕ → Bool
is_marked pieces marks j p = nat_lt p pieces && slice_index_or marks (j * pieces + p) false

-- what is marked in either of two lists
pub record AreUnited (ms ns both : List Bool) : Type 0 where
  pub len : length both ≡ length ms
  pub each : (i : ℕ) → slice_index_or both i false ≡ (slice_index_or ms i false || slice_index_or ns i false)

-- just the pairs of the list are marked
pub record AreMarked (pieces : ℕ) (marks : List Bool) (pairs : List (ℕ × ℕ)) : Type 0 where
  pub shows : (j p : ℕ) → is_marked pieces marks j p ≡ true → Contains pairs (j, p)
  pub has : (j p : ℕ) → Contains pairs (j, p) → is_marked pieces marks j p ≡ true

-- What holds of a seat between any two calls: how its share, its marks and its room stand to what it knows
pub record Fits {J : Type 0} (count shards : J → ℕ) (v : View J) (share pieces : ℕ) (marks : List Bool) (room : ℕ) : Type 0 where
  pub idle : v.turn ≡ None
  pub same : share ≡ v.share
  pub some : 0 < share
  pub most : share ≤ whole
  pub marked : AreMarked pieces marks v.pairs
  pub pieces_are : (o : J) → v.job ≡ Some o → pieces ≡ count o
  pub marks_len : (o : J) → v.job ≡ Some o → length marks ≡ shards o * count o
  pub keeps_len : (o : J) → v.job ≡ Some o → length v.keeps ≡ shards o
  pub room_is : (o : J) → v.job ≡ Some o → shards o ≤ room

module _ {J : Type 0} where
  -- a call on shard j left the job, the share and all that the seat keeps of other shards
  pub record KeepsRest (v w : View J) (j : ℕ) : Type 0 where
    pub job : w.job ≡ v.job
    pub share : w.share ≡ v.share
    pub others : (i : ℕ) → i ≢ j → keep_of w i ≡ keep_of v i

  -- the call took just one turn of shard j, and then these pairs came into the list
  pub record TookTurn (v w : View J) (j : ℕ) (new : List (ℕ × ℕ)) : Type 0 where
    pub rest : KeepsRest v w j
    pub turns : (keep_of w j).turns ≡ (keep_of v j).turns + 1
    pub pairs : w.pairs ≡ new ++ v.pairs

  -- The part is in its place: no run covered the piece when the turn began, the turn left a run of just this piece, and no other piece came or went. The pair is in the list.
  pub record HasEntered (v w : View J) (j p : ℕ) : Type 0 where
    pub turn : TookTurn v w j ((j, p) ∷ [])
    pub free : covers (keep_of w j).began p ≡ false
    pub stands : Contains (keep_of w j).ended (p, p + 1)
    pub stay : (q : ℕ) → covers (keep_of w j).ended q ≡ ((q == p) || covers (keep_of w j).began q)

  -- a run covered the piece already when the turn began, which left all as it was; a whole seat has the pair in its list
  pub record WasFilled (v w : View J) (j p : ℕ) : Type 0 where
    pub turn : TookTurn v w j []
    pub filled : covers (keep_of w j).began p ≡ true
    pub stay : (keep_of w j).ended ≡ (keep_of w j).began
    pub known : v.share ≡ whole → Contains v.pairs (j, p)

  -- The call took no turn, since it read an odd word, or one that had changed from an even number when it was to be exchanged. No whole seat finds that.
  pub record WasBusy (v w : View J) (j n : ℕ) : Type 0 where
    pub rest : KeepsRest v w j
    pub pairs : w.pairs ≡ v.pairs
    pub turns : (keep_of w j).turns ≡ (keep_of v j).turns
    pub spans : ((keep_of w j).began ≡ (keep_of v j).began) × ((keep_of w j).ended ≡ (keep_of v j).ended)
    pub last : (keep_of w j).last ≡ n
    pub cause : (((keep_of w j).reads ≡ (keep_of v j).reads + 1) × (n % 2 ≡ 1)) ⊎ (((keep_of w j).reads ≡ (keep_of v j).reads + 2) × ((keep_of w j).before % 2 ≡ 0) × ((keep_of w j).before ≢ n))
    pub part : v.share ≢ whole

-- what became of the part: the first where it was entered, the second of the part that was handed back where its place was filled, the third of it and the word where the turn could not be had
abbrev pub MatchEntering : {P : Type 0} → Entering P → Type 0 → (P → Type 0) → (P → ℕ → Type 0) → Type 0
MatchEntering Entered A F G = A
MatchEntering (Filled p) A F G = F p
MatchEntering (Busy p n) A F G = G p n
