-- The rule of a map in shards, which holds between any two steps, and what each step on a word tells.
use Rattle.std.specs.Prelude.{◌≡◌, ◌≢◌, ℕ, zero, suc, ◌+◌, ◌-◌, ◌%◌, ◌^◌, ◌<◌, ◌≤◌, Bool, true, false, ◌==◌, List, [], ◌∷◌, length, Option, Some, None, slice_get, slice_index, count_by, ◌&&◌, nat_lt, nat_le, if◌then◌else◌, Contains, MatchBool, Vec, vec_capacity}
use mathlib.Core.Option.{some}
use lib.ListN.{get_elem?}
use Rattle.std.specs.declared.alloc.Global.{Global}
use Rattle.atomic_table.specs.Table.{State, Me, Step}
use Rattle.shard_map.specs.declared.view.View.{View}
use Rattle.shard_map.specs.Views.{covers, Rises, spans, new_pieces, pairs_of, keep_of, has_read, has_taken, has_ended, total, whole}

-- a slot has the runs of its shard, unless a seat has taken them out
abbrev pub Slot : Type 0 → Type 0
Slot P = Option (Vec P Global)

-- How a seat's view stands to the words, where these pairs are entered
pub record Stands {J : Type 0} (shards : J → ℕ) (job : J) (entered : ℕ → ℕ → Bool) (words : List ℕ) (v : View J) : Type 0 where
  pub own : (o : J) → v.job ≡ Some o → o ≡ job
  -- a seat that was taken in has nothing
  pub idle : v.share ≡ 0 → (v.turn ≡ None) × (v.pairs ≡ [])
  -- where it has a shard's turn, the word is odd, and nothing came into the shard since the turn began
  pub turning : (j : ℕ) → v.turn ≡ Some j → (j < shards job) × (slice_index words j % 2 ≡ 1) × ((p : ℕ) → covers (keep_of v j).began p ≡ entered j p)
  pub listed : (q : ℕ × ℕ) → Contains v.pairs q → entered q.0 q.1 ≡ true
  -- where it is whole, each word is as its own last step on that word left it
  pub left : v.share ≡ whole → (j n : ℕ) → (keep_of v j).left ≡ Some n → slice_index words j ≡ n

-- a slot at the start: no runs, and room for so many
abbrev pub IsFresh : {P : Type 0} → ℕ → Slot P → Type 0
IsFresh room None = ⊥
IsFresh room (Some runs) = (runs.items ≡ []) × (room ≤ vec_capacity runs)

-- what a slot has at the end, where its word is n: a seat that was let go in its turn may have left an odd word
abbrev pub home_runs : {P : Type 0} → ℕ → Slot P → List P
home_runs n None = []
home_runs n (Some runs) = if n % 2 == 0 then runs.items else []

abbrev pub gathered : {P : Type 0} → List ℕ → List (Slot P) → List (List P)
gathered [] xs = []
gathered (n ∷ ns) [] = []
gathered (n ∷ ns) (x ∷ xs) = home_runs n x ∷ gathered ns xs

module _ {J P : Type 0} (count shards : J → ℕ) (fails : J → ℕ → Bool) (part : J → ℕ → ℕ → P) (start_of end_of : P → ℕ) (both : P → P → P) where
  -- what the parts of n + 1 pieces from a on come to
  abbrev pub parts_from : J → ℕ → ℕ → ℕ → P
  parts_from job j a zero = part job j a
  parts_from job j a (suc n) = both (parts_from job j a n) (part job j (a + suc n))

  -- a run of shard j: over at least one piece, each a piece of the job that doesn't fail, and just what their parts come to
  pub record IsRun (job : J) (j : ℕ) (x : P) : Type 0 where
    pub solid : start_of x < end_of x
    pub inside : end_of x ≤ count job
    pub good : (p : ℕ) → start_of x ≤ p → p < end_of x → fails job p ≡ false
    pub is : x ≡ parts_from job j (start_of x) (end_of x - suc (start_of x))

  -- the runs of shard j ascend, stand apart, are the job's own, and cover just the entered pieces
  pub record Good (job : J) (entered : ℕ → ℕ → Bool) (j : ℕ) (runs : List P) : Type 0 where
    pub rises : Rises 0 (spans start_of end_of runs)
    pub own : (x : P) → Contains runs x → IsRun job j x
    pub covered : (p : ℕ) → covers (spans start_of end_of runs) p ≡ entered j p

  -- the runs are in their slot, with a place for one more than the pieces
  pub record IsHome (job : J) (entered : ℕ → ℕ → Bool) (homes : List (mathlib.Core.Option.Option (Slot P))) (j : ℕ) : Type 0 where
    pub runs : Vec P Global
    pub at : get_elem? homes j ≡ some (some (Some runs))
    pub good : Good job entered j runs.items
    pub room : count job < vec_capacity runs

  -- The rule. Which pairs are entered is known to it alone.
  pub record Holds (job : J) (s : State (Slot P) (View J)) : Type 0 where
    pub entered : ℕ → ℕ → Bool
    pub inside : (j p : ℕ) → entered j p ≡ true → j < shards job
    pub words_len : length s.words ≡ shards job
    pub homes_len : length s.homes ≡ shards job
    pub shares : total s.views ≡ whole
    pub each : (id : ℕ) (v : View J) → get_elem? s.views id ≡ some v → Stands shards job entered s.words v
    -- a shard's turn is with one seat at most
    pub apart : (a b j : ℕ) (v w : View J) → get_elem? s.views a ≡ some v → get_elem? s.views b ≡ some w → v.turn ≡ Some j → w.turn ≡ Some j → a ≡ b
    pub even : (j : ℕ) → j < shards job → slice_index s.words j % 2 ≡ 0 → IsHome job entered s.homes j
    pub odd : (j : ℕ) → j < shards job → slice_index s.words j % 2 ≡ 1 → (id : ℕ) × (v : View J) × (get_elem? s.views id ≡ some v) × (v.turn ≡ Some j)
    pub known : (j p : ℕ) → entered j p ≡ true → (id : ℕ) × (v : View J) × (get_elem? s.views id ≡ some v) × Contains v.pairs (j, p)

  -- What a map comes to, for each shard a list of runs. For a whole seat each pair of its list is in just one of them.
  pub record IsClosed (job : J) (v : View J) (lists : List (List P)) : Type 0 where
    pub shard_lists : length lists ≡ shards job
    pub rises : (j : ℕ) (runs : List P) → slice_get lists j ≡ Some runs → Rises 0 (spans start_of end_of runs)
    pub own : (j : ℕ) (runs : List P) → slice_get lists j ≡ Some runs → (x : P) → Contains runs x → IsRun job j x
    pub all : v.share ≡ whole → (j p : ℕ) → Contains v.pairs (j, p) → (runs : List P) × (slice_get lists j ≡ Some runs) × (count_by (λ x. nat_le (start_of x) p && nat_lt p (end_of x)) runs ≡ 1)

  -- what a seat learns of the runs whose turn it takes
  pub record Learns (job : J) (v : View J) (j : ℕ) (runs : Vec P Global) : Type 0 where
    pub rises : Rises 0 (spans start_of end_of runs.items)
    pub own : (x : P) → Contains runs.items x → IsRun job j x
    pub room : count job < vec_capacity runs
    -- a whole seat has each piece in its list that the runs cover
    pub all : v.share ≡ whole → (p : ℕ) → covers (spans start_of end_of runs.items) p ≡ true → Contains v.pairs (j, p)

  -- What an exchange tells. Where the word was the number expected, the seat has the turn and the runs. Elsewhere the word was another, which can't be where a whole seat left the number expected.
  abbrev pub HasTried : Step (Slot P) → Me (Slot P) (View J) → ℕ → Me (Slot P) (View J) → Type 0
  HasTried st m found n = MatchBool (found == st.first)
      ((runs : Vec P Global) × (n.1 ≡ (st.word, Some runs) ∷ m.1) × (n.0 ≡ has_taken m.0 st.word found st.second (spans start_of end_of runs.items)) × ((job : J) → m.0.job ≡ Some job → Learns job m.0 st.word runs))
      ((n.1 ≡ m.1) × (n.0 ≡ has_read m.0 st.word found) × (m.0.share ≡ whole → (keep_of m.0 st.word).left ≢ Some st.first))

  -- What the end of a turn tells, for whichever runs the seat gives back: the pieces that only these cover came in
  abbrev pub HasEnded : Step (Slot P) → Me (Slot P) (View J) → ℕ → Me (Slot P) (View J) → Type 0
  HasEnded st m found n = (runs : Vec P Global) → m.1 ≡ (st.word, Some runs) ∷ []
      → (n.1 ≡ []) × (n.0 ≡ has_ended m.0 st.word ((found + 1) % 2 ^ 64) (spans start_of end_of runs.items) (pairs_of st.word (new_pieces (keep_of m.0 st.word).began (spans start_of end_of runs.items))))

-- What a look tells: a whole seat finds the word even
abbrev pub HasRead : {J P : Type 0} → Step (Slot P) → Me (Slot P) (View J) → ℕ → Me (Slot P) (View J) → Type 0
HasRead st m found n = (n.1 ≡ m.1) × (n.0 ≡ has_read m.0 st.word found) × (m.0.share ≡ whole → m.0.turn ≡ None → found % 2 ≡ 0)

-- What a seat is told of its share, where nothing else changes: it is at most all of it
abbrev pub HasWeighed : {J P : Type 0} → Step (Slot P) → Me (Slot P) (View J) → ℕ → Me (Slot P) (View J) → Type 0
HasWeighed st m found n = (n.1 ≡ m.1) × (n.0 ≡ m.0) × (m.0.share ≤ whole)
