-- The word of a job: the least piece that was reported to fail, or the number of pieces.
use Rattle.std.specs.Prelude.{◌≡◌, ℕ, ◌+◌, ◌<◌, ◌≤◌, ◌⊎◌, ◌^◌, Bool, true, [], ◌∷◌, min, Option, Some, None}
use mathlib.Core.Option.{some}
use lib.ListN.{get_elem?}
use Rattle.atomic_table.specs.Table.{State, Me, Step}
use Rattle.atomic_table.specs.Seated.{TableId}
use Rattle.first_error.specs.declared.view.View.{View}

module _ {J : Type 0} where
  abbrev pub view : Option J → ℕ → ℕ → Option ℕ → View J
  view job bound loads last = record { job = job; bound = bound; loads = loads; last = last }

  -- the first seat of a word knows the job and its number of pieces
  abbrev pub opened : J → ℕ → View J
  opened job count = view (Some job) count 0 None

  -- after a report the seat's bound is the lesser of the piece and what it was
  abbrev pub reported : View J → ℕ → View J
  reported v piece = view v.job (min v.bound piece) v.loads v.last

  -- after a look the seat's bound is what it found, and the look is counted
  abbrev pub looked : View J → ℕ → View J
  looked v found = view v.job found (v.loads + 1) (Some found)

  -- a new seat knows the same, and has not looked
  abbrev pub again : View J → View J
  again v = view v.job v.bound 0 None

  -- a seat that takes in another has the lesser bound, and its own looks
  abbrev pub joined : View J → View J → View J
  joined v w = view v.job (min v.bound w.bound) v.loads v.last

  -- a seat that was taken in knows nothing
  abbrev pub spent : View J
  spent = view None 0 0 None

  module _ (count : J → ℕ) (fails : J → ℕ → Bool) where
    -- the number of pieces, or a piece that fails
    abbrev pub IsLeast : J → ℕ → Type 0
    IsLeast job n = (n ≡ count job) ⊎ ((n < count job) × (fails job n ≡ true))

    -- the seat is of this job, and has reported or seen nothing less than the word
    abbrev pub Knows : J → ℕ → View J → Type 0
    Knows job word v = (own : J) → v.job ≡ Some own → (own ≡ job) × (word ≤ v.bound)

    -- The rule, which holds between any two steps: the word is the number of pieces or a piece that fails, and at most each seat's bound
    pub record Holds (job : J) (s : State Unit (View J)) : Type 0 where
      pub word : ℕ
      pub words : s.words ≡ word ∷ []
      pub small : count job < 2 ^ 32
      pub least : IsLeast job word
      pub each : (k : ℕ) (v : View J) → get_elem? s.views k ≡ some v → Knows job word v

    -- what a look tells: the number that it found is the word at its step, so it is at most what the seat knew before
    abbrev pub HasLooked : Step Unit → Me Unit (View J) → ℕ → Me Unit (View J) → Type 0
    HasLooked st m found n = (n.1 ≡ m.1) × (n.0 ≡ looked m.0 found) × ((job : J) → m.0.job ≡ Some job → IsLeast job found × (found ≤ m.0.bound) × (count job < 2 ^ 32))

  -- what a report tells
  abbrev pub HasReported : Step Unit → Me Unit (View J) → ℕ → Me Unit (View J) → Type 0
  HasReported st m found n = (n.1 ≡ m.1) × (n.0 ≡ reported m.0 st.first)

-- a word as a clause sees it: which one it is, and its job
pub record Shared (J : Type 0) : Type 0 where
  pub which : TableId
  pub job : J

abbrev pub shared : {J : Type 0} → TableId → J → Shared J
shared which job = record { which = which; job = job }

-- a seat as a clause sees it: which word it is of, and what it knows
pub record Seen (J : Type 0) : Type 0 where
  pub which : TableId
  pub view : View J

abbrev pub seen : {J : Type 0} → TableId → View J → Seen J
seen which v = record { which = which; view = v }

-- the seat was opened with this word, or split from such a seat
abbrev pub IsSeatOf : {J : Type 0} → Shared J → Seen J → Type 0
IsSeatOf e s = (s.which ≡ e.which) × (s.view.job ≡ Some e.job)
