-- What the workers have, put together.
use Rattle.std.specs.Prelude.{◌≡◌, ℕ, ◌<◌, ◌⊎◌, Bool, true, List, [], ◌∷◌, ◌++◌, length, map, All, Contains, Option, Some, IfSome, slice_set}
use Rattle.steal_pool.specs.declared.worker.Worker.{Worker}
use Rattle.steal_pool.specs.declared.gather.Gathered.{Gathered}
use Rattle.steal_pool.specs.Pools.{Each}
use Rattle.steal_pool.specs.Works.{IsHeldAnswer}

-- the slots once each answer is in the slot of its piece
abbrev pub filled : {A : Type 0} → List (Option A) → List (ℕ × A) → List (Option A)
filled slots [] = slots
filled slots (x ∷ xs) = filled (slice_set slots x.0 (Some x.1)) xs

module _ {P A E S : Type 0} where
  -- the same for the answers of all workers
  abbrev pub all_filled : List (Option A) → List (Worker P A E S) → List (Option A)
  all_filled slots [] = slots
  all_filled slots (w ∷ ws) = all_filled (filled slots w.answers.items) ws

  abbrev pub seats_of : List (Worker P A E S) → List S
  seats_of ws = map (λ w. w.seat) ws

  -- the worker's answers are of pieces below a number
  abbrev pub IsInside : ℕ → Worker P A E S → Type 0
  IsInside n w = All (λ x. x.0 < n) w.answers.items

  -- the failure is that of one of the workers
  abbrev pub IsFailureOf : List (Worker P A E S) → Option (ℕ × E) → Type 0
  IsFailureOf ws failure = IfSome failure (λ x. (w : Worker P A E S) × Contains ws w × (w.failure ≡ Some x))

  -- the worker's seat, answers and failure were added
  abbrev pub Added : Gathered A E S → Worker P A E S → Gathered A E S → Type 0
  Added old w new = (new.seats.items ≡ old.seats.items ++ w.seat ∷ []) × (new.slots.items ≡ filled old.slots.items w.answers.items) × ((new.failure ≡ old.failure) ⊎ (new.failure ≡ w.failure))

-- What was gathered is fine: each slot is empty or has an answer of its piece, which is in a seat, and the failure is of a piece that fails
pub record IsGathered {A E S : Type 0} (count : ℕ) (fails : ℕ → Bool) (fits : S → Type 0) (good : ℕ → A → Type 0) (bad : ℕ → E → Type 0) (done : S → ℕ → A → Type 0) (g : Gathered A E S) : Type 0 where
  pub some_seat : 0 < length g.seats.items
  pub seats_fit : All fits g.seats.items
  pub slot_each : length g.slots.items ≡ count
  pub slots_held : Each (λ piece slot. IfSome slot (IsHeldAnswer fails good done g.seats.items piece)) g.slots.items
  pub failure_own : IfSome g.failure (λ x. (x.0 < count) × (fails x.0 ≡ true) × bad x.0 x.1)
