-- What a job comes to, from what its work promises of each piece.
use Rattle.std.specs.Prelude.{◌≡◌, ℕ, ◌<◌, Bool, true, false, List, length, All, Some, slice_get}
use Rattle.steal_pool.specs.declared.work.WorkStop.{WorkStop}
use Rattle.steal_pool.specs.declared.work.WorkStop.TheVariants.{Failed, OutOfMemory}
use Rattle.steal_pool.specs.declared.work.Ran.{Ran}
use Rattle.steal_pool.specs.declared.work.Stop.{Stop}
use Rattle.steal_pool.specs.declared.work.Stop.TheVariants.{Failed as StopFailed, OutOfMemory as StopOutOfMemory}
use Rattle.steal_pool.specs.Pools.{Each}

-- F of the error, where the piece failed
abbrev pub IfFailed : {E : Type 0} → WorkStop E → (E → Type 0) → Type 0
IfFailed (Failed e) F = F e
IfFailed OutOfMemory F = Unit {0}

-- F of what is told, where some piece failed
abbrev pub IfStopped : {A E : Type 0} → Stop A E → (ℕ → E → List (ℕ × A) → Type 0) → Type 0
IfStopped (StopFailed piece error before) F = F piece error before.items
IfStopped StopOutOfMemory F = Unit {0}

-- no piece fails
abbrev pub NoneFails : ℕ → (ℕ → Bool) → Type 0
NoneFails count fails = (piece : ℕ) → piece < count → fails piece ≡ false

-- this piece fails, and none before it does
pub record IsFirstFailure (count : ℕ) (fails : ℕ → Bool) (piece : ℕ) : Type 0 where
  pub inside : piece < count
  pub fails_itself : fails piece ≡ true
  pub none_before : NoneFails piece fails

-- each piece below n has one answer, a good one, in order
pub record IsAnswered {A : Type 0} (good : ℕ → A → Type 0) (n : ℕ) (answers : List (ℕ × A)) : Type 0 where
  pub count : length answers ≡ n
  pub each : Each (λ piece x. (x.0 ≡ piece) × good piece x.1) answers

-- one of the seats has what the answer of that piece left
abbrev pub Held : {A S : Type 0} → (S → ℕ → A → Type 0) → List S → ℕ → A → Type 0
Held {A} {S} done seats piece answer = (k : ℕ) × (s : S) × (slice_get seats k ≡ Some s) × done s piece answer

-- as many seats, each the same as it was
pub record SameSeats {S : Type 0} (same : S → S → Type 0) (old new : List S) : Type 0 where
  pub count : length new ≡ length old
  pub each : (k : ℕ) (s t : S) → slice_get old k ≡ Some s → slice_get new k ≡ Some t → same s t

-- the job came to good answers: no piece fails, and each answer is in one of the seats that were handed in
pub record HasRan {A S : Type 0} (count : ℕ) (fails : ℕ → Bool) (fits : S → Type 0) (good : ℕ → A → Type 0) (done : S → ℕ → A → Type 0) (same : S → S → Type 0) (seats : List S) (ran : Ran A S) : Type 0 where
  pub none_fails : NoneFails count fails
  pub answers : IsAnswered good count ran.answers.items
  pub answers_held : Each (λ piece x. Held done ran.seats.items piece x.1) ran.answers.items
  pub seats_same : SameSeats same seats ran.seats.items
  pub seats_fit : All fits ran.seats.items

-- the job came to a failure: the first piece that fails, an error that it may have, and good answers for all before it
pub record HasFailed {A E : Type 0} (count : ℕ) (fails : ℕ → Bool) (good : ℕ → A → Type 0) (bad : ℕ → E → Type 0) (piece : ℕ) (error : E) (before : List (ℕ × A)) : Type 0 where
  pub first : IsFirstFailure count fails piece
  pub its_own : bad piece error
  pub answers : IsAnswered good piece before

-- the piece doesn't fail, and this is a good answer of it, which is in one of the seats
abbrev pub IsHeldAnswer : {A S : Type 0} → (ℕ → Bool) → (ℕ → A → Type 0) → (S → ℕ → A → Type 0) → List S → ℕ → A → Type 0
IsHeldAnswer fails good done seats piece answer = (fails piece ≡ false) × good piece answer × Held done seats piece answer

-- the seats fit and are the same as they were, and what answers left in them is still there
pub record StillSeats {A S : Type 0} (fits : S → Type 0) (done : S → ℕ → A → Type 0) (same : S → S → Type 0) (old new : List S) : Type 0 where
  pub seats_same : SameSeats same old new
  pub seats_fit : All fits new
  pub held : (piece : ℕ) (answer : A) → Held done old piece answer → Held done new piece answer

-- each piece below n has one answer, in order, which is in one of the seats
pub record AllAnswered {A S : Type 0} (fails : ℕ → Bool) (good : ℕ → A → Type 0) (done : S → ℕ → A → Type 0) (seats : List S) (n : ℕ) (answers : List (ℕ × A)) : Type 0 where
  pub count : length answers ≡ n
  pub each : Each (λ piece x. (x.0 ≡ piece) × IsHeldAnswer fails good done seats piece x.1) answers
