-- What holds of a worker between two pieces.
use Rattle.std.specs.Prelude.{◌≡◌, ℕ, ◌<◌, Bool, true, false, IfSome, All, [], None}
use Rattle.first_error.specs.Word.{Shared, IsSeatOf as IsErrSeatOf}
use Rattle.steal_pool.specs.Pools.{Deques, IsSeatOf}
use Rattle.steal_pool.specs.declared.worker.Worker.{Worker}

-- its seats are of this job's work, pool and word; each of its answers is of a piece that doesn't fail, is good, and is in the seat; its failure is of a piece that fails
pub record Fine {P A E S : Type 0} (count : ℕ) (fails : ℕ → Bool) (fits : S → Type 0) (good : ℕ → A → Type 0) (bad : ℕ → E → Type 0) (done : S → ℕ → A → Type 0) (pool : Deques) (word : Shared P) (w : Worker P A E S) : Type 0 where
  pub usable : fits w.seat
  pub pieces : IsSeatOf pool w.pieces
  pub errors : IsErrSeatOf word w.errors
  pub answers : All (λ x. (x.0 < count) × (fails x.0 ≡ false) × good x.0 x.1 × done w.seat x.0 x.1) w.answers.items
  pub failure : IfSome w.failure (λ x. (x.0 < count) × (fails x.0 ≡ true) × bad x.0 x.1)

-- a worker that has performed nothing
pub record IsNew {P A E S : Type 0} (pool : Deques) (word : Shared P) (w : Worker P A E S) : Type 0 where
  pub pieces : IsSeatOf pool w.pieces
  pub errors : IsErrSeatOf word w.errors
  pub no_answers : w.answers.items ≡ []
  pub no_failure : w.failure ≡ None
