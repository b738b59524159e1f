-- Whole runs of the job machine, and what holds of each that ends with Close.
use Rattle.std.specs.Prelude.{◌≡◌, ℕ, ◌+◌, ◌<◌, ◌≤◌, ◌⊎◌, Bool, true, false, ◌&&◌, List, [], ◌∷◌, length, ◌==◌, count_by, slice_index_or, IsTrue, None}
use Rattle.job_core.specs.Machine.{Job, start, refusal, after, outcome_of}
use Rattle.job_core.specs.declared.JobStep.{JobStep}
use Rattle.job_core.specs.declared.JobStep.TheVariants.{Take, Fail, Look, Skip, Turn, Enter, Close}
use Rattle.job_core.specs.declared.Outcome.{Outcome}
use Rattle.job_core.specs.declared.Outcome.TheVariants.{AllEntered, FirstFailure}

-- These steps lead from one state to the other, and each is allowed where it is made.
abbrev pub IsRun : Job → List JobStep → Job → Type 0
IsRun from [] to = to ≡ from
IsRun from (step ∷ steps) to = (refusal from step ≡ None) × IsRun (after from step) steps to

-- Which steps take, report, skip or enter a piece.

abbrev pub is_take : ℕ → JobStep → Bool
is_take piece (Take seat taken) = taken == piece
is_take piece (Fail seat other) = false
is_take piece (Look seat) = false
is_take piece (Skip seat other) = false
is_take piece (Turn seat shard) = false
is_take piece (Enter seat shard other) = false
is_take piece Close = false

abbrev pub is_report : ℕ → JobStep → Bool
is_report piece (Take seat other) = false
is_report piece (Fail seat reported) = reported == piece
is_report piece (Look seat) = false
is_report piece (Skip seat other) = false
is_report piece (Turn seat shard) = false
is_report piece (Enter seat shard other) = false
is_report piece Close = false

abbrev pub is_skip : ℕ → JobStep → Bool
is_skip piece (Take seat other) = false
is_skip piece (Fail seat other) = false
is_skip piece (Look seat) = false
is_skip piece (Skip seat skipped) = skipped == piece
is_skip piece (Turn seat shard) = false
is_skip piece (Enter seat shard other) = false
is_skip piece Close = false

abbrev pub is_entry : ℕ → ℕ → JobStep → Bool
is_entry shard piece (Take seat other) = false
is_entry shard piece (Fail seat other) = false
is_entry shard piece (Look seat) = false
is_entry shard piece (Skip seat other) = false
is_entry shard piece (Turn seat other) = false
is_entry shard piece (Enter seat into entered) = (into == shard) && (entered == piece)
is_entry shard piece Close = false

-- The least piece that fails, or the number of pieces where none does.
abbrev pub least_failing : List Bool → ℕ
least_failing [] = 0
least_failing (true ∷ fails) = 0
least_failing (false ∷ fails) = least_failing fails + 1

-- What one seat answers that takes the pieces in order, from this one on: it enters each that doesn't fail, and stops at the first that does.
abbrev pub in_order_from : ℕ → List Bool → Outcome
in_order_from piece [] = AllEntered
in_order_from piece (true ∷ fails) = FirstFailure piece
in_order_from piece (false ∷ fails) = in_order_from (piece + 1) fails

abbrev pub in_order : List Bool → Outcome
in_order fails = in_order_from 0 fails

-- The piece doesn't fail, and the steps enter it exactly once in every shard.
abbrev pub IsEnteredEverywhere : List Bool → ℕ → List JobStep → ℕ → Type 0
IsEnteredEverywhere fails shards steps piece =
    (slice_index_or fails piece false ≡ false) × ((shard : ℕ) → shard < shards → count_by (is_entry shard piece) steps ≡ 1)

-- The piece fails, and the steps report it exactly once.
abbrev pub IsReported : List Bool → List JobStep → ℕ → Type 0
IsReported fails steps piece = (slice_index_or fails piece false ≡ true) × (count_by (is_report piece) steps ≡ 1)

-- The steps skip the piece exactly once, and report one before it.
abbrev pub IsSkipped : List Bool → List JobStep → ℕ → Type 0
IsSkipped fails steps piece = (count_by (is_skip piece) steps ≡ 1) × ((earlier : ℕ) × (earlier < piece) × IsReported fails steps earlier)

-- What the steps have made of a job: nothing lost, nothing done twice, and the answer of one seat in order.
pub record IsSettled (fails : List Bool) (shards : ℕ) (steps : List JobStep) (end : Job) : Type 0 where
  pub taken_once : (piece : ℕ) → piece < length fails → count_by (is_take piece) steps ≡ 1
  pub ended : (piece : ℕ) → piece < length fails → IsEnteredEverywhere fails shards steps piece ⊎ (IsReported fails steps piece ⊎ IsSkipped fails steps piece)
  pub no_pair_twice : (shard piece : ℕ) → count_by (is_entry shard piece) steps ≤ 1
  pub least : end.least ≡ least_failing fails
  pub outcome : outcome_of end ≡ in_order fails

-- Every run from the start of a job that ends with Close settles the job, whatever the order of its steps.
abbrev pub EveryClosedRunSettles : Type 0
EveryClosedRunSettles =
    (fails : List Bool) (shards seats : ℕ) (steps : List JobStep) (end : Job) → IsRun (start fails shards seats) steps end → IsTrue end.closed → IsSettled fails shards steps end
