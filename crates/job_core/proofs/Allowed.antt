-- What a step that is allowed may rely on.
use Rattle.std.proofs.Common.{◌≡◌, ℕ, zero, suc, ◌+◌, ◌<◌, ◌≤◌, Bool, true, false, not, ◌&&◌, if◌then◌else◌, List, [], ◌∷◌, length, refl, subst, nat_lt, is_none, Option, Some, None, arith}
use Rattle.std.proofs.lemmas.Bool.Decides.{Decides-ltb}
use native.Mathlib.Decide.{ℕ_discrete}
use Rattle.job_core.specs.Machine.{Job, place_of, fails_at, seen_by, is_entered, is_waiting, holder, is_seat, is_finished, first_without, least_unfinished, Guard, waits, holds, does_fail, does_not_fail, has_seen_below, has_turn, is_not_entered, all_finished, no_turn_is_out, is_in_range, guards, first_failing, refusal}
use Rattle.job_core.specs.declared.JobStep.{JobStep}
use Rattle.job_core.specs.declared.JobStep.TheVariants.{Take, Fail, Skip, Enter, Close}
use Rattle.job_core.specs.declared.Kept.TheVariants.{Range, Closed}
use Rattle.job_core.specs.declared.place.Place.{Place}
use Rattle.job_core.specs.declared.place.Place.TheVariants.{Waiting, Held, Reported, Skipped}
use Rattle.job_core.proofs.Lists.{both_true}

passes : (guard : Guard) (rest : List Guard) → first_failing (guard ∷ rest) ≡ None → (guard.0 ≡ true) × (first_failing rest ≡ None)
passes guard rest none = go guard.0 none
  where
    go : (b : Bool) → (if b then first_failing rest else Some guard.1) ≡ None → (b ≡ true) × (first_failing rest ≡ None)
    go true e = (refl, e)
    go false e = cc

below : (a b : ℕ) → nat_lt a b ≡ true → a < b
below a b e = (Decides-ltb a b).0 e

pub not_true : (b : Bool) → not b ≡ true → b ≡ false
not_true true e = cc
not_true false e = refl

waiting : (place : Place) → is_waiting place ≡ true → place ≡ Waiting
waiting Waiting e = refl
waiting (Held seat) e = cc
waiting Reported e = cc
waiting Skipped e = cc

held : (place : Place) (seat : ℕ) → is_seat seat (holder place) ≡ true → (by : ℕ) × (place ≡ Held by)
held Waiting seat e = cc
held (Held by) seat e = (by, refl)
held Reported seat e = cc
held Skipped seat e = cc

nothing : {A : Type 0} (o : Option A) → is_none o ≡ true → o ≡ None
nothing None e = refl
nothing (Some x) e = cc

all_pass : (test : ℕ → Bool) (from count : ℕ) → first_without test from count ≡ None → (n : ℕ) → from ≤ n → n < from + count → test n ≡ true
all_pass test from zero e n low high = absurd (omega arith)
all_pass test from (suc count) e n low high = go (test from) refl e (ℕ_discrete from n) (λ e' low'. all_pass test (from + 1) count e' n low' (omega arith))
  where
    go : (b : Bool) → test from ≡ b → (if b then first_without test (from + 1) count else Some from) ≡ None → Dec (from ≡ n) → (first_without test (from + 1) count ≡ None → from + 1 ≤ n → test n ≡ true) → test n ≡ true
    go true is e (yes same) more = subst (λ (m : ℕ). test m ≡ true) same is
    go true is e (no other) more = more e (omega arith)
    go false is e d more = cc

-- Any step: the job is open, the numbers are in range and each guard holds.
module _ (job : Job) (step : JobStep) (none : refusal job step ≡ None) where
  pub open_before : job.closed ≡ false
  open_before = not_true job.closed (passes (not job.closed, Closed) ((is_in_range job step, Range) ∷ guards job step) none).0

  in_range : is_in_range job step ≡ true
  in_range = (passes (is_in_range job step, Range) (guards job step) (passes (not job.closed, Closed) ((is_in_range job step, Range) ∷ guards job step) none).1).0

  guarded : first_failing (guards job step) ≡ None
  guarded = (passes (is_in_range job step, Range) (guards job step) (passes (not job.closed, Closed) ((is_in_range job step, Range) ∷ guards job step) none).1).1

module _ (job : Job) where
  pub take_allowed : (seat piece : ℕ) → refusal job (Take seat piece) ≡ None → (piece < length job.fails) × (place_of job piece ≡ Waiting)
  take_allowed seat piece none =
      let numbers = both_true (nat_lt seat (length job.seen)) (nat_lt piece (length job.fails)) (in_range job (Take seat piece) none) in
      let waits_now = passes (waits job piece) [] (guarded job (Take seat piece) none) in
      (below piece (length job.fails) numbers.1, waiting (place_of job piece) waits_now.0)

  pub fail_allowed : (seat piece : ℕ) → refusal job (Fail seat piece) ≡ None → (piece < length job.fails) × ((by : ℕ) × (place_of job piece ≡ Held by)) × (fails_at job piece ≡ true)
  fail_allowed seat piece none =
      let numbers = both_true (nat_lt seat (length job.seen)) (nat_lt piece (length job.fails)) (in_range job (Fail seat piece) none) in
      let holds_it = passes (holds job seat piece) (does_fail job piece ∷ []) (guarded job (Fail seat piece) none) in
      let it_fails = passes (does_fail job piece) [] holds_it.1 in
      (below piece (length job.fails) numbers.1, held (place_of job piece) seat holds_it.0, it_fails.0)

  pub skip_allowed : (seat piece : ℕ) → refusal job (Skip seat piece) ≡ None → (piece < length job.fails) × ((by : ℕ) × (place_of job piece ≡ Held by)) × ((seat < length job.seen) × (seen_by job seat < piece))
  skip_allowed seat piece none =
      let numbers = both_true (nat_lt seat (length job.seen)) (nat_lt piece (length job.fails)) (in_range job (Skip seat piece) none) in
      let holds_it = passes (holds job seat piece) (has_seen_below job seat piece ∷ []) (guarded job (Skip seat piece) none) in
      let saw = passes (has_seen_below job seat piece) [] holds_it.1 in
      (below piece (length job.fails) numbers.1, held (place_of job piece) seat holds_it.0, (below seat (length job.seen) numbers.0, below (seen_by job seat) piece saw.0))

  pub enter_allowed : (seat shard piece : ℕ) → refusal job (Enter seat shard piece) ≡ None → (shard < length job.turns) × (piece < length job.fails) × (is_entered job shard piece ≡ false)
  enter_allowed seat shard piece none =
      let numbers = both_true (nat_lt seat (length job.seen)) (nat_lt shard (length job.turns) && nat_lt piece (length job.fails)) (in_range job (Enter seat shard piece) none) in
      let pair = both_true (nat_lt shard (length job.turns)) (nat_lt piece (length job.fails)) numbers.1 in
      let turn = passes (has_turn job seat shard) (holds job seat piece ∷ does_not_fail job piece ∷ is_not_entered job shard piece ∷ []) (guarded job (Enter seat shard piece) none) in
      let holds_it = passes (holds job seat piece) (does_not_fail job piece ∷ is_not_entered job shard piece ∷ []) turn.1 in
      let it_passes = passes (does_not_fail job piece) (is_not_entered job shard piece ∷ []) holds_it.1 in
      let is_new = passes (is_not_entered job shard piece) [] it_passes.1 in
      (below shard (length job.turns) pair.0, below piece (length job.fails) pair.1, not_true (is_entered job shard piece) is_new.0)

  pub close_allowed : refusal job Close ≡ None → (piece : ℕ) → piece < length job.fails → is_finished job piece ≡ true
  close_allowed none piece low =
      let all = passes (all_finished job) (no_turn_is_out job ∷ []) (guarded job Close none) in
      all_pass (is_finished job) 0 (length job.fails) (nothing (least_unfinished job) all.0) piece (omega arith) (omega arith)
