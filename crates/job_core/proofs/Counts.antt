-- How often a run takes, reports, skips or enters a piece is read off its last state.
use Rattle.std.proofs.Common.{◌≡◌, ℕ, ◌+◌, ◌<◌, ◌≢◌, Bool, true, false, ◌&&◌, cond, List, [], ◌∷◌, length, set, get_or, count_by, refl, sym, ap, ◌∙◌, subst, ⊎_elim, zero-add, nat_eq, None, arith}
use Rattle.std.proofs.lemmas.Bool.Decides.{eqb_tells}
use Rattle.std.proofs.lemmas.List.Sums.{sum_by-cons}
use Rattle.job_core.specs.Machine.{Job, place_of, is_entered, refusal, after}
use Rattle.job_core.specs.Runs.{IsRun, is_take, is_report, is_skip, is_entry}
use Rattle.job_core.specs.declared.JobStep.{JobStep}
use Rattle.job_core.specs.declared.JobStep.TheVariants.{Take, Fail, Look, Skip, Turn, Enter, Close}
use Rattle.job_core.specs.declared.place.Place.{Place}
use Rattle.job_core.specs.declared.place.Place.TheVariants.{Waiting, Held, Reported, Skipped}
use Rattle.job_core.proofs.Lists.{written, written_here, written_elsewhere}
use Rattle.job_core.proofs.Allowed.{take_allowed, fail_allowed, skip_allowed, enter_allowed}
use Rattle.job_core.proofs.Sound.{IsSound, in_places, in_rows, sound_after}

abbrev pub times_taken : Place → ℕ
times_taken Waiting = 0
times_taken (Held seat) = 1
times_taken Reported = 1
times_taken Skipped = 1

abbrev pub times_reported : Place → ℕ
times_reported Waiting = 0
times_reported (Held seat) = 0
times_reported Reported = 1
times_reported Skipped = 0

abbrev pub times_skipped : Place → ℕ
times_skipped Waiting = 0
times_skipped (Held seat) = 0
times_skipped Reported = 0
times_skipped Skipped = 1

abbrev pub times : Bool → ℕ
times b = cond b 1 0

-- A write of a place that counts one more counts at that place alone.
counted : (places : List Place) (count : Place → ℕ) (at piece : ℕ) (new : Place) → at < length places → 1 + count (get_or places at Waiting) ≡ count new
    → times (nat_eq at piece) + count (get_or places piece Waiting) ≡ count (get_or (set places at new) piece Waiting)
counted places count at piece new low more = ⊎_elim
    (λ (here : (nat_eq at piece ≡ true) × (at ≡ piece)).
    subst (λ (n : ℕ). times (nat_eq at n) + count (get_or places n Waiting) ≡ count (get_or (set places at new) n Waiting)) here.1
    (rw (subst (λ (n : ℕ). nat_eq at n ≡ true) (sym here.1) here.0, written_here places at new Waiting low) more))
    (λ (there : (nat_eq at piece ≡ false) × (at ≢ piece)). rw (there.0, written_elsewhere places at piece new Waiting there.1) (zero-add _))
    (eqb_tells at piece)

-- A write of a place that counts the same changes no count.
kept : (places : List Place) (count : Place → ℕ) (at piece : ℕ) (new : Place) → count (get_or places at Waiting) ≡ count new
    → 0 + count (get_or places piece Waiting) ≡ count (get_or (set places at new) piece Waiting)
kept places count at piece new same =
    zero-add _
    ∙ ⊎_elim
    (λ (here : (at ≡ piece) × (get_or (set places at new) piece Waiting ≡ new)).
    subst (λ (n : ℕ). count (get_or places n Waiting) ≡ count (get_or (set places at new) piece Waiting)) here.0 (same ∙ ap count (sym here.1)))
    (λ there. ap count (sym there))
    (written places at piece new Waiting)

-- The same of the entries of a row, and of the rows.
counted_in_row : (row : List Bool) (at piece : ℕ) → at < length row → get_or row at false ≡ false
    → times (nat_eq at piece) + times (get_or row piece false) ≡ times (get_or (set row at true) piece false)
counted_in_row row at piece low free = ⊎_elim
    (λ (here : (nat_eq at piece ≡ true) × (at ≡ piece)).
    subst (λ (n : ℕ). times (nat_eq at n) + times (get_or row n false) ≡ times (get_or (set row at true) n false)) here.1
    (rw (subst (λ (n : ℕ). nat_eq at n ≡ true) (sym here.1) here.0, written_here row at true false low, free) refl))
    (λ (there : (nat_eq at piece ≡ false) × (at ≢ piece)). rw (there.0, written_elsewhere row at piece true false there.1) (zero-add _))
    (eqb_tells at piece)

counted_in_rows : (rows : List (List Bool)) (into shard at piece : ℕ) → into < length rows → at < length (get_or rows into []) → get_or (get_or rows into []) at false ≡ false
    → times (nat_eq into shard && nat_eq at piece) + times (get_or (get_or rows shard []) piece false)
    ≡ times (get_or (get_or (set rows into (set (get_or rows into []) at true)) shard []) piece false)
counted_in_rows rows into shard at piece low_shard low free = ⊎_elim
    (λ (here : (nat_eq into shard ≡ true) × (into ≡ shard)).
    subst (λ (n : ℕ). times (nat_eq into n && nat_eq at piece) + times (get_or (get_or rows n []) piece false) ≡ times (get_or (get_or (set rows into new) n []) piece false)) here.1
    (rw (subst (λ (n : ℕ). nat_eq into n ≡ true) (sym here.1) here.0, written_here rows into new [] low_shard) (counted_in_row (get_or rows into []) at piece low free)))
    (λ (there : (nat_eq into shard ≡ false) × (into ≢ shard)). rw (there.0, written_elsewhere rows into shard new [] there.1) (zero-add _))
    (eqb_tells into shard)
  where
    new : List Bool
    new = set (get_or rows into []) at true

module _ (fails : List Bool) (shards : ℕ) where
  -- A count that each step raises by what it does is, over a run, how often that was done.
  module _ (test : JobStep → Bool) (count : Job → ℕ)
      (each : (job : Job) (step : JobStep) → IsSound fails shards job → refusal job step ≡ None → times (test step) + count job ≡ count (after job step)) where
    pub count_by-run : (steps : List JobStep) (from to : Job) → IsSound fails shards from → IsRun from steps to → count_by test steps + count from ≡ count to
    count_by-run [] from to sound run = zero-add _ ∙ ap count (sym run)
    count_by-run (step ∷ steps) from to sound run =
        let here = each from step sound run.0 in
        let later = count_by-run steps (after from step) to (sound_after fails shards from sound step run.0) run.1 in
        let split : count_by test (step ∷ steps) ≡ times (test step) + count_by test steps = sum_by-cons (λ s. times (test s)) step steps in omega arith

  pub sound_along : (steps : List JobStep) (from to : Job) → IsSound fails shards from → IsRun from steps to → IsSound fails shards to
  sound_along [] from to sound run = subst (λ (job : Job). IsSound fails shards job) (sym run) sound
  sound_along (step ∷ steps) from to sound run = sound_along steps (after from step) to (sound_after fails shards from sound step run.0) run.1

  pub takes_counted : (piece : ℕ) (job : Job) (step : JobStep) → IsSound fails shards job → refusal job step ≡ None → times (is_take piece step) + times_taken (place_of job piece) ≡ times_taken (place_of (after job step) piece)
  takes_counted piece job (Take seat at) sound none =
      let allowed = take_allowed job seat at none in counted job.places times_taken at piece (Held seat) (in_places fails shards job sound at allowed.0) (rw allowed.1 refl)
  takes_counted piece job (Fail seat at) sound none = let allowed = fail_allowed job seat at none in kept job.places times_taken at piece Reported (rw allowed.1.1 refl)
  takes_counted piece job (Look seat) sound none = zero-add _
  takes_counted piece job (Skip seat at) sound none = let allowed = skip_allowed job seat at none in kept job.places times_taken at piece Skipped (rw allowed.1.1 refl)
  takes_counted piece job (Turn seat shard) sound none = zero-add _
  takes_counted piece job (Enter seat shard at) sound none = zero-add _
  takes_counted piece job Close sound none = zero-add _

  pub reports_counted : (piece : ℕ) (job : Job) (step : JobStep) → IsSound fails shards job → refusal job step ≡ None
      → times (is_report piece step) + times_reported (place_of job piece) ≡ times_reported (place_of (after job step) piece)
  reports_counted piece job (Take seat at) sound none = let allowed = take_allowed job seat at none in kept job.places times_reported at piece (Held seat) (rw allowed.1 refl)
  reports_counted piece job (Fail seat at) sound none =
      let allowed = fail_allowed job seat at none in counted job.places times_reported at piece Reported (in_places fails shards job sound at allowed.0) (rw allowed.1.1 refl)
  reports_counted piece job (Look seat) sound none = zero-add _
  reports_counted piece job (Skip seat at) sound none = let allowed = skip_allowed job seat at none in kept job.places times_reported at piece Skipped (rw allowed.1.1 refl)
  reports_counted piece job (Turn seat shard) sound none = zero-add _
  reports_counted piece job (Enter seat shard at) sound none = zero-add _
  reports_counted piece job Close sound none = zero-add _

  pub skips_counted : (piece : ℕ) (job : Job) (step : JobStep) → IsSound fails shards job → refusal job step ≡ None
      → times (is_skip piece step) + times_skipped (place_of job piece) ≡ times_skipped (place_of (after job step) piece)
  skips_counted piece job (Take seat at) sound none = let allowed = take_allowed job seat at none in kept job.places times_skipped at piece (Held seat) (rw allowed.1 refl)
  skips_counted piece job (Fail seat at) sound none = let allowed = fail_allowed job seat at none in kept job.places times_skipped at piece Reported (rw allowed.1.1 refl)
  skips_counted piece job (Look seat) sound none = zero-add _
  skips_counted piece job (Skip seat at) sound none =
      let allowed = skip_allowed job seat at none in counted job.places times_skipped at piece Skipped (in_places fails shards job sound at allowed.0) (rw allowed.1.1 refl)
  skips_counted piece job (Turn seat shard) sound none = zero-add _
  skips_counted piece job (Enter seat shard at) sound none = zero-add _
  skips_counted piece job Close sound none = zero-add _

  pub entries_counted : (shard piece : ℕ) (job : Job) (step : JobStep) → IsSound fails shards job → refusal job step ≡ None
      → times (is_entry shard piece step) + times (is_entered job shard piece) ≡ times (is_entered (after job step) shard piece)
  entries_counted shard piece job (Take seat at) sound none = zero-add _
  entries_counted shard piece job (Fail seat at) sound none = zero-add _
  entries_counted shard piece job (Look seat) sound none = zero-add _
  entries_counted shard piece job (Skip seat at) sound none = zero-add _
  entries_counted shard piece job (Turn seat into) sound none = zero-add _
  entries_counted shard piece job (Enter seat into at) sound none =
      let allowed = enter_allowed job seat into at none in
      let room = in_rows fails shards job sound into at allowed.0 allowed.1 in
      counted_in_rows job.entered into shard at piece room.0 room.1 allowed.2
  entries_counted shard piece job Close sound none = zero-add _
