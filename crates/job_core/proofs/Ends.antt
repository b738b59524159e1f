-- Every closed run settles each piece, and comes to what one seat comes to.
use Rattle.std.proofs.Common.{◌≡◌, ℕ, zero, suc, ◌+◌, ◌<◌, ◌≤◌, ◌⊎◌, Bool, true, false, not, if◌then◌else◌, List, [], ◌∷◌, length, get_or, replicate, count_by, refl, sym, ap, ◌∙◌, subst, inl, inr, ⊎_elim, nat_lt, arith}
use Rattle.std.proofs.lemmas.Bool.Decides.{Decides-ltb}
use Rattle.job_core.specs.Machine.{Job, start, place_of, fails_at, is_entered, in_every, is_finished_at, is_finished}
use Rattle.job_core.specs.Runs.{IsRun, is_take, is_report, is_skip, is_entry, least_failing, in_order_from, IsEnteredEverywhere, IsReported, IsSkipped, IsSettled}
use Rattle.job_core.specs.declared.JobStep.{JobStep}
use Rattle.job_core.specs.declared.Outcome.TheVariants.{AllEntered, FirstFailure}
use Rattle.job_core.specs.declared.place.Place.{Place}
use Rattle.job_core.specs.declared.place.Place.TheVariants.{Waiting, Held, Reported, Skipped}
use Rattle.job_core.proofs.Lists.{both_true, copies_read}
use Rattle.job_core.proofs.Allowed.{not_true}
use Rattle.job_core.proofs.Sound.{IsSound, sound_at_start}
use Rattle.job_core.proofs.Counts.{times_taken, times_reported, times_skipped, times, count_by-run, sound_along, takes_counted, reports_counted, skips_counted, entries_counted}

finished_taken : (place : Place) (fails everywhere : Bool) → is_finished_at place fails everywhere ≡ true → times_taken place ≡ 1
finished_taken Waiting fails everywhere e = absurd (cc)
finished_taken (Held seat) fails everywhere e = refl
finished_taken Reported fails everywhere e = refl
finished_taken Skipped fails everywhere e = refl

in_each : (piece : ℕ) (rows : List (List Bool)) → in_every piece rows ≡ true → (shard : ℕ) → shard < length rows → get_or (get_or rows shard []) piece false ≡ true
in_each piece [] e shard low = absurd (omega arith)
in_each piece (row ∷ rows) e zero low = (both_true (get_or row piece false) (in_every piece rows) e).0
in_each piece (row ∷ rows) e (suc shard) low = in_each piece rows (both_true (get_or row piece false) (in_every piece rows) e).1 shard (omega arith)

reported_within : (places : List Place) (piece : ℕ) → get_or places piece Waiting ≡ Reported → piece < length places
reported_within [] piece e = absurd (cc)
reported_within (place ∷ places) zero e = omega arith
reported_within (place ∷ places) (suc piece) e = let low = reported_within places piece e in omega arith

least_failing-is : (fails : List Bool) (least : ℕ) → (least ≡ length fails) ⊎ (get_or fails least false ≡ true) → ((piece : ℕ) → piece < least → get_or fails piece false ≡ false) → least ≡ least_failing fails
least_failing-is [] least (inl e) none = e
least_failing-is [] least (inr e) none = absurd (cc)
least_failing-is (true ∷ fails) zero any none = refl
least_failing-is (true ∷ fails) (suc least) any none = let e = none 0 (omega arith) in absurd (cc)
least_failing-is (false ∷ fails) zero (inl e) none = absurd (omega arith)
least_failing-is (false ∷ fails) zero (inr e) none = absurd (cc)
least_failing-is (false ∷ fails) (suc least) (inl e) none = let rest = least_failing-is fails least (inl (omega arith)) (λ piece low. none (suc piece) (omega arith)) in omega arith
least_failing-is (false ∷ fails) (suc least) (inr e) none = let rest = least_failing-is fails least (inr e) (λ piece low. none (suc piece) (omega arith)) in omega arith

-- One seat in order stops at the least piece that fails.
in_order-stops : (from : ℕ) (fails : List Bool) (least count : ℕ) → least ≡ from + least_failing fails → count ≡ from + length fails
    → (if nat_lt least count then FirstFailure least else AllEntered) ≡ in_order_from from fails
in_order-stops from [] least count is_least is_count = go (nat_lt least count) refl
  where
    go : (b : Bool) → nat_lt least count ≡ b → (if b then FirstFailure least else AllEntered) ≡ AllEntered
    go true is = let low = (Decides-ltb least count).0 is in absurd (omega arith)
    go false is = refl
in_order-stops from (true ∷ fails) least count is_least is_count = go (nat_lt least count) refl
  where
    go : (b : Bool) → nat_lt least count ≡ b → (if b then FirstFailure least else AllEntered) ≡ FirstFailure from
    go true is = let same : least ≡ from = omega arith in ap FirstFailure same
    go false is = let low = (Decides-ltb least count).1 (omega arith) in absurd (cc)
in_order-stops from (false ∷ fails) least count is_least is_count = in_order-stops (from + 1) fails least count (omega arith) (omega arith)

module _ (fails : List Bool) (shards : ℕ) (end : Job) (sound : IsSound fails shards end) (closed : end.closed ≡ true) where
  least_within : (piece : ℕ) → piece < end.least → piece < length fails
  least_within piece low = ⊎_elim
      (λ (none : end.least ≡ length fails). omega arith)
      (λ (one : place_of end end.least ≡ Reported). let within = reported_within end.places end.least one in let count = sound.places_count in omega arith)
      sound.least_reported

  none_below : (piece : ℕ) → piece < end.least → get_or fails piece false ≡ false
  none_below piece low = go (place_of end piece) refl (get_or fails piece false) refl (sound.finished_at_close closed piece (least_within piece low))
    where
      go : (place : Place) → place_of end piece ≡ place → (b : Bool) → get_or fails piece false ≡ b → is_finished end piece ≡ true → get_or fails piece false ≡ false
      go place is false e finished = e
      go Waiting is true e finished =
          let never : is_finished_at Waiting (fails_at end piece) (in_every piece end.entered) ≡ true
          = subst (λ (p : Place). is_finished_at p (fails_at end piece) (in_every piece end.entered) ≡ true) is finished in absurd (cc)
      go (Held seat) is true e finished =
          let entered : is_finished_at (Held seat) (fails_at end piece) (in_every piece end.entered) ≡ true
          = subst (λ (p : Place). is_finished_at p (fails_at end piece) (in_every piece end.entered) ≡ true) is finished in
          let fails_here : fails_at end piece ≡ true = subst (λ (fs : List Bool). get_or fs piece false ≡ true) (sym sound.same_fails) e in
          let passes_here = not_true (fails_at end piece) (both_true (not (fails_at end piece)) (in_every piece end.entered) entered).0 in absurd (cc)
      go Reported is true e finished = let from = sound.reported_from piece is in absurd (omega arith)
      go Skipped is true e finished = let above = sound.skipped_above piece is in absurd (omega arith)

  pub least_is : end.least ≡ least_failing fails
  least_is = least_failing-is fails end.least (⊎_elim (λ none. inl none) (λ one. inr (sound.reported_fails end.least one)) sound.least_reported) none_below

module _ (fails : List Bool) (shards seats : ℕ) (steps : List JobStep) (end : Job) (run : IsRun (start fails shards seats) steps end) (closed : end.closed ≡ true) where
  sound : IsSound fails shards end
  sound = sound_along fails shards steps (start fails shards seats) end (sound_at_start fails shards seats) run

  waits_first : (piece : ℕ) → place_of (start fails shards seats) piece ≡ Waiting
  waits_first piece = copies_read (length fails) piece Waiting

  not_entered_first : (shard piece : ℕ) → is_entered (start fails shards seats) shard piece ≡ false
  not_entered_first shard piece = empty shards shard
    where
      empty : (rows shard : ℕ) → get_or (get_or (replicate rows (replicate (length fails) false)) shard []) piece false ≡ false
      empty zero shard = refl
      empty (suc rows) zero = copies_read (length fails) piece false
      empty (suc rows) (suc shard) = empty rows shard

  taken : (piece : ℕ) → count_by (is_take piece) steps ≡ times_taken (place_of end piece)
  taken piece =
      let all = count_by-run fails shards (is_take piece) (λ job. times_taken (place_of job piece)) (takes_counted fails shards piece) steps (start fails shards seats) end (sound_at_start fails shards seats) run in
      let first : times_taken (place_of (start fails shards seats) piece) ≡ 0 = ap times_taken (waits_first piece) in omega arith

  reported : (piece : ℕ) → count_by (is_report piece) steps ≡ times_reported (place_of end piece)
  reported piece =
      let all = count_by-run fails shards (is_report piece) (λ job. times_reported (place_of job piece)) (reports_counted fails shards piece) steps (start fails shards seats) end (sound_at_start fails shards seats) run in
      let first : times_reported (place_of (start fails shards seats) piece) ≡ 0 = ap times_reported (waits_first piece) in omega arith

  skipped : (piece : ℕ) → count_by (is_skip piece) steps ≡ times_skipped (place_of end piece)
  skipped piece =
      let all = count_by-run fails shards (is_skip piece) (λ job. times_skipped (place_of job piece)) (skips_counted fails shards piece) steps (start fails shards seats) end (sound_at_start fails shards seats) run in
      let first : times_skipped (place_of (start fails shards seats) piece) ≡ 0 = ap times_skipped (waits_first piece) in omega arith

  entered : (shard piece : ℕ) → count_by (is_entry shard piece) steps ≡ times (is_entered end shard piece)
  entered shard piece =
      let all = count_by-run fails shards (is_entry shard piece) (λ job. times (is_entered job shard piece)) (entries_counted fails shards shard piece) steps (start fails shards seats) end (sound_at_start fails shards seats) run in
      let first : times (is_entered (start fails shards seats) shard piece) ≡ 0 = ap times (not_entered_first shard piece) in omega arith

  reported_once : (piece : ℕ) → place_of end piece ≡ Reported → IsReported fails steps piece
  reported_once piece is = (sound.reported_fails piece is, reported piece ∙ ap times_reported is)

  ends : (piece : ℕ) → piece < length fails → IsEnteredEverywhere fails shards steps piece ⊎ (IsReported fails steps piece ⊎ IsSkipped fails steps piece)
  ends piece low = go (place_of end piece) refl (sound.finished_at_close closed piece low)
    where
      go : (place : Place) → place_of end piece ≡ place → is_finished end piece ≡ true → IsEnteredEverywhere fails shards steps piece ⊎ (IsReported fails steps piece ⊎ IsSkipped fails steps piece)
      go Waiting is finished =
          let never : is_finished_at Waiting (fails_at end piece) (in_every piece end.entered) ≡ true
          = subst (λ (p : Place). is_finished_at p (fails_at end piece) (in_every piece end.entered) ≡ true) is finished in absurd (cc)
      go (Held seat) is finished =
          let all : is_finished_at (Held seat) (fails_at end piece) (in_every piece end.entered) ≡ true
          = subst (λ (p : Place). is_finished_at p (fails_at end piece) (in_every piece end.entered) ≡ true) is finished in
          let parts = both_true (not (fails_at end piece)) (in_every piece end.entered) all in
          inl (
            subst (λ (fs : List Bool). get_or fs piece false ≡ false) sound.same_fails (not_true (fails_at end piece) parts.0),
            λ shard in_shards. entered shard piece ∙ ap times (in_each piece end.entered parts.1 shard (subst (λ (n : ℕ). shard < n) (sym sound.rows_count) in_shards)),
          )
      go Reported is finished = inr (inl (reported_once piece is))
      go Skipped is finished =
          let above = sound.skipped_above piece is in
          inr (inr (
            skipped piece ∙ ap times_skipped is,
            ⊎_elim (λ (none : end.least ≡ length fails). absurd (omega arith)) (λ (one : place_of end end.least ≡ Reported). (end.least, above, reported_once end.least one)) sound.least_reported,
          ))

  at_most_once : (b : Bool) → times b ≤ 1
  at_most_once true = omega arith
  at_most_once false = omega arith

  pub settles : IsSettled fails shards steps end
  settles = record {
    taken_once = λ piece low. taken piece ∙ finished_taken (place_of end piece) (fails_at end piece) (in_every piece end.entered) (sound.finished_at_close closed piece low);
    ended = ends;
    no_pair_twice = λ shard piece. let count = entered shard piece in let once = at_most_once (is_entered end shard piece) in omega arith;
    least = least_is fails shards end sound closed;
    outcome = rw (closed, least_is fails shards end sound closed, sound.same_fails) (in_order-stops 0 fails (least_failing fails) (length fails) (omega arith) (omega arith));
  }
