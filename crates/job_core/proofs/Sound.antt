-- What holds of every state that a run reaches.
use Rattle.std.proofs.Common.{◌≡◌, ℕ, ◌<◌, ◌≤◌, ◌≢◌, ◌⊎◌, Bool, true, false, List, [], length, replicate, set, get_or, min, sym, ap, ◌∙◌, subst, inl, inr, ⊎_elim, refl, Some, None, arith}
use Rattle.std.proofs.lemmas.List.{length-replicate, get_or-replicate}
use Rattle.std.proofs.Math.ListN.{length-set}
use native.Mathlib.Decide.{dec_le}
use Rattle.job_core.specs.Machine.{Job, start, place_of, seen_by, entered_in, is_finished, refusal, after}
use Rattle.job_core.specs.declared.JobStep.{JobStep}
use Rattle.job_core.specs.declared.JobStep.TheVariants.{Take, Fail, Look, Skip, Turn, Enter, Close}
use Rattle.job_core.specs.declared.place.Place.{Place}
use Rattle.job_core.specs.declared.place.Place.TheVariants.{Waiting, Held, Reported, Skipped}
use Rattle.job_core.proofs.Lists.{written, written_here, copies_read}
use Rattle.job_core.proofs.Allowed.{open_before, take_allowed, fail_allowed, skip_allowed, close_allowed}

pub record IsSound (fails : List Bool) (shards : ℕ) (job : Job) : Type 0 where
  pub same_fails : job.fails ≡ fails
  pub places_count : length job.places ≡ length fails
  pub turns_count : length job.turns ≡ shards
  pub rows_count : length job.entered ≡ shards
  pub row_count : (shard : ℕ) → shard < shards → length (entered_in job shard) ≡ length fails
  -- a reported piece fails, and is not below the least failure
  pub reported_fails : (piece : ℕ) → place_of job piece ≡ Reported → get_or fails piece false ≡ true
  pub reported_from : (piece : ℕ) → place_of job piece ≡ Reported → job.least ≤ piece
  pub skipped_above : (piece : ℕ) → place_of job piece ≡ Skipped → job.least < piece
  pub least_reported : (job.least ≡ length fails) ⊎ (place_of job job.least ≡ Reported)
  -- what a seat has seen was true once, and the least failure only falls
  pub seen_from : (seat : ℕ) → seat < length job.seen → job.least ≤ seen_by job seat
  pub finished_at_close : job.closed ≡ true → (piece : ℕ) → piece < length fails → is_finished job piece ≡ true

-- A place that one write didn't make stood before it, and one that it didn't overwrite stays.
was_before : (places : List Place) (at n : ℕ) (new place : Place) → new ≢ place → get_or (set places at new) n Waiting ≡ place → get_or places n Waiting ≡ place
was_before places at n new place other is = ⊎_elim
    (λ (here : (at ≡ n) × (get_or (set places at new) n Waiting ≡ new)). absurd (other (sym here.1 ∙ is)))
    (λ there. sym there ∙ is)
    (written places at n new Waiting)

stays : (places : List Place) (at n : ℕ) (new place : Place) → get_or places at Waiting ≢ place → get_or places n Waiting ≡ place → get_or (set places at new) n Waiting ≡ place
stays places at n new place other is = ⊎_elim
    (λ (here : (at ≡ n) × (get_or (set places at new) n Waiting ≡ new)). absurd (other (ap (λ (k : ℕ). get_or places k Waiting) here.0 ∙ is)))
    (λ there. there ∙ is)
    (written places at n new Waiting)

still_open : {A : Type 0} (job : Job) → job.closed ≡ false → job.closed ≡ true → A
still_open job a b = absurd (cc)

module _ (fails : List Bool) (shards : ℕ) (job : Job) (sound : IsSound fails shards job) where
  pub in_places : (piece : ℕ) → piece < length job.fails → piece < length job.places
  in_places piece low = subst (λ (n : ℕ). piece < n) (ap length sound.same_fails ∙ sym sound.places_count) low

  pub in_rows : (shard piece : ℕ) → shard < length job.turns → piece < length job.fails → (shard < length job.entered) × (piece < length (entered_in job shard))
  in_rows shard piece low_shard low =
      let in_shards = subst (λ (n : ℕ). shard < n) sound.turns_count low_shard in (
        subst (λ (n : ℕ). shard < n) (sym sound.rows_count) in_shards,
        subst (λ (n : ℕ). piece < n) (ap length sound.same_fails ∙ sym (sound.row_count shard in_shards)) low,
      )

  least_stays : (at : ℕ) (new : Place) → place_of job at ≢ Reported → (job.least ≡ length fails) ⊎ (get_or (set job.places at new) job.least Waiting ≡ Reported)
  least_stays at new other = ⊎_elim (λ none. inl none) (λ one. inr (stays job.places at job.least new Reported other one)) sound.least_reported

  least_falls : (at : ℕ) → at < length job.places → (min job.least at ≡ length fails) ⊎ (get_or (set job.places at Reported) (min job.least at) Waiting ≡ Reported)
  least_falls at low = go (dec_le job.least at) sound.least_reported
    where
      go : Dec (job.least ≤ at) → (job.least ≡ length fails) ⊎ (place_of job job.least ≡ Reported) → (min job.least at ≡ length fails) ⊎ (get_or (set job.places at Reported) (min job.least at) Waiting ≡ Reported)
      go (yes d) (inl none) = inl (omega arith)
      go (yes d) (inr one) =
          let same : job.least ≡ min job.least at = omega arith in
          inr (subst (λ (n : ℕ). get_or (set job.places at Reported) n Waiting ≡ Reported) same
          (⊎_elim (λ (here : (at ≡ job.least) × (get_or (set job.places at Reported) job.least Waiting ≡ Reported)). here.1) (λ there. there ∙ one) (written job.places at job.least Reported Waiting)))
      go (no d) any =
          let same : at ≡ min job.least at = omega arith in
          inr (subst (λ (n : ℕ). get_or (set job.places at Reported) n Waiting ≡ Reported) same (written_here job.places at Reported Waiting low))

  after_take : (seat piece : ℕ) → refusal job (Take seat piece) ≡ None → IsSound fails shards (after job (Take seat piece))
  after_take seat piece none = let allowed = take_allowed job seat piece none in let was = allowed.1 in record {
    same_fails = sound.same_fails;
    places_count = length-set job.places piece (Held seat) ∙ sound.places_count;
    turns_count = sound.turns_count;
    rows_count = sound.rows_count;
    row_count = sound.row_count;
    reported_fails = λ n is. sound.reported_fails n (was_before job.places piece n (Held seat) Reported (λ e. cc) is);
    reported_from = λ n is. sound.reported_from n (was_before job.places piece n (Held seat) Reported (λ e. cc) is);
    skipped_above = λ n is. sound.skipped_above n (was_before job.places piece n (Held seat) Skipped (λ e. cc) is);
    least_reported = least_stays piece (Held seat) (λ e. cc);
    seen_from = sound.seen_from;
    finished_at_close = λ closed. still_open job (open_before job (Take seat piece) none) closed;
  }

  after_fail : (seat piece : ℕ) → refusal job (Fail seat piece) ≡ None → IsSound fails shards (after job (Fail seat piece))
  after_fail seat piece none = let allowed = fail_allowed job seat piece none in record {
    same_fails = sound.same_fails;
    places_count = length-set job.places piece Reported ∙ sound.places_count;
    turns_count = sound.turns_count;
    rows_count = sound.rows_count;
    row_count = sound.row_count;
    reported_fails = λ n is. ⊎_elim
        (λ (here : (piece ≡ n) × (get_or (set job.places piece Reported) n Waiting ≡ Reported)).
        subst (λ (k : ℕ). get_or fails k false ≡ true) here.0 (subst (λ (fs : List Bool). get_or fs piece false ≡ true) sound.same_fails allowed.2))
        (λ there. sound.reported_fails n (sym there ∙ is))
        (written job.places piece n Reported Waiting);
    reported_from = λ n is. ⊎_elim
        (λ (here : (piece ≡ n) × (get_or (set job.places piece Reported) n Waiting ≡ Reported)). let same = here.0 in omega arith)
        (λ there. let from = sound.reported_from n (sym there ∙ is) in omega arith)
        (written job.places piece n Reported Waiting);
    skipped_above = λ n is. let above = sound.skipped_above n (was_before job.places piece n Reported Skipped (λ e. cc) is) in omega arith;
    least_reported = least_falls piece (in_places piece allowed.0);
    seen_from = λ seat low. let from = sound.seen_from seat low in omega arith;
    finished_at_close = λ closed. still_open job (open_before job (Fail seat piece) none) closed;
  }

  after_look : (seat : ℕ) → refusal job (Look seat) ≡ None → IsSound fails shards (after job (Look seat))
  after_look seat none = record {
    same_fails = sound.same_fails;
    places_count = sound.places_count;
    turns_count = sound.turns_count;
    rows_count = sound.rows_count;
    row_count = sound.row_count;
    reported_fails = sound.reported_fails;
    reported_from = sound.reported_from;
    skipped_above = sound.skipped_above;
    least_reported = sound.least_reported;
    seen_from = λ n low. ⊎_elim
        (λ (here : (seat ≡ n) × (get_or (set job.seen seat job.least) n 0 ≡ job.least)). let same = here.1 in omega arith)
        (λ there. let from = sound.seen_from n (subst (λ (k : ℕ). n < k) (length-set job.seen seat job.least) low) in omega arith)
        (written job.seen seat n job.least 0);
    finished_at_close = λ closed. still_open job (open_before job (Look seat) none) closed;
  }

  after_skip : (seat piece : ℕ) → refusal job (Skip seat piece) ≡ None → IsSound fails shards (after job (Skip seat piece))
  after_skip seat piece none =
      let allowed = skip_allowed job seat piece none in
      let by = allowed.1.1 in
      let saw = sound.seen_from seat allowed.2.0 in
      let above : job.least < piece = omega arith in record {
        same_fails = sound.same_fails;
        places_count = length-set job.places piece Skipped ∙ sound.places_count;
        turns_count = sound.turns_count;
        rows_count = sound.rows_count;
        row_count = sound.row_count;
        reported_fails = λ n is. sound.reported_fails n (was_before job.places piece n Skipped Reported (λ e. cc) is);
        reported_from = λ n is. sound.reported_from n (was_before job.places piece n Skipped Reported (λ e. cc) is);
        skipped_above = λ n is. ⊎_elim
            (λ (here : (piece ≡ n) × (get_or (set job.places piece Skipped) n Waiting ≡ Skipped)). subst (λ (k : ℕ). job.least < k) here.0 above)
            (λ there. sound.skipped_above n (sym there ∙ is))
            (written job.places piece n Skipped Waiting);
        least_reported = least_stays piece Skipped (λ e. cc);
        seen_from = sound.seen_from;
        finished_at_close = λ closed. still_open job (open_before job (Skip seat piece) none) closed;
      }

  after_turn : (seat shard : ℕ) → refusal job (Turn seat shard) ≡ None → IsSound fails shards (after job (Turn seat shard))
  after_turn seat shard none = record {
    same_fails = sound.same_fails;
    places_count = sound.places_count;
    turns_count = length-set job.turns shard (Some seat) ∙ sound.turns_count;
    rows_count = sound.rows_count;
    row_count = sound.row_count;
    reported_fails = sound.reported_fails;
    reported_from = sound.reported_from;
    skipped_above = sound.skipped_above;
    least_reported = sound.least_reported;
    seen_from = sound.seen_from;
    finished_at_close = λ closed. still_open job (open_before job (Turn seat shard) none) closed;
  }

  after_enter : (seat shard piece : ℕ) → refusal job (Enter seat shard piece) ≡ None → IsSound fails shards (after job (Enter seat shard piece))
  after_enter seat shard piece none = let row = set (entered_in job shard) piece true in record {
    same_fails = sound.same_fails;
    places_count = sound.places_count;
    turns_count = length-set job.turns shard None ∙ sound.turns_count;
    rows_count = length-set job.entered shard row ∙ sound.rows_count;
    row_count = λ n low. ⊎_elim
        (λ (here : (shard ≡ n) × (get_or (set job.entered shard row) n [] ≡ row)).
        ap length here.1 ∙ length-set (entered_in job shard) piece true ∙ sound.row_count shard (subst (λ (k : ℕ). k < shards) (sym here.0) low))
        (λ there. ap length there ∙ sound.row_count n low)
        (written job.entered shard n row []);
    reported_fails = sound.reported_fails;
    reported_from = sound.reported_from;
    skipped_above = sound.skipped_above;
    least_reported = sound.least_reported;
    seen_from = sound.seen_from;
    finished_at_close = λ closed. still_open job (open_before job (Enter seat shard piece) none) closed;
  }

  after_close : refusal job Close ≡ None → IsSound fails shards (after job Close)
  after_close none = record {
    same_fails = sound.same_fails;
    places_count = sound.places_count;
    turns_count = sound.turns_count;
    rows_count = sound.rows_count;
    row_count = sound.row_count;
    reported_fails = sound.reported_fails;
    reported_from = sound.reported_from;
    skipped_above = sound.skipped_above;
    least_reported = sound.least_reported;
    seen_from = sound.seen_from;
    finished_at_close = λ closed piece low. close_allowed job none piece (subst (λ (n : ℕ). piece < n) (sym (ap length sound.same_fails)) low);
  }

  pub sound_after : (step : JobStep) → refusal job step ≡ None → IsSound fails shards (after job step)
  sound_after (Take seat piece) none = after_take seat piece none
  sound_after (Fail seat piece) none = after_fail seat piece none
  sound_after (Look seat) none = after_look seat none
  sound_after (Skip seat piece) none = after_skip seat piece none
  sound_after (Turn seat shard) none = after_turn seat shard none
  sound_after (Enter seat shard piece) none = after_enter seat shard piece none
  sound_after Close none = after_close none

pub sound_at_start : (fails : List Bool) (shards seats : ℕ) → IsSound fails shards (start fails shards seats)
sound_at_start fails shards seats = let waits = λ (piece : ℕ). copies_read (length fails) piece Waiting in record {
  same_fails = refl;
  places_count = length-replicate (length fails) Waiting;
  turns_count = length-replicate shards None;
  rows_count = length-replicate shards (replicate (length fails) false);
  row_count = λ shard low. ap length (get_or-replicate shards shard (replicate (length fails) false) [] low) ∙ length-replicate (length fails) false;
  reported_fails = λ piece is. absurd (cc (waits piece, is));
  reported_from = λ piece is. absurd (cc (waits piece, is));
  skipped_above = λ piece is. absurd (cc (waits piece, is));
  least_reported = inl refl;
  seen_from = λ seat low.
      let count = length-replicate seats (length fails) in
      let is = get_or-replicate seats seat (length fails) 0 (omega arith) in omega arith;
  finished_at_close = λ closed. absurd (cc);
}
