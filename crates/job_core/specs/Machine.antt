-- The job machine over plain lists: where each piece is, what a step asks for, and what it changes.
use Rattle.std.specs.Prelude.{◌≡◌, ℕ, zero, suc, ◌+◌, ◌≤◌, Bool, true, false, not, ◌&&◌, List, [], ◌∷◌, length, replicate, All, min, if◌then◌else◌, ◌==◌, nat_lt, slice_index_or, slice_set, Option, Some, None, is_none, unwrap_or}
use Rattle.job_core.specs.declared.JobStep.{JobStep}
use Rattle.job_core.specs.declared.JobStep.TheVariants.{Take, Fail, Look, Skip, Turn, Enter, Close}
use Rattle.job_core.specs.declared.Kept.{Kept}
use Rattle.job_core.specs.declared.Kept.TheVariants.{Range, Waits, HeldBy, Fails, Seen, TurnOf, Entered, Unfinished, Closed}
use Rattle.job_core.specs.declared.Outcome.{Outcome}
use Rattle.job_core.specs.declared.Outcome.TheVariants.{Unclosed, AllEntered, FirstFailure}
use Rattle.job_core.specs.declared.place.Place.{Place}
use Rattle.job_core.specs.declared.place.Place.TheVariants.{Waiting, Held, Reported, Skipped}

-- The state of a job.
pub record Job : Type 0 where
  -- of each piece, whether it fails
  pub fails : List Bool
  -- of each piece, where it is
  pub places : List Place
  -- the least piece that was reported, or the number of pieces
  pub least : ℕ
  -- of each seat, the least failure as it last looked at it
  pub seen : List ℕ
  -- of each shard, the seat that has its turn
  pub turns : List (Option ℕ)
  -- of each shard, and in it of each piece, whether it is entered there
  pub entered : List (List Bool)
  pub closed : Bool

abbrev pub job_of : List Bool → List Place → ℕ → List ℕ → List (Option ℕ) → List (List Bool) → Bool → Job
job_of fails places least seen turns entered closed = record { fails = fails; places = places; least = least; seen = seen; turns = turns; entered = entered; closed = closed }

-- At the start every piece waits, every turn is free, nothing is entered, and no failure is known.
abbrev pub start : List Bool → ℕ → ℕ → Job
start fails shards seats =
    let n = length fails in job_of fails (replicate n Waiting) n (replicate seats n) (replicate shards None) (replicate shards (replicate n false)) false

-- What is read of a state, by number.

abbrev pub place_of : Job → ℕ → Place
place_of job piece = slice_index_or job.places piece Waiting

abbrev pub fails_at : Job → ℕ → Bool
fails_at job piece = slice_index_or job.fails piece false

abbrev pub seen_by : Job → ℕ → ℕ
seen_by job seat = slice_index_or job.seen seat 0

abbrev pub turn_of : Job → ℕ → Option ℕ
turn_of job shard = slice_index_or job.turns shard None

abbrev pub entered_in : Job → ℕ → List Bool
entered_in job shard = slice_index_or job.entered shard []

abbrev pub is_entered : Job → ℕ → ℕ → Bool
is_entered job shard piece = slice_index_or (entered_in job shard) piece false

abbrev pub is_waiting : Place → Bool
is_waiting Waiting = true
is_waiting (Held seat) = false
is_waiting Reported = false
is_waiting Skipped = false

-- The seat that holds a piece: one that is reported or skipped is held no more.
abbrev pub holder : Place → Option ℕ
holder Waiting = None
holder (Held seat) = Some seat
holder Reported = None
holder Skipped = None

abbrev pub is_seat : ℕ → Option ℕ → Bool
is_seat seat None = false
is_seat seat (Some other) = other == seat

-- The piece is entered in every one of these shards.
abbrev pub in_every : ℕ → List (List Bool) → Bool
in_every piece [] = true
in_every piece (row ∷ rows) = slice_index_or row piece false && in_every piece rows

-- A piece is finished where it is reported or skipped, or where it is taken, doesn't fail and is entered in every shard.
abbrev pub is_finished_at : Place → Bool → Bool → Bool
is_finished_at Waiting fails everywhere = false
is_finished_at (Held seat) fails everywhere = not fails && everywhere
is_finished_at Reported fails everywhere = true
is_finished_at Skipped fails everywhere = true

abbrev pub is_finished : Job → ℕ → Bool
is_finished job piece = is_finished_at (place_of job piece) (fails_at job piece) (in_every piece job.entered)

-- The least of the `count` numbers from `from` on that doesn't pass the test.
abbrev pub first_without : (ℕ → Bool) → ℕ → ℕ → Option ℕ
first_without test from zero = None
first_without test from (suc count) = if test from then first_without test (from + 1) count else Some from

abbrev pub least_unfinished : Job → Option ℕ
least_unfinished job = first_without (is_finished job) 0 (length job.fails)

-- The seat that has the turn of the first shard whose turn is out.
abbrev pub first_turn_out : List (Option ℕ) → Option ℕ
first_turn_out [] = None
first_turn_out (None ∷ turns) = first_turn_out turns
first_turn_out (Some seat ∷ turns) = Some seat

-- The guards. Each is a test, beside the value of the state that it looks at.

abbrev pub Guard : Type 0
Guard = Bool × Kept

abbrev pub waits : Job → ℕ → Guard
waits job piece = (is_waiting (place_of job piece), Waits (is_waiting (place_of job piece)))

abbrev pub holds : Job → ℕ → ℕ → Guard
holds job seat piece = (is_seat seat (holder (place_of job piece)), HeldBy (holder (place_of job piece)))

abbrev pub does_fail : Job → ℕ → Guard
does_fail job piece = (fails_at job piece, Fails (fails_at job piece))

abbrev pub does_not_fail : Job → ℕ → Guard
does_not_fail job piece = (not (fails_at job piece), Fails (fails_at job piece))

abbrev pub has_seen_below : Job → ℕ → ℕ → Guard
has_seen_below job seat piece = (nat_lt (seen_by job seat) piece, Seen (seen_by job seat))

abbrev pub turn_is_free : Job → ℕ → Guard
turn_is_free job shard = (is_none (turn_of job shard), TurnOf (turn_of job shard))

abbrev pub has_turn : Job → ℕ → ℕ → Guard
has_turn job seat shard = (is_seat seat (turn_of job shard), TurnOf (turn_of job shard))

abbrev pub is_not_entered : Job → ℕ → ℕ → Guard
is_not_entered job shard piece = (not (is_entered job shard piece), Entered (is_entered job shard piece))

abbrev pub all_finished : Job → Guard
all_finished job = (is_none (least_unfinished job), Unfinished (unwrap_or (least_unfinished job) 0))

abbrev pub no_turn_is_out : Job → Guard
no_turn_is_out job = (is_none (first_turn_out job.turns), TurnOf (first_turn_out job.turns))

-- Each number that a step names is below its limit.
abbrev pub is_in_range : Job → JobStep → Bool
is_in_range job (Take seat piece) = nat_lt seat (length job.seen) && nat_lt piece (length job.fails)
is_in_range job (Fail seat piece) = nat_lt seat (length job.seen) && nat_lt piece (length job.fails)
is_in_range job (Look seat) = nat_lt seat (length job.seen)
is_in_range job (Skip seat piece) = nat_lt seat (length job.seen) && nat_lt piece (length job.fails)
is_in_range job (Turn seat shard) = nat_lt seat (length job.seen) && nat_lt shard (length job.turns)
is_in_range job (Enter seat shard piece) = nat_lt seat (length job.seen) && (nat_lt shard (length job.turns) && nat_lt piece (length job.fails))
is_in_range job Close = true

-- The guards of a step, in the order in which they are tested.
abbrev pub guards : Job → JobStep → List Guard
guards job (Take seat piece) = waits job piece ∷ []
guards job (Fail seat piece) = holds job seat piece ∷ does_fail job piece ∷ []
guards job (Look seat) = []
guards job (Skip seat piece) = holds job seat piece ∷ has_seen_below job seat piece ∷ []
guards job (Turn seat shard) = turn_is_free job shard ∷ []
guards job (Enter seat shard piece) = has_turn job seat shard ∷ holds job seat piece ∷ does_not_fail job piece ∷ is_not_entered job shard piece ∷ []
guards job Close = all_finished job ∷ no_turn_is_out job ∷ []

-- What is kept by the first guard that fails.
abbrev pub first_failing : List Guard → Option Kept
first_failing [] = None
first_failing (guard ∷ rest) = if guard.0 then first_failing rest else Some guard.1

-- Why a step is refused, or nothing where it is allowed: a closed job comes first, then numbers out of range, then the guards.
abbrev pub refusal : Job → JobStep → Option Kept
refusal job step = first_failing ((not job.closed, Closed) ∷ (is_in_range job step, Range) ∷ guards job step)

-- What a step that is allowed makes of the state.
abbrev pub after : Job → JobStep → Job
after job (Take seat piece) = record job { places = slice_set job.places piece (Held seat) }
after job (Fail seat piece) = record job { places = slice_set job.places piece Reported; least = min job.least piece }
after job (Look seat) = record job { seen = slice_set job.seen seat job.least }
after job (Skip seat piece) = record job { places = slice_set job.places piece Skipped }
after job (Turn seat shard) = record job { turns = slice_set job.turns shard (Some seat) }
after job (Enter seat shard piece) = record job { turns = slice_set job.turns shard None; entered = slice_set job.entered shard (slice_set (entered_in job shard) piece true) }
after job Close = record job { closed = true }

-- What a job has come to: nothing before Close, and then the least failure where there is one.
abbrev pub outcome_of : Job → Outcome
outcome_of job = if job.closed then (if nat_lt job.least (length job.fails) then FirstFailure job.least else AllEntered) else Unclosed

-- The lists of a job agree on the number of pieces and of shards, and keep the limits.
pub record IsSized (job : Job) : Type 0 where
  pub each_piece_placed : length job.places ≡ length job.fails
  pub each_shard_entered : length job.entered ≡ length job.turns
  pub each_row : All (λ row. length row ≡ length job.fails) job.entered
  pub few_pieces : length job.fails ≤ 4096
