-- A sink in memory, as its calls see it.
use Rattle.std.specs.Prelude.{ℕ, ◌-◌, ◌++◌, List, length, take, min, Bool, true, false, ◌||◌, ◌&&◌, nat_lt, nat_le, if◌then◌else◌}
use Rattle.ld_io.specs.Faults.{next_count, is_failing}

-- the bytes held, whether it is finished, the most bytes that one call takes, the numbers of the calls that fail, the most bytes that it holds, how many calls there were, and how many of them failed
pub record SinkState : Type 0 where
  pub held : List ℕ
  pub finished : Bool
  pub step : ℕ
  pub failing : List ℕ
  pub room : ℕ
  pub calls : ℕ
  pub faults : ℕ

-- how many bytes of that many a write that does not fail takes
abbrev pub taken_count : SinkState → ℕ → ℕ
taken_count s len = min (min len s.step) (s.room - length s.held)

-- whether a write of that many bytes fails
abbrev pub is_write_failing : SinkState → ℕ → Bool
is_write_failing s len = is_failing s.failing s.calls || (nat_le s.room (length s.held) && nat_lt 0 len)

-- a failing call leaves this
abbrev pub after_fault : SinkState → SinkState
after_fault s = record s { calls = next_count s.calls; faults = next_count s.faults }

-- a write leaves this
abbrev pub after_write : SinkState → List ℕ → SinkState
after_write s bytes =
    if is_write_failing s (length bytes) then after_fault s
    else record s {
      held = s.held ++ take (taken_count s (length bytes)) bytes;
      finished = if nat_lt 0 (taken_count s (length bytes)) then false else s.finished;
      calls = next_count s.calls;
    }

-- a finish leaves this
abbrev pub after_finish : SinkState → SinkState
after_finish s =
    if is_failing s.failing s.calls then after_fault s
    else record s { finished = true; calls = next_count s.calls }
