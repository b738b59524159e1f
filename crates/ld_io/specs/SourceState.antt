-- A source in memory, as its calls see it.
use Rattle.std.specs.Prelude.{ℕ, List, length, drop, min, if◌then◌else◌}
use Rattle.ld_io.specs.Faults.{next_count, is_failing}

-- the bytes left, the most bytes that one call gives, the numbers of the calls that fail, how many calls there were, and how many of them failed
pub record SourceState : Type 0 where
  pub left : List ℕ
  pub step : ℕ
  pub failing : List ℕ
  pub calls : ℕ
  pub faults : ℕ

-- how many bytes a call that does not fail gives, for a buffer of that length
abbrev pub given_count : SourceState → ℕ → ℕ
given_count s len = min (min len s.step) (length s.left)

-- a read for a buffer of that length leaves this
abbrev pub after_read : SourceState → ℕ → SourceState
after_read s len =
    if is_failing s.failing s.calls
    then record s { calls = next_count s.calls; faults = next_count s.faults }
    else record s { left = drop (given_count s len) s.left; calls = next_count s.calls }
