-- A folder in memory, as its calls see it.
use Rattle.std.specs.Prelude.{ℕ, List, if◌then◌else◌}
use Rattle.ld_io.specs.Faults.{next_count, is_failing}

-- the names with their files, the numbers of the calls that fail, how many calls there were, and how many of them failed
pub record FolderState : Type 0 where
  pub files : List (List ℕ × List ℕ)
  pub failing : List ℕ
  pub calls : ℕ
  pub faults : ℕ

-- a read leaves this
abbrev pub after_lookup : FolderState → FolderState
after_lookup s =
    if is_failing s.failing s.calls
    then record s { calls = next_count s.calls; faults = next_count s.faults }
    else record s { calls = next_count s.calls }
