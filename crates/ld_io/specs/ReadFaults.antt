-- The count of faults of a source that is read to its end.
use Rattle.std.specs.Prelude.{ℕ, ◌≡◌, Result, MatchResult}
use Rattle.ld_io.specs.declared.whole.ReadStop.{ReadStop}
use Rattle.ld_io.specs.declared.whole.ReadStop.TheVariants.{Failed, TooLarge, OutOfMemory}
use Rattle.ld_io.specs.Faults.{Rose}

-- only a fault raises the count
abbrev pub CountsReadStop : ReadStop → ℕ → ℕ → Type 0
CountsReadStop Failed before now = Rose before now
CountsReadStop TooLarge before now = now ≡ before
CountsReadStop OutOfMemory before now = now ≡ before

-- the count rose at `Failed`, and else stays
abbrev pub CountsReadFaults : {T : Type 0} → ℕ → ℕ → Result T ReadStop → Type 0
CountsReadFaults before now result =
    MatchResult result (λ _. now ≡ before) (λ stop. CountsReadStop stop before now)
