-- The count of faults of a folder.
use Rattle.std.specs.Prelude.{ℕ, ◌≡◌, Result, MatchResult}
use Rattle.ld_io.specs.declared.traits.FolderStop.{FolderStop}
use Rattle.ld_io.specs.declared.traits.FolderStop.TheVariants.{Failed, OutOfMemory}
use Rattle.ld_io.specs.Faults.{Rose}

-- only a fault raises the count
abbrev pub CountsFolderStop : FolderStop → ℕ → ℕ → Type 0
CountsFolderStop Failed before now = Rose before now
CountsFolderStop OutOfMemory before now = now ≡ before

-- the count rose at `Failed`, and else stays
abbrev pub CountsFolderFaults : {T : Type 0} → ℕ → ℕ → Result T FolderStop → Type 0
CountsFolderFaults before now result =
    MatchResult result (λ _. now ≡ before) (λ stop. CountsFolderStop stop before now)
