-- Which refusal may come, and what it says of the folder's count of faults.
use Rattle.std.specs.Prelude.{ℕ, ◌≡◌, List, Option, Some, Result, MatchResult, ⊤}
use Rattle.std.specs.Option.{option_map_or}
use Rattle.ld_io.specs.Faults.{Rose}
use Rattle.ld_io.specs.declared.traits.FolderStop.{FolderStop}
use Rattle.ld_io.specs.declared.traits.FolderStop.TheVariants.{Failed}
use Rattle.ld_io.specs.declared.traits.FolderStop.TheVariants as stop
use Rattle.ctx_store.specs.Stored.{Contexts, Stored, holds, index_line, missing, with_file}
use Rattle.ctx_store.specs.declared.store.StoreRefusal.{StoreRefusal}
use Rattle.ctx_store.specs.declared.store.StoreRefusal.TheVariants.{IndexLine, Missing, FolderFault, OutOfMemory}

-- What a stop of the folder is to the store.
abbrev pub refusal_of_stop : FolderStop → StoreRefusal
refusal_of_stop Failed = FolderFault
refusal_of_stop stop.OutOfMemory = OutOfMemory

-- When each refusal may come, given what the folder holds: `FolderFault` by the count of faults alone, and `OutOfMemory`
-- at any time.
abbrev pub Refuses : StoreRefusal → Stored → Type 0
Refuses (IndexLine line) s = s ≡ index_line line
Refuses (Missing line) s = s ≡ missing line
Refuses FolderFault s = ⊤
Refuses OutOfMemory s = ⊤

-- The count rose at `FolderFault`, and stays at every other refusal.
abbrev pub CountsRefusal : StoreRefusal → ℕ → ℕ → Type 0
CountsRefusal FolderFault before now = Rose before now
CountsRefusal _ before now = now ≡ before

-- The count rose at `FolderFault`, and else stays.
abbrev pub CountsStoreFaults : {T : Type 0} → ℕ → ℕ → Result T StoreRefusal → Type 0
CountsStoreFaults before now result = MatchResult result (λ _. now ≡ before) (λ e. CountsRefusal e before now)

-- The refusals of the index alone: its first broken line, and want of memory.
abbrev pub RefusesIndex : StoreRefusal → Option ℕ → Type 0
RefusesIndex (IndexLine line) broken = broken ≡ Some line
RefusesIndex OutOfMemory broken = ⊤
RefusesIndex _ broken = ⊥

-- The refusals of a read: a fault, and want of memory.
abbrev pub IsReadRefusal : StoreRefusal → Type 0
IsReadRefusal FolderFault = ⊤
IsReadRefusal OutOfMemory = ⊤
IsReadRefusal _ = ⊥

-- The refusals of the files alone: `Missing` where a file is.
abbrev pub RefusesFile : StoreRefusal → Stored → Type 0
RefusesFile (IndexLine line) s = ⊥
RefusesFile (Missing line) s = s ≡ missing line
RefusesFile FolderFault s = ⊤
RefusesFile OutOfMemory s = ⊤

-- The answer of a call is what is stored, or a refusal that may come.
abbrev pub Answers : Stored → Result Contexts StoreRefusal → Type 0
Answers s result = MatchResult result (λ contexts. s ≡ holds contexts) (λ e. Refuses e s)

-- What reading one line's file may come to: it is in the store then, or a refusal came that says no more than that it is
-- missing.
abbrev pub FilesLine : Option (List ℕ) → List ℕ → ℕ → Contexts → Contexts → Result (Unit {0}) StoreRefusal → Type 0
FilesLine file iri n old new result =
    let s = option_map_or (λ bytes. holds (with_file old iri bytes)) file (missing n) in MatchResult result (λ _. s ≡ holds new) (λ e. RefusesFile e s)
