-- What turns of reading do to a source.
use Rattle.std.specs.Prelude.{ℕ, ◌<◌, ◌≡◌, ◌++◌, List, length, Bool, Option, Result, MatchResult, ⊤}
use Rattle.std.specs.Bool.{MatchBool}
use Rattle.std.specs.Io.KnownBytes.{Consumes, Keeps, IsAtEnd}

-- what one turn of reading appended to the bytes so far: none at `true`, at the end of the source, and at `false` some bytes that the source gave
abbrev pub Gathers : {E : Type 0} → Option (List ℕ) → Option (List ℕ) → List ℕ → List ℕ → Result Bool E → Type 0
Gathers old new before after result =
    MatchResult result (λ ended. MatchBool ended ((after ≡ before) × Keeps old new × IsAtEnd new)
    ((more : List ℕ) × (0 < length more) × (after ≡ before ++ more) × Consumes old new more)) (λ _. ⊤)

-- some front of the bytes left was taken
abbrev pub TakesFront : Option (List ℕ) → Option (List ℕ) → Type 0
TakesFront old new = (bytes : List ℕ) × Consumes old new bytes
