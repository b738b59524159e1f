-- What a call does to a sink.
use Rattle.std.specs.Prelude.{ℕ, ◌<◌, ◌≤◌, ◌≡◌, List, length, take, Bool, true, false, Option, Result, IfOk, IfSome, MatchResult}
use Rattle.std.specs.Io.KnownBytes.{Appends}

-- a write of some bytes takes one at least
abbrev pub TakesSome : {E : Type 0} → Result ℕ E → List ℕ → Type 0
TakesSome result bytes = IfOk result (λ n. 0 < length bytes → 0 < n)

-- the sink is finished, where it tells
abbrev pub IsFinished : Option Bool → Type 0
IsFinished told = IfSome told (λ b. b ≡ true)

-- the sink is not finished, where it tells
abbrev pub IsUnfinished : Option Bool → Type 0
IsUnfinished told = IfSome told (λ b. b ≡ false)

-- a write that took a byte leaves the sink unfinished, and any other leaves it as it was
abbrev pub WriteUnfinishes : {E : Type 0} → Option Bool → Option Bool → Result ℕ E → Type 0
WriteUnfinishes old new result =
    MatchResult result (λ n. (0 < n → IsUnfinished new) × (n ≡ 0 → new ≡ old)) (λ _. new ≡ old)

-- some front of the bytes was appended
abbrev pub AppendsFront : Option (List ℕ) → Option (List ℕ) → List ℕ → Type 0
AppendsFront old new bytes = (n : ℕ) × (n ≤ length bytes) × Appends old new (take n bytes)
