-- The count of faults that each part of the outside keeps.
use Rattle.std.specs.Prelude.{ℕ, ◌+◌, ◌-◌, ◌^◌, ◌≤◌, ◌≡◌, ◌==◌, min, List, Bool, Result, MatchResult}
use Rattle.std.specs.List.{list_any}

-- the number after a count's, or the same at the end of a u64
abbrev pub next_count : ℕ → ℕ
next_count n = min (n + 1) (2 ^ 64 - 1)

-- the count rose, or it stands at the end of a u64; it did not fall
abbrev pub Rose : ℕ → ℕ → Type 0
Rose before now = (before ≤ now) × (next_count before ≤ now)

-- the count stays at `Ok`, and rose at `Err`
abbrev pub CountsFaults : {T E : Type 0} → ℕ → ℕ → Result T E → Type 0
CountsFaults before now result = MatchResult result (λ _. now ≡ before) (λ _. Rose before now)

-- whether a call of that number is among those that fail
abbrev pub is_failing : List ℕ → ℕ → Bool
is_failing failing call = list_any (λ n. n == call) failing
