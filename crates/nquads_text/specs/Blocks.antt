-- Bytes that go to a sink through a block.
use Rattle.std.specs.Prelude.{◌≡◌, ℕ, List, ◌++◌, take, Option, Result, Ok, Err}
use Rattle.std.specs.Io.KnownBytes.{Appends}
use Rattle.std.specs.List.{flat_map}
use denote.Ref.{Bor}

-- Of what the block held and these bytes, a front went to the sink, and the rest is left.
abbrev pub Puts : Option (List ℕ) → List ℕ → Option (List ℕ) → List ℕ → List ℕ → Type 0
Puts held block held' left bytes = (front : List ℕ) × Appends held held' front × (block ++ bytes ≡ front ++ left)

-- What is left is in the block; after a fault it is lost.
abbrev pub Passes : {T E : Type 0} → Result T E → Option (List ℕ) → List ℕ → Option (List ℕ) → List ℕ → List ℕ → Type 0
Passes (Ok _) held block held' block' bytes = Puts held block held' block' bytes
Passes (Err _) held block held' block' bytes = (left : List ℕ) × Puts held block held' left bytes

-- Pieces, one behind the other.
abbrev pub joined : List (Bor (List ℕ)) → List ℕ
joined pieces = flat_map (λ p. p.now) pieces

-- What these bytes are written as, as far as they were taken, went to the sink or is in the block; after a fault some
-- front of what they all are written as went to the sink.
abbrev pub Takes : {E : Type 0} → Result ℕ E → Option (List ℕ) → List ℕ → Option (List ℕ) → List ℕ → (ℕ → List ℕ) → List ℕ → Type 0
Takes (Ok n) held block held' block' text bytes = Puts held block held' block' (flat_map text (take n bytes))
Takes (Err _) held block held' block' text bytes = (left : List ℕ) × Puts held block held' left (flat_map text bytes)
