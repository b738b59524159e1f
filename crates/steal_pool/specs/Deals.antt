-- One deque of a pool: each number of its home is in the deque, or in just one list of taken numbers.
use Rattle.std.specs.Prelude.{◌≡◌, ℕ, ◌+◌, ◌-◌, ◌<◌, ◌≤◌, cond, List, [], ◌∷◌, ◌++◌, ◌==◌}
use mathlib.Core.Option.{some}
use lib.ListN.{get_elem?}
use Rattle.steal_pool.specs.declared.hand.Hand.{Hand}

abbrev pub hand : ℕ → List ℕ → List ℕ → Hand
hand parts home taken = record { parts = parts; home = home; taken = taken }

-- how often x stands in a list
abbrev pub times : ℕ → List ℕ → ℕ
times x [] = 0
times x (y ∷ ys) = cond (y == x) 1 0 + times x ys

-- f of each view, added up
abbrev pub total : (Hand → ℕ) → List Hand → ℕ
total f [] = 0
total f (v ∷ vs) = f v + total f vs

-- The rule, which holds between any two steps. `home` is what was put into the deque: once a second view has parts, nothing more is put
pub record Dealt (items : List ℕ) (views : List Hand) : Type 0 where
  pub home : List ℕ
  -- who has parts knows the home
  pub same : (k : ℕ) (v : Hand) → get_elem? views k ≡ some v → 0 < v.parts → v.home ≡ home
  -- who has none has taken nothing
  pub idle : (k : ℕ) (v : Hand) → get_elem? views k ≡ some v → v.parts ≡ 0 → v.taken ≡ []
  pub parts : total (λ v. v.parts) views ≡ 1024
  -- a number is as often in the lists of taken numbers and in the deque as in the home, where it is at most once
  pub counts : (x : ℕ) → total (λ v. times x v.taken) views + times x items ≡ times x home
  pub once : (x : ℕ) → times x home ≤ 1

-- the numbers were put
abbrev pub HasPut : Hand → List ℕ → Hand → Type 0
HasPut v xs w = w ≡ hand v.parts (v.home ++ xs) v.taken

-- the numbers left the deque, whose home they are of, and joined the list of taken numbers, in which they weren't
abbrev pub HasTaken : Hand → List ℕ → Hand → Type 0
HasTaken v xs w = (w ≡ hand v.parts v.home (v.taken ++ xs)) × ((x : ℕ) → times x v.taken + times x xs ≤ times x v.home) × ((x : ℕ) → times x v.home ≤ 1)

-- at a moment at which this view was known, the deque was empty
abbrev pub FoundEmpty : Hand → Type 0
FoundEmpty v = (views : List Hand) × (k : ℕ) × Dealt [] views × (get_elem? views k ≡ some v)

-- a further view gets one part
abbrev pub kept : Hand → Hand
kept v = hand (v.parts - 1) v.home v.taken

abbrev pub given : Hand → Hand
given v = hand 1 v.home []

-- a further view gets all parts that there were
abbrev pub left_over : Hand → Hand
left_over v = hand 0 v.home []
