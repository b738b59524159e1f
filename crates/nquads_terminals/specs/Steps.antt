-- How a label goes on at its next character.
use Rattle.std.specs.Prelude.{◌≡◌, ◌<◌, ◌≤◌, ℕ, zero, suc, ◌+◌, nat_lt, if◌then◌else◌, List, length, drop}
use Rattle.nquads_terminals.specs.Terminals.{label_more, label_len}
use Rattle.nquads_terminals.specs.declared.label.Step.{Step}
use Rattle.nquads_terminals.specs.declared.label.Step.TheVariants.{Character, Dot, End}

-- What more belongs to the label, by its next step. A dot belongs to it where a character does that comes later.
abbrev pub IsStep : List ℕ → Step → Type 0
IsStep bs (Character size) = (0 < size) × (size ≤ length bs) × (label_more zero bs ≡ size + label_more zero (drop size bs))
IsStep bs Dot = label_more zero bs ≡ (if nat_lt 0 (label_more zero (drop 1 bs)) then 1 + label_more zero (drop 1 bs) else 0)
IsStep bs End = label_more zero bs ≡ 0

-- The size of the first character of a label behind its `_:`, and 0 where no label can begin here.
abbrev pub IsFirst : List ℕ → ℕ → Type 0
IsFirst bs zero = label_len bs ≡ 0
IsFirst bs (suc n) = (suc n ≤ length bs) × (label_len bs ≡ suc n + label_more zero (drop (suc n) bs))
