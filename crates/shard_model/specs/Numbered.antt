-- The labels of blank nodes, numbered by the first uses of names (JSON-LD 1.1 API, section 7.4).
use Rattle.std.specs.Prelude.{ℕ, ◌+◌, List, [], ◌∷◌, Option, flat_map}
use Rattle.std.specs.Map.{lookup}
use Rattle.op_model.specs.Names.{Name, same_name}
use Rattle.op_model.specs.Running.{used}

-- The names that have labels, in the order of first use, where each part of a document tells which it uses.
abbrev pub names_of : List (List Name) → List Name
names_of parts = used [] (flat_map (λ names. names) parts)

-- Each name with the number in its label: how many names were used before it.
abbrev pub numbered_from : ℕ → List Name → List (Name × ℕ)
numbered_from n [] = []
numbered_from n (name ∷ names) = (name, n) ∷ numbered_from (n + 1) names

abbrev pub numbered : List Name → List (Name × ℕ)
numbered names = numbered_from 0 names

-- The number of a name, if it has a label.
abbrev pub number_of : Name → List Name → Option ℕ
number_of name names = lookup (same_name name) (numbered names)
