-- Words of the laws of operations.
use Rattle.std.specs.Prelude.{ℕ, ◌≡◌, ◌≤◌, List, [], ◌∷◌, ◌++◌, Bool, true, false, if◌then◌else◌, ⊤}
use Rattle.std.specs.List.{list_any}
use Rattle.node_model.specs.Walk.{To, nowhere, under, in_list, reverse}
use Rattle.op_model.specs.Names.{Name, iri, fresh, same_name}
use Rattle.op_model.specs.Ops.{Entry, same_entry}
use Rattle.op_model.specs.Running.{label_in, labels_of, Run}

-- It is known what the name is called: it has a label among these, or needs none.
abbrev pub is_known : List Name → Name → Bool
is_known names (iri s) = true
is_known names n = list_any (same_name n) names

-- The names of the subject and the property, where an element goes under one or is reached by a reverse one, are known.
abbrev pub IsPlaceKnown : List Name → To Name → Type 0
IsPlaceKnown names (under n p) = (is_known names n ≡ true) × (is_known names p ≡ true)
IsPlaceKnown names (reverse n p) = (is_known names n ≡ true) × (is_known names p ≡ true)
IsPlaceKnown names _ = ⊤

-- The same place in the node map.
abbrev pub place_in : List Name → To Name → To (List ℕ)
place_in names nowhere = nowhere
place_in names (under n p) = under (label_in names n) (label_in names p)
place_in names in_list = in_list
place_in names (reverse n p) = reverse (label_in names n) (label_in names p)

-- Chunks can come next that are numbered from this number on: the labels are those of the names, and no node of such a chunk has a name
-- yet.
pub record IsReady (number : ℕ) (r : Run) : Type 0 where
  pub labels : r.state.labels ≡ labels_of r.names
  pub unused : (chunk k : ℕ) → number ≤ chunk → list_any (same_name (fresh chunk k)) r.names ≡ false

-- The entries of a property, with this one at their end, unless it is the same as one of them.
abbrev pub with_entry : Entry → List Entry → List Entry
with_entry e es = if list_any (same_entry e) es then es else (es ++ e ∷ [])
