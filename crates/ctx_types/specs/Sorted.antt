-- Maps from texts, as lists in ascending order.
use Rattle.std.specs.Prelude.{ℕ, List}
use Rattle.std.specs.List.Sorted.{IsStrictlySortedBy}
use Rattle.std.specs.Map.{keys_of}
use Rattle.ld_model.specs.Tree.{byte_order}

-- Each text comes before those after it, so none stands twice.
abbrev pub IsAscending : {X : Type 0} → List (List ℕ × X) → Type 0
IsAscending es = IsStrictlySortedBy byte_order (keys_of es)
