-- A log in which each property stands once.
use Rattle.std.specs.Prelude.{ℕ, List, [], ◌∷◌, Bool, true, ◌&&◌}
use Rattle.std.specs.Ordering.{is_lt}
use Rattle.ld_model.specs.Tree.{Tree, byte_order}
use Rattle.node_logs.specs.Log.{all_told}
use Rattle.node_logs.specs.declared.node.Told.{Told}

-- What stands once all these were told of a property.
abbrev pub trees_told : List Tree → List Tree
trees_told ts = all_told ts []

abbrev pub pair_of : Told → List ℕ × List Tree
pair_of t = (t.property, trees_told t.entries)

-- The first of these comes after a property, where there is one.
abbrev pub is_first_after : List ℕ → List Told → Bool
is_first_after k [] = true
is_first_after k (t ∷ ts) = is_lt (byte_order k t.property)

-- Each property comes before the next.
abbrev pub properties_ascend : List Told → Bool
properties_ascend [] = true
properties_ascend (t ∷ ts) = is_first_after t.property ts && properties_ascend ts
