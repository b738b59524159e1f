-- The tree that a value of the crate stands for.
use Rattle.std.specs.Prelude.{ℕ, List, map}
use Rattle.ld_model.specs.Tree as model
use Rattle.ld_model.specs.Tree.{null, truth, whole, one_one, text, array, object, trees_of, members_of, trees_weight, members_weight}
use Rattle.ld_tree.specs.declared.value.Tree.{Tree}
use Rattle.ld_tree.specs.declared.value.Tree.TheVariants.{Null, Truth, Whole, OneOne, Str, Items, Map}

-- One level of a value; the lists in it are seen as the trees that they hold.
abbrev pub view : Tree → model.Tree
view Null = null
view (Truth b) = truth b
view (Whole n) = whole n
view OneOne = one_one
view (Str s) = text s
view (Items ts) = array (trees_of ts)
view (Map ms) = object (members_of ms)

-- The trees of some values.
abbrev pub trees_view : List Tree → List model.Tree
trees_view ts = map view ts

-- The key of a member with its tree, and those of some members.
abbrev pub member_view : List ℕ × Tree → List ℕ × model.Tree
member_view m = (m.0, view m.1)

abbrev pub members_view : List (List ℕ × Tree) → model.Pairs
members_view ms = map member_view ms

-- How many values a list holds: the measure that falls from a value to those in it.
abbrev pub trees_size : List model.Tree → ℕ
trees_size ts = trees_weight (trees_of ts)

abbrev pub members_size : model.Pairs → ℕ
members_size ms = members_weight (members_of ms)
