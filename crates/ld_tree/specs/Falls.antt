-- A list inside a value holds fewer values than that value.
use Rattle.std.specs.Prelude.{ℕ, ◌≤◌, max, List, [], ◌∷◌}
use Rattle.std.proofs.Common.{arith}
use denote.Param.Weighed.{most}
use Rattle.ld_model.specs.Tree.{weight}
use Rattle.ld_tree.specs.declared.value.Tree.{Tree}
use Rattle.ld_tree.specs.declared.value.Tree.TheVariants.{Null, Truth, Whole, OneOne, Str, Items, Map}
use Rattle.ld_tree.specs.declared.value.Members.TheDeep.{deep-Tree}
use Rattle.ld_tree.specs.View.{view, trees_view, members_view, trees_size, members_size}

deep-Tree_le-weight : (t : Tree) → deep-Tree t ≤ weight (view t)
deep-Tree_le-weight Null = omega arith
deep-Tree_le-weight (Truth b) = omega arith
deep-Tree_le-weight (Whole n) = omega arith
deep-Tree_le-weight OneOne = omega arith
deep-Tree_le-weight (Str s) = omega arith
deep-Tree_le-weight (Items ts) = omega arith
deep-Tree_le-weight (Map ms) = omega arith

most_le-trees_size : (ts : List Tree) → most deep-Tree ts ≤ trees_size (trees_view ts)
most_le-trees_size [] = omega arith
most_le-trees_size (t ∷ ts) = omega (arith, deep-Tree_le-weight t, most_le-trees_size ts)

most_le-members_size : (ms : List (List ℕ × Tree)) → most (λ m. max 0 (max (deep-Tree m.1) 0)) ms ≤ members_size (members_view ms)
most_le-members_size [] = omega arith
most_le-members_size (m ∷ ms) = omega (arith, deep-Tree_le-weight m.1, most_le-members_size ms)

pub trees_fall : (ts : List Tree) → max (most deep-Tree ts) 0 ≤ trees_size (trees_view ts)
trees_fall ts = omega (arith, most_le-trees_size ts)

pub members_fall : (ms : List (List ℕ × Tree)) → max (most (λ m. max 0 (max (deep-Tree m.1) 0)) ms) 0 ≤ members_size (members_view ms)
members_fall ms = omega (arith, most_le-members_size ms)
