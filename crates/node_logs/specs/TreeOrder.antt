-- A total order of trees: by their kinds, texts and numbers by what they are, and lists by the first part in which they differ.
use Rattle.std.specs.Prelude.{ℕ}
use Rattle.std.specs.Ordering.{nat_cmp, int_cmp, bool_cmp, ordering_then}
use Rattle.std.specs.declared.cmp.Ordering.{Ordering}
use Rattle.std.specs.declared.cmp.Ordering.TheVariants.{Less, Equal, Greater}
use Rattle.ld_model.specs.Tree.{Tree, Trees, Members, null, truth, whole, one_one, text, array, object, no_trees, tree, no_members, member, byte_order}

-- Where the kinds of trees stand.
abbrev pub kind : Tree → ℕ
kind null = 0
kind (truth b) = 1
kind (whole n) = 2
kind one_one = 3
kind (text s) = 4
kind (array ts) = 5
kind (object ms) = 6

abbrev mutual
  pub tree_order : Tree → Tree → Ordering
  tree_order (truth a) (truth b) = bool_cmp a b
  tree_order (whole a) (whole b) = int_cmp a b
  tree_order (text a) (text b) = byte_order a b
  tree_order (array a) (array b) = trees_order a b
  tree_order (object a) (object b) = members_order a b
  tree_order a b = nat_cmp (kind a) (kind b)

  pub trees_order : Trees → Trees → Ordering
  trees_order no_trees no_trees = Equal
  trees_order no_trees (tree b ys) = Less
  trees_order (tree a xs) no_trees = Greater
  trees_order (tree a xs) (tree b ys) = ordering_then (tree_order a b) (trees_order xs ys)

  pub members_order : Members → Members → Ordering
  members_order no_members no_members = Equal
  members_order no_members (member l b ys) = Less
  members_order (member k a xs) no_members = Greater
  members_order (member k a xs) (member l b ys) = ordering_then (ordering_then (byte_order k l) (tree_order a b)) (members_order xs ys)
