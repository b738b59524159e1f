-- Items as codes, by which proofs tell them apart.
use Rattle.std.specs.Prelude.{◌≡◌, List, refl}
use Rattle.std.specs.Coded.{Coded, code_by, coded_list}
use Rattle.ld_model.specs.Tree.{Tree, Trees, no_trees, tree, tree_list, trees_of}
use Rattle.ld_model.specs.TreeCode.{tree_code}

listed : (ts : Trees) → trees_of (tree_list ts) ≡ ts
listed no_trees = refl
listed (tree t ts) = λ i. tree t (listed ts i)

pub items_code : Coded Trees
items_code = code_by (List Tree) (coded_list tree_code) tree_list trees_of listed
