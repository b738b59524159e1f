use Rattle.ld_model.proofs.SameTree.{same_tree-exact, same_tree-from}
use Rattle.flatten_laws.proofs.trees_are_told_apart.Goals as goal

pub returns : goal.returns
returns c a b = (same_tree-exact a b, same_tree-from a b)
