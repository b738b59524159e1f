use Rattle.std.proofs.Common.{◌≡◌, ◌≤◌, ◌++◌, ◌∷◌, drop, map}
use Rattle.json.specs.Token.{begin_array, begin_object}
use Rattle.json.specs.Tree.{items_tokens, members_tokens}
use Rattle.ld_model.specs.Tree.{weight, trees_weight, trees_of, members_of}
use Rattle.ld_tree.specs.View.{view}
use Rattle.ld_json.specs.Written.{json_items, json_members}
use Rattle.json_canon.specs.Canonical.{each_in_order}
use Rattle.json_canon.proofs.Members.{written}
use Rattle.json_canon.proofs.writing.+write_tree.Given as goal

abbrev pub decreases-write_tree : goal.decreases-write_tree
decreases-write_tree l = weight (view l.tree.now)

abbrev pub invariant-loop-tree : goal.invariant-loop-tree
invariant-loop-tree l = record {
  before : l.out.before ≡ l.fn.out.before;
  tokens : l.out.tokens ++ items_tokens (json_items (each_in_order (trees_of l.tree-iterator))) ≡ l.fn.out.tokens ++ begin_array ∷ items_tokens (json_items (each_in_order (trees_of l.initial.tree-iterator)));
  lighter : trees_weight (trees_of l.tree-iterator) ≤ trees_weight (trees_of l.initial.tree-iterator);
}

abbrev pub invariant-loop-name : goal.invariant-loop-name
invariant-loop-name l = record {
  before : l.out.before ≡ l.fn.out.before;
  tokens : l.out.tokens ++ members_tokens (json_members (members_of (map written (drop l.name-index l.name-items)))) ≡ l.fn.out.tokens ++ begin_object ∷ members_tokens (json_members (members_of (map written l.name-items)));
}
