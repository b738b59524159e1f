use Rattle.std.proofs.Common.{◌≡◌, ◌≤◌, ◌++◌, ◌∷◌}
use Rattle.json.specs.Token.{begin_array, begin_object}
use Rattle.json.specs.Tree.{items_tokens, members_tokens}
use Rattle.ld_model.specs.Tree.{weight, trees_weight, members_weight, trees_of, members_of}
use Rattle.ld_tree.specs.View.{view}
use Rattle.ld_json.specs.Written.{json_items, json_members}
use Rattle.ld_json.proofs.writing.+write_tree.Given as goal

abbrev pub decreases-write_tree : goal.decreases-write_tree
decreases-write_tree l = weight (view l.tree.now)

abbrev pub invariant-loop-tree : goal.invariant-loop-tree
invariant-loop-tree l =
    record {
      before : l.out.before ≡ l.fn.out.before;
      written : l.out.tokens ++ items_tokens (json_items (trees_of l.tree-iterator)) ≡ l.fn.out.tokens ++ begin_array ∷ items_tokens (json_items (trees_of l.initial.tree-iterator));
      lighter : trees_weight (trees_of l.tree-iterator) ≤ trees_weight (trees_of l.initial.tree-iterator);
    }

abbrev pub invariant-loop-key : goal.invariant-loop-key
invariant-loop-key l =
    record {
      before : l.out.before ≡ l.fn.out.before;
      written : l.out.tokens ++ members_tokens (json_members (members_of l.key-iterator)) ≡ l.fn.out.tokens ++ begin_object ∷ members_tokens (json_members (members_of l.initial.key-iterator));
      lighter : members_weight (members_of l.key-iterator) ≤ members_weight (members_of l.initial.key-iterator);
    }
