use Rattle.std.proofs.Common.{◌≡◌, ◌++◌, ◌∷◌, map, String, Global, ap, sym, ◌∙◌}
use Rattle.serde_json.specs.declared.value.Value.{Value}
use Rattle.std.proofs.lemmas.Map.Iter.{rest_more}
use Rattle.ld_tree.specs.View.{view}
use Rattle.ld_model.specs.Tree.{array, object, trees_of, members_of}
use Rattle.ld_json.specs.Read.{value_tree, value_member}
use Rattle.ld_json.proofs.ReadValues.{value_tree-Array, value_tree-Object, set-next}
use Rattle.ld_json.proofs.by_value.+tree.Goals as goal

pub members-loop-key-preserved : goal.members-loop-key-preserved
members-loop-key-preserved t c =
    let e : String Global × Value = (c.in-Some.key, c.in-Some.value) in
    let step : c.loop-key.key-iterator ≡ e ∷ c.next.new.self = rest_more (λ x. x) _ _ _ _ c.in-Some.is c.next.ensures.steps in
    let left : c.loop-key.members ++ map value_member c.loop-key.key-iterator ≡ map value_member c.args.object.entries = c.loop-key.invariant in
    set-next c.loop-key.members c.set.new.self e c.next.new.self c.args.object.entries (view c.in_ok-tree.field-0) c.into_iter-key-iterator.ensures.into_iter_gives.5
    (rw step at left) c.in_ok-tree.ensures (rw c.in_ok-from_string.ensures at c.in_ok-set.ensures.ok)

pub tree-returns-in_ok-trees-in-Array : goal.tree-returns-in_ok-trees-in-Array
tree-returns-in_ok-trees-in-Array t c =
    ap (λ ts. array (trees_of ts)) c.in_ok-trees-in-Array.ensures ∙ sym (ap value_tree c.in-Array.is ∙ value_tree-Array c.in-Array.values)

pub tree-returns-in_ok-members-in-Object : goal.tree-returns-in_ok-members-in-Object
tree-returns-in_ok-members-in-Object t c =
    ap (λ ms. object (members_of ms)) c.in_ok-members-in-Object.ensures ∙ sym (ap value_tree c.in-Object.is ∙ value_tree-Object c.in-Object.object)
