use Rattle.std.proofs.Common.{◌≡◌, [], ◌∷◌, ◌++◌, List, IfOk, ap, sym, subst, ◌∙◌}
use Rattle.ld_model.specs.Tree.{Tree, array, trees_of, tree_list-trees_of}
use Rattle.expand_model.specs.Scope.{list_object}
use Rattle.expand_model.specs.Rules.{spliced}
use Rattle.expand_parts.proofs.items.splice_items.Goals as goal

pub returns-then-not-lists : goal.returns-then-not-lists
unfolding spliced
returns-then-not-lists c =
    let items : List Tree = c.args.items in
    let same : items ≡ spliced c.args.lists (array (trees_of items)) = sym (tree_list-trees_of items) ∙ ap (λ b. spliced b (array (trees_of items))) (sym c.if-not-lists.true) in
    subst (λ l. IfOk c.join.result (λ ts. ts ≡ c.args.out ++ l)) same c.join.ensures

pub returns : goal.returns
unfolding spliced
returns c =
    let items : List Tree = c.args.items in
    c.in_ok-push.ensures.ok ∙ ap (λ t. c.args.out ++ t ∷ []) (c.in_ok-list_object.ensures ∙ ap list_object (sym (tree_list-trees_of items)))
    ∙ ap (λ b. c.args.out ++ spliced b (array (trees_of items))) (sym c.if-not-lists.false)
