use Rattle.std.proofs.Common.{Ok, Some, ap, sym, ◌∙◌, subst}
use Rattle.ctx_types.specs.ContextView.{context_view}
use Rattle.ld_model.proofs.SameTree.{same_tree-exact}
use Rattle.ld_tree.specs.View.{view}
use Rattle.expand_model.specs.Contexts.{type_terms, typed_by_all}
use Rattle.expand_types.specs.View.{options_view}
use Rattle.expand_contexts.specs.Memo.{IsTyped}
use Rattle.expand_contexts.proofs.typing.typed_first.Goals as goal

pub returns-then-same-clause-typed : goal.returns-then-same-clause-typed
returns-then-same-clause-typed c =
    let o = options_view c.args.options.now in
    let types = context_view c.args.types.now in
    let same = same_tree-exact (view c.in-Some.last.value.now) (view c.args.value.now) (sym c.same.ensures ∙ c.if-same.true) in
    let kept : IsTyped o types (Some c.in-Some.last) = subst (IsTyped o types) c.in-Some.is c.requires in
    ap (λ v. typed_by_all o types (type_terms v) types) (sym same) ∙ kept ∙ ap (λ x. Ok x) (sym c.in_ok-copy.ensures)
