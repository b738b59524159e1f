use Rattle.std.proofs.Common.{[], sym, ap, ◌∙◌, subst, rules, of_calls}
use Rattle.std.proofs.lemmas.Fn.{always_returns_same}
use Rattle.std.specs.Option.{option_copied}
use Rattle.std.specs.List.Sorted.{IsStrictlySortedBy}
use Rattle.ld_tree.specs.declared.value.Tree.TheVariants.{Null}
use Rattle.ld_model.specs.Tree.{byte_order}
use Rattle.ld_tree.proofs.Searches.{seek-search}
use Rattle.ld_tree.proofs.ViewLemmas.{seek-members_view, keys_of-members_view, at_first, before_first}
use Rattle.ld_tree.proofs.value.place_of.Goals as goal

pub returns-in-Less : goal.returns-in-Less
returns-in-Less c =
    let search = c.binary_search_by.ensures.position (λ e. byte_order e.0 c.args.key.now) (always_returns_same _ _ _ (λ a r f' called. search (rules, of_calls))) in
    seek-search c.args.key.now c.args.pairs.now ([], Null) c.binary_search_by.result (subst (IsStrictlySortedBy byte_order) (keys_of-members_view c.args.pairs.now) c.requires) c.binary_search_by.ensures.bound search ∙ sym (seek-members_view c.args.key.now c.args.pairs.now)

pub returns-in-Equal : goal.returns-in-Equal
returns-in-Equal c =
    sym (at_first c.args.key.now c.args.pairs.now c.in-Some.pair.now (sym c.first.ensures.value ∙ ap option_copied c.in-Some.is) (sym c.compare_key.ensures ∙ c.in-Equal.is))

pub returns-in-Greater : goal.returns-in-Greater
returns-in-Greater c =
    sym (before_first c.args.key.now c.args.pairs.now c.in-Some.pair.now (sym c.first.ensures.value ∙ ap option_copied c.in-Some.is) (sym c.compare_key.ensures ∙ c.in-Greater.is))
