use Rattle.std.proofs.Common.{◌≡◌, ◌++◌, [], map, sym, ap, ◌∙◌, append-nil, rules}
use Rattle.std.specs.List.{filter_map}
use Rattle.expand_model.specs.Contexts.{text_in}
use Rattle.expand_contexts.proofs.Order.{sorted_is_ascending}
use Rattle.expand_contexts.proofs.terms.sorted_terms.Goals as goal

pub returns : goal.returns
returns c =
    let over : c.loop-item.item-iterator ≡ [] = search rules in
    let all : map (λ t. t.now) c.loop-item.terms.items ≡ filter_map text_in c.args.items.now = sym (append-nil (map (λ t. t.now) c.loop-item.terms.items)) ∙ ap (λ l. map (λ t. t.now) c.loop-item.terms.items ++ filter_map text_in l) (sym over) ∙ c.loop-item.invariant in
    sorted_is_ascending c.loop-item.terms.items c.sort.new.self.items (filter_map text_in c.args.items.now) all c.in_ok-sort.ensures.permutation c.in_ok-sort.ensures.sorted
