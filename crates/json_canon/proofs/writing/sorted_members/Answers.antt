use Rattle.std.proofs.Common.{◌≡◌, ◌++◌, [], map, sym, ap, ◌∙◌, append-nil, rules}
use Rattle.std.proofs.lemmas.List.Sorted.{ranks_by, answers_always}
use Rattle.json_canon.specs.Utf16.{comes_before}
use Rattle.json_canon.specs.Lent.{lent}
use Rattle.json_canon.proofs.OrderLemmas.{utf16_order_total}
use Rattle.json_canon.proofs.Members.{sorted_lent}
use Rattle.json_canon.proofs.writing.sorted_members.Goals as goal

pub returns : goal.returns
returns c =
    let over : c.loop-name.name-iterator ≡ [] = search rules in
    let given = c.into_iter-name-iterator.ensures.into_iter_gives in
    let all : map lent c.loop-name.sorted.items ≡ c.args.members.now = sym (append-nil (map lent c.loop-name.sorted.items)) ∙ ap (λ l. map lent c.loop-name.sorted.items ++ l) (sym over) ∙ c.loop-name.invariant.pairs ∙ given.0 in
    let sorted = c.in_ok-sort_by.ensures.sorted (λ x y. comes_before x.0.now y.0.now) (ranks_by utf16_order_total (λ x. x.0.now)) (answers_always _ _ _ (λ f a r f' k. search rules)) in
    sorted_lent c.loop-name.sorted.items c.sort_by.new.self.items c.args.members.now all c.loop-name.invariant.texts given.1 c.in_ok-sort_by.ensures.permutation sorted
