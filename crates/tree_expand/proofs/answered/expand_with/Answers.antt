use Rattle.std.proofs.Common.{◌≡◌, refl, ap}
use Rattle.std.specs.List.{AllByRecursion}
use Rattle.ld_tree.specs.View.{view}
use Rattle.expand_model.specs.Scope.{Options}
use Rattle.expand_types.specs.View.{word_view}
use Rattle.range_laws.specs.Right.{keeps_each}
use Rattle.cut_model.specs.Answers.{answer_of, answered, IsAnswered}
use Rattle.cut_laws.proofs.RightAnswers.{answered_run}
use Rattle.tree_expand.specs.Known.{KnownRanges, ranges_known}
use Rattle.tree_expand.proofs.Known.{are_answered, own_ranges, last_answered}
use Rattle.tree_expand.proofs.Steps.{answers_of}
use Rattle.tree_expand.proofs.answered.expand_with.Goals as goal

pub returns : goal.returns
returns g c =
    let o : Options = record { base = word_view c.args.base; contexts = c.args.store.now } in
    let known : KnownRanges = g.O.Answers.known c.args.answers.now in
    answers_of c.document_over.result (λ ts. ts) c.document_over.new.ranges _ _
    (answered_run o _ keeps_each (λ s l. s.answers.now ≡ c.args.answers.now) (AllByRecursion (λ y. IsAnswered o (ranges_known known) y)) (ranges_known known) (answered (ranges_known known)) (own_ranges (ranges_known known)) (last_answered o (ranges_known known))
    (λ ts n a s l k agree. (ap (λ x. answer_of (ranges_known (g.O.Answers.known x) a.place n)) k, k)) (view c.args.tree.now) _ refl (are_answered o known (view c.args.tree.now) c.requires))
    c.document_over.ensures
