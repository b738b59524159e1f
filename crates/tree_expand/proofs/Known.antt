-- What is known of ranges, as the definitions have it.
use Rattle.std.proofs.Common.{ℕ, suc, ◌≡◌, ◌+◌, ◌-◌, List, [], ◌∷◌, ◌++◌, Option, None, Some, Result, Ok, Err, refl, sym, ap, ◌∙◌, arith}
use Rattle.std.specs.List.{AllByRecursion}
use Rattle.std.specs.Option.{option_map, option_and_then}
use Rattle.ld_json.specs.declared.location.Step.{Step}
use Rattle.ld_model.specs.Tree.{Tree, Trees, no_trees, tree}
use Rattle.expand_model.specs.Scope.{Options, Fault}
use Rattle.expand_model.specs.Over.{expands, answers}
use Rattle.cut_model.specs.Pieces.{Piece, count, count_behind}
use Rattle.cut_model.specs.Reached.{reached_of}
use Rattle.cut_model.specs.Answers.{RangeAnswer, RangeAnswers, answered, answer_of, IsAnswered}
use Rattle.cut_model.specs.Grafting.{piece_outcome}
use Rattle.cut_laws.proofs.Lists.{all_map, all_split}
use Rattle.cut_laws.proofs.RightAnswers.{IsOfRanges}
use Rattle.tree_expand.specs.declared.ranges.Refusal.{Refusal}
use Rattle.tree_expand.specs.View.{given_view, known_result}
use Rattle.tree_expand.specs.Known.{KnownRange, KnownRanges, as_result, due_range, range_from, range_with, ranges_known, AreRightWhereReached}

behind_first : (ts : Trees) (n : ℕ) → (n + count ts) - n - 1 ≡ count_behind ts
behind_first no_trees n = omega arith
behind_first (tree t ts) n = omega arith

with_outcome : (k : ℕ) (d : Result (List Tree) Fault) → range_with k (as_result d) ≡ Some (record { behind = k; result = d })
with_outcome k (Ok ts) = refl
with_outcome k (Err f) = refl

-- What is to be known of a range is what its items come to.
due_is_answer : (o : Options) (x : Piece) → range_from x.from (due_range o x) ≡ Some (record { behind = count_behind x.items; result = piece_outcome o x })
due_is_answer o x =
    ap (λ k. range_with k (as_result (piece_outcome o x))) (behind_first x.items x.from)
    ∙ with_outcome (count_behind x.items) (piece_outcome o x)

pub are_answered : (o : Options) (known : KnownRanges) (t : Tree) → AreRightWhereReached o known t
    → AllByRecursion (λ x. IsAnswered o (ranges_known known) x) (reached_of o (answered (ranges_known known)) t)
are_answered o known t right =
    all_map _ (λ x. IsAnswered o (ranges_known known) x) (λ x h. ap (λ g. option_and_then (range_from x.from) g) h ∙ due_is_answer o x) (reached_of o (answered (ranges_known known)) t) right

-- The ranges for which something is known, and the pieces noted before the last one.
pub own_ranges : (f : RangeAnswers) → IsOfRanges f (answered f)
own_ranges f p n g h = ap (λ x. option_map (λ (y : RangeAnswer). y.behind) x) h

pub last_answered : (o : Options) (f : RangeAnswers) (l : List Piece) (x : Piece) → AllByRecursion (λ y. IsAnswered o f y) (l ++ x ∷ []) → AllByRecursion (λ y. IsAnswered o f y) l × IsAnswered o f x
last_answered o f l x h = let parts = all_split (λ y. IsAnswered o f y) l (x ∷ []) h in (parts.0, parts.1.0)

-- What is copied of an answer is what is known by it.
known_copied : (k : ℕ) (d : Result (List Tree) Refusal) → range_with k (known_result d) ≡ Some (record { behind = k; result = given_view d })
known_copied k (Ok ts) = refl
known_copied k (Err r) = refl

pub copied_range : (n : ℕ) (g : KnownRange) (m : ℕ) (d : Result (List Tree) Refusal) → m ≡ g.to - n - 1 → known_result d ≡ g.result → range_from n g ≡ Some (record { behind = m; result = given_view d })
copied_range n g m d behind is =
    ap (λ r. range_with (g.to - n - 1) r) (sym is)
    ∙ known_copied (g.to - n - 1) d
    ∙ ap (λ k. Some (record { behind = k; result = given_view d })) (sym behind)

-- What is done with an item, by what is answered for it at a place that is its array's.
pub none_asked : (known : KnownRanges) (p q : List Step) (n : ℕ) → None ≡ known q n → q ≡ p → expands ≡ answer_of (ranges_known known p n)
none_asked known p q n is same = ap (λ k. answer_of (option_and_then (range_from n) k)) is ∙ ap (λ p. answer_of (ranges_known known p n)) same

pub some_asked : (known : KnownRanges) (p q : List Step) (n : ℕ) (g : KnownRange) (m : ℕ) (d : Result (List Tree) Fault) → Some g ≡ known q n → q ≡ p → range_from n g ≡ Some (record { behind = m; result = d }) → answers m d ≡ answer_of (ranges_known known p n)
some_asked known p q n g m d is same known_as =
    ap answer_of (sym known_as)
    ∙ ap (λ k. answer_of (option_and_then (range_from n) k)) is
    ∙ ap (λ p. answer_of (ranges_known known p n)) same
