-- Ranges that go on while their weights sum to at most the limit, by sums that go no higher than 2^64 - 1.
use Rattle.std.proofs.Common.{ℕ, suc, ◌≡◌, ◌+◌, ◌-◌, ◌^◌, ◌<◌, min, nat_le, nat_lt, true, List, [], ◌∷◌, length, drop, get_or, refl, sym, ap, ◌∙◌, subst, arith}
use Rattle.std.specs.Prelude.{if◌then◌else◌}
use Rattle.std.proofs.lemmas.List.{drop_more}
use Rattle.ld_model.specs.Tree as model
use Rattle.ld_model.specs.Tree.{no_trees, tree, trees_of, trees_weight, weight}
use Rattle.ld_tree.specs.View.{view, trees_view}
use Rattle.ld_tree.specs.declared.value.Tree.{Tree}
use Rattle.cut_model.specs.Pieces.{count}
use Rattle.cut_model.specs.Planning.{is_light, taken_behind, passes_array, heavy_choice, cut_choice}
use Rattle.subtree_cut.specs.Choices.{chosen_of}
use Rattle.subtree_cut.proofs.Lists.{count_is}

-- Only the sum that is capped counts.
pub taken_same : (limit a b : ℕ) (ts : model.Trees) → min a (2 ^ 64 - 1) ≡ min b (2 ^ 64 - 1) → taken_behind limit a ts ≡ taken_behind limit b ts
taken_same limit a b no_trees h = refl
taken_same limit a b (tree t ts) h =
    let more : min (a + weight t) (2 ^ 64 - 1) ≡ min (b + weight t) (2 ^ 64 - 1) = omega (arith, h) in
    ap (λ k. if nat_le k limit then suc (taken_behind limit (a + weight t) ts) else 0) more
    ∙ ap (λ n. if is_light limit (b + weight t) then suc n else 0) (taken_same limit (a + weight t) (b + weight t) ts more)

next_item : (ts : List Tree) (i : ℕ) (t : Tree) → i < length ts → t ≡ get_or ts i t → drop i ts ≡ t ∷ drop (i + 1) ts
next_item ts i t within at = drop_more ts i t within ∙ ap (λ x. x ∷ drop (i + 1) ts) (sym at)

-- The next item is taken, or it isn't.
pub takes_next : (limit sum more : ℕ) (ts : List Tree) (i : ℕ) (t : Tree) → i < length ts → t ≡ get_or ts i t → min more (2 ^ 64 - 1) ≡ min (sum + weight (view t)) (2 ^ 64 - 1) → is_light limit (sum + weight (view t)) ≡ true
    → taken_behind limit sum (trees_of (trees_view (drop i ts))) ≡ suc (taken_behind limit more (trees_of (trees_view (drop (i + 1) ts))))
takes_next limit sum more ts i t within at same light =
    ap (λ xs. taken_behind limit sum (trees_of (trees_view xs))) (next_item ts i t within at)
    ∙ ap (λ b. if b then suc (taken_behind limit (sum + weight (view t)) (trees_of (trees_view (drop (i + 1) ts)))) else 0) light
    ∙ ap suc (taken_same limit (sum + weight (view t)) more (trees_of (trees_view (drop (i + 1) ts))) (sym same))

pub one_on : (n k : ℕ) → n + 1 + k ≡ n + suc k
one_on n k = omega arith

-- What is chosen, by cases.
pub heavy_cut : (limit : ℕ) (t : model.Tree) (ts : List Tree) → nat_lt 0 (length ts) ≡ true → cut_choice limit t (trees_of (trees_view ts)) ≡ heavy_choice limit t (trees_of (trees_view ts))
heavy_cut limit t [] some = cc
heavy_cut limit t (u ∷ us) some = refl

pub light_passed : (limit : ℕ) (rest behind : List Tree) (t : Tree) (n : ℕ) → rest ≡ t ∷ behind → n ≡ 0 → is_light limit (1 + trees_weight (trees_of (trees_view rest))) ≡ true → passes_array (length behind) ≡ chosen_of limit (trees_of (trees_view rest)) n
light_passed limit rest behind t n is zero light =
    let here : is_light limit (1 + trees_weight (trees_of (trees_view (t ∷ behind)))) ≡ true = subst (λ r. is_light limit (1 + trees_weight (trees_of (trees_view r))) ≡ true) is light in
    ap passes_array (sym (count_is behind))
    ∙ sym (ap (λ r. chosen_of limit (trees_of (trees_view r)) n) is ∙ ap (chosen_of limit (trees_of (trees_view (t ∷ behind)))) zero ∙ ap (λ b. if b then passes_array (count (trees_of (trees_view behind))) else heavy_choice limit (view t) (trees_of (trees_view behind))) here)
