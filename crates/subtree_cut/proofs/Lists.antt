-- Lists of trees, counted; and two tests.
use Rattle.std.proofs.Common.{suc, ◌≡◌, ◌-◌, ◌<◌, ◌&&◌, ◌||◌, List, [], ◌∷◌, ◌++◌, Bool, true, false, None, length, refl, sym, ap, ◌∙◌, arith}
use Rattle.std.specs.Prelude.{if◌then◌else◌}
use Rattle.ld_json.specs.declared.location.Step.{Step}
use Rattle.ld_model.specs.Tree.{trees_of}
use Rattle.ld_tree.specs.declared.value.Tree.{Tree}
use Rattle.ld_tree.specs.View.{trees_view}
use Rattle.cut_model.specs.Pieces.{count, count_behind, same_step, same_place}
use Rattle.cut_model.specs.LegalTest.{way_from}

pub count_is : (ts : List Tree) → count (trees_of (trees_view ts)) ≡ length ts
count_is [] = refl
count_is (t ∷ ts) = ap suc (count_is ts)

pub behind_is : (ts : List Tree) → count_behind (trees_of (trees_view ts)) ≡ length ts - 1
behind_is [] = refl
behind_is (t ∷ ts) = let k = count_is ts in omega (arith, k)

-- A longer place leads to no shorter one.
pub no_way : (p q : List Step) → length q < length p → None ≡ way_from p q
no_way [] q h = absurd (omega (arith, h))
no_way (x ∷ p) [] h = refl
no_way (x ∷ p) (y ∷ q) h = by (same_step x y) (no_way p q (omega (arith, h)))
  where
    by : (b : Bool) → None ≡ way_from p q → None ≡ (if b then way_from p q else None)
    by true rest = rest
    by false rest = refl

-- Two tests, by the first.
pub and_rest : (a b : Bool) → a ≡ true → b ≡ a && b
and_rest a b h = sym (ap (λ x. x && b) h)

pub or_first : (a b r : Bool) → r ≡ a → r ≡ true → r ≡ a || b
or_first a b r is h = h ∙ sym (ap (λ x. x || b) (sym is ∙ h))

pub or_rest : (a b s : Bool) → a ≡ false → s ≡ b → s ≡ a || b
or_rest a b s h is = is ∙ sym (ap (λ x. x || b) h)
