-- Names in the order of first use, one use after another.
use Rattle.std.proofs.Common.{◌≡◌, ℕ, zero, suc, List, [], ◌∷◌, ◌++◌, Some, slice_get, Bool, true, false, cond, ◌||◌, refl, sym, ap, ◌∙◌}
use Rattle.std.specs.List.{list_any}
use Rattle.std.proofs.lemmas.List.{map-append}
use Rattle.indexmap.specs.IndexSet.{insert_key}
use Rattle.op_model.specs.Names.{Name}
use Rattle.sum_model.specs.Joins.{or_empty}
use Rattle.op_model.specs.Running.{with_name, used}
use Rattle.op_types.specs.View.{name_view, names_view}
use Rattle.op_types.specs.declared.name.Name as code
use Rattle.subtree_summary.specs.Parts.{same_code_name}
use Rattle.subtree_summary.proofs.Parts.{any_view}

pub used-append : (held a b : List Name) → used held (a ++ b) ≡ used (used held a) b
used-append held [] b = refl
used-append held (n ∷ ns) b = used-append (with_name held n) ns b

-- Names of three fields, and then those of the fourth.
pub used-fourth : (held a b c d : List Name) → used (used held (a ++ (b ++ c))) d ≡ used held (a ++ (b ++ (c ++ d)))
used-fourth held a b c d =
    ap (λ u. used u d) (used-append held a (b ++ c) ∙ used-append (used held a) b c)
    ∙ sym (used-append held a (b ++ (c ++ d)) ∙ used-append (used held a) b (c ++ d) ∙ used-append (used (used held a) b) c d)

-- A name that equals one of them is among them.
pub among : (ks : List code.Name) (i : ℕ) (k n : code.Name) → slice_get ks i ≡ Some k → same_code_name n k ≡ true → list_any (same_code_name n) ks ≡ true
among [] i k n at same = absurd (cc)
among (x ∷ xs) zero k n at same = ap (λ t. t || list_any (same_code_name n) xs) (ap (λ o. same_code_name n (or_empty x o)) at ∙ same)
among (x ∷ xs) (suc i) k n at same = ap (λ t. same_code_name n x || t) (among xs i k n at same) ∙ or_true (same_code_name n x)
  where
    or_true : (t : Bool) → (t || true) ≡ true
    or_true true = refl
    or_true false = refl

-- A name that is among those that were used, and one that is put with them where it is new.
pub already_used : (ks : List code.Name) (k : code.Name) → list_any (same_code_name k) ks ≡ true → names_view ks ≡ with_name (names_view ks) (name_view k)
unfolding with_name
already_used ks k is = ap (λ t. cond t (names_view ks) (names_view ks ++ name_view k ∷ [])) (sym is ∙ any_view k ks)

pub inserted_name : (ks : List code.Name) (k : code.Name) → names_view (insert_key same_code_name ks k) ≡ with_name (names_view ks) (name_view k)
unfolding with_name
inserted_name ks k = by_test (list_any (same_code_name k) ks) ∙ ap (λ t. cond t (names_view ks) (names_view ks ++ name_view k ∷ [])) (any_view k ks)
  where
    by_test : (t : Bool) → names_view (cond t ks (ks ++ k ∷ [])) ≡ cond t (names_view ks) (names_view ks ++ name_view k ∷ [])
    by_test true = refl
    by_test false = map-append name_view ks (k ∷ [])
