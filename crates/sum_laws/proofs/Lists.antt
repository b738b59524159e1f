-- Lists, joined.
use Rattle.std.proofs.Common.{◌≡◌, List, [], ◌∷◌, ◌++◌, Bool, true, false, cond, not, ◌&&◌, ◌||◌, refl, sym, ap, ◌∙◌, subst, append-nil, append_assoc}
use Rattle.std.specs.Prelude.{filter}
use Rattle.std.specs.List.{list_any}
use Rattle.std.proofs.lemmas.List.Elements.{filter-append}
use Rattle.std.proofs.lemmas.List.Folds.{list_any-append}
use Rattle.std.proofs.lemmas.Map.Views.{any-filter_same}
use Rattle.sum_model.specs.Joins.{is_new, lists_joined}
use Rattle.sum_laws.specs.Laws.{IsMonoid}

-- What the test calls the same is equal.
abbrev pub IsExact : {X : Type 0} → (X → X → Bool) → Type 0
IsExact {X} same = (x y : X) → same x y ≡ true → x ≡ y

module _ {X : Type 0} where
  -- A filter after another one, where a third test stands for both.
  pub filter_twice : (p q both : X → Bool) → ((x : X) → both x ≡ (q x && p x)) → (xs : List X) → filter p (filter q xs) ≡ filter both xs
  filter_twice p q both is [] = refl
  filter_twice p q both is (x ∷ xs) = by_test (q x) refl (filter_twice p q both is xs)
    where
      by_test : (b : Bool) → q x ≡ b → filter p (filter q xs) ≡ filter both xs → filter p (filter q (x ∷ xs)) ≡ filter both (x ∷ xs)
      by_test true at rest = rw (at, is x, at) (ap (λ l. cond (p x) (x ∷ l) l) rest)
      by_test false at rest = rw (at, is x, at) rest

  pub filter_all : (xs : List X) → filter (λ _. true) xs ≡ xs
  filter_all [] = refl
  filter_all (x ∷ xs) = ap (λ l. x ∷ l) (filter_all xs)

not_either : (s t : Bool) → not (s || t) ≡ (not t && not s)
not_either true true = refl
not_either true false = refl
not_either false true = refl
not_either false false = refl

module _ {X : Type 0} (same : X → X → Bool) (exact : IsExact same) where
  -- What is among lists that are joined is among one of them.
  pub among : (a b : List X) (x : X) → list_any (same x) (lists_joined same a b) ≡ (list_any (same x) a || list_any (same x) b)
  among a b x = list_any-append (same x) a (filter (is_new same a) b) ∙ by_test (list_any (same x) a) refl
    where
      by_test : (t : Bool) → list_any (same x) a ≡ t → (list_any (same x) a || list_any (same x) (filter (is_new same a) b)) ≡ (list_any (same x) a || list_any (same x) b)
      by_test true is = rw is refl
      by_test false is = ap (λ t. list_any (same x) a || t) (any-filter_same (same x) (is_new same a) true (λ y s. subst (λ z. is_new same a z ≡ true) (exact x y s) (ap not is)) b)

  pub new_to_both : (a b : List X) (x : X) → is_new same (lists_joined same a b) x ≡ (is_new same b x && is_new same a x)
  new_to_both a b x = ap not (among a b x) ∙ not_either (list_any (same x) a) (list_any (same x) b)

  pub lists-monoid : IsMonoid [] (lists_joined same)
  lists-monoid = record {
    assoc = λ a b c.
        append_assoc a (filter (is_new same a) b) (filter (is_new same (lists_joined same a b)) c)
        ∙ ap (λ l. a ++ (filter (is_new same a) b ++ l)) (sym (filter_twice (is_new same a) (is_new same b) (is_new same (lists_joined same a b)) (new_to_both a b) c))
        ∙ ap (λ l. a ++ l) (sym (filter-append (is_new same a) b (filter (is_new same b) c)));
    left = filter_all;
    right = append-nil;
  }
