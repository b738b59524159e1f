-- Maps in the order of first use, joined.
use Rattle.std.proofs.Common.{◌≡◌, List, [], ◌∷◌, ◌++◌, Bool, true, false, cond, not, Option, Some, None, is_some, refl, sym, ap, ap₂, ◌∙◌, subst, append-nil, append_assoc}
use Rattle.std.proofs.lemmas.List.{map-append}
use Rattle.std.specs.Prelude.{filter, option_map}
use Rattle.std.specs.Option.{option_or}
use Rattle.std.specs.Map.{lookup, keys_of}
use Rattle.std.proofs.lemmas.List.Elements.{filter-append}
use Rattle.std.proofs.lemmas.Map.Entries.{lookup-filter-keys}
use Rattle.std.proofs.lemmas.Map.Made.{is_some-lookup}
use Rattle.sum_model.specs.Joins.{is_new, lists_joined, or_empty, value_at, values_joined, maps_joined}
use Rattle.sum_laws.specs.Laws.{IsMonoid}
use Rattle.sum_laws.proofs.Lists.{IsExact, filter_twice, filter_all, new_to_both}

module _ {K V : Type 0} where
  pub keys-filter : (p : K → Bool) (m : List (K × V)) → keys_of (filter (λ e. p e.0) m) ≡ filter p (keys_of m)
  keys-filter p [] = refl
  keys-filter p (e ∷ es) = by_test (p e.0) (keys-filter p es)
    where
      by_test : (t : Bool) → keys_of (filter (λ e. p e.0) es) ≡ filter p (keys_of es) → keys_of (cond t (e ∷ filter (λ e. p e.0) es) (filter (λ e. p e.0) es)) ≡ cond t (e.0 ∷ filter p (keys_of es)) (filter p (keys_of es))
      by_test true rest = ap (λ l. e.0 ∷ l) rest
      by_test false rest = rest

  lookup-append : (test : K → Bool) (a b : List (K × V)) → lookup test (a ++ b) ≡ option_or (lookup test a) (lookup test b)
  lookup-append test [] b = refl
  lookup-append test (e ∷ es) b = by_test (test e.0) (lookup-append test es b)
    where
      by_test : (t : Bool) → lookup test (es ++ b) ≡ option_or (lookup test es) (lookup test b) → cond t (Some e.1) (lookup test (es ++ b)) ≡ option_or (cond t (Some e.1) (lookup test es)) (lookup test b)
      by_test true rest = refl
      by_test false rest = rest

module _ {K V : Type 0} (same : K → K → Bool) (empty : V) (join : V → V → V) where
  -- Keys stay where values are joined, and come to be joined as lists.
  keys-values_joined : (a b : List (K × V)) → keys_of (values_joined same empty join a b) ≡ keys_of a
  keys-values_joined [] b = refl
  keys-values_joined (e ∷ es) b = ap (λ l. e.0 ∷ l) (keys-values_joined es b)

  pub keys-joined : (a b : List (K × V)) → keys_of (maps_joined same empty join a b) ≡ lists_joined same (keys_of a) (keys_of b)
  keys-joined a b =
      map-append (λ e. e.0) (values_joined same empty join a b) (filter (λ e. is_new same (keys_of a) e.0) b)
      ∙ ap₂ ◌++◌ (keys-values_joined a b) (keys-filter (is_new same (keys_of a)) b)

  -- A filter by keys, before or after values are joined.
  pub values_joined-filter : (p : K → Bool) (a b : List (K × V)) → values_joined same empty join (filter (λ e. p e.0) a) b ≡ filter (λ e. p e.0) (values_joined same empty join a b)
  values_joined-filter p [] b = refl
  values_joined-filter p (e ∷ es) b = by_test (p e.0) (values_joined-filter p es b)
    where
      by_test : (t : Bool) → values_joined same empty join (filter (λ e. p e.0) es) b ≡ filter (λ e. p e.0) (values_joined same empty join es b) → values_joined same empty join (cond t (e ∷ filter (λ e. p e.0) es) (filter (λ e. p e.0) es)) b ≡ cond t ((e.0, join e.1 (value_at same empty e.0 b)) ∷ filter (λ e. p e.0) (values_joined same empty join es b)) (filter (λ e. p e.0) (values_joined same empty join es b))
      by_test true rest = ap (λ l. (e.0, join e.1 (value_at same empty e.0 b)) ∷ l) rest
      by_test false rest = rest

module _ {K V : Type 0} (same : K → K → Bool) (exact : IsExact same) (empty : V) (join : V → V → V) (laws : IsMonoid empty join) where
  lookup-values_joined : (k : K) (a b : List (K × V)) → lookup (same k) (values_joined same empty join a b) ≡ option_map (λ v. join v (value_at same empty k b)) (lookup (same k) a)
  lookup-values_joined k [] b = refl
  lookup-values_joined k (e ∷ es) b = by_test (same k e.0) refl (lookup-values_joined k es b)
    where
      by_test : (t : Bool) → same k e.0 ≡ t → lookup (same k) (values_joined same empty join es b) ≡ option_map (λ v. join v (value_at same empty k b)) (lookup (same k) es) → lookup (same k) (values_joined same empty join (e ∷ es) b) ≡ option_map (λ v. join v (value_at same empty k b)) (lookup (same k) (e ∷ es))
      by_test true is rest = rw is (ap (λ x. Some (join e.1 (value_at same empty x b))) (sym (exact k e.0 is)))
      by_test false is rest = rw is rest

  -- At each key a joined map has the join of what the two have there.
  pub at-joined : (k : K) (a b : List (K × V)) → value_at same empty k (maps_joined same empty join a b) ≡ join (value_at same empty k a) (value_at same empty k b)
  at-joined k a b =
      ap (or_empty empty) (lookup-append (same k) (values_joined same empty join a b) rest ∙ ap (λ o. option_or o (lookup (same k) rest)) (lookup-values_joined k a b))
      ∙ by_case (lookup (same k) a) refl
    where
      rest : List (K × V)
      rest = filter (λ e. is_new same (keys_of a) e.0) b

      by_case : (o : Option V) → lookup (same k) a ≡ o → or_empty empty (option_or (option_map (λ v. join v (value_at same empty k b)) o) (lookup (same k) (filter (λ e. is_new same (keys_of a) e.0) b))) ≡ join (or_empty empty o) (value_at same empty k b)
      by_case (Some v) is = refl
      by_case None is =
          let new : is_new same (keys_of a) k ≡ true = ap not (sym (is_some-lookup (same k) a) ∙ ap is_some is) in
          ap (or_empty empty) (lookup-filter-keys (same k) (is_new same (keys_of a)) true (λ x s. subst (λ y. is_new same (keys_of a) y ≡ true) (exact k x s) new) b)
          ∙ sym (laws.left (value_at same empty k b))

  joined_twice : (a b c : List (K × V)) → values_joined same empty join (values_joined same empty join a b) c ≡ values_joined same empty join a (maps_joined same empty join b c)
  joined_twice [] b c = refl
  joined_twice (e ∷ es) b c =
      ap₂ (λ v l. (e.0, v) ∷ l)
      (laws.assoc e.1 (value_at same empty e.0 b) (value_at same empty e.0 c) ∙ ap (join e.1) (sym (at-joined e.0 b c)))
      (joined_twice es b c)

  joined_to_none : (a : List (K × V)) → values_joined same empty join a [] ≡ a
  joined_to_none [] = refl
  joined_to_none (e ∷ es) = ap₂ (λ v l. (e.0, v) ∷ l) (laws.right e.1) (joined_to_none es)

  -- The values of two maps that are joined, with a third.
  joined_values : (a b c : List (K × V)) → values_joined same empty join (maps_joined same empty join a b) c ≡ values_joined same empty join a (maps_joined same empty join b c) ++ filter (λ e. is_new same (keys_of a) e.0) (values_joined same empty join b c)
  joined_values a b c =
      map-append (λ e. (e.0, join e.1 (value_at same empty e.0 c))) (values_joined same empty join a b) (filter (λ e. is_new same (keys_of a) e.0) b)
      ∙ ap₂ ◌++◌ (joined_twice a b c) (values_joined-filter same empty join (is_new same (keys_of a)) b c)

  new_keys : (a b c : List (K × V)) → filter (λ e. is_new same (keys_of (maps_joined same empty join a b)) e.0) c ≡ filter (λ e. is_new same (keys_of a) e.0) (filter (λ e. is_new same (keys_of b) e.0) c)
  new_keys a b c =
      ap (λ ks. filter (λ e. is_new same ks e.0) c) (keys-joined same empty join a b)
      ∙ sym (filter_twice (λ e. is_new same (keys_of a) e.0) (λ e. is_new same (keys_of b) e.0) (λ e. is_new same (lists_joined same (keys_of a) (keys_of b)) e.0) (λ e. new_to_both same exact (keys_of a) (keys_of b) e.0) c)

  pub maps-monoid : IsMonoid [] (maps_joined same empty join)
  maps-monoid = record {
    assoc = λ a b c.
        ap₂ ◌++◌ (joined_values a b c) (new_keys a b c)
        ∙ append_assoc (values_joined same empty join a (maps_joined same empty join b c)) (filter (λ e. is_new same (keys_of a) e.0) (values_joined same empty join b c)) (filter (λ e. is_new same (keys_of a) e.0) (filter (λ e. is_new same (keys_of b) e.0) c))
        ∙ ap (λ l. values_joined same empty join a (maps_joined same empty join b c) ++ l) (sym (filter-append (λ e. is_new same (keys_of a) e.0) (values_joined same empty join b c) (filter (λ e. is_new same (keys_of b) e.0) c)));
    left = filter_all;
    right = λ a. append-nil (values_joined same empty join a []) ∙ joined_to_none a;
  }
