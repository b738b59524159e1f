-- How code comes to a joined list or map: one element or one entry at a time, and through views of keys and values.
use Rattle.std.proofs.Common.{◌≡◌, List, [], ◌∷◌, ◌++◌, Bool, true, false, cond, not, ◌||◌, Some, is_some, refl, sym, ap, ap₂, ◌∙◌, append-nil}
use Rattle.std.specs.Prelude.{filter, option_map, map as each}
use Rattle.std.specs.List.{list_any, AllByRecursion, IsDistinct}
use Rattle.std.specs.Map.{lookup, keys_of, set_value}
use Rattle.std.proofs.lemmas.Map.Keys.{IsDistinct-head, IsDistinct-tail}
use Rattle.std.proofs.lemmas.Map.Made.{is_some-lookup}
use Rattle.sum_model.specs.Joins.{is_new, lists_joined, or_empty, value_at, values_joined, maps_joined}
use Rattle.sum_laws.specs.Laws.{IsMonoid}
use Rattle.sum_laws.proofs.Lists.{IsExact, lists-monoid}
use Rattle.sum_laws.proofs.Maps.{maps-monoid}

neither : (a b : Bool) → (a || b) ≡ false → (a ≡ false) × (b ≡ false)
neither true b is = absurd (cc)
neither false b is = (refl, is)

module _ {X : Type 0} (same : X → X → Bool) where
  -- One element is there, or it goes behind the others.
  pub old_joined : (held : List X) (x : X) → list_any (same x) held ≡ true → lists_joined same held (x ∷ []) ≡ held
  old_joined held x is = ap (λ t. held ++ cond (not t) (x ∷ []) []) is ∙ append-nil held

  pub new_joined : (held : List X) (x : X) → list_any (same x) held ≡ false → lists_joined same held (x ∷ []) ≡ held ++ x ∷ []
  new_joined held x is = ap (λ t. held ++ cond (not t) (x ∷ []) []) is

  none_same : (x : X) (ys : List X) → AllByRecursion (λ y. same x y ≡ false) ys → list_any (same x) ys ≡ false
  none_same x [] differ = refl
  none_same x (y ∷ ys) differ = ap₂ ◌||◌ differ.0 (none_same x ys differ.1)

module _ {X : Type 0} (same : X → X → Bool) (turn : (x y : X) → same x y ≡ same y x) where
  all_new : (x : X) (ys : List X) → list_any (same x) ys ≡ false → filter (is_new same (x ∷ [])) ys ≡ ys
  all_new x [] is = refl
  all_new x (y ∷ ys) is =
      let parts = neither (same x y) (list_any (same x) ys) is in
      ap (λ t. cond (not (t || false)) (y ∷ filter (is_new same (x ∷ [])) ys) (filter (is_new same (x ∷ [])) ys)) (turn y x ∙ parts.0)
      ∙ ap (λ l. y ∷ l) (all_new x ys parts.1)

  -- A list whose first element differs from the rest is joined by its first, and then by the rest.
  pub next_joined : IsExact same → (a : List X) (x : X) (xs : List X) → list_any (same x) xs ≡ false → lists_joined same (lists_joined same a (x ∷ [])) xs ≡ lists_joined same a (x ∷ xs)
  next_joined exact a x xs is = (lists-monoid same exact).assoc a (x ∷ []) xs ∙ ap (λ l. lists_joined same a (x ∷ l)) (all_new x xs is)

module _ {K V : Type 0} (same : K → K → Bool) (exact : IsExact same) (turn : (x y : K) → same x y ≡ same y x) (empty : V) (join : V → V → V) (laws : IsMonoid empty join) where
  untouched : (k : K) (w : V) (m : List (K × V)) → list_any (same k) (keys_of m) ≡ false → values_joined same empty join m ((k, w) ∷ []) ≡ m
  untouched k w [] is = refl
  untouched k w (e ∷ es) is =
      let parts = neither (same k e.0) (list_any (same k) (keys_of es)) is in
      let apart : same e.0 k ≡ false = turn e.0 k ∙ parts.0 in
      rw apart (ap₂ (λ v l. (e.0, v) ∷ l) (laws.right e.1) (untouched k w es parts.1))

  -- An entry whose key isn't there goes behind the others.
  pub absent_joined : (k : K) (w : V) (m : List (K × V)) → list_any (same k) (keys_of m) ≡ false → maps_joined same empty join m ((k, w) ∷ []) ≡ m ++ (k, w) ∷ []
  absent_joined k w m is =
      ap₂ (λ l t. l ++ cond (not t) ((k, w) ∷ []) []) (untouched k w m is) is

  touched : (k : K) (v w : V) (m : List (K × V)) → IsDistinct same (keys_of m) → lookup (same k) m ≡ Some v → values_joined same empty join m ((k, w) ∷ []) ≡ set_value (same k) m (join v w)
  touched k v w [] distinct is = absurd (cc)
  touched k v w (e ∷ es) distinct is = by_test (same k e.0) refl is (touched k v w es (IsDistinct-tail same e.0 (keys_of es) distinct))
    where
      by_test : (t : Bool) → same k e.0 ≡ t → lookup (same k) (e ∷ es) ≡ Some v → (lookup (same k) es ≡ Some v → values_joined same empty join es ((k, w) ∷ []) ≡ set_value (same k) es (join v w)) → values_joined same empty join (e ∷ es) ((k, w) ∷ []) ≡ set_value (same k) (e ∷ es) (join v w)
      by_test true at is rest =
          let found : Some e.1 ≡ Some v = rw at at is in
          let value : e.1 ≡ v = cc in
          let back : same e.0 k ≡ true = turn e.0 k ∙ at in
          let others : list_any (same k) (keys_of es) ≡ false = ap (λ x. list_any (same x) (keys_of es)) (exact k e.0 at) ∙ none_same same e.0 (keys_of es) (IsDistinct-head same e.0 (keys_of es) distinct) in
          rw (at, back) (ap₂ (λ u l. (e.0, join u w) ∷ l) value (untouched k w es others))
      by_test false at is rest =
          let apart : same e.0 k ≡ false = turn e.0 k ∙ at in
          rw (at, apart) (ap₂ (λ u l. (e.0, u) ∷ l) (laws.right e.1) (rest (rw at at is)))

  -- An entry whose key is there changes the value.
  pub present_joined : (k : K) (v w : V) (m : List (K × V)) → IsDistinct same (keys_of m) → lookup (same k) m ≡ Some v → maps_joined same empty join m ((k, w) ∷ []) ≡ set_value (same k) m (join v w)
  present_joined k v w m distinct is =
      let there : list_any (same k) (keys_of m) ≡ true = sym (is_some-lookup (same k) m) ∙ ap is_some is in
      ap₂ (λ l t. l ++ cond (not t) ((k, w) ∷ []) []) (touched k v w m distinct is) there
      ∙ append-nil (set_value (same k) m (join v w))

  all_keys_new : (k : K) (m : List (K × V)) → list_any (same k) (keys_of m) ≡ false → filter (λ e. is_new same (k ∷ []) e.0) m ≡ m
  all_keys_new k [] is = refl
  all_keys_new k (e ∷ es) is =
      let parts = neither (same k e.0) (list_any (same k) (keys_of es)) is in
      let apart : same e.0 k ≡ false = turn e.0 k ∙ parts.0 in
      rw apart (ap (λ l. e ∷ l) (all_keys_new k es parts.1))

  nothing_at : (k : K) (m : List (K × V)) → list_any (same k) (keys_of m) ≡ false → value_at same empty k m ≡ empty
  nothing_at k [] is = refl
  nothing_at k (e ∷ es) is =
      let parts = neither (same k e.0) (list_any (same k) (keys_of es)) is in
      ap (λ t. or_empty empty (cond t (Some e.1) (lookup (same k) es))) parts.0 ∙ nothing_at k es parts.1

  -- A map whose first key differs from the rest is joined by its first entry, and then by the rest.
  pub next_entry_joined : (a : List (K × V)) (e : K × V) (es : List (K × V)) → list_any (same e.0) (keys_of es) ≡ false → maps_joined same empty join (maps_joined same empty join a (e ∷ [])) es ≡ maps_joined same empty join a (e ∷ es)
  next_entry_joined a e es is =
      (maps-monoid same exact empty join laws).assoc a (e ∷ []) es
      ∙ ap (maps_joined same empty join a) (ap₂ (λ v l. (e.0, v) ∷ l) (ap (join e.1) (nothing_at e.0 es is) ∙ laws.right e.1) (all_keys_new e.0 es is))

-- Entries as they are seen through a view of keys and one of values, where a test of keys is the test of what they are seen as.
module _ {K V L W : Type 0} (key : K → L) (value : V → W) (eq : K → K → Bool) (same : L → L → Bool) (alike : (x y : K) → eq x y ≡ same (key x) (key y)) where
  abbrev pub seen : List (K × V) → List (L × W)
  seen m = each (λ e. (key e.0, value e.1)) m

  pub set_value-seen : (k : K) (w : V) (m : List (K × V)) → seen (set_value (eq k) m w) ≡ set_value (same (key k)) (seen m) (value w)
  set_value-seen k w [] = refl
  set_value-seen k w (e ∷ es) = by_test (eq k e.0) refl (set_value-seen k w es)
    where
      by_test : (t : Bool) → eq k e.0 ≡ t → seen (set_value (eq k) es w) ≡ set_value (same (key k)) (seen es) (value w) → seen (set_value (eq k) (e ∷ es) w) ≡ set_value (same (key k)) (seen (e ∷ es)) (value w)
      by_test true at rest = let there : same (key k) (key e.0) ≡ true = sym (alike k e.0) ∙ at in rw (at, there) refl
      by_test false at rest = let there : same (key k) (key e.0) ≡ false = sym (alike k e.0) ∙ at in rw (at, there) (ap (λ l. (key e.0, value e.1) ∷ l) rest)

  pub lookup-seen : (k : K) (m : List (K × V)) → lookup (same (key k)) (seen m) ≡ option_map value (lookup (eq k) m)
  lookup-seen k [] = refl
  lookup-seen k (e ∷ es) = ap (λ t. cond t (Some (value e.1)) (lookup (same (key k)) (seen es))) (sym (alike k e.0)) ∙ by_test (eq k e.0) (lookup-seen k es)
    where
      by_test : (t : Bool) → lookup (same (key k)) (seen es) ≡ option_map value (lookup (eq k) es) → cond t (Some (value e.1)) (lookup (same (key k)) (seen es)) ≡ option_map value (cond t (Some e.1) (lookup (eq k) es))
      by_test true rest = refl
      by_test false rest = rest

  pub any-seen : (k : K) (m : List (K × V)) → list_any (same (key k)) (keys_of (seen m)) ≡ list_any (eq k) (keys_of m)
  any-seen k [] = refl
  any-seen k (e ∷ es) = ap₂ ◌||◌ (sym (alike k e.0)) (any-seen k es)

  all_differ-seen : (k : K) (m : List (K × V)) → AllByRecursion (λ y. eq k y ≡ false) (keys_of m) → AllByRecursion (λ y. same (key k) y ≡ false) (keys_of (seen m))
  all_differ-seen k [] differ = tt
  all_differ-seen k (e ∷ es) differ = (sym (alike k e.0) ∙ differ.0, all_differ-seen k es differ.1)

  pub distinct-seen : (m : List (K × V)) → IsDistinct eq (keys_of m) → IsDistinct same (keys_of (seen m))
  unfolding IsDistinct
  distinct-seen [] distinct = tt
  distinct-seen (e ∷ es) distinct = (all_differ-seen e.0 es distinct.0, distinct-seen es distinct.1)
