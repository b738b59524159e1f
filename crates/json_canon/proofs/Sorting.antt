-- Sorting members by their names gives the one list that `in_order` is.
use Rattle.std.proofs.Common.{◌≡◌, ℕ, zero, suc, ◌+◌, List, [], ◌∷◌, get_or, refl, ap, ◌∙◌, sym, subst, arith, false, Ordering, Less, Equal, Greater, inl, inr, ◌⊎◌, IsUtf8, map}
use Rattle.std.specs.List.{AllByRecursion, Contains, IsDistinct}
use Rattle.std.specs.List.Sorted.{IsStrictlySortedBy, IsSortedBy, IsPermutation}
use Rattle.std.specs.Cmp.{IsTotalOrder}
use Rattle.std.specs.Map.{keys_of}
use Rattle.std.specs.Ordering.{is_lt, is_eq, eq_by_cmp, ordering_reverse}
use Rattle.std.proofs.lemmas.Bool.{cond_both, false≢true}
use Rattle.std.proofs.lemmas.Cmp.{nat_list_cmp_total, tied_itself}
use Rattle.std.proofs.lemmas.Map.Keys.{IsDistinct-from_sorted}
use Rattle.std.proofs.lemmas.List.Sorted.{IsPermutation-refl, IsPermutation-sym, IsPermutation-trans, IsPermutation-cons, IsPermutation-middle}
use Rattle.ld_model.specs.Tree.{byte_order}
use Rattle.json_canon.specs.Utf16.{utf16_order, comes_before}
use Rattle.json_canon.specs.Canonical.{placed, in_order}
use Rattle.json_canon.proofs.OrderLemmas.{utf16_order_total, less_from_before, tie_same}

module _ {X : Type 0} where
  abbrev pub AreInOrder : List (List ℕ × X) → Type 0
  AreInOrder ms = IsStrictlySortedBy utf16_order (keys_of ms)

  -- Each name differs from this one.
  abbrev DifferFrom : List ℕ → List (List ℕ × X) → Type 0
  DifferFrom k ms = AllByRecursion (λ n. eq_by_cmp utf16_order k n ≡ false) (keys_of ms)

  IsPermutation-placed : (m : List ℕ × X) (ms : List (List ℕ × X)) → IsPermutation (m ∷ ms) (placed m ms)
  IsPermutation-placed m [] = IsPermutation-refl (m ∷ [])
  IsPermutation-placed m (n ∷ ms) =
      cond_both (comes_before n.0 m.0) _ _ (IsPermutation (m ∷ n ∷ ms)) (λ e. IsPermutation-trans (m ∷ n ∷ ms) (n ∷ m ∷ ms) (n ∷ placed m ms) (IsPermutation-sym _ _ (IsPermutation-middle (n ∷ []) m ms)) (IsPermutation-cons n (m ∷ ms) (placed m ms) (IsPermutation-placed m ms))) (λ e. IsPermutation-refl (m ∷ n ∷ ms))

  pub IsPermutation-in_order : (ms : List (List ℕ × X)) → IsPermutation ms (in_order ms)
  IsPermutation-in_order [] = IsPermutation-refl []
  IsPermutation-in_order (m ∷ ms) =
      IsPermutation-trans (m ∷ ms) (m ∷ in_order ms) (placed m (in_order ms)) (IsPermutation-cons m ms (in_order ms) (IsPermutation-in_order ms)) (IsPermutation-placed m (in_order ms))

  all-placed : (P : List ℕ → Type 0) (m : List ℕ × X) (ms : List (List ℕ × X)) → P m.0 → AllByRecursion P (keys_of ms) → AllByRecursion P (keys_of (placed m ms))
  all-placed P m [] here all = (here, tt)
  all-placed P m (n ∷ ms) here all =
      cond_both (comes_before n.0 m.0) _ _ (λ l. AllByRecursion P (keys_of l)) (λ e. (all.0, all-placed P m ms here all.1)) (λ e. (here, all))

  all-in_order : (P : List ℕ → Type 0) (ms : List (List ℕ × X)) → AllByRecursion P (keys_of ms) → AllByRecursion P (keys_of (in_order ms))
  all-in_order P [] all = tt
  all-in_order P (m ∷ ms) all = all-placed P m (in_order ms) all.0 (all-in_order P ms all.1)

-- Of two names that differ, where the second doesn't come before the first, the first comes before the second.
pub first_before : (a b : List ℕ) → comes_before b a ≡ false → eq_by_cmp utf16_order a b ≡ false → utf16_order a b ≡ Less
first_before a b not_before differ = by_order (utf16_order a b) refl
  where
    by_order : (o : Ordering) → utf16_order a b ≡ o → utf16_order a b ≡ Less
    by_order Less is = is
    by_order Equal is = absurd (false≢true (sym differ ∙ ap is_eq is))
    by_order Greater is = absurd (false≢true (sym not_before ∙ ap is_lt (utf16_order_total.antisymm b a ∙ ap ordering_reverse is)))

-- What comes after the second of two keys comes after the first.
pub later_too : {K : Type 0} {R : K → K → Ordering} (o : IsTotalOrder R) (a b : K) (ks : List K) → R a b ≡ Less → AllByRecursion (λ k. R b k ≡ Less) ks → AllByRecursion (λ k. R a k ≡ Less) ks
later_too o a b [] less all = tt
later_too o a b (k ∷ ks) less all = (o.trans a b k less all.0, later_too o a b ks less all.1)

module _ {X : Type 0} where
  placed_in_order : (m : List ℕ × X) (ms : List (List ℕ × X)) → AreInOrder ms → DifferFrom m.0 ms → AreInOrder (placed m ms)
  unfolding IsStrictlySortedBy
  placed_in_order m [] sorted differ = (tt, tt)
  placed_in_order m (n ∷ ms) sorted differ =
      cond_both (comes_before n.0 m.0) _ _ AreInOrder (λ e. (all-placed (λ k. utf16_order n.0 k ≡ Less) m ms (less_from_before _ e) sorted.0, placed_in_order m ms sorted.1 differ.1)) (λ e. let less = first_before m.0 n.0 e differ.0 in ((less, later_too utf16_order_total m.0 n.0 (keys_of ms) less sorted.0), sorted))

  pub in_order-AreInOrder : (ms : List (List ℕ × X)) → IsDistinct (eq_by_cmp utf16_order) (keys_of ms) → AreInOrder (in_order ms)
  unfolding IsStrictlySortedBy IsDistinct
  in_order-AreInOrder [] distinct = tt
  in_order-AreInOrder (m ∷ ms) distinct =
      placed_in_order m (in_order ms) (in_order-AreInOrder ms distinct.1) (all-in_order _ ms distinct.0)

-- ---- two lists in order with the same members are the same
module _ {K : Type 0} {R : K → K → Ordering} (o : IsTotalOrder R) where
  -- No key comes before another and behind it.
  not_both : (a b : K) → R a b ≡ Less → R b a ≡ Less → ⊥
  not_both a b ab ba =
      let less = o.trans a b a ab ba in
      let tied = tied_itself o a in
      cc

module _ {K X : Type 0} where
  here_or_later : (y : K × X) (ys : List (K × X)) (x : K × X) → Contains (y ∷ ys) x → (y ≡ x) ⊎ Contains ys x
  here_or_later y ys x (zero, within, is) = inl is
  here_or_later y ys x (suc k, within, is) = inr (k, omega arith, is)

  here : (y : K × X) (ys : List (K × X)) → Contains (y ∷ ys) y
  here y ys = (0, omega arith, refl)

  later : (y : K × X) (ys : List (K × X)) (x : K × X) → Contains ys x → Contains (y ∷ ys) x
  later y ys x (k, within, is) = (suc k, omega arith, is)

  at_member : (P : K → Type 0) (ys : List (K × X)) (x : K × X) → AllByRecursion P (keys_of ys) → Contains ys x → P x.0
  at_member P [] x all (k, within, is) = absurd (omega arith)
  at_member P (y ∷ ys) x all in_list =
      elim (here_or_later y ys x in_list) [ inl is ↦ subst (λ (m : K × X). P m.0) is all.0 | inr there ↦ at_member P ys x all.1 there ]

module _ {K X : Type 0} {R : K → K → Ordering} (o : IsTotalOrder R) where
  not_first : (z : K × X) (zs : List (K × X)) (m : K × X) → AllByRecursion (λ k. R z.0 k ≡ Less) (keys_of zs) → Contains zs m → z ≡ m → ⊥
  not_first z zs m all in_list is =
      let less = at_member _ zs m all in_list in
      let same : z.0 ≡ m.0 = ap (λ (n : K × X). n.0) is in
      not_both o z.0 m.0 less (rw same (rw same at less))

  pub same_members : (xs ys : List (K × X)) → IsStrictlySortedBy R (keys_of xs) → IsStrictlySortedBy R (keys_of ys) → ((m : K × X) → Contains xs m → Contains ys m) → ((m : K × X) → Contains ys m → Contains xs m) → xs ≡ ys
  unfolding IsStrictlySortedBy
  same_members [] [] xs_sorted ys_sorted there back = refl
  same_members [] (y ∷ ys) xs_sorted ys_sorted there back = absurd (let k = (back y (here y ys)).1 in omega arith)
  same_members (x ∷ xs) [] xs_sorted ys_sorted there back = absurd (let k = (there x (here x xs)).1 in omega arith)
  same_members (x ∷ xs) (y ∷ ys) xs_sorted ys_sorted there back =
      let head : x ≡ y = elim (here_or_later y ys x (there x (here x xs))) [ inl is ↦ sym is | inr x_later ↦ elim (here_or_later x xs y (back y (here y ys))) [ inl is ↦ is | inr y_later ↦ absurd (not_both o x.0 y.0 (at_member _ xs y xs_sorted.0 y_later) (at_member _ ys x ys_sorted.0 x_later)) ] ] in
      let rest = same_members xs ys xs_sorted.1 ys_sorted.1 (λ m h. elim (here_or_later y ys m (there m (later x xs m h))) [ inl is ↦ absurd (not_first x xs m xs_sorted.0 h (head ∙ is)) | inr m_later ↦ m_later ]) (λ m h. elim (here_or_later x xs m (back m (later y ys m h))) [ inl is ↦ absurd (not_first y ys m ys_sorted.0 h (sym head ∙ is)) | inr m_later ↦ m_later ]) in
      cc

-- ---- what a sort gives
module _ {P : Type 0} (name : P → List ℕ) where
  -- A list that a sort left, whose names differ, is strictly in order.
  pub in_order_from_sorted : (ps : List P) → IsSortedBy (λ x y. comes_before (name x) (name y)) ps → IsDistinct (eq_by_cmp utf16_order) (map name ps) → IsStrictlySortedBy utf16_order (map name ps)
  unfolding IsStrictlySortedBy IsDistinct
  in_order_from_sorted [] sorted distinct = tt
  in_order_from_sorted (p ∷ []) sorted distinct = (tt, tt)
  in_order_from_sorted (p ∷ q ∷ ps) sorted distinct =
      let rest = in_order_from_sorted (q ∷ ps) (λ k d from within. let next : suc k + 1 ≡ suc (k + 1) = omega arith in subst (λ n. comes_before (name (get_or (p ∷ q ∷ ps) n d)) (name (get_or (q ∷ ps) k d)) ≡ false) next (sorted (suc k) d (omega arith) (omega arith))) distinct.1 in
      let less = first_before (name p) (name q) (sorted 0 p (omega arith) (omega arith)) distinct.0.0 in
      ((less, later_too utf16_order_total (name p) (name q) (map name ps) less rest.0), rest)

-- Names that ascend by their bytes differ by their units.
differ_from : (a : List ℕ) (ks : List (List ℕ)) → IsUtf8 a → AllByRecursion IsUtf8 ks → AllByRecursion (λ k. eq_by_cmp byte_order a k ≡ false) ks → AllByRecursion (λ k. eq_by_cmp utf16_order a k ≡ false) ks
differ_from a [] u all differ = tt
differ_from a (k ∷ ks) u all differ = (by_order (utf16_order a k) refl, differ_from a ks u all.1 differ.1)
  where
    by_order : (o : Ordering) → utf16_order a k ≡ o → is_eq (utf16_order a k) ≡ false
    by_order Less is = ap is_eq is
    by_order Equal is = absurd (false≢true (sym differ.0 ∙ ap (λ x. is_eq (byte_order a x)) (sym (tie_same a k u all.0 is)) ∙ ap is_eq (tied_itself nat_list_cmp_total a)))
    by_order Greater is = ap is_eq is

pub distinct_units : (ks : List (List ℕ)) → AllByRecursion IsUtf8 ks → IsDistinct (eq_by_cmp byte_order) ks → IsDistinct (eq_by_cmp utf16_order) ks
unfolding IsDistinct
distinct_units [] all distinct = tt
distinct_units (k ∷ ks) all distinct = (differ_from k ks all.0 all.1 distinct.0, distinct_units ks all.1 distinct.1)

pub in_order_ascends : {X : Type 0} (ms : List (List ℕ × X)) → IsStrictlySortedBy byte_order (keys_of ms) → AllByRecursion IsUtf8 (keys_of ms) → IsStrictlySortedBy utf16_order (keys_of (in_order ms))
in_order_ascends ms sorted texts =
    in_order-AreInOrder ms (distinct_units (keys_of ms) texts (IsDistinct-from_sorted byte_order (keys_of ms) sorted))
