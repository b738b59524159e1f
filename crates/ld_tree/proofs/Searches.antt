-- Where a key stands among keys in order.
use Rattle.std.proofs.Common.{◌≡◌, ◌≤◌, ◌<◌, ℕ, zero, suc, List, [], ◌∷◌, length, arith, Result, Ok, Err, Ordering, Less, Equal, Greater, refl, sym, ap, ◌∙◌, subst, slice_index_or}
use Rattle.std.specs.Ordering.{ordering_index, ordering_reverse, match_ordering}
use Rattle.std.specs.List.{AllByRecursion, AllWithin}
use Rattle.std.specs.List.Sorted.{IsStrictlySortedBy, IsNonDecreasingBy, IsBinarySearchResult, IsSearchInRange}
use Rattle.std.specs.Map.{keys_of}
use Rattle.std.proofs.lemmas.Cmp.{nat_list_cmp_total}
use Rattle.std.proofs.lemmas.Map.Lookups.{exact_bytes}
use Rattle.std_collections.specs.Layout.BTreeMap.{seek, one_further}
use Rattle.ld_model.specs.Tree.{byte_order}

pub flipped : (a b : List ℕ) (o : Ordering) → byte_order a b ≡ o → byte_order b a ≡ ordering_reverse o
flipped a b o is = nat_list_cmp_total.antisymm b a ∙ ap ordering_reverse is

rises_by : (a b k : List ℕ) (o : Ordering) → byte_order a b ≡ Less → byte_order b k ≡ o → ordering_index (byte_order a k) ≤ ordering_index (byte_order b k)
rises_by a b k Less first is = rw (is, nat_list_cmp_total.trans a b k first is) (omega arith)
rises_by a b k Equal first is = rw (is, subst (λ x. byte_order a x ≡ Less) (exact_bytes b k is) first) (omega arith)
rises_by a b k Greater first is = rw is (at_most_two (byte_order a k))
  where
    at_most_two : (o : Ordering) → ordering_index o ≤ ordering_index Greater
    at_most_two Less = omega arith
    at_most_two Equal = omega arith
    at_most_two Greater = omega arith

module _ {X : Type 0} where
  step : (k : List ℕ) (e : List ℕ × X) (es : List (List ℕ × X)) (o : Ordering) → byte_order k e.0 ≡ o → seek (byte_order k) (e ∷ es) ≡ match_ordering o (Err 0) (Ok 0) (one_further (seek (byte_order k) es))
  step k e es o is = ap (λ o. match_ordering o (Err 0) (Ok 0) (one_further (seek (byte_order k) es))) is

  -- a key above all others belongs behind them
  pub seek-past : (k : List ℕ) (es : List (List ℕ × X)) → AllByRecursion (λ x. byte_order x k ≡ Less) (keys_of es) → seek (byte_order k) es ≡ Err (length es)
  seek-past k [] below = refl
  seek-past k (e ∷ es) below = step k e es Greater (flipped e.0 k Less below.0) ∙ ap one_further (seek-past k es below.1)

  all_at : (P : List ℕ → Type 0) (es : List (List ℕ × X)) (j : ℕ) (d : List ℕ × X) → AllByRecursion P (keys_of es) → j < length es → P (slice_index_or es j d).0
  all_at P [] j d all within = absurd (omega arith)
  all_at P (e ∷ es) zero d all within = all.0
  all_at P (e ∷ es) (suc j) d all within = all_at P es j d all.1 (omega arith)

  rises : (k : List ℕ) (es : List (List ℕ × X)) → IsStrictlySortedBy byte_order (keys_of es) → IsNonDecreasingBy (λ e. ordering_index (byte_order e.0 k)) es
  unfolding IsStrictlySortedBy
  rises k [] sorted i j d le within = absurd (omega arith)
  rises k (e ∷ es) sorted zero zero d le within = omega arith
  rises k (e ∷ es) sorted zero (suc j) d le within =
      rises_by e.0 (slice_index_or es j d).0 k _ (all_at (λ x. byte_order e.0 x ≡ Less) es j d sorted.0 (omega arith)) refl
  rises k (e ∷ es) sorted (suc i) zero d le within = absurd (omega arith)
  rises k (e ∷ es) sorted (suc i) (suc j) d le within = rises k es sorted.1 i j d (omega arith) (omega arith)

  gap : (k : List ℕ) (es : List (List ℕ × X)) (i : ℕ) → i ≤ length es → AllWithin (λ e. byte_order e.0 k ≡ Less) es 0 i → AllWithin (λ e. byte_order e.0 k ≡ Greater) es i (length es) → seek (byte_order k) es ≡ Err i
  gap k [] zero within front back = refl
  gap k [] (suc i) within front back = absurd (omega arith)
  gap k (e ∷ es) zero within front back = step k e es Less (flipped e.0 k Greater (back 0 e (omega arith) (omega arith)))
  gap k (e ∷ es) (suc i) within front back =
      step k e es Greater (flipped e.0 k Less (front 0 e (omega arith) (omega arith)))
      ∙ ap one_further (gap k es i (omega arith) (λ j d l h. front (suc j) d (omega arith) (omega arith)) (λ j d l h. back (suc j) d (omega arith) (omega arith)))

  hit : (k : List ℕ) (es : List (List ℕ × X)) (i : ℕ) (d : List ℕ × X) → IsStrictlySortedBy byte_order (keys_of es) → i < length es → byte_order (slice_index_or es i d).0 k ≡ Equal → seek (byte_order k) es ≡ Ok i
  unfolding IsStrictlySortedBy
  hit k [] i d sorted within same = absurd (omega arith)
  hit k (e ∷ es) zero d sorted within same = step k e es Equal (flipped e.0 k Equal same)
  hit k (e ∷ es) (suc i) d sorted within same =
      let below : byte_order e.0 k ≡ Less = subst (λ x. byte_order e.0 x ≡ Less) (exact_bytes _ k same) (all_at (λ x. byte_order e.0 x ≡ Less) es i d sorted.0 (omega arith)) in
      step k e es Greater (flipped e.0 k Less below) ∙ ap one_further (hit k es i d sorted.1 (omega arith) same)

  -- a binary search finds the place
  pub seek-search : (k : List ℕ) (es : List (List ℕ × X)) (d : List ℕ × X) (r : Result ℕ ℕ) → IsStrictlySortedBy byte_order (keys_of es) → IsSearchInRange r (length es) → IsBinarySearchResult (λ e. byte_order e.0 k) es r → r ≡ seek (byte_order k) es
  seek-search k es d (Ok i) sorted within found = sym (hit k es i d sorted within (found d))
  seek-search k es d (Err i) sorted within found = let split = found (rises k es sorted) in sym (gap k es i within split.0 split.1)
