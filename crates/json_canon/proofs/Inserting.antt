-- Members that are put in one after another, by the bytes of their keys.
use Rattle.std.proofs.Common.{◌≡◌, ℕ, List, [], ◌∷◌, ◌++◌, refl, ap, ◌∙◌, sym, subst, false, Ordering, Less, Equal, Greater, append-nil}
use Rattle.std.specs.Prelude.{⊤}
use Rattle.std.specs.List.{AllByRecursion, IsDistinct}
use Rattle.std.specs.List.Sorted.{IsPermutation, IsStrictlySortedBy}
use Rattle.std.specs.Map.{keys_of}
use Rattle.std.specs.BTreeMap.{insert_entry}
use Rattle.std.specs.Ordering.{is_eq, eq_by_cmp, match_ordering, ordering_reverse}
use Rattle.std.proofs.lemmas.Bool.{false≢true}
use Rattle.std.proofs.lemmas.Cmp.{nat_list_cmp_total, eq_by_cmp_equiv}
use Rattle.std.proofs.lemmas.Map.Keys.{IsDistinct-from_sorted, IsDistinct-IsPermutation}
use Rattle.std.proofs.lemmas.List.Sorted.{IsPermutation-refl, IsPermutation-sym, IsPermutation-trans, IsPermutation-cons, IsPermutation-middle, IsPermutation-append_right, IsPermutation-map, Contains-permutation}
use Rattle.ld_model.specs.Tree.{byte_order}
use Rattle.json_canon.specs.Canonical.{in_order}
use Rattle.json_canon.proofs.Sorting.{IsPermutation-in_order, later_too, same_members}

abbrev differs : List ℕ → List ℕ → Type 0
differs k n = eq_by_cmp byte_order k n ≡ false

all_trivial : (ks : List (List ℕ)) → AllByRecursion (λ k. AllByRecursion (differs k) []) ks
all_trivial [] = tt
all_trivial (k ∷ ks) = (tt, all_trivial ks)

module _ {X : Type 0} where
  -- The members put in one after another.
  abbrev pub all_put : List (List ℕ × X) → List (List ℕ × X) → List (List ℕ × X)
  all_put [] found = found
  all_put (r ∷ rs) found = all_put rs (insert_entry byte_order found r.0 r.1)

  -- By how a key stands to the first one.
  by_order : (P : List (List ℕ × X) → Type 0) (k : List ℕ) (v : X) (e : List ℕ × X) (es : List (List ℕ × X)) → differs k e.0 → (byte_order k e.0 ≡ Less → P ((k, v) ∷ e ∷ es)) → (byte_order k e.0 ≡ Greater → P (e ∷ insert_entry byte_order es k v)) → P (insert_entry byte_order (e ∷ es) k v)
  by_order P k v e es differ less more = go (byte_order k e.0) refl
    where
      go : (o : Ordering) → byte_order k e.0 ≡ o → P (match_ordering (byte_order k e.0) ((k, v) ∷ e ∷ es) ((e.0, v) ∷ es) (e ∷ insert_entry byte_order es k v))
      go Less is = rw is (less is)
      go Equal is = absurd (false≢true (sym differ ∙ ap is_eq is))
      go Greater is = rw is (more is)

  all-inserted : (P : List ℕ → Type 0) (k : List ℕ) (v : X) (es : List (List ℕ × X)) → AllByRecursion (differs k) (keys_of es) → P k → AllByRecursion P (keys_of es) → AllByRecursion P (keys_of (insert_entry byte_order es k v))
  all-inserted P k v [] differ here all = (here, tt)
  all-inserted P k v (e ∷ es) differ here all =
      by_order (λ l. AllByRecursion P (keys_of l)) k v e es differ.0 (λ is. (here, all)) (λ is. (all.0, all-inserted P k v es differ.1 here all.1))

  IsPermutation-inserted : (k : List ℕ) (v : X) (es : List (List ℕ × X)) → AllByRecursion (differs k) (keys_of es) → IsPermutation ((k, v) ∷ es) (insert_entry byte_order es k v)
  IsPermutation-inserted k v [] differ = IsPermutation-refl ((k, v) ∷ [])
  IsPermutation-inserted k v (e ∷ es) differ =
      by_order (IsPermutation ((k, v) ∷ e ∷ es)) k v e es differ.0 (λ is. IsPermutation-refl ((k, v) ∷ e ∷ es)) (λ is. IsPermutation-trans ((k, v) ∷ e ∷ es) (e ∷ (k, v) ∷ es) (e ∷ insert_entry byte_order es k v) (IsPermutation-sym _ _ (IsPermutation-middle (e ∷ []) (k, v) es)) (IsPermutation-cons e ((k, v) ∷ es) (insert_entry byte_order es k v) (IsPermutation-inserted k v es differ.1)))

  inserted_ascends : (k : List ℕ) (v : X) (es : List (List ℕ × X)) → AllByRecursion (differs k) (keys_of es) → IsStrictlySortedBy byte_order (keys_of es) → IsStrictlySortedBy byte_order (keys_of (insert_entry byte_order es k v))
  unfolding IsStrictlySortedBy
  inserted_ascends k v [] differ sorted = (tt, tt)
  inserted_ascends k v (e ∷ es) differ sorted =
      by_order (λ l. IsStrictlySortedBy byte_order (keys_of l)) k v e es differ.0 (λ is. ((is, later_too nat_list_cmp_total k e.0 (keys_of es) is sorted.0), sorted)) (λ is. (all-inserted (λ n. byte_order e.0 n ≡ Less) k v es differ.1 (nat_list_cmp_total.antisymm e.0 k ∙ ap ordering_reverse is) sorted.0, inserted_ascends k v es differ.1 sorted.1))

  -- Each of these keys differs from those found, and from those ahead of it.
  abbrev Apart : List (List ℕ × X) → List (List ℕ × X) → Type 0
  Apart [] found = ⊤
  Apart (r ∷ rs) found = AllByRecursion (differs r.0) (keys_of found) × Apart rs (insert_entry byte_order found r.0 r.1)

  all_put_ascends : (rs found : List (List ℕ × X)) → Apart rs found → IsStrictlySortedBy byte_order (keys_of found) → IsStrictlySortedBy byte_order (keys_of (all_put rs found))
  all_put_ascends [] found apart sorted = sorted
  all_put_ascends (r ∷ rs) found apart sorted =
      all_put_ascends rs (insert_entry byte_order found r.0 r.1) apart.1 (inserted_ascends r.0 r.1 found apart.0 sorted)

  all_put_moves : (rs found : List (List ℕ × X)) → Apart rs found → IsPermutation (rs ++ found) (all_put rs found)
  all_put_moves [] found apart = IsPermutation-refl found
  all_put_moves (r ∷ rs) found apart =
      IsPermutation-trans (r ∷ (rs ++ found)) (rs ++ insert_entry byte_order found r.0 r.1) (all_put (r ∷ rs) found)
      (IsPermutation-trans (r ∷ (rs ++ found)) (rs ++ r ∷ found) (rs ++ insert_entry byte_order found r.0 r.1) (IsPermutation-sym _ _ (IsPermutation-middle rs r found)) (IsPermutation-append_right rs (r ∷ found) (insert_entry byte_order found r.0 r.1) (IsPermutation-inserted r.0 r.1 found apart.0)))
      (all_put_moves rs (insert_entry byte_order found r.0 r.1) apart.1)

  -- Keys that differ are apart.
  differ_too : (found : List (List ℕ × X)) (r : List ℕ × X) (ks : List (List ℕ)) → AllByRecursion (differs r.0) (keys_of found) → AllByRecursion (differs r.0) ks → AllByRecursion (λ k. AllByRecursion (differs k) (keys_of found)) ks → AllByRecursion (λ k. AllByRecursion (differs k) (keys_of (insert_entry byte_order found r.0 r.1))) ks
  differ_too found r [] differ all each = tt
  differ_too found r (k ∷ ks) differ all each =
      (all-inserted (differs k) r.0 r.1 found differ ((eq_by_cmp_equiv nat_list_cmp_total).symm k r.0 ∙ all.0) each.0, differ_too found r ks differ all.1 each.1)

  apart_from_distinct : (rs found : List (List ℕ × X)) → IsDistinct (eq_by_cmp byte_order) (keys_of rs) → AllByRecursion (λ k. AllByRecursion (differs k) (keys_of found)) (keys_of rs) → Apart rs found
  unfolding IsDistinct
  apart_from_distinct [] found distinct each = tt
  apart_from_distinct (r ∷ rs) found distinct each =
      (each.0, apart_from_distinct rs (insert_entry byte_order found r.0 r.1) distinct.1 (differ_too found r (keys_of rs) each.0 distinct.0 each.1))

  -- Put in by their bytes, members in the order of their units stand as they stood before.
  pub all_put-in_order : (ms : List (List ℕ × X)) → IsStrictlySortedBy byte_order (keys_of ms) → all_put (in_order ms) [] ≡ ms
  unfolding IsStrictlySortedBy
  all_put-in_order ms sorted =
      let moved = IsPermutation-in_order ms in
      let distinct = IsDistinct-IsPermutation _ (eq_by_cmp_equiv nat_list_cmp_total).symm (keys_of ms) (keys_of (in_order ms)) (IsPermutation-map (λ (m : List ℕ × X). m.0) ms (in_order ms) moved) (IsDistinct-from_sorted byte_order (keys_of ms) sorted) in
      let apart = apart_from_distinct (in_order ms) [] distinct (all_trivial (keys_of (in_order ms))) in
      let put_moves = subst (λ l. IsPermutation l (all_put (in_order ms) [])) (append-nil (in_order ms)) (all_put_moves (in_order ms) [] apart) in
      let whole = IsPermutation-trans ms (in_order ms) (all_put (in_order ms) []) moved put_moves in
      same_members nat_list_cmp_total (all_put (in_order ms) []) ms (all_put_ascends (in_order ms) [] apart tt) sorted (λ m h. Contains-permutation _ _ m (IsPermutation-sym _ _ whole) h) (λ m h. Contains-permutation _ _ m whole h)
