-- Labels that are issued in the order of first use: each step of generation that may issue one, beside the names.
use Rattle.std.proofs.Common.{◌≡◌, ℕ, suc, ◌+◌, arith, List, [], ◌∷◌, ◌++◌, length, cond, Bool, true, false, ◌||◌, Some, None, Ordering, Less, Equal, Greater, refl, sym, ap, ◌∙◌, subst}
use Rattle.std.specs.Str.{bytes_eq}
use Rattle.std.specs.Ordering.{is_eq}
use Rattle.std.specs.List.{list_any}
use Rattle.std.proofs.lemmas.Cmp.{nat_list_cmp_total}
use Rattle.std.proofs.lemmas.List.{length-append}
use Rattle.std.proofs.lemmas.Map.Lookups.{exact_bytes}
use Rattle.std.proofs.lemmas.Map.Text.{is_eq-slice_cmp}
use Rattle.ld_model.specs.Tree.{byte_order}
use Rattle.ld_model.specs.Label.{is_blank, label_of}
use Rattle.ld_model.proofs.Puts.{bytes_eq-exact, bytes_eq-sym, flipped}
use Rattle.node_model.specs.Maps.{MapOf, at, with_at}
use Rattle.node_model.specs.Labels.{new_label, label_for, named}
use Rattle.node_laws.proofs.Maps.{at-with_at, at-with_at_other}
use Rattle.op_model.specs.Names.{Name, iri, source, fresh, same_name, name_of, blank}
use Rattle.op_model.specs.Running.{with_name, used, place_of, label_in, numbers_from, labels_of}
use Rattle.op_laws.proofs.Used.{with_old, with_new, place_last}

-- Two keys that differ can be put into a map in either order.
module _ {V : Type 0} where
  lesser_first : (k l : List ℕ) (v w : V) (m : MapOf V) → byte_order k l ≡ Less → with_at k v (with_at l w m) ≡ with_at l w (with_at k v m)
  unfolding with_at
  lesser_first k l v w [] less = let behind : byte_order l k ≡ Greater = flipped k l Less less in rw (less, behind) refl
  lesser_first k l v w (e ∷ m) less = by_orders (byte_order k e.0) (byte_order l e.0) refl refl (lesser_first k l v w m less)
    where
      behind : byte_order l k ≡ Greater
      behind = flipped k l Less less

      by_orders : (o p : Ordering) → byte_order k e.0 ≡ o → byte_order l e.0 ≡ p → with_at k v (with_at l w m) ≡ with_at l w (with_at k v m) → with_at k v (with_at l w (e ∷ m)) ≡ with_at l w (with_at k v (e ∷ m))
      by_orders o Less first second rest = let before : byte_order k e.0 ≡ Less = nat_list_cmp_total.trans k l e.0 less second in rw (before, second, less, behind) refl
      by_orders o Equal first second rest = let before : byte_order k e.0 ≡ Less = subst (λ x. byte_order k x ≡ Less) (exact_bytes l e.0 second) less in rw second (rw before (rw (behind, second) refl))
      by_orders Less Greater first second rest = rw second (rw first (rw (behind, second) refl))
      by_orders Equal Greater first second rest = rw second (rw first (rw second refl))
      by_orders Greater Greater first second rest = rw second (rw first (rw second (ap (λ l. e ∷ l) rest)))

  pub in_either_order : (k l : List ℕ) (v w : V) (m : MapOf V) → bytes_eq k l ≡ false → with_at k v (with_at l w m) ≡ with_at l w (with_at k v m)
  in_either_order k l v w m apart = by_order (byte_order k l) refl
    where
      by_order : (o : Ordering) → byte_order k l ≡ o → with_at k v (with_at l w m) ≡ with_at l w (with_at k v m)
      by_order Less is = lesser_first k l v w m is
      by_order Equal is = absurd (let both : true ≡ false = sym (ap is_eq is) ∙ is_eq-slice_cmp k l ∙ apart in cc)
      by_order Greater is = sym (lesser_first l k w v m (flipped k l Greater is))

-- The number of a label of the document is the place of its name.
number_at : (s : List ℕ) (i : ℕ) (names : List Name) → at s (numbers_from i names) ≡ cond (list_any (same_name (source s)) names) (Some (i + place_of (source s) names)) None
number_at s i [] = refl
number_at s i (source t ∷ names) = by_test (bytes_eq s t) refl (number_at s (suc i) names)
  where
    by_test : (b : Bool) → bytes_eq s t ≡ b → at s (numbers_from (suc i) names) ≡ cond (list_any (same_name (source s)) names) (Some (suc i + place_of (source s) names)) None
        → at s (with_at t i (numbers_from (suc i) names)) ≡ cond (list_any (same_name (source s)) (source t ∷ names)) (Some (i + place_of (source s) (source t ∷ names))) None
    by_test true same rest =
        let number : i ≡ i + 0 = omega arith in
        let first : at s (with_at t i (numbers_from (suc i) names)) ≡ Some i = ap (λ x. at x (with_at t i (numbers_from (suc i) names))) (bytes_eq-exact s t same) ∙ at-with_at t i (numbers_from (suc i) names) in
        rw same (first ∙ ap Some number)
    by_test false apart rest =
        let number : suc i + place_of (source s) names ≡ i + suc (place_of (source s) names) = omega arith in
        let later : at s (with_at t i (numbers_from (suc i) names)) ≡ at s (numbers_from (suc i) names) = at-with_at_other s t i (numbers_from (suc i) names) apart in
        rw apart (later ∙ rest ∙ ap (λ n. cond (list_any (same_name (source s)) names) (Some n) None) number)
number_at s i (iri t ∷ names) =
    let number : suc i + place_of (source s) names ≡ i + suc (place_of (source s) names) = omega arith in
    number_at s (suc i) names ∙ ap (λ n. cond (list_any (same_name (source s)) names) (Some n) None) number
number_at s i (fresh c k ∷ names) =
    let number : suc i + place_of (source s) names ≡ i + suc (place_of (source s) names) = omega arith in
    number_at s (suc i) names ∙ ap (λ n. cond (list_any (same_name (source s)) names) (Some n) None) number

-- One more name, of either kind.
source_last : (s : List ℕ) (i : ℕ) (names : List Name) → list_any (same_name (source s)) names ≡ false → numbers_from i (names ++ source s ∷ []) ≡ with_at s (i + length names) (numbers_from i names)
source_last s i [] new = let number : i ≡ i + 0 = omega arith in ap (λ n. with_at s n []) number
source_last s i (source t ∷ names) new = by_test (bytes_eq s t) refl new (source_last s (suc i) names)
  where
    by_test : (b : Bool) → bytes_eq s t ≡ b → (bytes_eq s t || list_any (same_name (source s)) names) ≡ false
        → (list_any (same_name (source s)) names ≡ false → numbers_from (suc i) (names ++ source s ∷ []) ≡ with_at s (suc i + length names) (numbers_from (suc i) names))
        → with_at t i (numbers_from (suc i) (names ++ source s ∷ [])) ≡ with_at s (i + suc (length names)) (with_at t i (numbers_from (suc i) names))
    by_test true same new rest = absurd (let both : true ≡ false = rw same at new in cc)
    by_test false apart new rest =
        let number : suc i + length names ≡ i + suc (length names) = omega arith in
        ap (with_at t i) (rest (rw apart at new))
        ∙ in_either_order t s i (suc i + length names) (numbers_from (suc i) names) (bytes_eq-sym t s ∙ apart)
        ∙ ap (λ n. with_at s n (with_at t i (numbers_from (suc i) names))) number
source_last s i (iri t ∷ names) new =
    let number : suc i + length names ≡ i + suc (length names) = omega arith in
    source_last s (suc i) names new ∙ ap (λ n. with_at s n (numbers_from (suc i) names)) number
source_last s i (fresh c k ∷ names) new =
    let number : suc i + length names ≡ i + suc (length names) = omega arith in
    source_last s (suc i) names new ∙ ap (λ n. with_at s n (numbers_from (suc i) names)) number

fresh_last : (c k i : ℕ) (names : List Name) → numbers_from i (names ++ fresh c k ∷ []) ≡ numbers_from i names
fresh_last c k i [] = refl
fresh_last c k i (source t ∷ names) = ap (with_at t i) (fresh_last c k (suc i) names)
fresh_last c k i (iri t ∷ names) = fresh_last c k (suc i) names
fresh_last c k i (fresh d m ∷ names) = fresh_last c k (suc i) names

one_longer : (names : List Name) (n : Name) → length (names ++ n ∷ []) ≡ length names + 1
one_longer names n = length-append names (n ∷ [])

-- What generation answers for a label of the document, for any name of the document, and for a node without an id.
source_issued : (s : List ℕ) (names : List Name) → label_for s (labels_of names) ≡ (label_in (with_name names (source s)) (source s), labels_of (with_name names (source s)))
source_issued s names = by_test (list_any (same_name (source s)) names) refl
  where
    by_test : (b : Bool) → list_any (same_name (source s)) names ≡ b → label_for s (labels_of names) ≡ (label_in (with_name names (source s)) (source s), labels_of (with_name names (source s)))
    by_test true there =
        let number : 0 + place_of (source s) names ≡ place_of (source s) names = omega arith in
        let given : at s (numbers_from 0 names) ≡ Some (place_of (source s) names) = number_at s 0 names ∙ ap (λ b. cond b (Some (0 + place_of (source s) names)) None) there ∙ ap Some number in
        rw (with_old (source s) names there, given) refl
    by_test false new =
        let number : 0 + length names ≡ length names = omega arith in
        let none : at s (numbers_from 0 names) ≡ None = number_at s 0 names ∙ ap (λ b. cond b (Some (0 + place_of (source s) names)) None) new in
        let given : with_at s (length names) (numbers_from 0 names) ≡ numbers_from 0 (names ++ source s ∷ []) = sym (source_last s 0 names new ∙ ap (λ n. with_at s n (numbers_from 0 names)) number) in
        let place : length names ≡ place_of (source s) (names ++ source s ∷ []) = sym (place_last (source s) names new) in
        let one : length names + 1 ≡ length (names ++ source s ∷ []) = sym (one_longer names (source s)) in
        rw (none, with_new (source s) names new) (λ i. (label_of (place i), record { issued = one i; given = given i }))

pub name_issued : (s : List ℕ) (names : List Name) → named s (labels_of names) ≡ (label_in (used names (blank (name_of s))) (name_of s), labels_of (used names (blank (name_of s))))
name_issued s names = by_test (is_blank s) refl
  where
    by_test : (b : Bool) → is_blank s ≡ b → named s (labels_of names) ≡ (label_in (used names (blank (name_of s))) (name_of s), labels_of (used names (blank (name_of s))))
    by_test true is = rw is (source_issued s names)
    by_test false is = rw is refl

pub fresh_issued : (c k : ℕ) (names : List Name) → list_any (same_name (fresh c k)) names ≡ false → new_label (labels_of names) ≡ (label_in (used names (fresh c k ∷ [])) (fresh c k), labels_of (used names (fresh c k ∷ [])))
fresh_issued c k names new =
    let given : numbers_from 0 names ≡ numbers_from 0 (names ++ fresh c k ∷ []) = sym (fresh_last c k 0 names) in
    let place : length names ≡ place_of (fresh c k) (names ++ fresh c k ∷ []) = sym (place_last (fresh c k) names new) in
    let one : length names + 1 ≡ length (names ++ fresh c k ∷ []) = sym (one_longer names (fresh c k)) in
    rw (with_new (fresh c k) names new) (λ i. (label_of (place i), record { issued = one i; given = given i }))
