-- Maps from texts: what stands at a key once something is put at one, what holds of all that is in a map, and a map that is
-- turned into the members of an object.
use Rattle.std.proofs.Common.{◌≡◌, ℕ, List, [], ◌∷◌, Bool, true, false, cond, Some, None, Ordering, Less, Equal, Greater, refl, sym, ap, ◌∙◌, subst}
use Rattle.std.specs.Prelude.{map as each}
use Rattle.std.specs.Ordering.{is_eq, match_ordering}
use Rattle.std.specs.Option.{option_map}
use Rattle.std.specs.Str.{bytes_eq}
use Rattle.std.specs.List.{AllByRecursion}
use Rattle.std.specs.List.Sorted.{IsStrictlySortedBy}
use Rattle.std.specs.Map.{keys_of}
use Rattle.std.proofs.lemmas.Cmp.{nat_list_cmp_total}
use Rattle.std.proofs.lemmas.Map.Lookups.{exact_bytes}
use Rattle.std.proofs.lemmas.Map.Text.{is_eq-slice_cmp}
use Rattle.ld_model.specs.Tree.{Tree, Pairs, byte_order, member_at, put, IsBefore}
use Rattle.ld_model.proofs.Puts.{bytes_eq-refl, bytes_eq-exact, apart_before, flipped, at_first as member_first, at_later as member_later}
use Rattle.node_model.specs.Maps.{MapOf, at, with_at}

-- Each key comes before those after it.
abbrev pub Ascend : {V : Type 0} → MapOf V → Type 0
Ascend m = IsStrictlySortedBy byte_order (keys_of m)

pub ascend_none : (V : Type 0) → Ascend {V = V} []
unfolding IsStrictlySortedBy
ascend_none V = tt

module _ {V : Type 0} where
  pub at_first : (q : List ℕ) (e : List ℕ × V) (m : MapOf V) → bytes_eq q e.0 ≡ true → at q (e ∷ m) ≡ Some e.1
  at_first q e m same = ap (λ b. cond b (Some e.1) (at q m)) (is_eq-slice_cmp q e.0 ∙ same)

  pub at_later : (q : List ℕ) (e : List ℕ × V) (m : MapOf V) → bytes_eq q e.0 ≡ false → at q (e ∷ m) ≡ at q m
  at_later q e m apart = ap (λ b. cond b (Some e.1) (at q m)) (is_eq-slice_cmp q e.0 ∙ apart)

  with_at_none : (k : List ℕ) (v : V) → with_at k v [] ≡ (k, v) ∷ []
  unfolding with_at
  with_at_none k v = refl

  with_at_first : (k : List ℕ) (v : V) (e : List ℕ × V) (m : MapOf V) (o : Ordering) → byte_order k e.0 ≡ o → with_at k v (e ∷ m) ≡ match_ordering o ((k, v) ∷ e ∷ m) ((e.0, v) ∷ m) (e ∷ with_at k v m)
  unfolding with_at
  with_at_first k v e m o is = ap (λ o. match_ordering o ((k, v) ∷ e ∷ m) ((e.0, v) ∷ m) (e ∷ with_at k v m)) is

  pub at-with_at : (k : List ℕ) (v : V) (m : MapOf V) → at k (with_at k v m) ≡ Some v
  at-with_at k v [] = ap (at k) (with_at_none k v) ∙ at_first k (k, v) [] (bytes_eq-refl k)
  at-with_at k v (e ∷ m) = by_order (byte_order k e.0) refl (at-with_at k v m)
    where
      by_order : (o : Ordering) → byte_order k e.0 ≡ o → at k (with_at k v m) ≡ Some v → at k (with_at k v (e ∷ m)) ≡ Some v
      by_order Less is rest = ap (at k) (with_at_first k v e m Less is) ∙ at_first k (k, v) (e ∷ m) (bytes_eq-refl k)
      by_order Equal is rest = ap (at k) (with_at_first k v e m Equal is) ∙ at_first k (e.0, v) m (sym (is_eq-slice_cmp k e.0) ∙ ap is_eq is)
      by_order Greater is rest = ap (at k) (with_at_first k v e m Greater is) ∙ at_later k e (with_at k v m) (sym (is_eq-slice_cmp k e.0) ∙ ap is_eq is) ∙ rest

  pub at-with_at_other : (q k : List ℕ) (v : V) (m : MapOf V) → bytes_eq q k ≡ false → at q (with_at k v m) ≡ at q m
  at-with_at_other q k v [] apart = ap (at q) (with_at_none k v) ∙ at_later q (k, v) [] apart
  at-with_at_other q k v (e ∷ m) apart = by_order (byte_order k e.0) (bytes_eq q e.0) refl refl (at-with_at_other q k v m apart)
    where
      by_order : (o : Ordering) (b : Bool) → byte_order k e.0 ≡ o → bytes_eq q e.0 ≡ b → at q (with_at k v m) ≡ at q m → at q (with_at k v (e ∷ m)) ≡ at q (e ∷ m)
      by_order Less b is same rest = ap (at q) (with_at_first k v e m Less is) ∙ at_later q (k, v) (e ∷ m) apart
      by_order Equal b is same rest =
          let other : bytes_eq q e.0 ≡ false = subst (λ x. bytes_eq q x ≡ false) (exact_bytes k e.0 is) apart in
          ap (at q) (with_at_first k v e m Equal is) ∙ at_later q (e.0, v) m other ∙ sym (at_later q e m other)
      by_order Greater true is same rest = ap (at q) (with_at_first k v e m Greater is) ∙ at_first q e (with_at k v m) same ∙ sym (at_first q e m same)
      by_order Greater false is same rest = ap (at q) (with_at_first k v e m Greater is) ∙ at_later q e (with_at k v m) same ∙ rest ∙ sym (at_later q e m same)

  -- What holds of all that is in a map.
  pub all-with_at : (P : List ℕ × V → Type 0) (k : List ℕ) (v : V) (m : MapOf V) → P (k, v) → AllByRecursion P m → AllByRecursion P (with_at k v m)
  all-with_at P k v [] here all = subst (AllByRecursion P) (sym (with_at_none k v)) (here, tt)
  all-with_at P k v (e ∷ m) here all = by_order (byte_order k e.0) refl (all-with_at P k v m here all.1)
    where
      by_order : (o : Ordering) → byte_order k e.0 ≡ o → AllByRecursion P (with_at k v m) → AllByRecursion P (with_at k v (e ∷ m))
      by_order Less is rest = subst (AllByRecursion P) (sym (with_at_first k v e m Less is)) (here, all)
      by_order Equal is rest =
          let put_there : P (e.0, v) = subst (λ x. P (x, v)) (exact_bytes k e.0 is) here in
          subst (AllByRecursion P) (sym (with_at_first k v e m Equal is)) (put_there, all.1)
      by_order Greater is rest = subst (AllByRecursion P) (sym (with_at_first k v e m Greater is)) (all.0, rest)

  pub all-at : (P : List ℕ × V → Type 0) (k : List ℕ) (m : MapOf V) (v : V) → AllByRecursion P m → at k m ≡ Some v → P (k, v)
  all-at P k [] v all is = absurd (cc)
  all-at P k (e ∷ m) v all is = by_test (bytes_eq k e.0) refl (all-at P k m v all.1)
    where
      by_test : (b : Bool) → bytes_eq k e.0 ≡ b → (at k m ≡ Some v → P (k, v)) → P (k, v)
      by_test true same rest =
          let value : Some e.1 ≡ Some v = sym (at_first k e m same) ∙ is in
          let v_is : e.1 ≡ v = cc in
          subst P (λ i. (sym (bytes_eq-exact k e.0 same) i, v_is i)) all.0
      by_test false apart rest = rest (sym (at_later k e m apart) ∙ is)

  keys_to : (P : List ℕ → Type 0) (m : MapOf V) → AllByRecursion (λ e. P e.0) m → AllByRecursion P (keys_of m)
  keys_to P [] all = tt
  keys_to P (e ∷ m) all = (all.0, keys_to P m all.1)

  keys_from : (P : List ℕ → Type 0) (m : MapOf V) → AllByRecursion P (keys_of m) → AllByRecursion (λ e. P e.0) m
  keys_from P [] all = tt
  keys_from P (e ∷ m) all = (all.0, keys_from P m all.1)

  keys-with_at : (P : List ℕ → Type 0) (k : List ℕ) (v : V) (m : MapOf V) → P k → AllByRecursion P (keys_of m) → AllByRecursion P (keys_of (with_at k v m))
  keys-with_at P k v m here all = keys_to P (with_at k v m) (all-with_at (λ e. P e.0) k v m here (keys_from P m all))

  pub ascend_cons : (e : List ℕ × V) (m : MapOf V) → AllByRecursion (IsBefore e.0) (keys_of m) → Ascend m → Ascend (e ∷ m)
  unfolding IsStrictlySortedBy
  ascend_cons e m all rest = (all, rest)

  pub ascend_head : (e : List ℕ × V) (m : MapOf V) → Ascend (e ∷ m) → AllByRecursion (IsBefore e.0) (keys_of m)
  unfolding IsStrictlySortedBy
  ascend_head e m sorted = sorted.0

  pub ascend_tail : (e : List ℕ × V) (m : MapOf V) → Ascend (e ∷ m) → Ascend m
  unfolding IsStrictlySortedBy
  ascend_tail e m sorted = sorted.1

  before_all : (k l : List ℕ) (m : MapOf V) → IsBefore k l → AllByRecursion (IsBefore l) (keys_of m) → AllByRecursion (IsBefore k) (keys_of m)
  before_all k l [] less all = tt
  before_all k l (e ∷ m) less all = (nat_list_cmp_total.trans k l e.0 less all.0, before_all k l m less all.1)

  pub ascend-with_at : (k : List ℕ) (v : V) (m : MapOf V) → Ascend m → Ascend (with_at k v m)
  ascend-with_at k v [] sorted = subst Ascend (sym (with_at_none k v)) (ascend_cons (k, v) [] tt sorted)
  ascend-with_at k v (e ∷ m) sorted = by_order (byte_order k e.0) refl (ascend-with_at k v m (ascend_tail e m sorted))
    where
      by_order : (o : Ordering) → byte_order k e.0 ≡ o → Ascend (with_at k v m) → Ascend (with_at k v (e ∷ m))
      by_order Less is rest = subst Ascend (sym (with_at_first k v e m Less is)) (ascend_cons (k, v) (e ∷ m) (is, before_all k e.0 m is (ascend_head e m sorted)) sorted)
      by_order Equal is rest = subst Ascend (sym (with_at_first k v e m Equal is)) (ascend_cons (e.0, v) m (ascend_head e m sorted) (ascend_tail e m sorted))
      by_order Greater is rest =
          subst Ascend (sym (with_at_first k v e m Greater is)) (ascend_cons e (with_at k v m) (keys-with_at (IsBefore e.0) k v m (flipped k e.0 Greater is) (ascend_head e m sorted)) rest)

  -- Nothing stands at a key before all others, and what stands at a key, put there again, changes nothing.
  pub none_before : (k : List ℕ) (m : MapOf V) → AllByRecursion (IsBefore k) (keys_of m) → at k m ≡ None
  none_before k [] all = refl
  none_before k (e ∷ m) all = at_later k e m (apart_before k e.0 all.0) ∙ none_before k m all.1

  pub with_at-same : (k : List ℕ) (v : V) (m : MapOf V) → Ascend m → at k m ≡ Some v → with_at k v m ≡ m
  with_at-same k v [] sorted is = absurd (cc)
  with_at-same k v (e ∷ m) sorted is = by_order (byte_order k e.0) refl (with_at-same k v m (ascend_tail e m sorted))
    where
      by_order : (o : Ordering) → byte_order k e.0 ≡ o → (at k m ≡ Some v → with_at k v m ≡ m) → with_at k v (e ∷ m) ≡ e ∷ m
      by_order Less order rest =
          let none : at k (e ∷ m) ≡ None = none_before k (e ∷ m) (order, before_all k e.0 m order (ascend_head e m sorted)) in
          absurd (let no_way : None ≡ Some v = sym none ∙ is in cc)
      by_order Equal order rest =
          let value : Some e.1 ≡ Some v = sym (at_first k e m (sym (is_eq-slice_cmp k e.0) ∙ ap is_eq order)) ∙ is in
          let same : v ≡ e.1 = cc in
          with_at_first k v e m Equal order ∙ ap (λ x. (e.0, x) ∷ m) same
      by_order Greater order rest = with_at_first k v e m Greater order ∙ ap (λ l. e ∷ l) (rest (sym (at_later k e m (sym (is_eq-slice_cmp k e.0) ∙ ap is_eq order)) ∙ is))

  -- A map as the members of an object.
  module _ (shown : List ℕ → V → Tree) where
    abbrev pub as_members : MapOf V → Pairs
    as_members m = each (λ e. (e.0, shown e.0 e.1)) m

    pub keys_of-as_members : (m : MapOf V) → keys_of (as_members m) ≡ keys_of m
    keys_of-as_members [] = refl
    keys_of-as_members (e ∷ m) = ap (λ ks. e.0 ∷ ks) (keys_of-as_members m)

    pub member_at-as_members : (k : List ℕ) (m : MapOf V) → member_at k (as_members m) ≡ option_map (shown k) (at k m)
    member_at-as_members k [] = refl
    member_at-as_members k (e ∷ m) = by_test (bytes_eq k e.0) refl (member_at-as_members k m)
      where
        by_test : (b : Bool) → bytes_eq k e.0 ≡ b → member_at k (as_members m) ≡ option_map (shown k) (at k m) → member_at k (as_members (e ∷ m)) ≡ option_map (shown k) (at k (e ∷ m))
        by_test true same rest =
            member_first k (e.0, shown e.0 e.1) (as_members m) same
            ∙ ap (λ x. Some (shown x e.1)) (sym (bytes_eq-exact k e.0 same))
            ∙ ap (option_map (shown k)) (sym (at_first k e m same))
        by_test false apart rest = member_later k (e.0, shown e.0 e.1) (as_members m) apart ∙ rest ∙ ap (option_map (shown k)) (sym (at_later k e m apart))

    pub as_members-with_at : (k : List ℕ) (v : V) (m : MapOf V) → as_members (with_at k v m) ≡ put k (shown k v) (as_members m)
    unfolding put
    as_members-with_at k v [] = ap as_members (with_at_none k v)
    as_members-with_at k v (e ∷ m) = by_order (byte_order k e.0) refl (as_members-with_at k v m)
      where
        by_order : (o : Ordering) → byte_order k e.0 ≡ o → as_members (with_at k v m) ≡ put k (shown k v) (as_members m)
            → as_members (with_at k v (e ∷ m)) ≡ match_ordering (byte_order k e.0) ((k, shown k v) ∷ as_members (e ∷ m)) ((e.0, shown k v) ∷ as_members m) ((e.0, shown e.0 e.1) ∷ put k (shown k v) (as_members m))
        by_order Less is rest = ap as_members (with_at_first k v e m Less is) ∙ ap (λ o. match_ordering o ((k, shown k v) ∷ as_members (e ∷ m)) ((e.0, shown k v) ∷ as_members m) ((e.0, shown e.0 e.1) ∷ put k (shown k v) (as_members m))) (sym is)
        by_order Equal is rest =
            ap as_members (with_at_first k v e m Equal is)
            ∙ ap (λ x. (e.0, shown x v) ∷ as_members m) (sym (exact_bytes k e.0 is))
            ∙ ap (λ o. match_ordering o ((k, shown k v) ∷ as_members (e ∷ m)) ((e.0, shown k v) ∷ as_members m) ((e.0, shown e.0 e.1) ∷ put k (shown k v) (as_members m))) (sym is)
        by_order Greater is rest =
            ap as_members (with_at_first k v e m Greater is)
            ∙ ap (λ l. (e.0, shown e.0 e.1) ∷ l) rest
            ∙ ap (λ o. match_ordering o ((k, shown k v) ∷ as_members (e ∷ m)) ((e.0, shown k v) ∷ as_members m) ((e.0, shown e.0 e.1) ∷ put k (shown k v) (as_members m))) (sym is)
