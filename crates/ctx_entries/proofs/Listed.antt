-- Entries as members of an object.
use Rattle.std.proofs.Common.{◌≡◌, ℕ, List, [], ◌∷◌, Bool, true, false, cond, Ordering, Less, Equal, Greater, Option, Some, None, refl, sym, ap, ◌∙◌, subst}
use Rattle.std.specs.Option.{option_or}
use Rattle.std.specs.Ordering.{is_eq, ordering_reverse}
use Rattle.std.specs.List.Sorted.{IsStrictlySortedBy}
use Rattle.std.proofs.lemmas.Cmp.{nat_list_cmp_total}
use Rattle.ld_model.specs.Tree.{Tree, Pairs, members_of, member_list, member_list-members_of, member_at, byte_order, AreAscending}
use Rattle.ctx_model.specs.Process.{merged}

-- What is said of an object's entries, said of the list that they were made of.
pub of_object : {X : Type 0} (f : Pairs → X) (ms : Pairs) → f (member_list (members_of ms)) ≡ f ms
of_object f ms = ap f (member_list-members_of ms)

-- A key that comes before all entries has none.
none_below : (k : List ℕ) (e : List ℕ × Tree) (es : Pairs) → AreAscending (e ∷ es) → byte_order k e.0 ≡ Less → member_at k (e ∷ es) ≡ None
unfolding IsStrictlySortedBy
none_below k e [] sorted less = rw less refl
none_below k e (f ∷ es) sorted less = rw less (none_below k f es sorted.1 (nat_list_cmp_total.trans k e.0 f.0 less sorted.0.0))

is_equal : (o : Ordering) → is_eq o ≡ true → o ≡ Equal
is_equal Less is = absurd (cc)
is_equal Equal is = refl
is_equal Greater is = absurd (cc)

congr_right : (k a b : List ℕ) → byte_order a b ≡ Equal → byte_order k a ≡ byte_order k b
congr_right k a b same = nat_list_cmp_total.antisymm k a ∙ ap ordering_reverse (nat_list_cmp_total.congr a b k same) ∙ sym (nat_list_cmp_total.antisymm k b)

turned : (a b : List ℕ) → byte_order a b ≡ Greater → byte_order b a ≡ Less
turned a b greater = nat_list_cmp_total.antisymm b a ∙ ap ordering_reverse greater

tail_ascends : (e : List ℕ × Tree) (es : Pairs) → AreAscending (e ∷ es) → AreAscending es
unfolding IsStrictlySortedBy
tail_ascends e [] sorted = tt
tail_ascends e (f ∷ es) sorted = sorted.1

-- A look-up in merged entries: an own one, or else an imported one.
module _ (k : List ℕ) (e : List ℕ × Tree) (es : Pairs) (rest : (is : Pairs) → member_at k (merged es is) ≡ option_or (member_at k es) (member_at k is)) (sorted : AreAscending (e ∷ es)) where
  own_first : (b : Bool) (is : Pairs) → cond b (Some e.1) (member_at k (merged es is)) ≡ option_or (cond b (Some e.1) (member_at k es)) (member_at k is)
  own_first true is = refl
  own_first false is = rest is

  in_both : (b : Bool) (i : List ℕ × Tree) (is : Pairs) → is_eq (byte_order k i.0) ≡ b → cond b (Some e.1) (member_at k (merged es is)) ≡ option_or (cond b (Some e.1) (member_at k es)) (member_at k (i ∷ is))
  in_both true i is at = refl
  in_both false i is at = rw at (rest is)

  import_first : (b : Bool) (i : List ℕ × Tree) (is : Pairs) (m : Option Tree) → is_eq (byte_order k i.0) ≡ b → byte_order e.0 i.0 ≡ Greater → m ≡ option_or (member_at k (e ∷ es)) (member_at k is) → cond b (Some i.1) m ≡ option_or (member_at k (e ∷ es)) (cond b (Some i.1) (member_at k is))
  import_first false i is m at greater found = found
  import_first true i is m at greater found =
      let less : byte_order k e.0 ≡ Less = nat_list_cmp_total.congr k i.0 e.0 (is_equal (byte_order k i.0) at) ∙ turned e.0 i.0 greater in
      rw (none_below k e es sorted less) refl

  found_in : (is : Pairs) → member_at k (merged (e ∷ es) is) ≡ option_or (member_at k (e ∷ es)) (member_at k is)
  found_in [] = own_first (is_eq (byte_order k e.0)) []
  found_in (i ∷ is) = by_order (byte_order e.0 i.0) refl (found_in is)
    where
      Merges : Ordering → Type 0
      Merges x = member_at k (elim x [ Less ↦ e ∷ merged es (i ∷ is) | Equal ↦ e ∷ merged es is | Greater ↦ i ∷ merged (e ∷ es) is ]) ≡ option_or (member_at k (e ∷ es)) (member_at k (i ∷ is))

      by_order : (o : Ordering) → byte_order e.0 i.0 ≡ o → member_at k (merged (e ∷ es) is) ≡ option_or (member_at k (e ∷ es)) (member_at k is) → member_at k (merged (e ∷ es) (i ∷ is)) ≡ option_or (member_at k (e ∷ es)) (member_at k (i ∷ is))
      by_order Less o found = subst Merges (sym o) (own_first (is_eq (byte_order k e.0)) (i ∷ is))
      by_order Equal o found =
          let same : is_eq (byte_order k e.0) ≡ is_eq (byte_order k i.0) = ap is_eq (congr_right k e.0 i.0 o) in
          subst Merges (sym o) (in_both (is_eq (byte_order k e.0)) i is (sym same))
      by_order Greater o found = subst Merges (sym o) (import_first (is_eq (byte_order k i.0)) i is (member_at k (merged (e ∷ es) is)) refl o found)

pub merged_at : (k : List ℕ) (own imports : Pairs) → AreAscending own → member_at k (merged own imports) ≡ option_or (member_at k own) (member_at k imports)
merged_at k [] imports sorted = refl
merged_at k (e ∷ es) imports sorted = found_in k e es (λ is. merged_at k es is (tail_ascends e es sorted)) sorted imports
