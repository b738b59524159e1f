-- Members that are put at a key.
use Rattle.std.proofs.Common.{◌≡◌, ℕ, List, [], ◌∷◌, Bool, true, false, cond, Some, Ordering, Less, Equal, Greater, refl, sym, ap, ◌∙◌, subst}
use Rattle.std.specs.Ordering.{is_eq, ordering_reverse, match_ordering}
use Rattle.std.specs.Bool.{one_answer}
use Rattle.std.specs.Str.{bytes_eq}
use Rattle.std.specs.List.{AllByRecursion}
use Rattle.std.specs.List.Sorted.{IsStrictlySortedBy}
use Rattle.std.specs.Map.{keys_of}
use Rattle.std.proofs.lemmas.Cmp.{nat_list_cmp_total}
use Rattle.std.proofs.lemmas.Map.Lookups.{exact_bytes}
use Rattle.std.proofs.lemmas.Map.Text.{is_eq-slice_cmp}
use Rattle.std.proofs.lemmas.Slice.Eq.{bytes_eq-Decides}
use Rattle.ld_model.specs.Tree.{Tree, Pairs, byte_order, member_at, put, AreAscending, IsBefore}

pub bytes_eq-refl : (a : List ℕ) → bytes_eq a a ≡ true
bytes_eq-refl a = (bytes_eq-Decides a a).1 refl

pub bytes_eq-exact : (a b : List ℕ) → bytes_eq a b ≡ true → a ≡ b
bytes_eq-exact a b same = (bytes_eq-Decides a b).0 same

pub bytes_eq-sym : (a b : List ℕ) → bytes_eq a b ≡ bytes_eq b a
bytes_eq-sym a b = one_answer {P = a ≡ b} (bytes_eq a b) (bytes_eq b a) (bytes_eq-Decides a b) (λ same. sym (bytes_eq-exact b a same), λ e. (bytes_eq-Decides b a).1 (sym e))

-- A text compared with itself.
is_equal : (o : Ordering) → is_eq o ≡ true → o ≡ Equal
is_equal Less is = absurd (cc)
is_equal Equal is = refl
is_equal Greater is = absurd (cc)

pub order-refl : (a : List ℕ) → byte_order a a ≡ Equal
order-refl a = is_equal (byte_order a a) (is_eq-slice_cmp a a ∙ bytes_eq-refl a)

pub flipped : (a b : List ℕ) (o : Ordering) → byte_order a b ≡ o → byte_order b a ≡ ordering_reverse o
flipped a b o is = nat_list_cmp_total.antisymm b a ∙ ap ordering_reverse is

-- A text that comes after or before another is not that one.
pub apart_before : (a b : List ℕ) → byte_order a b ≡ Less → bytes_eq a b ≡ false
apart_before a b less = sym (is_eq-slice_cmp a b) ∙ ap is_eq less

-- The first of some members.
pub at_first : (q : List ℕ) (m : List ℕ × Tree) (ms : Pairs) → bytes_eq q m.0 ≡ true → member_at q (m ∷ ms) ≡ Some m.1
at_first q m ms same = ap (λ b. cond b (Some m.1) (member_at q ms)) (is_eq-slice_cmp q m.0 ∙ same)

pub at_later : (q : List ℕ) (m : List ℕ × Tree) (ms : Pairs) → bytes_eq q m.0 ≡ false → member_at q (m ∷ ms) ≡ member_at q ms
at_later q m ms apart = ap (λ b. cond b (Some m.1) (member_at q ms)) (is_eq-slice_cmp q m.0 ∙ apart)

-- What `put` does at the first member.
put_first : (k : List ℕ) (t : Tree) (m : List ℕ × Tree) (ms : Pairs) (o : Ordering) → byte_order k m.0 ≡ o → put k t (m ∷ ms) ≡ match_ordering o ((k, t) ∷ m ∷ ms) ((m.0, t) ∷ ms) (m ∷ put k t ms)
unfolding put
put_first k t m ms o is = ap (λ o. match_ordering o ((k, t) ∷ m ∷ ms) ((m.0, t) ∷ ms) (m ∷ put k t ms)) is

put_none : (k : List ℕ) (t : Tree) → put k t [] ≡ (k, t) ∷ []
unfolding put
put_none k t = refl

at_put_by : (k : List ℕ) (t : Tree) (m : List ℕ × Tree) (ms : Pairs) (o : Ordering) → byte_order k m.0 ≡ o → member_at k (put k t ms) ≡ Some t → member_at k (put k t (m ∷ ms)) ≡ Some t
at_put_by k t m ms Less is rest = ap (member_at k) (put_first k t m ms Less is) ∙ at_first k (k, t) (m ∷ ms) (bytes_eq-refl k)
at_put_by k t m ms Equal is rest = ap (member_at k) (put_first k t m ms Equal is) ∙ at_first k (m.0, t) ms (sym (is_eq-slice_cmp k m.0) ∙ ap is_eq is)
at_put_by k t m ms Greater is rest = ap (member_at k) (put_first k t m ms Greater is) ∙ at_later k m (put k t ms) (sym (is_eq-slice_cmp k m.0) ∙ ap is_eq is) ∙ rest

pub member_at-put : (k : List ℕ) (t : Tree) (ms : Pairs) → member_at k (put k t ms) ≡ Some t
member_at-put k t [] = ap (member_at k) (put_none k t) ∙ at_first k (k, t) [] (bytes_eq-refl k)
member_at-put k t (m ∷ ms) = at_put_by k t m ms (byte_order k m.0) refl (member_at-put k t ms)

at_other_by : (q k : List ℕ) (t : Tree) (m : List ℕ × Tree) (ms : Pairs) (o : Ordering) (b : Bool) → byte_order k m.0 ≡ o → bytes_eq q m.0 ≡ b → bytes_eq q k ≡ false → member_at q (put k t ms) ≡ member_at q ms → member_at q (put k t (m ∷ ms)) ≡ member_at q (m ∷ ms)
at_other_by q k t m ms Less b is same apart rest = ap (member_at q) (put_first k t m ms Less is) ∙ at_later q (k, t) (m ∷ ms) apart
at_other_by q k t m ms Equal b is same apart rest =
    let other : bytes_eq q m.0 ≡ false = subst (λ x. bytes_eq q x ≡ false) (exact_bytes k m.0 is) apart in
    ap (member_at q) (put_first k t m ms Equal is) ∙ at_later q (m.0, t) ms other ∙ sym (at_later q m ms other)
at_other_by q k t m ms Greater true is same apart rest = ap (member_at q) (put_first k t m ms Greater is) ∙ at_first q m (put k t ms) same ∙ sym (at_first q m ms same)
at_other_by q k t m ms Greater false is same apart rest = ap (member_at q) (put_first k t m ms Greater is) ∙ at_later q m (put k t ms) same ∙ rest ∙ sym (at_later q m ms same)

pub member_at-put_other : (q k : List ℕ) (t : Tree) (ms : Pairs) → bytes_eq q k ≡ false → member_at q (put k t ms) ≡ member_at q ms
member_at-put_other q k t [] apart = ap (member_at q) (put_none k t) ∙ at_later q (k, t) [] apart
member_at-put_other q k t (m ∷ ms) apart = at_other_by q k t m ms (byte_order k m.0) (bytes_eq q m.0) refl refl apart (member_at-put_other q k t ms apart)

-- What holds of each key, and of the one that is put there.
all_put_by : (P : List ℕ × Tree → Type 0) (k : List ℕ) (t : Tree) (m : List ℕ × Tree) (ms : Pairs) (o : Ordering) → byte_order k m.0 ≡ o → P (k, t) → AllByRecursion P (m ∷ ms) → AllByRecursion P (put k t ms) → AllByRecursion P (put k t (m ∷ ms))
all_put_by P k t m ms Less is here all rest = subst (AllByRecursion P) (sym (put_first k t m ms Less is)) (here, all)
all_put_by P k t m ms Equal is here all rest =
    let at : P (m.0, t) = subst (λ x. P (x, t)) (exact_bytes k m.0 is) here in
    subst (AllByRecursion P) (sym (put_first k t m ms Equal is)) (at, all.1)
all_put_by P k t m ms Greater is here all rest = subst (AllByRecursion P) (sym (put_first k t m ms Greater is)) (all.0, rest)

pub all-put : (P : List ℕ × Tree → Type 0) (k : List ℕ) (t : Tree) (ms : Pairs) → P (k, t) → AllByRecursion P ms → AllByRecursion P (put k t ms)
all-put P k t [] here all = subst (AllByRecursion P) (sym (put_none k t)) (here, tt)
all-put P k t (m ∷ ms) here all = all_put_by P k t m ms (byte_order k m.0) refl here all (all-put P k t ms here all.1)

keys_by : (P : List ℕ → Type 0) (ms : Pairs) → AllByRecursion (λ m. P m.0) ms → AllByRecursion P (keys_of ms)
keys_by P [] all = tt
keys_by P (m ∷ ms) all = (all.0, keys_by P ms all.1)

by_keys : (P : List ℕ → Type 0) (ms : Pairs) → AllByRecursion P (keys_of ms) → AllByRecursion (λ m. P m.0) ms
by_keys P [] all = tt
by_keys P (m ∷ ms) all = (all.0, by_keys P ms all.1)

keys-put : (P : List ℕ → Type 0) (k : List ℕ) (t : Tree) (ms : Pairs) → P k → AllByRecursion P (keys_of ms) → AllByRecursion P (keys_of (put k t ms))
keys-put P k t ms here all = keys_by P (put k t ms) (all-put (λ m. P m.0) k t ms here (by_keys P ms all))

pub all_after : (k l : List ℕ) (ms : Pairs) → IsBefore k l → AllByRecursion (IsBefore l) (keys_of ms) → AllByRecursion (IsBefore k) (keys_of ms)
all_after k l [] less all = tt
all_after k l (m ∷ ms) less all = (nat_list_cmp_total.trans k l m.0 less all.0, all_after k l ms less all.1)

pub ascending_nil : AreAscending []
unfolding IsStrictlySortedBy
ascending_nil = tt

pub ascending_cons : (m : List ℕ × Tree) (ms : Pairs) → AllByRecursion (IsBefore m.0) (keys_of ms) → AreAscending ms → AreAscending (m ∷ ms)
unfolding IsStrictlySortedBy
ascending_cons m ms all rest = (all, rest)

pub ascending_head : (m : List ℕ × Tree) (ms : Pairs) → AreAscending (m ∷ ms) → AllByRecursion (IsBefore m.0) (keys_of ms)
unfolding IsStrictlySortedBy
ascending_head m ms sorted = sorted.0

pub ascending_tail : (m : List ℕ × Tree) (ms : Pairs) → AreAscending (m ∷ ms) → AreAscending ms
unfolding IsStrictlySortedBy
ascending_tail m ms sorted = sorted.1

ascending_put_by : (k : List ℕ) (t : Tree) (m : List ℕ × Tree) (ms : Pairs) (o : Ordering) → byte_order k m.0 ≡ o → AreAscending (m ∷ ms) → AreAscending (put k t ms) → AreAscending (put k t (m ∷ ms))
ascending_put_by k t m ms Less is sorted rest =
    subst AreAscending (sym (put_first k t m ms Less is)) (ascending_cons (k, t) (m ∷ ms) (is, all_after k m.0 ms is (ascending_head m ms sorted)) sorted)
ascending_put_by k t m ms Equal is sorted rest =
    subst AreAscending (sym (put_first k t m ms Equal is)) (ascending_cons (m.0, t) ms (ascending_head m ms sorted) (ascending_tail m ms sorted))
ascending_put_by k t m ms Greater is sorted rest =
    subst AreAscending (sym (put_first k t m ms Greater is)) (ascending_cons m (put k t ms) (keys-put (IsBefore m.0) k t ms (flipped k m.0 Greater is) (ascending_head m ms sorted)) rest)

pub ascending-put : (k : List ℕ) (t : Tree) (ms : Pairs) → AreAscending ms → AreAscending (put k t ms)
ascending-put k t [] sorted = subst AreAscending (sym (put_none k t)) (ascending_cons (k, t) [] tt sorted)
ascending-put k t (m ∷ ms) sorted = ascending_put_by k t m ms (byte_order k m.0) refl sorted (ascending-put k t ms (ascending_tail m ms sorted))
