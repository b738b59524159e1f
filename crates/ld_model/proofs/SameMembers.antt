-- Members in order are determined by what stands at each key.
use Rattle.std.proofs.Common.{◌≡◌, ℕ, List, [], ◌∷◌, Bool, true, false, Some, None, Ordering, Less, Equal, Greater, sym, ap, ◌∙◌, subst, refl}
use Rattle.std.specs.Str.{bytes_eq}
use Rattle.std.specs.List.{AllByRecursion}
use Rattle.std.specs.Map.{keys_of}
use Rattle.std.proofs.lemmas.Map.Lookups.{exact_bytes}
use Rattle.ld_model.specs.Tree.{Tree, Pairs, member_at, AreAscending, IsBefore, byte_order}
use Rattle.ld_model.proofs.Puts.{all_after, bytes_eq-refl, bytes_eq-exact, apart_before, flipped, at_first, at_later, ascending_head, ascending_tail}

-- Nothing stands at a key before all others.
pub missing : (k : List ℕ) (ms : Pairs) → AllByRecursion (IsBefore k) (keys_of ms) → member_at k ms ≡ None
missing k [] all = refl
missing k (m ∷ ms) all = at_later k m ms (apart_before k m.0 all.0) ∙ missing k ms all.1

tails_by : (x y : List ℕ × Tree) (xs ys : Pairs) (k : List ℕ) (b : Bool) → bytes_eq k x.0 ≡ b → x.0 ≡ y.0 → AllByRecursion (IsBefore x.0) (keys_of xs) → AllByRecursion (IsBefore y.0) (keys_of ys) → member_at k (x ∷ xs) ≡ member_at k (y ∷ ys) → member_at k xs ≡ member_at k ys
tails_by x y xs ys k true same keys before after at =
    let here : k ≡ x.0 = bytes_eq-exact k x.0 same in
    subst (λ z. member_at z xs ≡ member_at z ys) (sym here)
    (missing x.0 xs before ∙ sym (missing x.0 ys (subst (λ z. AllByRecursion (IsBefore z) (keys_of ys)) (sym keys) after)))
tails_by x y xs ys k false apart keys before after at =
    sym (at_later k x xs apart) ∙ at ∙ at_later k y ys (ap (bytes_eq k) (sym keys) ∙ apart)

heads_by : (x y : List ℕ × Tree) (xs ys : Pairs) (o : Ordering) → byte_order x.0 y.0 ≡ o → AreAscending (x ∷ xs) → AreAscending (y ∷ ys) → ((k : List ℕ) → member_at k (x ∷ xs) ≡ member_at k (y ∷ ys)) → (((k : List ℕ) → member_at k xs ≡ member_at k ys) → xs ≡ ys) → x ∷ xs ≡ y ∷ ys
heads_by x y xs ys Less is x_sorted y_sorted at rest =
    let here = at_first x.0 x xs (bytes_eq-refl x.0) in
    let there = missing x.0 (y ∷ ys) (is, all_after x.0 y.0 ys is (ascending_head y ys y_sorted)) in
    let both_ways = at x.0 in
    absurd (cc)
heads_by x y xs ys Greater is x_sorted y_sorted at rest =
    let here = at_first y.0 y ys (bytes_eq-refl y.0) in
    let less = flipped x.0 y.0 Greater is in
    let there = missing y.0 (x ∷ xs) (less, all_after y.0 x.0 xs less (ascending_head x xs x_sorted)) in
    let both_ways = at y.0 in
    absurd (cc)
heads_by x y xs ys Equal is x_sorted y_sorted at rest =
    let keys : x.0 ≡ y.0 = exact_bytes x.0 y.0 is in
    let here : Some x.1 ≡ Some y.1 = sym (at_first x.0 x xs (bytes_eq-refl x.0)) ∙ at x.0 ∙ at_first x.0 y ys (ap (bytes_eq x.0) (sym keys) ∙ bytes_eq-refl x.0) in
    let value : x.1 ≡ y.1 = cc in
    let tails = rest (λ k. tails_by x y xs ys k (bytes_eq k x.0) refl keys (ascending_head x xs x_sorted) (ascending_head y ys y_sorted) (at k)) in
    λ i. (keys i, value i) ∷ tails i

pub same_members : (xs ys : Pairs) → AreAscending xs → AreAscending ys → ((k : List ℕ) → member_at k xs ≡ member_at k ys) → xs ≡ ys
same_members [] [] x_sorted y_sorted at = refl
same_members [] (y ∷ ys) x_sorted y_sorted at =
    let here = at_first y.0 y ys (bytes_eq-refl y.0) in
    let none = at y.0 in
    absurd (cc)
same_members (x ∷ xs) [] x_sorted y_sorted at =
    let here = at_first x.0 x xs (bytes_eq-refl x.0) in
    let none = at x.0 in
    absurd (cc)
same_members (x ∷ xs) (y ∷ ys) x_sorted y_sorted at =
    heads_by x y xs ys (byte_order x.0 y.0) refl x_sorted y_sorted at (same_members xs ys (ascending_tail x xs x_sorted) (ascending_tail y ys y_sorted))
