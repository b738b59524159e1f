-- Sorting texts gives the one list that `ascending` is.
use Rattle.std.proofs.Common.{◌≡◌, ℕ, suc, ◌+◌, ◌<◌, List, [], ◌∷◌, get_or, map, Bool, true, false, cond, Ordering, Less, Equal, Greater, refl, ap, ◌∙◌, sym, subst, arith, sum_by}
use Rattle.std.specs.Borrow.{Bor}
use Rattle.std.specs.List.{AllByRecursion}
use Rattle.std.specs.List.Sorted.{IsPermutation, IsSortedBy}
use Rattle.std.specs.Cmp.{IsStrictWeakOrder}
use Rattle.std.specs.Ordering.{is_lt, is_gt, ordering_reverse}
use Rattle.std.specs.Str.{bytes_eq}
use Rattle.std.proofs.lemmas.Bool.{cond_both}
use Rattle.std.proofs.lemmas.Cmp.{nat_list_cmp_total}
use Rattle.std.proofs.lemmas.List.Sorted.{ranks_by, sum_by-IsPermutation, IsPermutation-map}
use Rattle.std.proofs.lemmas.List.Sums.{sum_by-cons}
use Rattle.std.proofs.lemmas.Map.Lookups.{exact_bytes}
use Rattle.ld_model.specs.Tree.{byte_order}
use Rattle.ld_model.proofs.Puts.{bytes_eq-refl, bytes_eq-exact, order-refl}
use Rattle.ctx_types.specs.Context.{Text}
use Rattle.expand_model.specs.Contexts.{placed, ascending}

-- How often a text stands in a list.
abbrev count : Text → List Text → ℕ
count x [] = 0
count x (y ∷ ys) = cond (bytes_eq x y) 1 0 + count x ys

count-sum : (x : Text) (ys : List Text) → count x ys ≡ sum_by (λ y. cond (bytes_eq x y) 1 0) ys
count-sum x [] = refl
count-sum x (y ∷ ys) = ap (λ n. cond (bytes_eq x y) 1 0 + n) (count-sum x ys) ∙ sym (sum_by-cons (λ y. cond (bytes_eq x y) 1 0) y ys)

-- No text comes before one ahead of it.
abbrev AreAfter : Text → List Text → Type 0
AreAfter s ts = AllByRecursion (λ t. is_lt (byte_order t s) ≡ false) ts

abbrev Rises : List Text → Type 0
Rises [] = Unit {0}
Rises (s ∷ ss) = AreAfter s ss × Rises ss

text_order : IsStrictWeakOrder (λ (s t : Text). is_lt (byte_order s t))
text_order = ranks_by nat_list_cmp_total (λ s. s)

-- The test from the other side.
reversed : (o : Ordering) → is_lt (ordering_reverse o) ≡ is_gt o
reversed Less = refl
reversed Equal = refl
reversed Greater = refl

flipped_test : (s t : Text) → is_lt (byte_order t s) ≡ is_gt (byte_order s t)
flipped_test s t = ap is_lt (nat_list_cmp_total.antisymm t s) ∙ reversed (byte_order s t)

not_less : (o : Ordering) → is_gt o ≡ true → is_lt o ≡ false
not_less Less is = absurd (cc)
not_less Equal is = refl
not_less Greater is = refl

-- What comes after the second of two texts comes after the first.
after_too : (s t : Text) (ts : List Text) → is_lt (byte_order t s) ≡ false → AreAfter t ts → AreAfter s ts
after_too s t [] here all = tt
after_too s t (u ∷ ts) here all = (text_order.chain u t s all.0 here, after_too s t ts here all.1)

-- ---- what `ascending` gives
count-placed : (x s : Text) (ts : List Text) → count x (placed s ts) ≡ count x (s ∷ ts)
count-placed x s [] = refl
count-placed x s (t ∷ ts) =
    let rest = count-placed x s ts in
    cond_both (is_gt (byte_order s t)) _ _ (λ l. count x l ≡ count x (s ∷ t ∷ ts)) (λ e. omega arith) (λ e. refl)

count-ascending : (x : Text) (ss : List Text) → count x (ascending ss) ≡ count x ss
count-ascending x [] = refl
count-ascending x (s ∷ ss) = count-placed x s (ascending ss) ∙ ap (λ n. cond (bytes_eq x s) 1 0 + n) (count-ascending x ss)

all-placed : (P : Text → Type 0) (s : Text) (ts : List Text) → P s → AllByRecursion P ts → AllByRecursion P (placed s ts)
all-placed P s [] here all = (here, tt)
all-placed P s (t ∷ ts) here all =
    cond_both (is_gt (byte_order s t)) _ _ (AllByRecursion P) (λ e. (all.0, all-placed P s ts here all.1)) (λ e. (here, all))

placed_rises : (s : Text) (ts : List Text) → Rises ts → Rises (placed s ts)
placed_rises s [] rises = (tt, tt)
placed_rises s (t ∷ ts) rises =
    cond_both (is_gt (byte_order s t)) _ _ Rises (λ e. (all-placed (λ u. is_lt (byte_order u t) ≡ false) s ts (not_less (byte_order s t) e) rises.0, placed_rises s ts rises.1)) (λ e. let after = flipped_test s t ∙ e in ((after, after_too s t ts after rises.0), rises))

ascending_rises : (ss : List Text) → Rises (ascending ss)
ascending_rises [] = tt
ascending_rises (s ∷ ss) = placed_rises s (ascending ss) (ascending_rises ss)

-- ---- two lists that rise and have each text as often are the same
at_counted : (P : Text → Type 0) (x : Text) (ys : List Text) → AllByRecursion P ys → 0 < count x ys → P x
at_counted P x [] all some = absurd (omega arith)
at_counted P x (y ∷ ys) all some = by (bytes_eq x y) refl (at_counted P x ys all.1) some
  where
    by : (b : Bool) → bytes_eq x y ≡ b → (0 < count x ys → P x) → 0 < cond (bytes_eq x y) 1 0 + count x ys → P x
    by true is rest some = subst P (sym (bytes_eq-exact x y is)) all.0
    by false is rest some = rest (subst (λ n. 0 < n + count x ys → 0 < count x ys) (sym (ap (λ (b : Bool). cond b 1 0) is)) (λ h. omega arith) some)

counted_itself : (x : Text) (xs : List Text) → 0 < count x (x ∷ xs)
counted_itself x xs = subst (λ n. 0 < n + count x xs) (sym (ap (λ (b : Bool). cond b 1 0) (bytes_eq-refl x))) (omega arith)

-- The first text comes before no text of the list.
not_before_first : (x y : Text) (ys : List Text) → Rises (y ∷ ys) → 0 < count x (y ∷ ys) → is_lt (byte_order x y) ≡ false
not_before_first x y ys rises some = at_counted (λ t. is_lt (byte_order t y) ≡ false) x (y ∷ ys) (ap is_lt (order-refl y), rises.0) some

same_order : (x y : Text) → is_lt (byte_order x y) ≡ false → is_lt (byte_order y x) ≡ false → x ≡ y
same_order x y not_first not_second = by (byte_order x y) refl
  where
    by : (o : Ordering) → byte_order x y ≡ o → x ≡ y
    by Less is = let less : is_lt (byte_order x y) ≡ true = ap is_lt is in absurd (cc)
    by Equal is = exact_bytes x y is
    by Greater is = let greater : is_lt (byte_order y x) ≡ true = flipped_test x y ∙ ap is_gt is in absurd (cc)

less : (a b m n : ℕ) → a ≡ b → a + m ≡ b + n → m ≡ n
less a b m n same both = omega arith

same_texts : (xs ys : List Text) → Rises xs → Rises ys → ((x : Text) → count x xs ≡ count x ys) → xs ≡ ys
same_texts [] [] xs_rise ys_rise counts = refl
same_texts [] (y ∷ ys) xs_rise ys_rise counts = absurd (let some = counted_itself y ys in let none = counts y in omega arith)
same_texts (x ∷ xs) [] xs_rise ys_rise counts = absurd (let some = counted_itself x xs in let none = counts x in omega arith)
same_texts (x ∷ xs) (y ∷ ys) xs_rise ys_rise counts =
    let x_there : 0 < count x (y ∷ ys) = let some = counted_itself x xs in let same = counts x in omega arith in
    let y_there : 0 < count y (x ∷ xs) = let some = counted_itself y ys in let same = counts y in omega arith in
    let first : x ≡ y = same_order x y (not_before_first x y ys ys_rise x_there) (not_before_first y x xs xs_rise y_there) in
    let rest : xs ≡ ys = same_texts xs ys xs_rise.1 ys_rise.1 (λ z. less (cond (bytes_eq z x) 1 0) (cond (bytes_eq z y) 1 0) (count z xs) (count z ys) (ap (λ t. cond (bytes_eq z t) 1 0) first) (counts z)) in
    cc

-- ---- what a sort gives
sorted_rises : (ps : List (Bor Text)) → IsSortedBy (λ s t. is_lt (byte_order s.now t.now)) ps → Rises (map (λ t. t.now) ps)
sorted_rises [] sorted = tt
sorted_rises (p ∷ []) sorted = (tt, tt)
sorted_rises (p ∷ q ∷ ps) sorted =
    let rest = sorted_rises (q ∷ ps) (λ k d from within. let next : suc k + 1 ≡ suc (k + 1) = omega arith in subst (λ n. is_lt (byte_order (get_or (p ∷ q ∷ ps) n d).now (get_or (q ∷ ps) k d).now) ≡ false) next (sorted (suc k) d (omega arith) (omega arith))) in
    let here : is_lt (byte_order q.now p.now) ≡ false = sorted 0 p (omega arith) (omega arith) in
    ((here, after_too p.now q.now (map (λ t. t.now) ps) here rest.0), rest)

pub sorted_is_ascending : (ts sorted : List (Bor Text)) (texts : List Text) → map (λ t. t.now) ts ≡ texts → IsPermutation ts sorted → IsSortedBy (λ s t. is_lt (byte_order s.now t.now)) sorted → map (λ t. t.now) sorted ≡ ascending texts
sorted_is_ascending ts sorted texts same moved in_order =
    same_texts (map (λ t. t.now) sorted) (ascending texts) (sorted_rises sorted in_order) (ascending_rises texts)
    (λ x. count-sum x (map (λ t. t.now) sorted) ∙ sum_by-IsPermutation (λ y. cond (bytes_eq x y) 1 0) (map (λ t. t.now) ts) (map (λ t. t.now) sorted) (IsPermutation-map (λ (t : Bor Text). t.now) ts sorted moved) ∙ sym (count-sum x (map (λ t. t.now) ts)) ∙ ap (count x) same ∙ sym (count-ascending x texts))
