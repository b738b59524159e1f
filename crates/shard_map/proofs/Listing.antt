-- The marks of the pairs in a seat's list.
use Rattle.std.proofs.Common.{◌≡◌, ℕ, zero, suc, ◌+◌, ◌*◌, ◌<◌, ◌≤◌, ◌⊎◌, Bool, true, false, List, [], ◌∷◌, ◌++◌, length, set, get_or, replicate, refl, sym, ap, ◌∙◌, subst, ⊎_elim, mul-le-mul_right, suc-mul, arith}
use Rattle.std.specs.Prelude.{Contains, MatchBool, ◌||◌, nat_lt}
use Rattle.std.proofs.lemmas.Bool.{both_ways, and_parts, and_from, or_cases, cases_eq, cases_lt, cases_order, lt-ltb, ltb-true}
use Rattle.std.proofs.Math.ListN.{length-set}
use Rattle.std.proofs.lemmas.List.{get_or-set_same, get_or-set_other}
use Rattle.std.proofs.lemmas.List.Elements.{Contains-append_left, Contains-append_right, Contains-append_cases}
use Rattle.shard_map.specs.Seats.{is_marked, AreMarked, AreUnited}
use Rattle.shard_map.proofs.Spans.{nothing_in, Contains-first, Contains-later, Contains-cons}

further : (i j n : ℕ) → i < j → i * n + n ≤ j * n
further i j n l = let a : suc i * n ≤ j * n = mul-le-mul_right n l in omega (arith, suc-mul i n)

-- two places in rows of n are one only in the same row
same_row : (i j n p q : ℕ) → p < n → q < n → i * n + p ≡ j * n + q → i ≡ j
same_row i j n p q a b e = ⊎_elim (λ (t : i ≡ j). t) (λ (t : (i < j) ⊎ (j < i)). ⊎_elim (λ l. absurd (let f = further i j n l in omega arith)) (λ l. absurd (let f = further j i n l in omega arith)) t) (cases_order i j)

pub in_rows : (j n p rows : ℕ) → j < rows → p < n → j * n + p < rows * n
in_rows j n p rows l m = let f = further j rows n l in omega arith

pub none_marked : (pieces n : ℕ) → AreMarked pieces (replicate n false) []
none_marked pieces n = record { shows = λ j p e. absurd (both_ways false refl (sym (none n (j * pieces + p)) ∙ (and_parts (nat_lt p pieces) (get_or (replicate n false) (j * pieces + p) false) e).1)); has = λ j p c. absurd (nothing_in (j, p) c) }
  where
    none : (m i : ℕ) → get_or (replicate m false) i false ≡ false
    none zero i = refl
    none (suc m) zero = refl
    none (suc m) (suc i) = none m i

pub one_marked : (pieces rows j p : ℕ) (marks : List Bool) (pairs : List (ℕ × ℕ)) → j < rows → p < pieces → length marks ≡ rows * pieces → AreMarked pieces marks pairs → AreMarked pieces (set marks (j * pieces + p) true) ((j, p) ∷ pairs)
one_marked pieces rows j p marks pairs row low len old = record { shows = shows; has = has }
  where
    at : ℕ
    at = j * pieces + p

    inside : at < length marks
    inside = let l = in_rows j pieces p rows row low in omega arith

    now : get_or (set marks at true) at false ≡ true
    now = get_or-set_same marks at true false inside

    shows : (i q : ℕ) → is_marked pieces (set marks at true) i q ≡ true → Contains ((j, p) ∷ pairs) (i, q)
    shows i q e =
        let parts = and_parts (nat_lt q pieces) (get_or (set marks at true) (i * pieces + q) false) e in
        let r = ltb-true q pieces parts.0 in
        ⊎_elim
        (λ (t : i * pieces + q ≡ at). let row' : i ≡ j = same_row i j pieces q p r low t in
        let col : q ≡ p = let m = ap (λ z. z * pieces) row' in omega arith in
        subst (λ (z : ℕ × ℕ). Contains ((j, p) ∷ pairs) z) (ap (λ z. (z, p)) (sym row') ∙ ap (λ z. (i, z)) (sym col)) (Contains-first (j, p) pairs))
        (λ (t : i * pieces + q ≡ at → ⊥). Contains-later (j, p) pairs (i, q) (old.shows i q (and_from (nat_lt q pieces) (get_or marks (i * pieces + q) false) parts.0 (sym (get_or-set_other marks at (i * pieces + q) true false t) ∙ parts.1))))
        (cases_eq (i * pieces + q) at)

    has : (i q : ℕ) → Contains ((j, p) ∷ pairs) (i, q) → is_marked pieces (set marks at true) i q ≡ true
    has i q c = ⊎_elim
        (λ (t : (j, p) ≡ (i, q)). subst (λ (z : ℕ × ℕ). is_marked pieces (set marks at true) z.0 z.1 ≡ true) t (and_from (nat_lt p pieces) (get_or (set marks at true) at false) (lt-ltb p pieces low) now))
        (λ (t : Contains pairs (i, q)). let parts = and_parts (nat_lt q pieces) (get_or marks (i * pieces + q) false) (old.has i q t) in
        and_from (nat_lt q pieces) (get_or (set marks at true) (i * pieces + q) false) parts.0 (⊎_elim
        (λ (u : i * pieces + q ≡ at). ap (λ z. get_or (set marks at true) z false) u ∙ now)
        (λ (u : i * pieces + q ≡ at → ⊥). get_or-set_other marks at (i * pieces + q) true false u ∙ parts.1)
        (cases_eq (i * pieces + q) at)))
        (Contains-cons (j, p) pairs (i, q) c)

pub both_marked : (pieces : ℕ) (ms ns both : List Bool) (ps qs : List (ℕ × ℕ)) → AreUnited ms ns both → AreMarked pieces ms ps → AreMarked pieces ns qs → AreMarked pieces both (ps ++ qs)
both_marked pieces ms ns both ps qs united a b = record { shows = shows; has = has }
  where
    shows : (j p : ℕ) → is_marked pieces both j p ≡ true → Contains (ps ++ qs) (j, p)
    shows j p e =
        let parts = and_parts (nat_lt p pieces) (get_or both (j * pieces + p) false) e in
        ⊎_elim
        (λ t. Contains-append_left ps qs (j, p) (a.shows j p (and_from (nat_lt p pieces) (get_or ms (j * pieces + p) false) parts.0 t)))
        (λ t. Contains-append_right ps qs (j, p) (b.shows j p (and_from (nat_lt p pieces) (get_or ns (j * pieces + p) false) parts.0 t)))
        (or_cases (get_or ms (j * pieces + p) false) (get_or ns (j * pieces + p) false) (sym (united.each (j * pieces + p)) ∙ parts.1))

    first : (x y : Bool) → x ≡ true → (x || y) ≡ true
    first true y e = refl
    first false y e = absurd (both_ways false refl e)

    second : (x y : Bool) → y ≡ true → (x || y) ≡ true
    second true y e = refl
    second false y e = e

    has : (j p : ℕ) → Contains (ps ++ qs) (j, p) → is_marked pieces both j p ≡ true
    has j p c = ⊎_elim
        (λ t. let parts = and_parts (nat_lt p pieces) (get_or ms (j * pieces + p) false) (a.has j p t) in
        and_from (nat_lt p pieces) (get_or both (j * pieces + p) false) parts.0 (united.each (j * pieces + p) ∙ first (get_or ms (j * pieces + p) false) (get_or ns (j * pieces + p) false) parts.1))
        (λ t. let parts = and_parts (nat_lt p pieces) (get_or ns (j * pieces + p) false) (b.has j p t) in
        and_from (nat_lt p pieces) (get_or both (j * pieces + p) false) parts.0 (united.each (j * pieces + p) ∙ second (get_or ms (j * pieces + p) false) (get_or ns (j * pieces + p) false) parts.1))
        (Contains-append_cases ps qs (j, p) c)

-- the lists are united below n
pub record UnitedBelow (n : ℕ) (ms ns so_far : List Bool) : Type 0 where
  pub len : length so_far ≡ length ms
  pub below : (i : ℕ) → i < n → get_or so_far i false ≡ (get_or ms i false || get_or ns i false)
  pub above : (i : ℕ) → n ≤ i → get_or so_far i false ≡ get_or ms i false

pub united_none : (ms ns : List Bool) → UnitedBelow 0 ms ns ms
united_none ms ns = record { len = refl; below = λ i l. absurd (omega arith); above = λ i l. refl }

pub united_more : (n : ℕ) (ms ns so_far next : List Bool) → n < length ms → UnitedBelow n ms ns so_far → next ≡ set so_far n (get_or so_far n false || get_or ns n false) → UnitedBelow (n + 1) ms ns next
united_more n ms ns so_far next low old is = record {
  len = ap length is ∙ (length-set so_far n (get_or so_far n false || get_or ns n false) ∙ old.len);
  below = λ i l. ap (λ (bs : List Bool). get_or bs i false) is ∙ ⊎_elim
      (λ (t : i ≡ n). ap (λ z. get_or (set so_far n (get_or so_far n false || get_or ns n false)) z false) t ∙ (get_or-set_same so_far n (get_or so_far n false || get_or ns n false) false (let e = old.len in omega arith) ∙ (ap (λ b. b || get_or ns n false) (old.above n (omega arith)) ∙ ap (λ z. get_or ms z false || get_or ns z false) (sym t))))
      (λ (t : i ≡ n → ⊥). get_or-set_other so_far n i (get_or so_far n false || get_or ns n false) false t ∙ old.below i (let ne = t in omega arith))
      (cases_eq i n);
  above = λ i l. ap (λ (bs : List Bool). get_or bs i false) is ∙ (get_or-set_other so_far n i (get_or so_far n false || get_or ns n false) false (λ t. omega arith) ∙ old.above i (omega arith));
}

pub united_all : (n : ℕ) (ms ns so_far : List Bool) → length ms ≡ length ns → length ns ≤ n → UnitedBelow n ms ns so_far → AreUnited ms ns so_far
united_all n ms ns so_far same all old = record { len = old.len; each = λ i. ⊎_elim (λ (t : i < n). old.below i t) (λ (t : n ≤ i). let e = old.len in get_or-beyond so_far i (omega arith) ∙ (sym (ap2 (get_or-beyond ms i (omega arith)) (get_or-beyond ns i (omega arith))))) (cases_lt i n) }
  where
    get_or-beyond : (bs : List Bool) (i : ℕ) → length bs ≤ i → get_or bs i false ≡ false
    get_or-beyond [] i l = refl
    get_or-beyond (b ∷ bs) zero l = absurd (omega arith)
    get_or-beyond (b ∷ bs) (suc i) l = get_or-beyond bs i (omega arith)

    ap2 : {a b : Bool} → a ≡ false → b ≡ false → (a || b) ≡ false
    ap2 {a} {b} e f = ap (λ z. z || b) e ∙ f

-- what a mark tells
pub marked_or_not : (pieces : ℕ) (marks : List Bool) (pairs : List (ℕ × ℕ)) (j p : ℕ) (b : Bool) → AreMarked pieces marks pairs → b ≡ is_marked pieces marks j p → MatchBool b (Contains pairs (j, p)) (Contains pairs (j, p) → ⊥)
marked_or_not pieces marks pairs j p true all is = all.shows j p (sym is)
marked_or_not pieces marks pairs j p false all is = λ c. both_ways false refl (is ∙ all.has j p c)
