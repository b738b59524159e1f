-- Spans of pieces: which pieces they have, and which are new in the later of two lists.
use Rattle.std.proofs.Common.{◌≡◌, ℕ, zero, suc, ◌+◌, ◌-◌, ◌<◌, ◌≤◌, ◌⊎◌, Bool, true, false, List, [], ◌∷◌, ◌++◌, take, drop, refl, sym, ap, ◌∙◌, subst, inl, inr, ⊎_elim, arith}
use Rattle.std.specs.Prelude.{Contains, not, ◌&&◌, ◌||◌, ◌==◌, nat_lt, nat_le, filter, cond, insert}
use Rattle.std.proofs.lemmas.Bool.{both_ways, and_parts, and_from, and_left, and_right, or_cases, cases_Bool, cases_eq, cases_lt, ltb-true, leb-true, lt-ltb, le-ltb, le-leb, lt-leb, eq-eqb, ne_eqb}
use Rattle.std.proofs.lemmas.List.{append_assoc, take-append-drop}
use Rattle.std.proofs.lemmas.List.Elements.{Contains-append_left, Contains-append_right, Contains-append_cases, filter-append}
use Rattle.shard_map.specs.Views.{covers, counted, pieces, new_pieces, pairs_of}

pub Contains-cons : {X : Type 0} (x : X) (xs : List X) (y : X) → Contains (x ∷ xs) y → (x ≡ y) ⊎ Contains xs y
Contains-cons x xs y (zero, l, e) = inl e
Contains-cons x xs y (suc k, l, e) = inr (k, (omega arith), e)

pub Contains-first : {X : Type 0} (x : X) (xs : List X) → Contains (x ∷ xs) x
Contains-first x xs = (0, (omega arith), refl)

pub Contains-later : {X : Type 0} (x : X) (xs : List X) (y : X) → Contains xs y → Contains (x ∷ xs) y
Contains-later x xs y (k, l, e) = (suc k, (omega arith), e)

pub nothing_in : {X : Type 0} (x : X) → Contains {X = X} [] x → ⊥
nothing_in x c = let low = c.1 in absurd (omega arith)

-- a filter keeps what passes, and no more
has_by : {X : Type 0} (f : X → Bool) (x : X) (xs : List X) (y : X) (b : Bool) → f x ≡ b → f y ≡ true → Contains (x ∷ xs) y → (Contains xs y → Contains (filter f xs) y) → Contains (cond b (x ∷ filter f xs) (filter f xs)) y
has_by f x xs y true is e c more = ⊎_elim (λ (t : x ≡ y). subst (λ z. Contains (x ∷ filter f xs) z) t (Contains-first x (filter f xs))) (λ t. Contains-later x (filter f xs) y (more t)) (Contains-cons x xs y c)
has_by f x xs y false is e c more = ⊎_elim (λ (t : x ≡ y). absurd (both_ways (f y) (ap f (sym t) ∙ is) e)) more (Contains-cons x xs y c)

pub filter-has : {X : Type 0} (f : X → Bool) (xs : List X) (y : X) → Contains xs y → f y ≡ true → Contains (filter f xs) y
filter-has f [] y c e = absurd (nothing_in y c)
filter-has f (x ∷ xs) y c e = has_by f x xs y (f x) refl e c (λ t. filter-has f xs y t e)

shows_by : {X : Type 0} (f : X → Bool) (x : X) (xs : List X) (y : X) (b : Bool) → f x ≡ b → Contains (cond b (x ∷ filter f xs) (filter f xs)) y → (Contains (filter f xs) y → Contains xs y × (f y ≡ true)) → Contains (x ∷ xs) y × (f y ≡ true)
shows_by f x xs y true is c more = ⊎_elim (λ (t : x ≡ y). (subst (λ z. Contains (x ∷ xs) z) t (Contains-first x xs), ap f (sym t) ∙ is)) (λ t. let m = more t in (Contains-later x xs y m.0, m.1)) (Contains-cons x (filter f xs) y c)
shows_by f x xs y false is c more = let m = more c in (Contains-later x xs y m.0, m.1)

pub filter-shows : {X : Type 0} (f : X → Bool) (xs : List X) (y : X) → Contains (filter f xs) y → Contains xs y × (f y ≡ true)
filter-shows f [] y c = absurd (nothing_in y c)
filter-shows f (x ∷ xs) y c = shows_by f x xs y (f x) refl c (λ t. filter-shows f xs y t)

pub filter_nothing : {X : Type 0} (f : X → Bool) (xs : List X) → ((x : X) → Contains xs x → f x ≡ false) → filter f xs ≡ []
filter_nothing f [] none = refl
filter_nothing f (x ∷ xs) none = ap (λ b. cond b (x ∷ filter f xs) (filter f xs)) (none x (Contains-first x xs)) ∙ filter_nothing f xs (λ y c. none y (Contains-later x xs y c))

-- the numbers counted from a on
counted-shows : (a n p : ℕ) → Contains (counted a n) p → (a ≤ p) × (p < a + n)
counted-shows a zero p c = absurd (nothing_in p c)
counted-shows a (suc n) p c = ⊎_elim (λ (t : a ≡ p). ((omega arith), (omega arith))) (λ t. let m = counted-shows (suc a) n p t in let l = m.0 in let r = m.1 in ((omega arith), (omega arith))) (Contains-cons a (counted (suc a) n) p c)

counted-has : (a n p : ℕ) → a ≤ p → p < a + n → Contains (counted a n) p
counted-has a zero p l r = absurd (omega arith)
counted-has a (suc n) p l r = ⊎_elim
    (λ (t : a ≡ p). subst (λ z. Contains (counted a (suc n)) z) t (Contains-first a (counted (suc a) n)))
    (λ (t : a ≡ p → ⊥). Contains-later a (counted (suc a) n) p (counted-has (suc a) n p (let ne = t in omega arith) (omega arith)))
    (cases_eq a p)

-- the pieces of spans are those that they cover
in_span : (s : ℕ × ℕ) (p : ℕ) → (nat_le s.0 p && nat_lt p s.1) ≡ true → (s.0 ≤ p) × (p < s.1)
in_span s p e = let t = and_parts (nat_le s.0 p) (nat_lt p s.1) e in (leb-true s.0 p t.0, ltb-true p s.1 t.1)

of_span : (s : ℕ × ℕ) (p : ℕ) → s.0 ≤ p → p < s.1 → (nat_le s.0 p && nat_lt p s.1) ≡ true
of_span s p l r = and_from (nat_le s.0 p) (nat_lt p s.1) (le-leb s.0 p l) (lt-ltb p s.1 r)

or_first : (x y : Bool) → x ≡ true → (x || y) ≡ true
or_first true y e = refl
or_first false y e = absurd (both_ways false refl e)

or_second : (x y : Bool) → y ≡ true → (x || y) ≡ true
or_second true y e = refl
or_second false y e = e

pub pieces-has : (ss : List (ℕ × ℕ)) (p : ℕ) → covers ss p ≡ true → Contains (pieces ss) p
pieces-has [] p e = absurd (both_ways false refl e)
pieces-has (s ∷ ss) p e = ⊎_elim
    (λ t. let l = (in_span s p t).0 in let r = (in_span s p t).1 in Contains-append_left (counted s.0 (s.1 - s.0)) (pieces ss) p (counted-has s.0 (s.1 - s.0) p l (omega arith)))
    (λ t. Contains-append_right (counted s.0 (s.1 - s.0)) (pieces ss) p (pieces-has ss p t))
    (or_cases (nat_le s.0 p && nat_lt p s.1) (covers ss p) e)

pub pieces-shows : (ss : List (ℕ × ℕ)) (p : ℕ) → Contains (pieces ss) p → covers ss p ≡ true
pieces-shows [] p c = absurd (nothing_in p c)
pieces-shows (s ∷ ss) p c = ⊎_elim
    (λ t. let m = counted-shows s.0 (s.1 - s.0) p t in let l = m.0 in let r = m.1 in or_first (nat_le s.0 p && nat_lt p s.1) (covers ss p) (of_span s p l (omega arith)))
    (λ t. or_second (nat_le s.0 p && nat_lt p s.1) (covers ss p) (pieces-shows ss p t))
    (Contains-append_cases (counted s.0 (s.1 - s.0)) (pieces ss) p c)

-- what is new in the later spans
pub new-shows : (began ended : List (ℕ × ℕ)) (p : ℕ) → Contains (new_pieces began ended) p → covers ended p ≡ true
new-shows began ended p c = pieces-shows ended p (filter-shows (λ q. not (covers began q)) (pieces ended) p c).0

pub new-has : (began ended : List (ℕ × ℕ)) (p : ℕ) → covers ended p ≡ true → (covers began p ≡ true) ⊎ Contains (new_pieces began ended) p
new-has began ended p e = ⊎_elim inl (λ (t : covers began p ≡ false). inr (filter-has (λ q. not (covers began q)) (pieces ended) p (pieces-has ended p e) (ap not t))) (cases_Bool (covers began p))

pub new-same : (began : List (ℕ × ℕ)) → new_pieces began began ≡ []
new-same began = filter_nothing (λ q. not (covers began q)) (pieces began) (λ q c. ap not (pieces-shows began q c))

pub pairs-shows : (j : ℕ) (ps : List ℕ) (q : ℕ × ℕ) → Contains (pairs_of j ps) q → (j ≡ q.0) × Contains ps q.1
pairs-shows j [] q c = absurd (nothing_in q c)
pairs-shows j (p ∷ ps) q c = ⊎_elim
    (λ (t : (j, p) ≡ q). (ap (λ z. z.0) t, subst (λ (z : ℕ × ℕ). Contains (p ∷ ps) z.1) t (Contains-first p ps)))
    (λ t. let m = pairs-shows j ps q t in (m.0, Contains-later p ps q.1 m.1))
    (Contains-cons (j, p) (pairs_of j ps) q c)

pub pairs-has : (j : ℕ) (ps : List ℕ) (p : ℕ) → Contains ps p → Contains (pairs_of j ps) (j, p)
pairs-has j [] p c = absurd (nothing_in p c)
pairs-has j (x ∷ ps) p c = ⊎_elim
    (λ (t : x ≡ p). subst (λ (z : ℕ). Contains (pairs_of j (x ∷ ps)) (j, z)) t (Contains-first (j, x) (pairs_of j ps)))
    (λ t. Contains-later (j, x) (pairs_of j ps) (j, p) (pairs-has j ps p t))
    (Contains-cons x ps p c)

-- one more span of one piece, between two lists of spans
pub covers-append : (xs ys : List (ℕ × ℕ)) (p : ℕ) → covers (xs ++ ys) p ≡ (covers xs p || covers ys p)
covers-append [] ys p = refl
covers-append (x ∷ xs) ys p = ap (λ b. (nat_le x.0 p && nat_lt p x.1) || b) (covers-append xs ys p) ∙ or_assoc (nat_le x.0 p && nat_lt p x.1) (covers xs p) (covers ys p)
  where
    or_assoc : (a b c : Bool) → (a || (b || c)) ≡ ((a || b) || c)
    or_assoc true b c = refl
    or_assoc false b c = refl

pub pieces-append : (xs ys : List (ℕ × ℕ)) → pieces (xs ++ ys) ≡ pieces xs ++ pieces ys
pieces-append [] ys = refl
pieces-append (x ∷ xs) ys = ap (λ l. counted x.0 (x.1 - x.0) ++ l) (pieces-append xs ys) ∙ sym (append_assoc (counted x.0 (x.1 - x.0)) (pieces xs) (pieces ys))

-- One more span, of one piece that none of the others has, somewhere among them
pub covers-insert : (ss : List (ℕ × ℕ)) (i p q : ℕ) → covers (insert ss i (p, p + 1)) q ≡ ((q == p) || covers ss q)
covers-insert ss i p q =
    covers-append (take i ss) ((p, p + 1) ∷ drop i ss) q
    ∙ ap (λ b. covers (take i ss) q || (b || covers (drop i ss) q)) (only (cases_eq q p))
    ∙ turned (covers (take i ss) q) (q == p) (covers (drop i ss) q)
    ∙ ap (λ b. (q == p) || b) (sym (covers-append (take i ss) (drop i ss) q) ∙ ap (λ l. covers l q) (take-append-drop i ss))
  where
    turned : (a b c : Bool) → (a || (b || c)) ≡ (b || (a || c))
    turned true true c = refl
    turned true false c = refl
    turned false b c = refl

    only : (q ≡ p) ⊎ (q ≡ p → ⊥) → (nat_le p q && nat_lt q (p + 1)) ≡ (q == p)
    only (inl e) = and_from (nat_le p q) (nat_lt q (p + 1)) (le-leb p q (omega arith)) (lt-ltb q (p + 1) (omega arith)) ∙ sym (eq-eqb q p e)
    only (inr ne) = ⊎_elim
        (λ (t : q < p). and_left (nat_le p q) (nat_lt q (p + 1)) (lt-leb p q t) ∙ sym (ne_eqb q p ne))
        (λ (t : p ≤ q). and_right (nat_le p q) (nat_lt q (p + 1)) (le-ltb q (p + 1) (omega arith)) ∙ sym (ne_eqb q p ne))
        (cases_lt q p)

within : (xs ys zs : List (ℕ × ℕ)) (q : ℕ) → xs ++ ys ≡ zs → (covers xs q ≡ true) ⊎ (covers ys q ≡ true) → covers zs q ≡ true
within xs ys zs q e c = ap (λ l. covers l q) (sym e) ∙ (covers-append xs ys q ∙ ⊎_elim (or_first (covers xs q) (covers ys q)) (or_second (covers xs q) (covers ys q)) c)

pub new-insert : (ss : List (ℕ × ℕ)) (i p : ℕ) → covers ss p ≡ false → new_pieces ss (insert ss i (p, p + 1)) ≡ p ∷ []
new-insert ss i p free =
    ap (filter fresh) (pieces-append (take i ss) ((p, p + 1) ∷ drop i ss))
    ∙ (filter-append fresh (pieces (take i ss)) (pieces ((p, p + 1) ∷ drop i ss))
    ∙ (ap (λ l. l ++ filter fresh (pieces ((p, p + 1) ∷ drop i ss))) (filter_nothing fresh (pieces (take i ss)) front)
    ∙ (ap (λ n. filter fresh (counted p n ++ pieces (drop i ss))) one
    ∙ (ap (λ b. cond b (p ∷ filter fresh (pieces (drop i ss))) (filter fresh (pieces (drop i ss)))) (ap not free)
    ∙ ap (λ l. p ∷ l) (filter_nothing fresh (pieces (drop i ss)) back)))))
  where
    fresh : ℕ → Bool
    fresh q = not (covers ss q)

    one : (p + 1) - p ≡ 1
    one = omega arith

    front : (q : ℕ) → Contains (pieces (take i ss)) q → fresh q ≡ false
    front q c = ap not (within (take i ss) (drop i ss) ss q (take-append-drop i ss) (inl (pieces-shows (take i ss) q c)))

    back : (q : ℕ) → Contains (pieces (drop i ss)) q → fresh q ≡ false
    back q c = ap not (within (take i ss) (drop i ss) ss q (take-append-drop i ss) (inr (pieces-shows (drop i ss) q c)))
