-- The rows of a list of values, numbered, and what is found among them.
use Rattle.std.proofs.Common.{◌≡◌, ℕ, ◌+◌, ◌<◌, ◌≤◌, List, [], ◌∷◌, Option, Some, None, Contains, IfSome, ◌↔◌, Bor, refl, sym, ap, ◌∙◌, ⊎_elim, length, suc, zero, add-zero, zero-add, arith}
use Rattle.std.specs.List.{slice_get}
use Rattle.std.specs.Option.{option_copied}
use Rattle.std.specs.Slice.{IsItemAt}
use Rattle.std.proofs.lemmas.Option.{slice_get_read, slice_get_cases, get_or_from_slice_get}
use Rattle.case_tables.specs.Rows.{numbered}

-- what stands among the numbered rows: the number counts from the first, and the value there has the name
pub row_of_value : {K : Type 0} (name : K → List ℕ) (m : ℕ) (ks : List K) (k : K) (i : ℕ) → slice_get ks i ≡ Some k → slice_get (numbered name m ks) i ≡ Some (name k, m + i)
row_of_value name m [] k i h = cc
row_of_value name m (j ∷ ks) k zero h =
    let same : j ≡ k = cc in rw (same, add-zero) refl
row_of_value name m (j ∷ ks) k (suc i) h =
    let e : (m + 1) + i ≡ m + suc i = omega arith in
    row_of_value name (m + 1) ks k i h ∙ ap (λ n. Some (name k, n)) e

pub value_of_row : {K : Type 0} (name : K → List ℕ) (m : ℕ) (ks : List K) (i : ℕ) (p : List ℕ × ℕ) → slice_get (numbered name m ks) i ≡ Some p → (p.1 ≡ m + i) × ((k : K) × (slice_get ks i ≡ Some k) × (name k ≡ p.0))
value_of_row name m [] i p h = cc
value_of_row name m (j ∷ ks) zero p h =
    let same : (name j, m) ≡ p = cc in
    (ap (λ (q : List ℕ × ℕ). q.1) (sym same) ∙ sym (add-zero m), (j, refl, ap (λ (q : List ℕ × ℕ). q.0) same))
value_of_row name m (j ∷ ks) (suc i) p h =
    let rest = value_of_row name (m + 1) ks i p h in
    let e : (m + 1) + i ≡ m + suc i = omega arith in
    (rest.0 ∙ e, rest.1)

contained : {X : Type 0} (xs : List X) (i : ℕ) (x : X) → slice_get xs i ≡ Some x → Contains xs x
contained xs i x h = ⊎_elim (λ w. (i, w.1, get_or_from_slice_get xs i x x h)) (λ w. absurd (let e : Some x ≡ None = sym h ∙ w.1 in cc)) (slice_get_cases xs i).1

-- the number of a value's name is found, and the value stands at that number
pub found_value : {K : Type 0} (name : K → List ℕ) (all : List K) (pairs : List (List ℕ × ℕ)) (text : List ℕ) (number : Option ℕ) → pairs ≡ numbered name 0 all → ((n : ℕ) → (number ≡ Some n) ↔ Contains pairs (text, n)) → (k : K) → Contains all k → text ≡ name k → (n : ℕ) × (number ≡ Some n) × (slice_get all n ≡ Some k)
found_value name all pairs text number is found k among named =
    let there : slice_get all among.0 ≡ Some k = slice_get_read all (length all) among.0 k refl among.1 (sym among.2) in
    let row : slice_get (numbered name 0 all) among.0 ≡ Some (name k, among.0) = row_of_value name 0 all k among.0 there ∙ ap (λ n. Some (name k, n)) (zero-add among.0) in
    let has : Contains pairs (text, among.0) = rw (is, named) (contained (numbered name 0 all) among.0 (name k, among.0) row) in
    (among.0, (found among.0).1 has, there)

-- what stands at a number that is found has the text as its name
pub named_value : {K : Type 0} (name : K → List ℕ) (all : List K) (pairs : List (List ℕ × ℕ)) (text : List ℕ) (number : Option ℕ) → pairs ≡ numbered name 0 all → ((n : ℕ) → (number ≡ Some n) ↔ Contains pairs (text, n)) → (n : ℕ) → number ≡ Some n → IfSome (slice_get all n) (λ k. text ≡ name k)
named_value name all pairs text number is found n at =
    let has : Contains (numbered name 0 all) (text, n) = rw is at ((found n).0 at) in
    let row : slice_get (numbered name 0 all) has.0 ≡ Some (text, n) = slice_get_read (numbered name 0 all) (length (numbered name 0 all)) has.0 (text, n) refl has.1 (sym has.2) in
    let value = value_of_row name 0 all has.0 (text, n) row in
    let same : n ≡ has.0 = value.0 ∙ zero-add has.0 in
    rw (same, value.1.1) (sym value.1.2)

-- what `get` of a list answers, where it copies
pub copied_get : {X : Type 0} (xs : List X) (i : ℕ) (r : Option (Bor X)) → IsItemAt xs i r → option_copied r ≡ slice_get xs i
copied_get xs i None h = ⊎_elim (λ w. absurd (let late : length xs ≤ i = h.3 in let early : i < length xs = w.1 in omega arith)) (λ w. sym w.1) (slice_get_cases xs i).1
copied_get xs i (Some x) h = sym (slice_get_read xs (length xs) i x.now refl h.3.0 h.1)
