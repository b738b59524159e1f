-- A look-up from the first row on finds the one row there is.
use Rattle.std.proofs.Common.{◌≡◌, ℕ, Bool, true, false, ◌&&◌, List, [], ◌∷◌, Some, Contains, IsTrue, map, not, ◌↔◌, refl, sym, ap, ◌∙◌, length, ◌<◌, eqb}
use Rattle.std.specs.List.{IsDistinct, AllByRecursion, list_all}
use Rattle.std.specs.Str.{bytes_eq}
use Rattle.std.specs.Cmp.{nat_eq_equiv}
use Rattle.std.specs.Cmp.Lexicographic.{nat_list_eq_equiv}
use Rattle.std.specs.Map.{lookup, keys_of}
use Rattle.std.proofs.lemmas.Bool.Decides.{Decides-eqb}
use Rattle.std.proofs.lemmas.Slice.Eq.{bytes_eq-Decides}
use Rattle.std.proofs.lemmas.List.{get_or-map, length-map}
use Rattle.std.proofs.lemmas.Map.Views.{lookup-from_Contains, Contains-from_lookup}
use Rattle.case_tables.specs.Rows.{turned, all_differ, names_differ, numbers_differ}

and_both : (a b : Bool) → (a && b) ≡ true → (a ≡ true) × (b ≡ true)
and_both true b h = (refl, h)
and_both false b h = cc

none_passes : {K : Type 0} (test : K → Bool) (ks : List K) → list_all (λ j. not (test j)) ks ≡ true → AllByRecursion (λ j. test j ≡ false) ks
none_passes test [] h = tt
none_passes test (k ∷ ks) h =
    let both = and_both (not (test k)) _ h in
    let fails : (b : Bool) → not b ≡ true → b ≡ false = λ b. elim b as (λ v. not v ≡ true → v ≡ false) [ true ↦ λ e. cc | false ↦ λ _. refl ] in
    (fails (test k) both.0, none_passes test ks both.1)

-- the test that no two are equal, as std's word
pub IsDistinct-from_all_differ : {K : Type 0} (eq : K → K → Bool) (ks : List K) → all_differ eq ks ≡ true → IsDistinct eq ks
unfolding IsDistinct
IsDistinct-from_all_differ eq [] h = tt
IsDistinct-from_all_differ eq (k ∷ ks) h =
    let both = and_both (list_all (λ j. not (eq k j)) ks) _ h in
    (none_passes (eq k) ks both.0, IsDistinct-from_all_differ eq ks both.1)

-- the number beside a name
pub number_found : (q : List ℕ) (pairs : List (List ℕ × ℕ)) → IsTrue (names_differ pairs) → (n : ℕ) → (lookup (bytes_eq q) pairs ≡ Some n) ↔ Contains pairs (q, n)
number_found q pairs differ n = (
  λ h. Contains-from_lookup (λ x y. (bytes_eq-Decides x y).0) q n pairs h,
  λ h. lookup-from_Contains nat_list_eq_equiv q n pairs (IsDistinct-from_all_differ bytes_eq _ differ) h,
)

-- a pair stands among the turned pairs just where it stands turned among the pairs
turned_there : (pairs : List (List ℕ × ℕ)) (name : List ℕ) (n : ℕ) → Contains pairs (name, n) → Contains (turned pairs) (n, name)
turned_there pairs name n h = (h.0, simp length-map h.1, get_or-map _ pairs h.0 (name, n) (n, name) h.1 ∙ ap (λ (p : List ℕ × ℕ). (p.1, p.0)) h.2)

turned_back : (pairs : List (List ℕ × ℕ)) (name : List ℕ) (n : ℕ) → Contains (turned pairs) (n, name) → Contains pairs (name, n)
turned_back pairs name n h =
    let lt : h.0 < length pairs = simp length-map at h.1 in
    (h.0, lt, ap (λ (p : ℕ × List ℕ). (p.1, p.0)) (sym (get_or-map (λ (p : List ℕ × ℕ). (p.1, p.0)) pairs h.0 (name, n) (n, name) lt) ∙ h.2))

-- the number keys of the turned pairs are the numbers of the pairs
turned_keys : (pairs : List (List ℕ × ℕ)) → keys_of (turned pairs) ≡ map (λ p. p.1) pairs
turned_keys [] = refl
turned_keys (p ∷ ps) = ap (λ ks. p.1 ∷ ks) (turned_keys ps)

-- the name beside a number
pub name_found : (q : ℕ) (pairs : List (List ℕ × ℕ)) → IsTrue (numbers_differ pairs) → (name : List ℕ) → (lookup (eqb q) (turned pairs) ≡ Some name) ↔ Contains pairs (name, q)
name_found q pairs differ name =
    let distinct : IsDistinct eqb (keys_of (turned pairs)) = IsDistinct-from_all_differ eqb _ (ap (all_differ eqb) (turned_keys pairs) ∙ differ) in (
      λ h. turned_back pairs name q (Contains-from_lookup (λ x y. (Decides-eqb x y).0) q name (turned pairs) h),
      λ h. lookup-from_Contains nat_eq_equiv q name (turned pairs) distinct (turned_there pairs name q h),
    )
