-- The byte that is named begins the first number that isn't accepted.
use Rattle.std.proofs.Common.{◌≡◌, ℕ, zero, suc, ◌+◌, ◌<◌, List, [], ◌∷◌, ◌++◌, drop, cond, Bool, true, false, Some, refl, ap, ◌∙◌, arith}
use Rattle.std.specs.List.{AllByRecursion}
use Rattle.ld_json.specs.declared.numbers.Stand.{Stand}
use Rattle.ld_json.specs.declared.numbers.Stand.TheVariants.{Outside}
use Rattle.ld_json.specs.Numbers.{numbers, next, begins_number, word_of, is_accepted, first_refused}
use Rattle.ld_json.specs.NumberLaws.{WordsAreTheTokens, StandAtTheirPlaces, Ascend, PlacesAscend, IsFirstRefused, NamedIsFirst}
use Rattle.ld_json.proofs.GrammarNumbers.{same_numbers}

pub words_are_the_tokens : WordsAreTheTokens
words_are_the_tokens = same_numbers

-- A word that may stand in front of others.
with_first : (P : ℕ × List ℕ → Type 0) (b : Bool) (n : ℕ × List ℕ) (ns : List (ℕ × List ℕ)) → P n → AllByRecursion P ns → AllByRecursion P (cond b (n ∷ []) [] ++ ns)
with_first P true n ns here all = (here, all)
with_first P false n ns here all = all

drop_next : (a : ℕ) (bytes : List ℕ) (x : ℕ) (xs : List ℕ) → drop a bytes ≡ x ∷ xs → drop (suc a) bytes ≡ xs
drop_next zero [] x xs e = absurd (cc)
drop_next zero (b ∷ bs) x xs e = cc
drop_next (suc a) [] x xs e = absurd (cc)
drop_next (suc a) (b ∷ bs) x xs e = drop_next a bs x xs e

stand : (bytes : List ℕ) (p : Stand) (a : ℕ) (xs : List ℕ) → drop a bytes ≡ xs → AllByRecursion (λ n. word_of (drop n.0 bytes) ≡ n.1) (numbers p a xs)
stand bytes p a [] e = tt
stand bytes p a (x ∷ xs) e =
    let after : a + 1 ≡ suc a = omega arith in
    let rest : drop (a + 1) bytes ≡ xs = ap (λ n. drop n bytes) after ∙ drop_next a bytes x xs e in
    with_first (λ n. word_of (drop n.0 bytes) ≡ n.1) (begins_number p x) (a, word_of (x ∷ xs)) (numbers (next p x) (a + 1) xs) (ap word_of e) (stand bytes (next p x) (a + 1) xs rest)

pub stand_at_their_places : StandAtTheirPlaces
stand_at_their_places bytes = stand bytes Outside 0 bytes refl

above : (c : ℕ) (p : Stand) (a : ℕ) (xs : List ℕ) → c < a → AllByRecursion (λ n. c < n.0) (numbers p a xs)
above c p a [] less = tt
above c p a (x ∷ xs) less = with_first (λ n. c < n.0) (begins_number p x) (a, word_of (x ∷ xs)) (numbers (next p x) (a + 1) xs) less (above c (next p x) (a + 1) xs (omega (arith, less)))

first_ascends : (b : Bool) (n : ℕ × List ℕ) (ns : List (ℕ × List ℕ)) → AllByRecursion (λ m. n.0 < m.0) ns → Ascend ns → Ascend (cond b (n ∷ []) [] ++ ns)
first_ascends true n ns all rest = (all, rest)
first_ascends false n ns all rest = rest

ascend : (p : Stand) (a : ℕ) (xs : List ℕ) → Ascend (numbers p a xs)
ascend p a [] = tt
ascend p a (x ∷ xs) = first_ascends (begins_number p x) (a, word_of (x ∷ xs)) (numbers (next p x) (a + 1) xs) (above a (next p x) (a + 1) xs (omega arith)) (ascend (next p x) (a + 1) xs)

pub places_ascend : PlacesAscend
places_ascend bytes = ascend Outside 0 bytes

first : (ns : List (ℕ × List ℕ)) (at : ℕ) → first_refused ns ≡ Some at → IsFirstRefused at ns
first [] at e = absurd (cc)
first (n ∷ ns) at e = by_test (is_accepted n.1) refl e (first ns at)
  where
    by_test : (b : Bool) → is_accepted n.1 ≡ b → cond b (first_refused ns) (Some n.0) ≡ Some at → (first_refused ns ≡ Some at → IsFirstRefused at ns) → IsFirstRefused at (n ∷ ns)
    by_test true is e rest = let r = rest e in record {
      before = n ∷ r.before;
      word = r.word;
      after = r.after;
      parts = ap (λ l. n ∷ l) r.parts;
      accepted = rw is r.accepted;
      refused = r.refused;
    }
    by_test false is e rest = let same : n.0 ≡ at = cc in record {
      before = [];
      word = n.1;
      after = ns;
      parts = ap (λ a. (a, n.1) ∷ ns) same;
      accepted = refl;
      refused = is;
    }

pub named_is_first : NamedIsFirst
named_is_first bytes at e = first (numbers Outside 0 bytes) at e
