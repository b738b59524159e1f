-- Names in the order of first use: which names are there, and at which places.
use Rattle.std.proofs.Common.{◌≡◌, suc, List, [], ◌∷◌, ◌++◌, length, Bool, true, false, ◌||◌, refl, sym, ap, ◌∙◌}
use Rattle.std.specs.List.{list_any}
use Rattle.std.proofs.Math.Bool.{or_assoc}
use Rattle.std.proofs.lemmas.List.Folds.{list_any-append}
use Rattle.ld_model.specs.Label.{label_of}
use Rattle.op_model.specs.Names.{Name, iri, source, fresh, same_name, blank}
use Rattle.op_model.specs.Running.{with_name, used, place_of, label_in}
use Rattle.op_laws.specs.Words.{is_known}
use Rattle.op_laws.proofs.SameName.{same_name-exact, same_name-refl}

pub or_false : (b : Bool) → (b || false) ≡ b
or_false true = refl
or_false false = refl

pub or_true : (b : Bool) → (b || true) ≡ true
or_true true = refl
or_true false = refl

-- A name that is there stays at its place, and another one comes last.
pub with_old : (n : Name) (names : List Name) → list_any (same_name n) names ≡ true → with_name names n ≡ names
unfolding with_name
with_old n names there = rw there refl

pub with_new : (n : Name) (names : List Name) → list_any (same_name n) names ≡ false → with_name names n ≡ names ++ n ∷ []
unfolding with_name
with_new n names missing = rw missing refl

-- What is there, once one more name is used, and once more are.
any-with_name : (x n : Name) (names : List Name) → list_any (same_name x) (with_name names n) ≡ (list_any (same_name x) names || same_name x n)
any-with_name x n names = by_tests (list_any (same_name n) names) (same_name x n) refl refl
  where
    by_tests : (b c : Bool) → list_any (same_name n) names ≡ b → same_name x n ≡ c → list_any (same_name x) (with_name names n) ≡ (list_any (same_name x) names || same_name x n)
    by_tests false c missing same =
        ap (list_any (same_name x)) (with_new n names missing)
        ∙ list_any-append (same_name x) names (n ∷ [])
        ∙ ap (λ b. list_any (same_name x) names || b) (or_false (same_name x n))
    by_tests true false there apart =
        ap (list_any (same_name x)) (with_old n names there)
        ∙ sym (or_false (list_any (same_name x) names))
        ∙ ap (λ b. list_any (same_name x) names || b) (sym apart)
    by_tests true true there same =
        ap (list_any (same_name x)) (with_old n names there)
        ∙ ap (λ y. list_any (same_name y) names) (same_name-exact x n same)
        ∙ there
        ∙ sym (or_true (list_any (same_name x) names))
        ∙ ap (λ b. list_any (same_name x) names || b) (sym same)

pub any-used : (x : Name) (names ns : List Name) → list_any (same_name x) (used names ns) ≡ (list_any (same_name x) names || list_any (same_name x) ns)
any-used x names [] = sym (or_false (list_any (same_name x) names))
any-used x names (n ∷ ns) =
    any-used x (with_name names n) ns
    ∙ ap (λ b. b || list_any (same_name x) ns) (any-with_name x n names)
    ∙ or_assoc (list_any (same_name x) names) (same_name x n) (list_any (same_name x) ns)

pub used-append : (names ns ms : List Name) → used names (ns ++ ms) ≡ used (used names ns) ms
used-append names [] ms = refl
used-append names (n ∷ ns) ms = used-append (with_name names n) ns ms

-- Places.
place_before : (n : Name) (names more : List Name) → list_any (same_name n) names ≡ true → place_of n (names ++ more) ≡ place_of n names
place_before n [] more there = absurd (cc)
place_before n (m ∷ ms) more there = by_test (same_name n m) refl there (place_before n ms more)
  where
    by_test : (b : Bool) → same_name n m ≡ b → (same_name n m || list_any (same_name n) ms) ≡ true → (list_any (same_name n) ms ≡ true → place_of n (ms ++ more) ≡ place_of n ms) → place_of n ((m ∷ ms) ++ more) ≡ place_of n (m ∷ ms)
    by_test true same there rest = rw same refl
    by_test false apart there rest = rw apart (ap suc (rest (rw apart at there)))

pub place_last : (n : Name) (names : List Name) → list_any (same_name n) names ≡ false → place_of n (names ++ n ∷ []) ≡ length names
place_last n [] missing = rw (same_name-refl n) refl
place_last n (m ∷ ms) missing = by_test (same_name n m) refl missing (place_last n ms)
  where
    by_test : (b : Bool) → same_name n m ≡ b → (same_name n m || list_any (same_name n) ms) ≡ false → (list_any (same_name n) ms ≡ false → place_of n (ms ++ n ∷ []) ≡ length ms) → place_of n ((m ∷ ms) ++ n ∷ []) ≡ length (m ∷ ms)
    by_test true same missing rest = absurd (let both : true ≡ false = rw same at missing in cc)
    by_test false apart missing rest = rw apart (ap suc (rest (rw apart at missing)))

place_stays : (n : Name) (names ns : List Name) → list_any (same_name n) names ≡ true → place_of n (used names ns) ≡ place_of n names
place_stays n names [] there = refl
place_stays n names (m ∷ ms) there =
    place_stays n (with_name names m) ms (any-with_name n m names ∙ ap (λ b. b || same_name n m) there)
    ∙ by_test (list_any (same_name m) names) refl
  where
    by_test : (b : Bool) → list_any (same_name m) names ≡ b → place_of n (with_name names m) ≡ place_of n names
    by_test true old = ap (place_of n) (with_old m names old)
    by_test false new = ap (place_of n) (with_new m names new) ∙ place_before n names (m ∷ []) there

there_now : (n : Name) (names : List Name) → list_any (same_name n) (with_name names n) ≡ true
there_now n names = any-with_name n n names ∙ ap (λ b. list_any (same_name n) names || b) (same_name-refl n) ∙ or_true (list_any (same_name n) names)

-- A known name: it is among those that have labels, or an IRI.
module _ (names : List Name) where
  pub used_again : (n : Name) → is_known names n ≡ true → used names (blank n) ≡ names
  used_again (iri s) known = refl
  used_again (source s) known = with_old (source s) names known
  used_again (fresh c k) known = with_old (fresh c k) names known

  pub used_now : (n : Name) → is_known (used names (blank n)) n ≡ true
  used_now (iri s) = refl
  used_now (source s) = there_now (source s) names
  used_now (fresh c k) = there_now (fresh c k) names

  pub known_stays : (n : Name) (ns : List Name) → is_known names n ≡ true → is_known (used names ns) n ≡ true
  known_stays (iri s) ns known = refl
  known_stays (source s) ns known = any-used (source s) names ns ∙ ap (λ b. b || list_any (same_name (source s)) ns) known
  known_stays (fresh c k) ns known = any-used (fresh c k) names ns ∙ ap (λ b. b || list_any (same_name (fresh c k)) ns) known

  pub label_stays : (n : Name) (ns : List Name) → is_known names n ≡ true → label_in (used names ns) n ≡ label_in names n
  label_stays (iri s) ns known = refl
  label_stays (source s) ns known = ap label_of (place_stays (source s) names ns known)
  label_stays (fresh c k) ns known = ap label_of (place_stays (fresh c k) names ns known)
