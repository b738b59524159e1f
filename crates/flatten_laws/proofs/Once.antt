-- Entries that are added one after another, each unless an equal one is there.
use Rattle.std.proofs.Common.{◌≡◌, List, [], ◌∷◌, ◌++◌, Bool, true, false, cond, ◌&&◌, ◌||◌, not, refl, sym, ap, ◌∙◌, subst, append_assoc, append-nil}
use Rattle.std.specs.Prelude.{filter}
use Rattle.std.specs.List.{list_any, AllByRecursion, IsDistinct}
use Rattle.std.proofs.lemmas.List.Folds.{list_any-append}
use Rattle.ld_model.specs.Tree.{Tree, same_tree}
use Rattle.ld_model.specs.NodeMap.{added}
use Rattle.flatten_laws.specs.Statements.{once}
use Rattle.ld_model.proofs.SameTree.{same_tree-exact, same_tree-sym}

abbrev pub gathered : List Tree → List Tree → List Tree
gathered held [] = held
gathered held (t ∷ ts) = gathered (added t held) ts

pub gathered-append : (held ts us : List Tree) → gathered held (ts ++ us) ≡ gathered (gathered held ts) us
gathered-append held [] us = refl
gathered-append held (t ∷ ts) us = gathered-append (added t held) ts us

-- What is not among these entries.
abbrev is_new : List Tree → Tree → Bool
is_new held u = not (list_any (same_tree u) held)

module _ {X : Type 0} where
  filter_none : (ts : List X) → filter (λ u. true) ts ≡ ts
  filter_none [] = refl
  filter_none (t ∷ ts) = ap (λ l. t ∷ l) (filter_none ts)

  filter_twice : (p q r : X → Bool) → ((u : X) → r u ≡ (q u && p u)) → (ts : List X) → filter r ts ≡ filter p (filter q ts)
  filter_twice p q r is [] = refl
  filter_twice p q r is (t ∷ ts) = by_tests (q t) (p t) refl refl (filter_twice p q r is ts)
    where
      by_tests : (b c : Bool) → q t ≡ b → p t ≡ c → filter r ts ≡ filter p (filter q ts) → filter r (t ∷ ts) ≡ filter p (filter q (t ∷ ts))
      by_tests true true qt pt rest = rw (is t, qt, pt) (ap (λ l. t ∷ l) rest)
      by_tests true false qt pt rest = rw (is t, qt, pt) rest
      by_tests false c qt pt rest = rw (is t, qt) rest

  all-filter : (P : X → Type 0) (p : X → Bool) (ts : List X) → AllByRecursion P ts → AllByRecursion P (filter p ts)
  all-filter P p [] all = tt
  all-filter P p (t ∷ ts) all = by_test (p t) (all-filter P p ts all.1)
    where
      by_test : (b : Bool) → AllByRecursion P (filter p ts) → AllByRecursion P (cond b (t ∷ filter p ts) (filter p ts))
      by_test true rest = (all.0, rest)
      by_test false rest = rest

added_there : (t : Tree) (held : List Tree) → list_any (same_tree t) held ≡ true → added t held ≡ held
unfolding added
added_there t held is = rw is

added_new : (t : Tree) (held : List Tree) → list_any (same_tree t) held ≡ false → added t held ≡ held ++ t ∷ []
unfolding added
added_new t held is = rw is

-- An entry that equals one that is held is not new.
old_twice : (t : Tree) (held : List Tree) → list_any (same_tree t) held ≡ true → (u : Tree) → is_new held u ≡ (not (same_tree t u) && is_new held u)
old_twice t held is u = by_test (same_tree t u) refl
  where
    by_test : (b : Bool) → same_tree t u ≡ b → is_new held u ≡ (not b && is_new held u)
    by_test true same = subst (λ x. not (list_any (same_tree x) held) ≡ false) (same_tree-exact t u same) (ap not is)
    by_test false same = refl

new_twice : (t : Tree) (held : List Tree) (u : Tree) → is_new (held ++ t ∷ []) u ≡ (not (same_tree t u) && is_new held u)
new_twice t held u = ap not (list_any-append (same_tree u) held (t ∷ [])) ∙ by_tests (list_any (same_tree u) held) (same_tree t u) (same_tree-sym u t)
  where
    by_tests : (a b : Bool) → same_tree u t ≡ b → not (a || (same_tree u t || false)) ≡ (not b && not a)
    by_tests a true is = rw is (any a)
      where
        any : (a : Bool) → not (a || true) ≡ false
        any true = refl
        any false = refl
    by_tests a false is = rw is (none a)
      where
        none : (a : Bool) → not (a || false) ≡ not a
        none true = refl
        none false = refl

gathered_by : (held : List Tree) (t : Tree) (ts : List Tree) (b : Bool) → list_any (same_tree t) held ≡ b → ((held : List Tree) → gathered held ts ≡ held ++ filter (is_new held) (once ts)) → gathered held (t ∷ ts) ≡ held ++ filter (is_new held) (once (t ∷ ts))
gathered_by held t ts true is rest =
    ap (λ l. gathered l ts) (added_there t held is) ∙ rest held
    ∙ ap (λ l. held ++ l) (filter_twice (is_new held) (λ u. not (same_tree t u)) (is_new held) (old_twice t held is) (once ts))
    ∙ ap (λ b. held ++ cond (not b) (t ∷ filter (is_new held) (filter (λ u. not (same_tree t u)) (once ts))) (filter (is_new held) (filter (λ u. not (same_tree t u)) (once ts)))) (sym is)
gathered_by held t ts false is rest =
    ap (λ l. gathered l ts) (added_new t held is) ∙ rest (held ++ t ∷ [])
    ∙ append_assoc held (t ∷ []) (filter (is_new (held ++ t ∷ [])) (once ts))
    ∙ ap (λ l. held ++ t ∷ l) (filter_twice (is_new held) (λ u. not (same_tree t u)) (is_new (held ++ t ∷ [])) (new_twice t held) (once ts))
    ∙ ap (λ b. held ++ cond (not b) (t ∷ filter (is_new held) (filter (λ u. not (same_tree t u)) (once ts))) (filter (is_new held) (filter (λ u. not (same_tree t u)) (once ts)))) (sym is)

gathered-is : (ts held : List Tree) → gathered held ts ≡ held ++ filter (is_new held) (once ts)
gathered-is [] held = sym (append-nil held)
gathered-is (t ∷ ts) held = gathered_by held t ts (list_any (same_tree t) held) refl (gathered-is ts)

-- Entries that are added to none.
pub gathered-once : (ts : List Tree) → gathered [] ts ≡ once ts
gathered-once ts = gathered-is ts [] ∙ filter_none (once ts)

-- An entry is among those without repetition exactly where it is among all.
any_but : (t u : Tree) (ts : List Tree) → same_tree u t ≡ false → list_any (same_tree u) (filter (λ v. not (same_tree t v)) ts) ≡ list_any (same_tree u) ts
any_but t u [] apart = refl
any_but t u (v ∷ ts) apart = by_test (same_tree t v) refl (any_but t u ts apart)
  where
    by_test : (b : Bool) → same_tree t v ≡ b → list_any (same_tree u) (filter (λ v. not (same_tree t v)) ts) ≡ list_any (same_tree u) ts → list_any (same_tree u) (cond (not b) (v ∷ filter (λ v. not (same_tree t v)) ts) (filter (λ v. not (same_tree t v)) ts)) ≡ list_any (same_tree u) (v ∷ ts)
    by_test true same rest =
        let other : same_tree u v ≡ false = subst (λ x. same_tree u x ≡ false) (same_tree-exact t v same) apart in
        rest ∙ ap (λ b. b || list_any (same_tree u) ts) (sym other)
    by_test false same rest = ap (λ b. same_tree u v || b) rest

pub any-once : (u : Tree) (ts : List Tree) → list_any (same_tree u) (once ts) ≡ list_any (same_tree u) ts
any-once u [] = refl
any-once u (t ∷ ts) = by_test (same_tree u t) refl (any-once u ts)
  where
    by_test : (b : Bool) → same_tree u t ≡ b → list_any (same_tree u) (once ts) ≡ list_any (same_tree u) ts → list_any (same_tree u) (once (t ∷ ts)) ≡ list_any (same_tree u) (t ∷ ts)
    by_test true same rest = rw same
    by_test false same rest = rw same (any_but t u (once ts) same ∙ rest)

distinct-filter : (p : Tree → Bool) (ts : List Tree) → IsDistinct same_tree ts → IsDistinct same_tree (filter p ts)
unfolding IsDistinct
distinct-filter p [] is = tt
distinct-filter p (t ∷ ts) is = by_test (p t) (distinct-filter p ts is.1)
  where
    by_test : (b : Bool) → IsDistinct same_tree (filter p ts) → IsDistinct same_tree (cond b (t ∷ filter p ts) (filter p ts))
    by_test true rest = (all-filter (λ u. same_tree t u ≡ false) p ts is.0, rest)
    by_test false rest = rest

others : (t : Tree) (ts : List Tree) → AllByRecursion (λ u. same_tree t u ≡ false) (filter (λ u. not (same_tree t u)) ts)
others t [] = tt
others t (u ∷ ts) = by_test (same_tree t u) refl (others t ts)
  where
    by_test : (b : Bool) → same_tree t u ≡ b → AllByRecursion (λ u. same_tree t u ≡ false) (filter (λ u. not (same_tree t u)) ts) → AllByRecursion (λ u. same_tree t u ≡ false) (cond (not b) (u ∷ filter (λ u. not (same_tree t u)) ts) (filter (λ u. not (same_tree t u)) ts))
    by_test true same rest = rest
    by_test false same rest = (same, rest)

pub distinct-once : (ts : List Tree) → IsDistinct same_tree (once ts)
unfolding IsDistinct
distinct-once [] = tt
distinct-once (t ∷ ts) = (others t (once ts), distinct-filter (λ u. not (same_tree t u)) (once ts) (distinct-once ts))

-- A list without repetition stays.
stays : (t : Tree) (ts : List Tree) → AllByRecursion (λ u. same_tree t u ≡ false) ts → filter (λ u. not (same_tree t u)) ts ≡ ts
stays t [] all = refl
stays t (u ∷ ts) all =
    ap (λ b. cond (not b) (u ∷ filter (λ v. not (same_tree t v)) ts) (filter (λ v. not (same_tree t v)) ts)) all.0 ∙ ap (λ l. u ∷ l) (stays t ts all.1)

once-distinct : (ts : List Tree) → IsDistinct same_tree ts → once ts ≡ ts
unfolding IsDistinct
once-distinct [] is = refl
once-distinct (t ∷ ts) is =
    ap (λ l. t ∷ filter (λ u. not (same_tree t u)) l) (once-distinct ts is.1) ∙ ap (λ l. t ∷ l) (stays t ts is.0)

pub once-once : (ts : List Tree) → once (once ts) ≡ once ts
once-once ts = once-distinct (once ts) (distinct-once ts)
