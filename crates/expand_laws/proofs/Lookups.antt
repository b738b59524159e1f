-- Words, look-ups, and what holds of each item.
use Rattle.std.proofs.Common.{◌≡◌, List, [], ◌∷◌, Bool, true, false, not, ◌&&◌, ◌||◌, Option, Some, None, IfSome, flat_map, filter_map, refl, ap, ◌∙◌}
use Rattle.std.specs.List.{AllByRecursion, list_all, cons_option}
use Rattle.std.specs.Map.{keys_of}
use Rattle.std.specs.Str.{bytes_eq}
use Rattle.ld_model.specs.Tree.{Tree, Pairs, member_at, IsBefore, AreAscending}
use Rattle.ld_model.proofs.Truths.{both}
use Rattle.ld_model.proofs.Puts.{bytes_eq-refl, bytes_eq-exact, bytes_eq-sym, apart_before, at_first, at_later, ascending_head, ascending_tail}
use Rattle.ctx_types.specs.Context.{Text}
use Rattle.ctx_model.specs.Words.{among}
use Rattle.expand_laws.proofs.Steps.{never, all_append}
use Rattle.expand_laws.proofs.Names.{held}

-- a text that is this word passes just the tests that the word passes
pub clash : {A : Type 0} (test : Text → Bool) (k w : Text) → bytes_eq k w ≡ true → test w ≡ false → test k ≡ true → A
clash test k w same fails passes = never (test k) (ap test (bytes_eq-exact k w same) ∙ fails) passes

-- one of some words of which none passes
pub none_passes : (test : Text → Bool) (k : Text) (ws : List Text) → list_all (λ w. not (test w)) ws ≡ true → among k ws ≡ true → test k ≡ false
none_passes test k [] fail is = absurd (cc)
none_passes test k (w ∷ ws) fail is = by (bytes_eq k w) refl is (λ later. none_passes test k ws (both (not (test w)) (list_all (λ w. not (test w)) ws) fail).1 later)
  where
    turned : (b : Bool) → not b ≡ true → b ≡ false
    turned true is = absurd (cc)
    turned false is = refl

    by : (b : Bool) → bytes_eq k w ≡ b → (b || among k ws) ≡ true → (among k ws ≡ true → test k ≡ false) → test k ≡ false
    by true same is rest = ap test (bytes_eq-exact k w same) ∙ turned (test w) (both (not (test w)) (list_all (λ w. not (test w)) ws) fail).0
    by false other is rest = rest is

pub all_of : {X : Type 0} (test : X → Bool) (xs : List X) → list_all test xs ≡ true → AllByRecursion (λ x. test x ≡ true) xs
all_of test [] is = tt
all_of test (x ∷ xs) is = let parts = both (test x) (list_all test xs) is in (parts.0, all_of test xs parts.1)

pub of_all : {X : Type 0} (test : X → Bool) (xs : List X) → AllByRecursion (λ x. test x ≡ true) xs → list_all test xs ≡ true
of_all test [] all = refl
of_all test (x ∷ xs) all = ap (λ b. b && list_all test xs) all.0 ∙ of_all test xs all.1

-- where keys ascend, what holds of all that is looked up holds of each entry
by_keys : (P : Text → Type 0) (ms : Pairs) → AllByRecursion P (keys_of ms) → AllByRecursion (λ m. P m.0) ms
by_keys P [] all = tt
by_keys P (m ∷ ms) all = (all.0, by_keys P ms all.1)

pub each_entry : (P : Text × Tree → Type 0) (ms : Pairs) → AreAscending ms → ((k : Text) (t : Tree) → member_at k ms ≡ Some t → P (k, t)) → AllByRecursion P ms
each_entry P [] sorted looks = tt
each_entry P (m ∷ ms) sorted looks =
    (looks m.0 m.1 (at_first m.0 m ms (bytes_eq-refl m.0)), each_entry P ms (ascending_tail m ms sorted) (λ k t at. looks k t (at_later k m ms (other k t at) ∙ at)))
  where
    other : (k : Text) (t : Tree) → member_at k ms ≡ Some t → bytes_eq k m.0 ≡ false
    other k t at = bytes_eq-sym k m.0 ∙ apart_before m.0 k (held (λ e. IsBefore m.0 e.0) k t ms (by_keys (IsBefore m.0) ms (ascending_head m ms sorted)) at)

pub all_filtered : {X Y : Type 0} (P : Y → Type 0) (f : X → Option Y) (xs : List X) → ((x : X) → IfSome (f x) P) → AllByRecursion P (filter_map f xs)
all_filtered P f [] each = tt
all_filtered {Y = Y} P f (x ∷ xs) each = by (f x) (each x) (all_filtered P f xs each)
  where
    by : (o : Option Y) → IfSome o P → AllByRecursion P (filter_map f xs) → AllByRecursion P (cons_option o (filter_map f xs))
    by None is rest = rest
    by (Some y) is rest = (is, rest)

pub all_flattened : {X Y : Type 0} (P : Y → Type 0) (f : X → List Y) (xs : List X) → ((x : X) → AllByRecursion P (f x)) → AllByRecursion P (flat_map f xs)
all_flattened P f [] each = tt
all_flattened P f (x ∷ xs) each = all_append P (f x) (flat_map f xs) (each x) (all_flattened P f xs each)
