-- A set of names, seen as the names in it.
use Rattle.std.proofs.Common.{◌≡◌, ℕ, suc, ◌+◌, List, [], ◌∷◌, ◌++◌, length, Bool, true, false, cond, ◌||◌, Option, Some, None, refl, sym, ap, ◌∙◌}
use Rattle.std.specs.Prelude.{if◌then◌else◌}
use Rattle.std.specs.List.{list_any, position, position_from}
use Rattle.std.specs.Map.{lookup}
use Rattle.std.proofs.lemmas.List.{map-append}
use Rattle.std.proofs.lemmas.Iterator.Adapters.{position_from-zero}
use Rattle.indexmap.specs.IndexSet.{insert_key}
use Rattle.op_model.specs.Names.{Name, same_name}
use Rattle.op_model.specs.Running.{with_name, place_of}
use Rattle.shard_laws.proofs.Chunks.{numbers_are_those_in_labels}
use Rattle.op_types.specs.View.{name_view, names_view}
use Rattle.op_types.specs.declared.name.Name as code
use Rattle.shard_model.specs.Numbered.{numbered_from, number_of}

-- The test by which code tells names apart.
abbrev same_code : code.Name → code.Name → Bool
same_code a b = same_name (name_view a) (name_view b)

any_view : (k : code.Name) (ks : List code.Name) → list_any (same_code k) ks ≡ list_any (same_name (name_view k)) (names_view ks)
any_view k [] = refl
any_view k (n ∷ ns) = ap (λ t. same_code k n || t) (any_view k ns)

-- A name that is there, and one that is put there unless it is.
pub already_there : (ks : List code.Name) (k : code.Name) → list_any (same_code k) ks ≡ true → names_view ks ≡ with_name (names_view ks) (name_view k)
unfolding with_name
already_there ks k is = ap (λ t. cond t (names_view ks) (names_view ks ++ name_view k ∷ [])) (sym is ∙ any_view k ks)

pub inserted : (ks : List code.Name) (k : code.Name) → names_view (insert_key same_code ks k) ≡ with_name (names_view ks) (name_view k)
unfolding with_name
inserted ks k = by_test (list_any (same_code k) ks) ∙ ap (λ t. cond t (names_view ks) (names_view ks ++ name_view k ∷ [])) (any_view k ks)
  where
    by_test : (t : Bool) → names_view (cond t ks (ks ++ k ∷ [])) ≡ cond t (names_view ks) (names_view ks ++ name_view k ∷ [])
    by_test true = refl
    by_test false = map-append name_view ks (k ∷ [])

-- The place of a name is its number.
number_from : (m : ℕ) (k : code.Name) (ks : List code.Name) → position_from (same_code k) m ks ≡ lookup (same_name (name_view k)) (numbered_from m (names_view ks))
number_from m k [] = refl
number_from m k (n ∷ ns) = ap (cond (same_code k n) (Some m)) (number_from (m + 1) k ns)

pub place_is_number : (k : code.Name) (ks : List code.Name) → position (same_code k) ks ≡ number_of (name_view k) (names_view ks)
place_is_number k ks = position_from-zero (same_code k) ks ∙ number_from 0 k ks

-- The place of a name that is there, and of one that isn't.
abbrev option_else : ℕ → Option ℕ → ℕ
option_else n (Some m) = m
option_else n None = n

not_there : (n : Name) (names : List Name) → list_any (same_name n) names ≡ false → length names ≡ place_of n names
not_there n [] none = refl
not_there n (x ∷ names) none = by_test (same_name n x) refl none (not_there n names)
  where
    by_test : (t : Bool) → same_name n x ≡ t → (t || list_any (same_name n) names) ≡ false → (list_any (same_name n) names ≡ false → length names ≡ place_of n names) → suc (length names) ≡ (if same_name n x then 0 else suc (place_of n names))
    by_test true is none later = absurd (cc)
    by_test false is none later = rw is (ap suc (later none))

by_answer : (n : Name) (names : List Name) (o : Option ℕ) → o ≡ (if list_any (same_name n) names then Some (place_of n names) else None) → option_else (length names) o ≡ place_of n names
by_answer n names o is = by_test (list_any (same_name n) names) refl is
  where
    by_test : (t : Bool) → list_any (same_name n) names ≡ t → o ≡ (if t then Some (place_of n names) else None) → option_else (length names) o ≡ place_of n names
    by_test true there is = ap (option_else (length names)) is
    by_test false none is = ap (option_else (length names)) is ∙ not_there n names none

pub place_is : (k : code.Name) (ks : List code.Name) (o : Option ℕ) → position (same_code k) ks ≡ o → option_else (length (names_view ks)) o ≡ place_of (name_view k) (names_view ks)
place_is k ks o is = by_answer (name_view k) (names_view ks) o (sym is ∙ place_is_number k ks ∙ numbers_are_those_in_labels (name_view k) (names_view ks))
