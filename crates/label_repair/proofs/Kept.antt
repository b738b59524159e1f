-- What holds of all of a list once repeats were left out holds of all of it.
use Rattle.std.proofs.Common.{◌≡◌, List, [], ◌∷◌, ◌++◌, Bool, true, false, cond, not, ◌||◌, Some, None, refl, sym, ◌∙◌, subst}
use Rattle.std.specs.Prelude.{filter}
use Rattle.std.specs.List.{list_any, AllByRecursion}
use Rattle.std.specs.Map.{keys_of}
use Rattle.op_model.specs.Names.{Name, same_name}
use Rattle.op_model.specs.Ops.{Entry}
use Rattle.op_laws.specs.Own.{HasOwn, EntryHasOwn}
use Rattle.sum_model.specs.Joins.{is_new, lists_joined, or_empty, value_at, values_joined}
use Rattle.sum_model.specs.Sums.{same_entry, properties_joined}
use Rattle.sum_laws.specs.Said.{once}
use Rattle.sum_laws.proofs.Lists.{IsExact}
use Rattle.sum_laws.proofs.Once.{all-filter}
use Rattle.sum_laws.proofs.Same.{same_name-exact, same_name-sym, same_entry-exact}
use Rattle.shard_model.specs.Own.{PropertyHasOwn}

module _ {X : Type 0} (P : X → Type 0) where
  pub all-front : (a b : List X) → AllByRecursion P (a ++ b) → AllByRecursion P a
  all-front [] b all = tt
  all-front (x ∷ a) b all = (all.0, all-front a b all.1)

  pub all-back : (a b : List X) → AllByRecursion P (a ++ b) → AllByRecursion P b
  all-back [] b all = all
  all-back (x ∷ a) b all = all-back a b all.1

  all-both : (a b : List X) → AllByRecursion P a → AllByRecursion P b → AllByRecursion P (a ++ b)
  all-both [] b all more = more
  all-both (x ∷ a) b all more = (all.0, all-both a b all.1 more)

  pub all-joined : (same : X → X → Bool) (a b : List X) → AllByRecursion P a → AllByRecursion P b → AllByRecursion P (lists_joined same a b)
  all-joined same a b all more = all-both a (filter (is_new same a) b) all (all-filter P (is_new same a) b more)

  module _ (same : X → X → Bool) (exact : IsExact same) where
    at_found : (x : X) (xs : List X) → list_any (same x) xs ≡ true → AllByRecursion P xs → P x
    at_found x [] found all = absurd (cc)
    at_found x (y ∷ xs) found all = by_test (same x y) refl found (λ rest. at_found x xs rest all.1)
      where
        by_test : (t : Bool) → same x y ≡ t → (t || list_any (same x) xs) ≡ true → (list_any (same x) xs ≡ true → P x) → P x
        by_test true is found later = subst P (sym (exact x y is)) all.0
        by_test false is found later = later found

    new_back : (held b : List X) → AllByRecursion P held → AllByRecursion P (filter (is_new same held) b) → AllByRecursion P b
    new_back held [] all rest = tt
    new_back held (x ∷ b) all rest = by_test (list_any (same x) held) refl rest (new_back held b all)
      where
        by_test : (t : Bool) → list_any (same x) held ≡ t → AllByRecursion P (cond (not t) (x ∷ filter (is_new same held) b) (filter (is_new same held) b)) → (AllByRecursion P (filter (is_new same held) b) → AllByRecursion P b) → AllByRecursion P (x ∷ b)
        by_test true is rest later = (at_found x held is all, later rest)
        by_test false is rest later = (rest.0, later rest.1)

    pub joined_back : (a b : List X) → AllByRecursion P (lists_joined same a b) → AllByRecursion P b
    joined_back a b all = new_back a b (all-front a (filter (is_new same a) b) all) (all-back a (filter (is_new same a) b) all)

    others_back : (x : X) (ys : List X) → P x → AllByRecursion P (filter (λ y. not (same x y)) ys) → AllByRecursion P ys
    others_back x [] first rest = tt
    others_back x (y ∷ ys) first rest = by_test (same x y) refl rest (others_back x ys first)
      where
        by_test : (t : Bool) → same x y ≡ t → AllByRecursion P (cond (not t) (y ∷ filter (λ y. not (same x y)) ys) (filter (λ y. not (same x y)) ys)) → (AllByRecursion P (filter (λ y. not (same x y)) ys) → AllByRecursion P ys) → AllByRecursion P (y ∷ ys)
        by_test true is rest later = (subst P (exact x y is) first, later rest)
        by_test false is rest later = (rest.0, later rest.1)

    pub once_back : (xs : List X) → AllByRecursion P (once same xs) → AllByRecursion P xs
    once_back [] all = tt
    once_back (x ∷ xs) all = (all.0, once_back xs (others_back x (once same xs) all.0 all.1))

-- The same of properties and their entries.
module _ (names : List Name) where
  abbrev Own : Name × List Entry → Type 0
  Own = PropertyHasOwn names

  abbrev IsOwn : Entry → Type 0
  IsOwn = EntryHasOwn names

  values_front : (ps qs : List (Name × List Entry)) → AllByRecursion Own (values_joined same_name [] (lists_joined same_entry) ps qs) → AllByRecursion Own ps
  values_front [] qs all = tt
  values_front (f ∷ ps) qs all =
      let at_f : List Entry = value_at same_name [] f.0 qs in
      (record { name = all.0.name; property = all.0.property; entries = all-front IsOwn f.1 (filter (is_new same_entry f.1) at_f) all.0.entries }, values_front ps qs all.1)

  pub properties_front : (ps qs : List (Name × List Entry)) → AllByRecursion Own (properties_joined ps qs) → AllByRecursion Own ps
  properties_front ps qs all =
      values_front ps qs (all-front Own (values_joined same_name [] (lists_joined same_entry) ps qs) (filter (λ e. is_new same_name (keys_of ps) e.0) qs) all)

  module _ (p : Name) (es : List Entry) where
    abbrev more : List (Name × List Entry)
    more = (p, es) ∷ []

    in_values : (ps : List (Name × List Entry)) → list_any (same_name p) (keys_of ps) ≡ true → AllByRecursion Own (values_joined same_name [] (lists_joined same_entry) ps more) → HasOwn names p × AllByRecursion IsOwn es
    in_values [] found all = absurd (cc)
    in_values (f ∷ ps) found all = by_test (same_name p f.0) refl found (λ rest. in_values ps rest all.1)
      where
        by_test : (t : Bool) → same_name p f.0 ≡ t → (t || list_any (same_name p) (keys_of ps)) ≡ true → (list_any (same_name p) (keys_of ps) ≡ true → HasOwn names p × AllByRecursion IsOwn es) → HasOwn names p × AllByRecursion IsOwn es
        by_test true is found later =
            let here : AllByRecursion IsOwn (lists_joined same_entry f.1 es) =
            subst (λ t. AllByRecursion IsOwn (lists_joined same_entry f.1 (or_empty [] (cond t (Some es) None)))) (same_name-sym f.0 p ∙ is) all.0.entries in
            (subst (HasOwn names) (sym (same_name-exact p f.0 is)) all.0.name, joined_back IsOwn same_entry same_entry-exact f.1 es here)
        by_test false is found later = later found

    pub property_back : (ps : List (Name × List Entry)) → AllByRecursion Own (properties_joined ps more) → HasOwn names p × AllByRecursion IsOwn es
    property_back ps all = by_test (list_any (same_name p) (keys_of ps)) refl (all-back Own values (cond (is_new same_name (keys_of ps) p) more []) all)
      where
        values : List (Name × List Entry)
        values = values_joined same_name [] (lists_joined same_entry) ps more

        by_test : (t : Bool) → list_any (same_name p) (keys_of ps) ≡ t → AllByRecursion Own (cond (not t) more []) → HasOwn names p × AllByRecursion IsOwn es
        by_test true is rest = in_values ps is (all-front Own values (cond (is_new same_name (keys_of ps) p) more []) all)
        by_test false is rest = (rest.0.name, rest.0.entries)
