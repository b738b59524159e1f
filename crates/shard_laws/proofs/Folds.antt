-- What is read once elements were put one after another.
use Rattle.std.proofs.Common.{◌≡◌, List, [], ◌∷◌, Bool, true, false, cond, ◌||◌, Option, Some, None, is_some, refl, sym, ap, ◌∙◌}
use Rattle.std.specs.Prelude.{filter, ⊤}
use Rattle.std.specs.List.{fold, list_any, AllByRecursion}
use Rattle.std.specs.Option.{option_or}

pub or_none : {X : Type 0} (o : Option X) → option_or o None ≡ o
or_none None = refl
or_none (Some x) = refl

pub or_assoc : {X : Type 0} (a b c : Option X) → option_or (option_or a b) c ≡ option_or a (option_or b c)
or_assoc None b c = refl
or_assoc (Some a) b c = refl

-- What the last element gives that gives something.
abbrev pub last : {X W : Type 0} → (X → Option W) → List X → Option W
last gives [] = None
last gives (x ∷ xs) = option_or (last gives xs) (gives x)

module _ {X S : Type 0} (step : S → X → S) where
  pub read_last : {W : Type 0} (read : S → Option W) (gives : X → Option W) (P : X → Type 0) → ((s : S) (x : X) → P x → read (step s x) ≡ option_or (gives x) (read s))
      → (xs : List X) (s : S) → AllByRecursion P xs → read (fold step s xs) ≡ option_or (last gives xs) (read s)
  read_last read gives P is [] s all = refl
  read_last read gives P is (x ∷ xs) s all =
      read_last read gives P is xs (step s x) all.1
      ∙ ap (option_or (last gives xs)) (is s x all.0)
      ∙ sym (or_assoc (last gives xs) (gives x) (read s))

  pub read_any : (read : S → Bool) (hits : X → Bool) → ((s : S) (x : X) → read (step s x) ≡ (hits x || read s)) → (xs : List X) (s : S) → read (fold step s xs) ≡ (list_any hits xs || read s)
  read_any read hits is [] s = refl
  read_any read hits is (x ∷ xs) s =
      read_any read hits is xs (step s x)
      ∙ ap (λ b. list_any hits xs || b) (is s x)
      ∙ turned (hits x) (list_any hits xs) (read s)
    where
      turned : (a b c : Bool) → (b || (a || c)) ≡ ((a || b) || c)
      turned true true c = refl
      turned true false c = refl
      turned false b c = refl

  pub kept : (P : S → Type 0) (Q : X → Type 0) → ((s : S) (x : X) → P s → Q x → P (step s x)) → (xs : List X) (s : S) → P s → AllByRecursion Q xs → P (fold step s xs)
  kept P Q keeps [] s is all = is
  kept P Q keeps (x ∷ xs) s is all = kept P Q keeps xs (step s x) (keeps s x is all.0) all.1

pub all_of : {X : Type 0} (P : X → Type 0) → ((x : X) → P x) → (xs : List X) → AllByRecursion P xs
all_of P each [] = tt
all_of P each (x ∷ xs) = (each x, all_of P each xs)

pub some_or : {W : Type 0} (a b : Option W) → is_some (option_or a b) ≡ (is_some a || is_some b)
some_or None b = refl
some_or (Some a) b = refl

module _ {X : Type 0} where
  pub any_of_halves : (hits : X → Bool) (p q r : X → Bool) → ((x : X) → r x ≡ (p x || q x)) → (xs : List X) → list_any hits (filter r xs) ≡ (list_any hits (filter p xs) || list_any hits (filter q xs))
  any_of_halves hits p q r is [] = refl
  any_of_halves hits p q r is (x ∷ xs) =
      ap (λ b. list_any hits (cond b (x ∷ filter r xs) (filter r xs))) (is x)
      ∙ by_tests (p x) (q x) (any_of_halves hits p q r is xs)
    where
      both : (h a b : Bool) → (h || (a || b)) ≡ ((h || a) || (h || b))
      both true a b = refl
      both false a b = refl

      second : (h a b : Bool) → (h || (a || b)) ≡ (a || (h || b))
      second true true b = refl
      second true false b = refl
      second false a b = refl

      first : (h a b : Bool) → (h || (a || b)) ≡ ((h || a) || b)
      first true a b = refl
      first false a b = refl

      by_tests : (s t : Bool) → list_any hits (filter r xs) ≡ (list_any hits (filter p xs) || list_any hits (filter q xs))
          → list_any hits (cond (s || t) (x ∷ filter r xs) (filter r xs)) ≡ (list_any hits (cond s (x ∷ filter p xs) (filter p xs)) || list_any hits (cond t (x ∷ filter q xs) (filter q xs)))
      by_tests true true rest = ap (λ b. hits x || b) rest ∙ both (hits x) (list_any hits (filter p xs)) (list_any hits (filter q xs))
      by_tests true false rest = ap (λ b. hits x || b) rest ∙ first (hits x) (list_any hits (filter p xs)) (list_any hits (filter q xs))
      by_tests false true rest = ap (λ b. hits x || b) rest ∙ second (hits x) (list_any hits (filter p xs)) (list_any hits (filter q xs))
      by_tests false false rest = rest

-- At most one element gives something.
abbrev pub IsLone : {X W : Type 0} → (X → Option W) → List X → Type 0
IsLone gives [] = ⊤
IsLone gives (x ∷ xs) = (is_some (gives x) ≡ true → AllByRecursion (λ y. gives y ≡ None) xs) × IsLone gives xs

module _ {X W : Type 0} (gives : X → Option W) where
  pub none_last : (xs : List X) → AllByRecursion (λ y. gives y ≡ None) xs → last gives xs ≡ None
  none_last [] none = refl
  none_last (x ∷ xs) none = ap (option_or (last gives xs)) none.0 ∙ or_none (last gives xs) ∙ none_last xs none.1

  pub none_among : (p : X → Bool) (xs : List X) → AllByRecursion (λ y. gives y ≡ None) xs → last gives (filter p xs) ≡ None
  none_among p [] none = refl
  none_among p (x ∷ xs) none = by_test (p x) (none_among p xs none.1)
    where
      by_test : (b : Bool) → last gives (filter p xs) ≡ None → last gives (cond b (x ∷ filter p xs) (filter p xs)) ≡ None
      by_test true rest = ap (option_or (last gives (filter p xs))) none.0 ∙ or_none (last gives (filter p xs)) ∙ rest
      by_test false rest = rest

  -- Those that pass one test or another.
  module _ (p q r : X → Bool) (is : (x : X) → r x ≡ (p x || q x)) where
    pub last_of_halves : (xs : List X) → IsLone gives xs → last gives (filter r xs) ≡ option_or (last gives (filter p xs)) (last gives (filter q xs))
    last_of_halves [] lone = refl
    last_of_halves (x ∷ xs) lone =
        ap (λ b. last gives (cond b (x ∷ filter r xs) (filter r xs))) (is x)
        ∙ by_found (gives x) refl (last_of_halves xs lone.1)
      where
        nothing : gives x ≡ None → (b : Bool) (f : X → Bool) → last gives (cond b (x ∷ filter f xs) (filter f xs)) ≡ last gives (filter f xs)
        nothing none true f = ap (option_or (last gives (filter f xs))) none ∙ or_none (last gives (filter f xs))
        nothing none false f = refl

        alone : AllByRecursion (λ y. gives y ≡ None) xs → (b : Bool) (f : X → Bool) → last gives (cond b (x ∷ filter f xs) (filter f xs)) ≡ cond b (gives x) None
        alone none true f = ap (λ o. option_or o (gives x)) (none_among f xs none)
        alone none false f = none_among f xs none

        either : (w : Option W) (a b : Bool) → cond (a || b) w None ≡ option_or (cond a w None) (cond b w None)
        either None true true = refl
        either None true false = refl
        either (Some w) true b = refl
        either w false b = refl

        by_found : (o : Option W) → gives x ≡ o → last gives (filter r xs) ≡ option_or (last gives (filter p xs)) (last gives (filter q xs))
            → last gives (cond (p x || q x) (x ∷ filter r xs) (filter r xs)) ≡ option_or (last gives (cond (p x) (x ∷ filter p xs) (filter p xs))) (last gives (cond (q x) (x ∷ filter q xs) (filter q xs)))
        by_found None none rest =
            nothing none (p x || q x) r
            ∙ rest
            ∙ sym ((λ i. option_or (nothing none (p x) p i) (nothing none (q x) q i)))
        by_found (Some w) some rest =
            let others = lone.0 (ap is_some some) in
            alone others (p x || q x) r
            ∙ either (gives x) (p x) (q x)
            ∙ sym (λ i. option_or (alone others (p x) p i) (alone others (q x) q i))

  -- What passes a test excludes what passes another, where no element passes both.
  pub last_elsewhere : (p q : X → Bool) → ((x : X) → p x ≡ true → q x ≡ false) → (xs : List X) → IsLone gives xs → is_some (last gives (filter p xs)) ≡ true → last gives (filter q xs) ≡ None
  last_elsewhere p q apart [] lone is = refl
  last_elsewhere p q apart (x ∷ xs) lone is = by_tests (p x) (q x) (gives x) refl refl refl is (last_elsewhere p q apart xs lone.1)
    where
      without : (f : X → Bool) → gives x ≡ None → option_or (last gives (filter f xs)) (gives x) ≡ last gives (filter f xs)
      without f none = ap (option_or (last gives (filter f xs))) none ∙ or_none (last gives (filter f xs))

      by_tests : (s t : Bool) (o : Option W) → p x ≡ s → q x ≡ t → gives x ≡ o → is_some (last gives (cond (p x) (x ∷ filter p xs) (filter p xs))) ≡ true
          → (is_some (last gives (filter p xs)) ≡ true → last gives (filter q xs) ≡ None) → last gives (cond (q x) (x ∷ filter q xs) (filter q xs)) ≡ None
      by_tests true true o s t g is rest = absurd (let no_way : true ≡ false = sym t ∙ apart x s in cc)
      by_tests true false None s t g is rest =
          ap (λ b. last gives (cond b (x ∷ filter q xs) (filter q xs))) t
          ∙ rest (sym (ap is_some (ap (λ b. last gives (cond b (x ∷ filter p xs) (filter p xs))) s ∙ without p g)) ∙ is)
      by_tests true false (Some w) s t g is rest =
          ap (λ b. last gives (cond b (x ∷ filter q xs) (filter q xs))) t ∙ none_among q xs (lone.0 (ap is_some g))
      by_tests false true None s t g is rest =
          ap (λ b. last gives (cond b (x ∷ filter q xs) (filter q xs))) t
          ∙ without q g
          ∙ rest (sym (ap (λ b. is_some (last gives (cond b (x ∷ filter p xs) (filter p xs)))) s) ∙ is)
      by_tests false true (Some w) s t g is rest =
          absurd (let none : last gives (filter p xs) ≡ None = none_among p xs (lone.0 (ap is_some g)) in
          let no_way : true ≡ false = sym is ∙ ap (λ b. is_some (last gives (cond b (x ∷ filter p xs) (filter p xs)))) s ∙ ap is_some none in cc)
      by_tests false false o s t g is rest =
          ap (λ b. last gives (cond b (x ∷ filter q xs) (filter q xs))) t
          ∙ rest (sym (ap (λ b. is_some (last gives (cond b (x ∷ filter p xs) (filter p xs)))) s) ∙ is)
