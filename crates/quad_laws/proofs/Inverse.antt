-- From what a chain of readings came to, back to what each reading came to.
use Rattle.std.proofs.Common.{◌≡◌, ℕ, List, ◌++◌, Option, Some, None, Result, Ok, Err, refl, sym, ap, ◌∙◌}
use Rattle.std.proofs.lemmas.Option.{none-some, some_pair_parts, same_Some, cond_some}
use Rattle.std.specs.Option.{option_map, option_and_then}
use Rattle.nquads_terminals.specs.Characters.{only, onto}
use Rattle.std.proofs.Common.{Bool, true, cond}
use Rattle.nquads_text.specs.Statement.{and_then}

-- an error is no value
pub err_ok : {A E : Type 0} (e : E) (x : A) → ◌≡◌ {A = Result A E} (Err e) (Ok x) → ⊥
err_ok e x is = absurd (cc)

pub ok_same : {A E : Type 0} (x y : A) → ◌≡◌ {A = Result A E} (Ok x) (Ok y) → x ≡ y
ok_same {A = A} {E = E} x y is = ap value is
  where
    value : Result A E → A
    value (Ok z) = z
    value (Err e) = x

pub then_ok : {A B : Type 0} (r : Result A (List ℕ)) (next : A → Result B (List ℕ)) (y : B) → and_then r next ≡ Ok y → (x : A) × (r ≡ Ok x) × (next x ≡ Ok y)
then_ok (Ok x) next y is = (x, refl, is)
then_ok (Err at) next y is = absurd (err_ok at y is)

pub then_some : {A B : Type 0} (f : A → Option B) (o : Option A) (y : B) → option_and_then f o ≡ Some y → (x : A) × (o ≡ Some x) × (f x ≡ Some y)
then_some f None y is = absurd (none-some y is)
then_some f (Some x) y is = (x, refl, is)

pub map_some : {A B : Type 0} (f : A → B) (o : Option A) (y : B) → option_map f o ≡ Some y → (x : A) × (o ≡ Some x) × (f x ≡ y)
map_some f None y is = absurd (none-some y is)
map_some f (Some x) y is = (x, refl, same_Some (f x) y is)

pub only_some : (test : List ℕ × List ℕ → Bool) (o : Option (List ℕ × List ℕ)) (y : List ℕ × List ℕ) → only test o ≡ Some y → (o ≡ Some y) × (test y ≡ true)
only_some test None y is = absurd (none-some y is)
only_some test (Some x) y is =
    let parts = cond_some (test x) x y is in
    (ap (λ z. Some z) parts.1, ap test (sym parts.1) ∙ parts.0)
