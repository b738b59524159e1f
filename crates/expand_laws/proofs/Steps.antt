-- Steps that give a value or an error, and what holds of the value.
use Rattle.std.proofs.Common.{◌≡◌, List, [], ◌∷◌, ◌++◌, Bool, true, false, Result, Ok, Err, refl, subst, IfOk, if◌then◌else◌}
use Rattle.std.specs.List.{AllByRecursion}
use Rattle.ld_json.specs.declared.location.Step.{Step}
use Rattle.case_tables.specs.declared.code.Code.{Code}
use Rattle.ctx_model.specs.Outcome.{unless}
use Rattle.expand_model.specs.Scope.{located}
use Rattle.expand_model.specs.Rules.{◌>>=◌}

pub never : {A : Type 0} (b : Bool) → b ≡ false → b ≡ true → A
never b is_false is_true = absurd (cc)

-- a step that goes on from a value of which Q holds
pub after : {A B E : Type 0} (Q : A → Type 0) (R : B → Type 0) (r : Result A E) (h : A → Result B E) → IfOk r Q → ((a : A) → Q a → IfOk (h a) R) → IfOk (r >>= h) R
after Q R (Ok a) h holds next = next a holds
after Q R (Err e) h holds next = tt

-- a step that goes on from any value
pub after_any : {A B E : Type 0} (R : B → Type 0) (r : Result A E) (h : A → Result B E) → ((a : A) → IfOk (h a) R) → IfOk (r >>= h) R
after_any R (Ok a) h next = next a
after_any R (Err e) h next = tt

-- a test that passes
pub after_unless : {B : Type 0} (R : B → Type 0) (b : Bool) (c : Code) (h : Unit {0} → Result B Code) → (b ≡ true → IfOk (h tt) R) → IfOk (unless b c >>= h) R
after_unless R true c h next = next refl
after_unless R false c h next = tt

-- what holds of every value
pub of_any : {A E : Type 0} (R : A → Type 0) (r : Result A E) → ((a : A) → R a) → IfOk r R
of_any R (Ok a) holds = holds a
of_any R (Err e) holds = tt

-- two things that hold of the value
pub of_both : {A E : Type 0} (P Q R : A → Type 0) (r : Result A E) → IfOk r P → IfOk r Q → ((a : A) → P a → Q a → R a) → IfOk r R
of_both P Q R (Ok a) p q both = both a p q
of_both P Q R (Err e) p q both = tt

-- what holds of it on a condition
pub of_case : {A E : Type 0} (F : Type 0) (P : A → Type 0) (r : Result A E) → (F → IfOk r P) → IfOk r (λ a. F → P a)
of_case F P (Ok a) holds = holds
of_case F P (Err e) holds = tt

pub of_value : {A E : Type 0} (P : A → Type 0) (r : Result A E) (a : A) → IfOk r P → r ≡ Ok a → P a
of_value P r a holds is = subst (λ r. IfOk r P) is holds

pub if_cond : {B E : Type 0} (R : B → Type 0) (b : Bool) (x y : Result B E) → IfOk x R → IfOk y R → IfOk (if b then x else y) R
if_cond R true x y hx hy = hx
if_cond R false x y hx hy = hy

-- a place changes no value
pub of_located : {A : Type 0} (R : A → Type 0) (p : List Step) (r : Result A Code) → IfOk r R → IfOk (located p r) R
of_located R p (Ok a) holds = holds
of_located R p (Err e) holds = tt

-- what holds of each
pub all_map : {X : Type 0} (P Q : X → Type 0) (xs : List X) → ((x : X) → P x → Q x) → AllByRecursion P xs → AllByRecursion Q xs
all_map P Q [] each all = tt
all_map P Q (x ∷ xs) each all = (each x all.0, all_map P Q xs each all.1)

pub all_append : {X : Type 0} (P : X → Type 0) (xs ys : List X) → AllByRecursion P xs → AllByRecursion P ys → AllByRecursion P (xs ++ ys)
all_append P [] ys here there = there
all_append P (x ∷ xs) ys here there = (here.0, all_append P xs ys here.1 there)
