-- What a step comes to: a value, or the first error.
use Rattle.std.specs.Prelude.{Bool, true, false, Result, Ok, Err}
use Rattle.case_tables.specs.declared.code.Code.{Code}

-- A step, and what goes on from its value.
infixl 10 ◌>>=◌
abbrev pub ◌>>=◌ : {A B : Type 0} → Result A Code → (A → Result B Code) → Result B Code
Ok a >>= f = f a
Err e >>= f = Err e

-- An error, unless the test passes.
abbrev pub unless : Bool → Code → Result (Unit {0}) Code
unless true e = Ok tt
unless false e = Err e
