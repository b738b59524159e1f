-- How the answer of a call stands to the outcome of a definition. Want of memory says nothing.
use Rattle.std.specs.Prelude.{◌≡◌, Result, Ok, Err}
use Rattle.case_tables.specs.declared.code.Code.{Code}
use Rattle.ctx_entries.specs.declared.stop.ContextStop.{ContextStop}
use Rattle.ctx_entries.specs.declared.stop.ContextStop.TheVariants.{Refused, OutOfMemory}

-- A refusal is the definition's.
abbrev pub Refuses : {Y : Type 0} → ContextStop → Result Y Code → Type 0
Refuses (Refused c) d = d ≡ Err c
Refuses OutOfMemory d = Unit {0}

-- The value is the definition's.
abbrev pub Answers : {X V : Type 0} → Result X ContextStop → (X → V) → Result V Code → Type 0
Answers (Ok x) f d = d ≡ Ok (f x)
Answers (Err e) f d = Refuses e d

-- The state after the call is the definition's.
abbrev pub Leaves : {X Y : Type 0} → Result X ContextStop → Y → Result Y Code → Type 0
Leaves (Ok x) s d = d ≡ Ok s
Leaves (Err e) s d = Refuses e d

-- So are the value and the state.
abbrev pub Gives : {X V Y : Type 0} → Result X ContextStop → (X → V) → Y → Result (V × Y) Code → Type 0
Gives (Ok x) f s d = d ≡ Ok (f x, s)
Gives (Err e) f s d = Refuses e d

-- The definition has a value.
abbrev pub HasValue : {V : Type 0} → Result V Code → Type 0
HasValue {V} d = (v : V) × (d ≡ Ok v)

-- The definition has a value, or the refusal is its.
abbrev pub Tries : {V : Type 0} → Result (Unit {0}) ContextStop → Result V Code → Type 0
Tries (Ok x) d = HasValue d
Tries (Err e) d = Refuses e d
