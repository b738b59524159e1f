-- How the answer of a call stands to the outcome of a definition. Want of memory says nothing.
use Rattle.std.specs.Prelude.{◌≡◌, Result, Ok, Err}
use Rattle.case_tables.specs.declared.code.Code.{Code}
use Rattle.ctx_entries.specs.declared.stop.ContextStop.{ContextStop}
use Rattle.ctx_entries.specs.declared.stop.ContextStop.TheVariants as context
use Rattle.expand_types.specs.declared.stop.PartStop.{PartStop}
use Rattle.expand_types.specs.declared.stop.PartStop.TheVariants.{Refused, OutOfMemory}

-- A refusal is the definition's.
abbrev pub Refuses : {Y : Type 0} → PartStop → Result Y Code → Type 0
Refuses (Refused c) d = d ≡ Err c
Refuses OutOfMemory d = Unit {0}

-- The value is the definition's.
abbrev pub Answers : {X V : Type 0} → Result X PartStop → (X → V) → Result V Code → Type 0
Answers (Ok x) f d = d ≡ Ok (f x)
Answers (Err e) f d = Refuses e d

-- What a stop of context processing is here.
abbrev pub stop_of : ContextStop → PartStop
stop_of (context.Refused c) = Refused c
stop_of context.OutOfMemory = OutOfMemory
