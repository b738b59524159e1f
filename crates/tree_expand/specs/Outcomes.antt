-- How the answer of a call stands to the outcome of expansion. Want of memory says nothing.
use Rattle.std.specs.Prelude.{◌≡◌, List, Result, Ok, Err}
use Rattle.ld_json.specs.declared.location.Step.{Step}
use Rattle.expand_model.specs.Scope.{Fault}
use Rattle.expand_model.specs.Over.{Outcome}
use Rattle.expand_types.specs.declared.stop.PartStop.{PartStop}
use Rattle.expand_types.specs.declared.stop.PartStop.TheVariants as part
use Rattle.tree_expand.specs.declared.stop.ExpandStop.{ExpandStop}
use Rattle.tree_expand.specs.declared.stop.ExpandStop.TheVariants.{Refused, OutOfMemory}

-- A refusal is the definition's, with its place.
abbrev pub Refuses : {Y : Type 0} → ExpandStop → Result Y Fault → Type 0
Refuses (Refused c p) d = d ≡ Err (record { code = c; place = p })
Refuses OutOfMemory d = Unit {0}

-- The value is the definition's.
abbrev pub ComesTo : {X V : Type 0} → Result X ExpandStop → (X → V) → Result V Fault → Type 0
ComesTo (Ok x) f d = d ≡ Ok (f x)
ComesTo (Err e) f d = Refuses e d

-- Of a call that leaves a state: a refusal is the definition's, with its place, and so is the state that it leaves.
abbrev pub Leaves : {Y S : Type 0} → ExpandStop → S → Outcome S Y → Type 0
Leaves (Refused c p) s d = d ≡ Err (record { code = c; place = p }, s)
Leaves OutOfMemory s d = Unit {0}

-- The value is the definition's, and so is the state.
abbrev pub Gives : {X V S : Type 0} → Result X ExpandStop → (X → V) → S → Outcome S V → Type 0
Gives (Ok x) f s d = d ≡ Ok (f x, s)
Gives (Err e) f s d = Leaves e s d

-- What stops a part stops expansion at this place.
abbrev pub IsStopAt : List Step → PartStop → ExpandStop → Type 0
IsStopAt p s (Refused c q) = (s ≡ part.Refused c) × (q ≡ p)
IsStopAt p s OutOfMemory = Unit {0}

-- The outcome of a part, where its error is at this place.
abbrev pub IsAt : {X : Type 0} → List Step → Result X PartStop → Result X ExpandStop → Type 0
IsAt p (Ok x) r = r ≡ Ok x
IsAt p (Err s) (Ok x) = ⊥
IsAt p (Err s) (Err e) = IsStopAt p s e
