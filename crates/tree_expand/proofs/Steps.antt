-- How the answers of calls stand to one another.
use Rattle.std.proofs.Common.{◌≡◌, Result, Ok, Err, sym, ap, ◌∙◌, subst}
use Rattle.expand_model.specs.Scope.{Fault}
use Rattle.expand_model.specs.Rules.{◌>>=◌}
use Rattle.expand_model.specs.Over.{Outcome, here}
use Rattle.range_laws.specs.Right.{outcome}
use Rattle.tree_expand.specs.declared.stop.ExpandStop.{ExpandStop}
use Rattle.tree_expand.specs.declared.stop.ExpandStop.TheVariants.{Refused, OutOfMemory}
use Rattle.tree_expand.specs.Outcomes.{Refuses, ComesTo, Leaves, Gives}

-- The answer, carried along an equation.
pub gives_of : {X B S : Type 0} (r : Result X ExpandStop) (f : X → B) (s : S) {d d′ : Outcome S B} → d ≡ d′ → Gives r f s d′ → Gives r f s d
gives_of r f s p h = subst (λ x. Gives r f s x) (sym p) h

-- That of a call that needs no state.
pub gives_here : {X B S : Type 0} (r : Result X ExpandStop) (f : X → B) (s : S) (d : Result B Fault) → ComesTo r f d → Gives r f s (here s d)
gives_here (Ok x) f s d h = ap (here s) h
gives_here (Err (Refused c p)) f s d h = ap (here s) h
gives_here (Err OutOfMemory) f s d h = tt

-- An error that is passed on.
leaves_then : {A B S : Type 0} (e : ExpandStop) (s : S) (d : Outcome S A) (k : A × S → Outcome S B) → Leaves e s d → Leaves e s (d >>= k)
leaves_then (Refused c p) s d k h = ap (λ x. x >>= k) h
leaves_then OutOfMemory s d k h = tt

pub gives_passed : {X A B S : Type 0} (r : Result X ExpandStop) (e : ExpandStop) (f : X → B) (s : S) (d : Outcome S A) (k : A × S → Outcome S B) → r ≡ Err e → Leaves e s d → Gives r f s (d >>= k)
gives_passed r e f s d k is h = subst (λ x. Gives x f s (d >>= k)) (sym is) (leaves_then e s d k h)

-- One of a call that needs no state.
refuses_then : {A B S : Type 0} (e : ExpandStop) (s : S) (d : Result A Fault) (k : A × S → Outcome S B) → Refuses e d → Leaves e s (here s d >>= k)
refuses_then (Refused c p) s d k h = ap (λ x. here s x >>= k) h
refuses_then OutOfMemory s d k h = tt

pub gives_refused : {X A B S : Type 0} (r : Result X ExpandStop) (e : ExpandStop) (f : X → B) (s : S) (d : Result A Fault) (k : A × S → Outcome S B) → r ≡ Err e → Refuses e d → Gives r f s (here s d >>= k)
gives_refused r e f s d k is h = subst (λ x. Gives x f s (here s d >>= k)) (sym is) (refuses_then e s d k h)

-- The answer without the state.
pub answers_of : {X V S : Type 0} (r : Result X ExpandStop) (f : X → V) (s : S) (m : Outcome S V) (d : Result V Fault) → outcome m ≡ d → Gives r f s m → ComesTo r f d
answers_of (Ok x) f s m d p h = sym p ∙ ap outcome h
answers_of (Err (Refused c q)) f s m d p h = sym p ∙ ap outcome h
answers_of (Err OutOfMemory) f s m d p h = tt
