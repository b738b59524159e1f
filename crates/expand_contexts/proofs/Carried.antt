-- Answers of calls, carried along an equation of outcomes, and refusals passed on.
use Rattle.std.proofs.Common.{◌≡◌, Result, Ok, Err, IsErr, IsErrAnd, refl, sym, ap, subst}
use Rattle.case_tables.specs.declared.code.Code.{Code}
use Rattle.ctx_model.specs.Outcome.{◌>>=◌}
use Rattle.ctx_entries.specs.Answers as context
use Rattle.ctx_entries.specs.declared.stop.ContextStop.{ContextStop}
use Rattle.ctx_entries.specs.declared.stop.ContextStop.TheVariants as stop
use Rattle.expand_types.specs.Answers.{Answers, Refuses, stop_of}
use Rattle.expand_types.specs.declared.stop.PartStop.{PartStop}
use Rattle.expand_types.specs.declared.stop.PartStop.TheVariants.{Refused, OutOfMemory}

pub bind_ok : {A : Type 0} (d : Result A Code) → (d >>= (λ x. Ok x)) ≡ d
bind_ok (Ok x) = refl
bind_ok (Err e) = refl

pub bind_bind : {A B C : Type 0} (d : Result A Code) (f : A → Result B Code) (g : B → Result C Code) → ((d >>= f) >>= g) ≡ (d >>= (λ x. f x >>= g))
bind_bind (Ok x) f g = refl
bind_bind (Err e) f g = refl

pub answers_of : {X V : Type 0} (r : Result X PartStop) (f : X → V) {d d′ : Result V Code} → d ≡ d′ → Answers r f d′ → Answers r f d
answers_of r f e h = subst (Answers r f) (sym e) h

pub refuses_of : {V : Type 0} (e : PartStop) {d d′ : Result V Code} → d ≡ d′ → Refuses e d′ → Refuses e d
refuses_of e same h = subst (Refuses e) (sym same) h

pub refuses_then : {A B : Type 0} (e : PartStop) (d : Result A Code) (f : A → Result B Code) → Refuses e d → Refuses e (d >>= f)
refuses_then (Refused c) d f h = ap (λ r. r >>= f) h
refuses_then OutOfMemory d f h = tt

-- A refusal of context processing.
pub refused_by : {V : Type 0} (e : ContextStop) (p : PartStop) (d : Result V Code) → p ≡ stop_of e → context.Refuses e d → Refuses p d
refused_by (stop.Refused c) p d is h = subst (λ q. Refuses q d) (sym is) h
refused_by stop.OutOfMemory p d is h = subst (λ q. Refuses q d) (sym is) tt

pub answers_refused : {X V : Type 0} (r : Result X PartStop) (e : PartStop) (f : X → V) (d : Result V Code) → r ≡ Err e → Refuses e d → Answers r f d
answers_refused r e f d is h = subst (λ r. Answers r f d) (sym is) h

-- What `?` hands on.
pub passed_on : {X : Type 0} (r : Result X PartStop) (e : PartStop) → IsErr r × IsErrAnd r (λ x. x ≡ e) → r ≡ Err e
passed_on (Ok x) e h = absurd h.1
passed_on (Err x) e h = ap (λ x. Err x) h.1
