-- Answers of calls, carried along an equation of outcomes, and refusals passed on.
use Rattle.std.proofs.Common.{◌≡◌, Result, Err, sym, ap, subst}
use Rattle.case_tables.specs.declared.code.Code.{Code}
use Rattle.ctx_model.specs.Outcome.{◌>>=◌}
use Rattle.ctx_entries.specs.declared.stop.ContextStop.{ContextStop}
use Rattle.ctx_entries.specs.declared.stop.ContextStop.TheVariants.{Refused, OutOfMemory}
use Rattle.ctx_entries.specs.Answers.{Answers, Leaves, Gives, Refuses}

pub answers_of : {X V : Type 0} (r : Result X ContextStop) (f : X → V) {d d′ : Result V Code} → d ≡ d′ → Answers r f d′ → Answers r f d
answers_of r f e h = subst (Answers r f) (sym e) h

pub leaves_of : {X Y : Type 0} (r : Result X ContextStop) (s : Y) {d d′ : Result Y Code} → d ≡ d′ → Leaves r s d′ → Leaves r s d
leaves_of r s e h = subst (Leaves r s) (sym e) h

pub gives_of : {X V Y : Type 0} (r : Result X ContextStop) (f : X → V) (s : Y) {d d′ : Result (V × Y) Code} → d ≡ d′ → Gives r f s d′ → Gives r f s d
gives_of r f s e h = subst (Gives r f s) (sym e) h

pub refuses_then : {A B : Type 0} (e : ContextStop) (d : Result A Code) (f : A → Result B Code) → Refuses e d → Refuses e (d >>= f)
refuses_then (Refused c) d f h = ap (λ r. r >>= f) h
refuses_then OutOfMemory d f h = tt

pub answers_passed : {X V A : Type 0} (r : Result X ContextStop) (e : ContextStop) (f : X → V) (d : Result A Code) (k : A → Result V Code) → r ≡ Err e → Refuses e d → Answers r f (d >>= k)
answers_passed r e f d k is h = subst (λ r. Answers r f (d >>= k)) (sym is) (refuses_then e d k h)

pub leaves_passed : {X Y A : Type 0} (r : Result X ContextStop) (e : ContextStop) (s : Y) (d : Result A Code) (k : A → Result Y Code) → r ≡ Err e → Refuses e d → Leaves r s (d >>= k)
leaves_passed r e s d k is h = subst (λ r. Leaves r s (d >>= k)) (sym is) (refuses_then e d k h)

pub answers_refused : {X V : Type 0} (r : Result X ContextStop) (e : ContextStop) (f : X → V) (d : Result V Code) → r ≡ Err e → Refuses e d → Answers r f d
answers_refused r e f d is h = subst (λ r. Answers r f d) (sym is) h
