-- What is left of the limits: how an inner context is processed, and how a term is created.
use Rattle.std.specs.Prelude.{ℕ, zero, suc, Result}
use Rattle.ld_model.specs.Tree as model
use Rattle.case_tables.specs.declared.code.Code.{Code}
use Rattle.ctx_types.specs.Context.{Context}
use Rattle.ctx_store.specs.Stored.{Contexts}
use Rattle.ctx_model.specs.State.{Local, Scoped, Create}
use Rattle.ctx_model.specs.Creation.{create_within}
use Rattle.ctx_model.specs.Process.{Remote, Process, process_within, overflows, goes_into, too_deep, scoped_ask}
use Rattle.ctx_entries.specs.View.{ask_view, local_view}
use Rattle.ctx_entries.specs.declared.local.Ask.{Ask}
use Rattle.ctx_entries.specs.declared.local.LocalContext.{LocalContext}

-- How a remote context is processed, and how a scoped one, with so many of them left.
abbrev pub remote_of : Contexts → ℕ → ℕ → Remote
remote_of store zero s a o = overflows store a o
remote_of store (suc r) s a o = goes_into store (λ b t. process_within store r s b t) a o

abbrev pub scoped_of : Contexts → ℕ → ℕ → Process
scoped_of store r zero a t = too_deep store a t
scoped_of store r (suc s) a t = process_within store r s a t

-- What is left to a call: how it processes a local context, a remote context, and a scoped one that it tries.
abbrev pub processing : Ask → model.Tree → Result Context Code
processing a t = process_within a.store.now a.remote_left a.scoped_left (ask_view a) t

abbrev pub remote_in : Ask → Remote
remote_in a b o = remote_of a.store.now a.remote_left a.scoped_left b o

abbrev pub scoped_in : Ask → Scoped
scoped_in a c t = scoped_of a.store.now a.remote_left a.scoped_left (scoped_ask (ask_view a) c) t

-- A step of context processing, with what is left to the call for remote and scoped contexts.
abbrev pub in_call : {X : Type 0} → Ask → (Contexts → Remote → Process → X) → X
in_call a step = step a.store.now (λ b o. remote_in a b o) (λ b t. scoped_of a.store.now a.remote_left a.scoped_left b t)

-- A step that processes scoped contexts alone.
abbrev pub with_scoped : {X : Type 0} → Ask → (Contexts → Process → X) → X
with_scoped a step = step a.store.now (λ b t. scoped_of a.store.now a.remote_left a.scoped_left b t)

-- How the creation of terms tries a scoped context, and creates a term.
abbrev pub scoped_view : LocalContext → Scoped
scoped_view l c t = scoped_in l.ask.now c t

abbrev pub creation : LocalContext → Create
creation l t v s = create_within (λ c v. scoped_view l c v) (local_view l) l.left t v s

-- A step of term creation, which creates terms and tries scoped contexts so.
abbrev pub in_local : {X : Type 0} → LocalContext → (Create → Scoped → Local → X) → X
in_local l step = step (λ t v s. creation l t v s) (λ c v. scoped_view l c v) (local_view l)
