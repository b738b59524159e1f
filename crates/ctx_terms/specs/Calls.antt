-- What the calls that are handed on have to do.
use Rattle.std.specs.Prelude.{ℕ, Result}
use Rattle.std.specs.Borrow.{Bor, MutBor}
use Rattle.ld_tree.specs.declared.value.Tree.{Tree}
use Rattle.ld_tree.specs.View.{view}
use Rattle.ctx_types.specs.declared.context.ActiveContext.{ActiveContext}
use Rattle.ctx_types.specs.Context.{Text}
use Rattle.ctx_types.specs.ContextView.{context_view}
use Rattle.ctx_entries.specs.declared.stop.ContextStop.{ContextStop}
use Rattle.ctx_entries.specs.declared.state.Progress.{Progress}
use Rattle.ctx_entries.specs.declared.local.Ask.{Ask}
use Rattle.ctx_entries.specs.declared.local.LocalContext.{LocalContext}
use Rattle.ctx_entries.specs.Answers.{Leaves, Tries}
use Rattle.ctx_entries.specs.View.{state_view}
use Rattle.ctx_entries.specs.Left.{creation, scoped_in}

-- The call tries a scoped context with what is left to `a`, whatever number of calls may still be under way.
abbrev pub TriesScoped : (ℕ → Bor ActiveContext → Bor Tree → Result (Unit {0}) ContextStop → Type 0) → Ask → Type 0
TriesScoped post a =
    (room : ℕ) (c : Bor ActiveContext) (t : Bor Tree) (r : Result (Unit {0}) ContextStop) → post room c t r → Tries r (scoped_in a (context_view c.now) (view t.now))

-- The call creates a term of this local context.
abbrev pub Creates : (MutBor Progress → Bor Text → Bor Tree → Result (Unit {0}) ContextStop → MutBor Progress → Type 0) → LocalContext → Type 0
Creates post l =
    (s : MutBor Progress) (t : Bor Text) (v : Bor Tree) (r : Result (Unit {0}) ContextStop) (n : MutBor Progress) → post s t v r n
    → Leaves r (state_view n.now) (creation l t.now (view v.now) (state_view s.now))
