-- The contexts that values of the crate stand for.
use Rattle.std.specs.Prelude.{Bool, Option, None, Some}
use Rattle.ctx_types.specs.Context.{Context}
use Rattle.ctx_types.specs.ContextView.{context_view}
use Rattle.ctx_types.specs.declared.context.ActiveContext.{ActiveContext}
use Rattle.expand_model.specs.Scope.{MapScope}
use Rattle.expand_types.specs.View.{word_view}
use Rattle.expand_contexts.specs.declared.active.Active.{Active}
use Rattle.expand_contexts.specs.declared.active.Active.TheVariants.{Lent, Own}
use Rattle.expand_contexts.specs.declared.entering.Entered.{Entered}
use Rattle.expand_contexts.specs.declared.typing.Typing.{Typing}

abbrev pub active_view : Active → Context
active_view (Lent c) = context_view c.now
active_view (Own c) = context_view c

-- What was made of a context; the context itself where nothing was.
abbrev pub made_view : Option ActiveContext → Context → Context
made_view None c = c
made_view (Some m) c = context_view m

-- What types made of the type-scoped context, and whether the input type is `@json`.
abbrev pub typing_view : Context → Typing → Context × Bool
typing_view c t = (made_view t.made c, t.json)

abbrev pub entered_view : Entered → MapScope
entered_view e = record { context = made_view e.typed (active_view e.types); types = active_view e.types; json = e.json; property = word_view e.property }
