-- The context that a value of the crate stands for.
use Rattle.std.specs.Prelude.{List, [], ◌∷◌, Option, None, Some}
use Rattle.ctx_types.specs.Context.{Settings, Context}
use Rattle.ctx_types.specs.declared.context.ActiveContext.{ActiveContext}

abbrev pub settings_view : ActiveContext → Settings
settings_view c = record { base = c.base; original = c.original; vocab = c.vocab; language = c.language; side = c.side; terms = c.terms }

-- The previous contexts, the latest first.
abbrev pub earlier_of : Option (List Settings) → List Settings
earlier_of None = []
earlier_of (Some ss) = ss

abbrev pub context_view : ActiveContext → Context
context_view c = record { current = settings_view c; earlier = earlier_of c.previous }

-- A context and its previous ones, the latest first.
abbrev pub contexts_view : ActiveContext → List Settings
contexts_view c = settings_view c ∷ earlier_of c.previous
