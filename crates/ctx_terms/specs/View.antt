-- The data that values of the crate stand for.
use Rattle.std.specs.Prelude.{Option}
use Rattle.std.specs.Option.{option_map}
use Rattle.ctx_types.specs.declared.definition.TermDef.{TermDef}
use Rattle.ctx_types.specs.Context.{Definition}
use Rattle.ctx_types.specs.View.{definition_view}
use Rattle.ctx_model.specs.Definition as model
use Rattle.ctx_model.specs.Creation.{Start as StartData, over, goes_on}
use Rattle.ctx_terms.specs.declared.finish.Tags.{Tags}
use Rattle.ctx_terms.specs.declared.start.Start.{Start}
use Rattle.ctx_terms.specs.declared.start.Start.TheVariants.{Over, GoesOn}

-- A previous definition that may be absent.
abbrev pub previous_view : Option TermDef → Option Definition
previous_view o = option_map definition_view o

-- What the first steps come to.
abbrev pub start_view : Start → StartData
start_view Over = over
start_view (GoesOn previous) = goes_on (previous_view previous)

-- The language mapping, the direction mapping and the nest value.
abbrev pub tags_view : Tags → model.Tags
tags_view t = record { language = t.language; side = t.side; nest = t.nest }
