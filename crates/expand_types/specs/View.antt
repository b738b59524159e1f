-- The data that values of the crate stand for.
use Rattle.std.specs.Prelude.{List, Option}
use Rattle.std.specs.Option.{option_map}
use Rattle.std.specs.Borrow.{Bor}
use Rattle.ld_json.specs.declared.location.Step.{Step}
use Rattle.ctx_types.specs.Context.{Text, Definition}
use Rattle.ctx_types.specs.ContextView.{context_view}
use Rattle.ctx_types.specs.View.{definition_view}
use Rattle.ctx_types.specs.declared.definition.TermDef.{TermDef}
use Rattle.expand_model.specs.Scope as model
use Rattle.expand_model.specs.Scope.{in_key, in_item}
use Rattle.expand_types.specs.declared.scope.Options.{Options}
use Rattle.expand_types.specs.declared.scope.Scope.{Scope}
use Rattle.expand_types.specs.declared.scope.MapScope.{MapScope}
use Rattle.expand_types.specs.declared.trail.Trail.{Trail, From, InKey', InItem'}

-- A text that may be absent.
abbrev pub word_view : Option (Bor Text) → Option Text
word_view o = option_map (λ t. t.now) o

-- A definition that may be absent.
abbrev pub definition_in : Option (Bor TermDef) → Option Definition
definition_in o = option_map (λ d. definition_view d.now) o

abbrev pub options_view : Options → model.Options
options_view o = record { base = word_view o.base; contexts = o.store.now }

abbrev pub scope_view : Scope → model.Scope
scope_view s = record { context = context_view s.context.now; property = word_view s.property; from_map = s.from_map }

abbrev pub map_scope_view : MapScope → model.MapScope
map_scope_view s = record { context = context_view s.context.now; types = context_view s.types.now; json = s.json; property = word_view s.property }

-- The steps of a way.
abbrev pub trail_view : Trail → List Step
trail_view (From place) = place.now
trail_view (InKey' p before key) = in_key key.now (trail_view before)
trail_view (InItem' p before number) = in_item number (trail_view before)
