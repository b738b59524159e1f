-- The data that values of the crate stand for.
use Rattle.std.specs.Prelude.{List, [], map, Option, None, Some}
use Rattle.std.specs.Option.{option_map}
use Rattle.std.specs.Borrow.{Bor}
use Rattle.ld_model.specs.Tree as model
use Rattle.ld_tree.specs.View.{view}
use Rattle.ld_tree.specs.declared.value.Tree.{Tree}
use Rattle.ctx_types.specs.Context.{Text}
use Rattle.ctx_types.specs.ContextView.{context_view}
use Rattle.ctx_model.specs.State.{State, Local}
use Rattle.ctx_model.specs.Definition.{Mapping, maps, leaves_out}
use Rattle.ctx_model.specs.Process.{Ask as AskData, merged}
use Rattle.ctx_entries.specs.declared.state.Progress.{Progress}
use Rattle.ctx_entries.specs.declared.local.ContextEntries.{ContextEntries}
use Rattle.ctx_entries.specs.declared.local.LocalContext.{LocalContext}
use Rattle.ctx_entries.specs.declared.local.Ask.{Ask}
use Rattle.ctx_entries.specs.declared.definition.IriMapping.{IriMapping}
use Rattle.ctx_entries.specs.declared.definition.IriMapping.TheVariants.{Maps, LeavesOut}

-- The active context, and the map `defined`.
abbrev pub state_view : Progress → State
state_view p = record { context = context_view p.context; defined = p.defined }

-- A text that may be absent.
abbrev pub text_view : Option (Bor Text) → Option Text
text_view o = option_map (λ t. t.now) o

-- A value that may be absent.
abbrev pub tree_view : Option (Bor Tree) → Option model.Tree
tree_view o = option_map (λ t. view t.now) o

-- A borrowed entry.
abbrev pub pair_view : Bor Text × Bor Tree → Text × model.Tree
pair_view e = (e.0.now, view e.1.now)

-- And a list of these.
abbrev pub pairs_view : List (Bor Text × Bor Tree) → model.Pairs
pairs_view es = map pair_view es

-- What the steps for the IRI mapping come to.
abbrev pub mapping_view : IriMapping → Mapping
mapping_view (Maps m) = maps m.iri m.prefix
mapping_view LeavesOut = leaves_out

-- A call of context processing, without what is left of the limits.
abbrev pub ask_view : Ask → AskData
ask_view a = record { active = context_view a.active.now; base = text_view a.base; remotes = a.remotes.now; overrides = a.overrides; propagates = a.propagates; validates = a.validates }

-- The imported entries, where there are some.
abbrev pub imports_view : Option (Bor model.Pairs) → model.Pairs
imports_view None = []
imports_view (Some ms) = ms.now

-- The entries of a map: its own, and imported ones under other keys.
abbrev pub entries_view : ContextEntries → model.Pairs
entries_view es = merged es.own.now (imports_view es.imports)

-- What stays the same while terms are created.
abbrev pub local_view : LocalContext → Local
local_view l = record { entries = entries_view l.entries.now; base = text_view l.ask.now.base; protected = l.protected; overrides = l.ask.now.overrides }
