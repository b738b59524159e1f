use Rattle.std.proofs.Common.{◌≡◌, ◌++◌}
use Rattle.std.specs.List.{filter_map}
use Rattle.ctx_types.specs.ContextView.{settings_view}
use Rattle.expand_model.specs.Keywords.{type_in}
use Rattle.expand_entries.proofs.keywords.types_in.Given as goal

abbrev pub invariant-loop-value : goal.invariant-loop-value
invariant-loop-value l = l.items ++ filter_map (type_in (settings_view l.types)) l.value-iterator ≡ filter_map (type_in (settings_view l.types)) l.initial.value-iterator
