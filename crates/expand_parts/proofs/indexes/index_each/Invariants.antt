use Rattle.std.proofs.Common.{◌≡◌}
use Rattle.ctx_types.specs.ContextView.{settings_view}
use Rattle.expand_model.specs.Indexes.{each_indexed}
use Rattle.expand_types.specs.View.{definition_in}
use Rattle.expand_parts.proofs.indexes.index_each.Given as goal

abbrev pub invariant-loop-item : goal.invariant-loop-item
invariant-loop-item l = each_indexed (settings_view l.context) (definition_in l.definition) l.index l.item-iterator l.out ≡ each_indexed (settings_view l.context) (definition_in l.definition) l.index l.initial.item-iterator l.initial.out
