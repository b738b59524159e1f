-- Where an element goes, as the definitions say it.
use Rattle.std.specs.Borrow.{Bor}
use Rattle.node_model.specs.Walk as definitions
use Rattle.node_model.specs.Walk.{nowhere, under, in_list, reverse}
use Rattle.node_walk.specs.declared.gathering.To.{To}
use Rattle.node_walk.specs.declared.gathering.To.TheVariants.{Nowhere, Under, InList, Reverse}

-- The names are borrowed, and each stands for what `name` says.
abbrev pub to_view : {X N : Type 0} → (X → N) → To (Bor X) → definitions.To N
to_view name Nowhere = nowhere
to_view name (Under subject property) = under (name subject.now) (name property.now)
to_view name InList = in_list
to_view name (Reverse subject property) = reverse (name subject.now) (name property.now)
