-- The conflict that a value of the code stands for.
use Rattle.std.specs.Prelude.{Option, Some, None}
use Rattle.sum_model.specs.Sums.{Place}
use Rattle.sum_model.specs.Conflicts as model
use Rattle.op_types.specs.View.{name_view}
use Rattle.summary_merge.specs.declared.conflict.ConflictAt.{ConflictAt}

abbrev pub place_of : ConflictAt → Place
place_of c = record { chunk = c.chunk; number = c.op }

abbrev pub conflict_view : Option ConflictAt → Option model.ConflictAt
conflict_view None = None
conflict_view (Some c) = Some (record { place = place_of c; node = name_view c.node.now; first = c.first.now; second = c.second.now })
