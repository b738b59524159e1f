use Rattle.std.proofs.Common.{◌≡◌, ◌++◌}
use Rattle.std.specs.Prelude.{map as each}
use Rattle.std.specs.List.{AllByRecursion}
use Rattle.op_laws.specs.Own.{HasOwn}
use Rattle.op_model.specs.Running.{label_in}
use Rattle.op_types.specs.View.{names_view}
use Rattle.label_repair.proofs.renaming.types_of.Given as goal

abbrev pub invariant-loop-name : goal.invariant-loop-name
invariant-loop-name l =
    record {
      renamed : l.texts.items ++ each (label_in l.fn.labels) (names_view l.name-iterator.rest.items) ≡ each (label_in l.fn.labels) (names_view l.initial.name-iterator.rest.items);
      own : AllByRecursion (HasOwn l.fn.labels) (names_view l.name-iterator.rest.items);
    }
