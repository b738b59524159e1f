use Rattle.std.proofs.Common.{◌≡◌, ◌++◌}
use Rattle.std.specs.Prelude.{map as each}
use Rattle.std.specs.List.{AllByRecursion}
use Rattle.label_repair.specs.Renaming.{IsOwn, told_renamed}
use Rattle.label_repair.proofs.renaming.told_of.Given as goal

abbrev pub invariant-loop-said : goal.invariant-loop-said
invariant-loop-said l =
    record {
      renamed : l.renamed.items ++ each (told_renamed l.fn.labels) l.said-iterator.rest.items ≡ each (told_renamed l.fn.labels) l.initial.said-iterator.rest.items;
      own : AllByRecursion (IsOwn l.fn.labels) l.said-iterator.rest.items;
    }
