use Rattle.std.proofs.Common.{◌≡◌, ◌++◌, map, IsUtf8}
use Rattle.std.specs.List.{AllByRecursion}
use Rattle.json_canon.specs.Lent.{lent}
use Rattle.json_canon.proofs.writing.sorted_members.Given as goal

abbrev pub invariant-loop-name : goal.invariant-loop-name
invariant-loop-name l = record {
  pairs : map lent l.sorted.items ++ l.name-iterator ≡ l.initial.name-iterator;
  texts : AllByRecursion (λ m. IsUtf8 m.0) (map lent l.sorted.items);
}
