use Rattle.std.proofs.Common.{◌≡◌, ◌++◌}
use Rattle.std.specs.Prelude.{map}
use Rattle.ld_model.specs.Tree.{text}
use Rattle.node_logs.proofs.finishing.texts_of.Given as goal

abbrev pub invariant-loop-name : goal.invariant-loop-name
invariant-loop-name l = l.texts ++ map text l.name-iterator.rest.items ≡ map text l.initial.name-iterator.rest.items
