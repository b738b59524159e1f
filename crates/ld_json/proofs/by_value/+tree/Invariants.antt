use Rattle.std.proofs.Common.{◌≡◌, ◌++◌, map}
use Rattle.ld_json.specs.Read.{value_tree, value_member}
use Rattle.ld_json.proofs.by_value.+tree.Given as goal

abbrev pub invariant-members-loop-key : goal.invariant-members-loop-key
invariant-members-loop-key l = l.members ++ map value_member l.key-iterator ≡ map value_member l.fn.object.entries

abbrev pub invariant-trees-loop-value : goal.invariant-trees-loop-value
invariant-trees-loop-value l = l.trees ++ map value_tree l.value-iterator.rest.items ≡ map value_tree l.initial.value-iterator.rest.items
