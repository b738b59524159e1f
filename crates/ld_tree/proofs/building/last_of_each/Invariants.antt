use Rattle.std.proofs.Common.{◌≡◌}
use Rattle.ld_tree.specs.View.{members_view}
use Rattle.ld_tree.specs.Built.{built, put_all}
use Rattle.ld_tree.proofs.building.last_of_each.Given as goal

abbrev pub invariant-loop-key : goal.invariant-loop-key
invariant-loop-key l = put_all (members_view l.key-iterator.rest.items) l.members ≡ built (members_view l.fn.pairs.items)
