use Rattle.std.proofs.Common.{◌≡◌, length}
use Rattle.ld_tree.specs.View.{members_view}
use Rattle.ld_tree.specs.Built.{ascend}
use Rattle.ld_tree.proofs.building.are_ascending.Given as goal

abbrev pub invariant-loop-rest : goal.invariant-loop-rest
invariant-loop-rest l = ascend (members_view l.rest) ≡ ascend (members_view l.fn.pairs)

abbrev pub decreases-loop-rest : goal.decreases-loop-rest
decreases-loop-rest l = length l.rest
