use Rattle.std.proofs.Common.{◌≡◌}
use Rattle.std.specs.Prelude.{map}
use Rattle.node_model.specs.AsTrees.{properties_put}
use Rattle.node_logs.specs.Merged.{pair_of}
use Rattle.node_logs.proofs.finishing.put_properties.Given as goal

abbrev pub invariant-loop-told : goal.invariant-loop-told
invariant-loop-told l =
    properties_put (map pair_of l.told-iterator.rest.items) l.members ≡ properties_put (map pair_of l.initial.told-iterator.rest.items) l.initial.members
