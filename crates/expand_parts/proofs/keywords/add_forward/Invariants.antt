use Rattle.std.proofs.Common.{◌≡◌}
use Rattle.expand_model.specs.Keywords.{forward_added}
use Rattle.expand_parts.proofs.keywords.add_forward.Given as goal

abbrev pub invariant-loop-property : goal.invariant-loop-property
invariant-loop-property l = forward_added l.property-iterator l.made ≡ forward_added l.initial.property-iterator l.initial.made
