use Rattle.std.proofs.Common.{◌≡◌}
use Rattle.expand_model.specs.Keywords.{each_reversed}
use Rattle.expand_parts.proofs.keywords.reverse_each.Given as goal

abbrev pub invariant-loop-property : goal.invariant-loop-property
invariant-loop-property l = each_reversed l.property-iterator l.made ≡ each_reversed l.initial.property-iterator l.initial.made
