use Rattle.std.proofs.Common.{◌≡◌, ◌++◌, map}
use Rattle.std.specs.List.{filter_map}
use Rattle.expand_model.specs.Contexts.{text_in}
use Rattle.expand_contexts.proofs.terms.sorted_terms.Given as goal

-- The texts so far, and those that are left.
abbrev pub invariant-loop-item : goal.invariant-loop-item
invariant-loop-item l = map (λ t. t.now) l.terms.items ++ filter_map text_in l.item-iterator ≡ filter_map text_in l.items
