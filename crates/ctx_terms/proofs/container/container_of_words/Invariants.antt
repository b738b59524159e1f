-- The words so far, and those of the values that are left.
use Rattle.std.proofs.Common.{◌≡◌, ◌++◌}
use Rattle.std.specs.Option.{option_map}
use Rattle.ld_model.specs.Tree.{trees_of}
use Rattle.ctx_model.specs.Definition.{all_words}
use Rattle.ctx_terms.proofs.container.container_of_words.Given as goal

abbrev pub invariant-loop-value : goal.invariant-loop-value
invariant-loop-value l = option_map (λ ks. l.words.items ++ ks) (all_words (trees_of l.value-iterator)) ≡ all_words (trees_of l.values)
