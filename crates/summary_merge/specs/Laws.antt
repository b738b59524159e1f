-- Runs are joined as their sums are.
use Rattle.std.specs.Prelude.{◌≡◌}
use Rattle.sum_model.specs.Sums.{empty_sum}
use Rattle.sum_laws.proofs.Sums.{join_is_a_monoid}
use Rattle.summary_merge.specs.Runs.{RunOf, runs_joined}

pub left_nothing : (a : RunOf) → runs_joined (record { first = a.first; end = a.first; sum = empty_sum }) a ≡ a
left_nothing a i = record { first = a.first; end = a.end; sum = join_is_a_monoid.left a.sum i }

pub right_nothing : (a : RunOf) → runs_joined a (record { first = a.end; end = a.end; sum = empty_sum }) ≡ a
right_nothing a i = record { first = a.first; end = a.end; sum = join_is_a_monoid.right a.sum i }

pub associative : (a b c : RunOf) → runs_joined (runs_joined a b) c ≡ runs_joined a (runs_joined b c)
associative a b c i = record { first = a.first; end = c.end; sum = join_is_a_monoid.assoc a.sum b.sum c.sum i }
