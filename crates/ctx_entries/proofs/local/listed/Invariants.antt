-- The entries so far, and those that are left.
use Rattle.std.proofs.Common.{◌≡◌, ◌++◌}
use Rattle.ctx_entries.specs.View.{pairs_view}
use Rattle.ctx_entries.proofs.local.listed.Given as goal

abbrev pub invariant-loop-pair : goal.invariant-loop-pair
invariant-loop-pair l = pairs_view l.pairs.items ++ l.pair-iterator ≡ l.own
