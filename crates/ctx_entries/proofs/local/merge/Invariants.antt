-- The entries so far, and those of what is left of both maps.
use Rattle.std.proofs.Common.{◌≡◌, ◌+◌, ◌++◌, length}
use Rattle.ctx_model.specs.Process.{merged}
use Rattle.ctx_entries.specs.View.{pairs_view}
use Rattle.ctx_entries.proofs.local.merge.Given as goal

abbrev pub invariant-loop-pair : goal.invariant-loop-pair
invariant-loop-pair l = pairs_view l.pairs.items ++ merged l.own l.imports ≡ merged l.own-2 l.imports-2

abbrev pub decreases-loop-pair : goal.decreases-loop-pair
decreases-loop-pair l = length l.own + length l.imports
