use Rattle.std.proofs.Common.{◌≡◌, ◌+◌, ◌≤◌, ℕ, List, [], length}
use Rattle.ctx_store.specs.Index.{lines, first_broken}
use Rattle.ctx_store.specs.Seen.{HasSeen}
use Rattle.ctx_store.proofs.index.check_index.Given as goal

abbrev pub invariant-loop-rest : goal.invariant-loop-rest
invariant-loop-rest l =
    record {
      behind : (before : List (List ℕ)) × (HasSeen l.seen before × (first_broken before (l.number + 1) (lines l.rest) ≡ first_broken [] 1 (lines l.index)));
      within : l.number + length l.rest ≤ length l.index;
    }

abbrev pub decreases-loop-rest : goal.decreases-loop-rest
decreases-loop-rest l = length l.rest
