use Rattle.std.proofs.Common.{◌≡◌, ◌≤◌, length, drop}
use Rattle.cut_model.specs.LegalTest as test
use Rattle.subtree_cut.proofs.legal.way_from.Given as goal

abbrev pub invariant-loop-number : goal.invariant-loop-number
invariant-loop-number l =
    record {
      long : length l.outer ≤ length l.inner;
      left : test.way_from (drop l.number l.outer) (drop l.number l.inner) ≡ test.way_from l.outer l.inner;
    }
