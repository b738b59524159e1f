use Rattle.std.proofs.Common.{◌≡◌, length, drop}
use Rattle.cut_model.specs.Pieces.{same_place}
use Rattle.tree_expand.proofs.places.are_same.Given as goal

abbrev pub invariant-loop-number : goal.invariant-loop-number
invariant-loop-number l =
    record {
      long : length l.steps ≡ length l.others;
      left : same_place (drop l.number l.steps) (drop l.number l.others) ≡ same_place l.steps l.others;
    }
