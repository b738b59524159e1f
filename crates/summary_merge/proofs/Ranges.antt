-- Runs, one after another.
use Rattle.std.proofs.Common.{◌≡◌, List, [], ◌∷◌, refl}
use Rattle.summary_merge.specs.Runs.{RunOf, runs_joined, all_from}
use Rattle.summary_merge.specs.Laws.{associative}

-- The first two are joined, and then the rest.
pub two_first : (r s : RunOf) (ss : List RunOf) → all_from (runs_joined r s) ss ≡ all_from r (s ∷ ss)
two_first r s [] = refl
two_first r s (t ∷ ts) = associative r s (all_from t ts)
