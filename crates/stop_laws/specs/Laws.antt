-- What the law says.
use Rattle.std.specs.Prelude.{ℕ, ◌≡◌, true, false}
use Rattle.ld_model.specs.Tree.{Tree}
use Rattle.expand_model.specs.Scope.{Options}
use Rattle.expand_model.specs.Over.{state_of, document_over}
use Rattle.cut_model.specs.Planning.{Plan, empty_plan, chooses, opens_or_takes}
use Rattle.stop_laws.specs.Stopping.{has_many, chooses_or_stops}

-- Of the plan that planning comes to and the one at which it stopped: where there are few pieces they are the same, and else both have too many.
pub record AgreeWhereFew (whole stopped : Plan) : Type 0 where
  pub few : has_many stopped ≡ false → whole ≡ stopped
  pub many : has_many stopped ≡ true → has_many whole ≡ true

abbrev pub StoppingFindsTheSamePlan : Type 0
StoppingFindsTheSamePlan =
    (o : Options) (t : Tree) (limit : ℕ)
    → AgreeWhereFew (state_of (document_over o chooses opens_or_takes t (empty_plan limit))) (state_of (document_over o chooses_or_stops opens_or_takes t (empty_plan limit)))
