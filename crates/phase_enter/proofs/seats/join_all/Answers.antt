use Rattle.std.proofs.Common.{sym, ◌∙◌}
use Rattle.std.proofs.lemmas.List.Elements.{All-rest}
use Rattle.shard_map.specs.Seats.{IsSeatOf}
use Rattle.phase_enter.proofs.Joining.{joins_one, joins_all}
use Rattle.phase_enter.proofs.seats.join_all.Goals as goal

pub loop-other-preserved : goal.loop-other-preserved
loop-other-preserved g c =
    let i = c.loop-other.invariant in record {
      seat = c.join.ensures.seat;
      left = All-rest (IsSeatOf c.args.map.now) _ _ _ c.in-Some.ensures.steps.0 i.left;
      joining = joins_one _ _ c.loop-other.seat c.join.new.seat _ _ _ c.in-Some.ensures.steps.0 c.join.ensures.view i.joining;
    }

pub returns-clause-joined : goal.returns-clause-joined
returns-clause-joined g c = joins_all _ _ _ _ (sym c.loop-other.other-iterator.rest.ok.0 ∙ c.in-None.ensures.steps.0) c.loop-other.invariant.joining
