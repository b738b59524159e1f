use Rattle.phase_enter.proofs.Covering.{covered_grows}
use Rattle.phase_enter.proofs.enters.EntersWork.perform.Goals as goal

pub returns-in_default-enter_parts-clause-kept : goal.returns-in_default-enter_parts-clause-kept
returns-in_default-enter_parts-clause-kept g c = λ earlier answer covered. covered_grows _ c.args.seat.now c.enter_parts.new.seat earlier answer.kept.items c.enter_parts.ensures.grows covered

pub returns-clause-kept : goal.returns-clause-kept
returns-clause-kept g c = λ earlier answer covered. covered_grows _ c.args.seat.now c.enter_parts.new.seat earlier answer.kept.items c.enter_parts.ensures.grows covered
