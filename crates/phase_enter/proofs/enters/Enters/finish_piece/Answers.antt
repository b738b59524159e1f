use Rattle.std.proofs.Common.{sym, ◌∙◌}
use Rattle.std.proofs.lemmas.List.Elements.{All-rest}
use Rattle.phase_enter.specs.Entries.{grows_then, IsKept}
use Rattle.phase_enter.proofs.Finishing.{enters_one, enters_all}
use Rattle.phase_enter.proofs.enters.Enters.finish_piece.Goals as goal

pub loop-shard-preserved : goal.loop-shard-preserved
loop-shard-preserved g c =
    let i = c.loop-shard.invariant in record {
      seat = c.finish_part.ensures.seat.0;
      share = c.finish_part.ensures.seat.1;
      grows = grows_then c.args.seat.now c.loop-shard.seat c.finish_part.new.seat i.grows c.finish_part.ensures.grows;
      left = All-rest (IsKept (g.J.Piecework.shard_count c.args.self.now.map.now.job) (g.J.Piecework.part c.args.self.now.map.now.job) c.args.piece) _ _ _ c.in-Some.ensures.steps.0 i.left;
      entering = enters_one c.args.piece c.args.kept.items c.loop-shard.seat c.finish_part.new.seat c.in-Some.shard c.in-Some.part _ _ c.in-Some.ensures.steps.0 c.finish_part.ensures.grows c.finish_part.ensures.has i.entering;
    }

pub returns-clause-has : goal.returns-clause-has
returns-clause-has g c = enters_all c.args.piece c.args.kept.items c.loop-shard.seat _ (sym c.loop-shard.shard-iterator.rest.ok.0 ∙ c.in-None.ensures.steps.0) c.loop-shard.invariant.entering
