use Rattle.std.proofs.Common.{length, ap, ◌∙◌, sym, arith}
use Rattle.phase_enter.specs.Entries.{grows_then}
use Rattle.phase_enter.proofs.Covering.{head_part, other_parts, kept_long, fine_next, covered_next}
use Rattle.phase_enter.proofs.enters.Enters.enter_parts.Goals as goal

pub enter_next-requires-clause-part : goal.enter_next-requires-clause-part
enter_next-requires-clause-part g c = (c.requires.piece.1, head_part (g.J.Piecework.part c.args.self.now.map.now.job) c.args.piece c.loop-part.shard _ _ c.in-Some.part c.in-Some.ensures.steps.0 c.loop-part.invariant.left)

pub overflow_add-shard : goal.overflow_add-shard
overflow_add-shard g c = let l = ap length c.in-Some.ensures.steps.0 in let e = c.loop-part.invariant.count in let n = c.shards.ensures.count in let m = c.shards.ensures.range.1 in omega arith

pub loop-part-preserved : goal.loop-part-preserved
loop-part-preserved g c =
    let i = c.loop-part.invariant in
    let shards = g.J.Piecework.shard_count c.args.self.now.map.now.job in
    let part = g.J.Piecework.part c.args.self.now.map.now.job in
    let l = ap length c.in-Some.ensures.steps.0 in
    let e = i.count in
    let care = c.enter_next.ensures.outcome in record {
      seat = c.enter_next.ensures.seat;
      grows = grows_then c.args.seat.now c.loop-part.seat c.enter_next.new.seat i.grows c.enter_next.ensures.grows;
      count = omega arith;
      left = other_parts part c.args.piece c.loop-part.shard _ _ c.in-Some.part c.in-Some.ensures.steps.0 i.left;
      room = let k = kept_long part c.args.piece c.enter_next.new.seat c.loop-part.shard c.in-Some.part c.loop-part.kept.items c.enter_next.new.kept.items care in let r = i.room in let s = c.enter_next.ensures.room in omega arith;
      fine = fine_next part c.args.piece shards c.enter_next.new.seat c.loop-part.shard c.in-Some.part c.loop-part.kept.items c.enter_next.new.kept.items (omega arith) (head_part part c.args.piece c.loop-part.shard _ _ c.in-Some.part c.in-Some.ensures.steps.0 i.left) care i.fine;
      covered = covered_next part c.args.piece c.loop-part.seat c.enter_next.new.seat c.loop-part.shard c.in-Some.part c.loop-part.kept.items c.enter_next.new.kept.items c.enter_next.ensures.grows care i.covered;
    }

pub returns-clause-covered : goal.returns-clause-covered
returns-clause-covered g c = λ shard low. let none = sym c.loop-part.part-iterator.rest.ok.0 ∙ c.in-None.ensures.steps.0 in let e = c.loop-part.invariant.count in c.loop-part.invariant.covered shard (omega arith)
