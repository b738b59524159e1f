use Rattle.std.proofs.Common.{◌∷◌, [], All, length, sym, ap, subst, arith}
use Rattle.std.proofs.lemmas.List.{length-append}
use Rattle.std.proofs.lemmas.List.Elements.{All-push}
use Rattle.shard_map.specs.Seats.{IsSeatOf}
use Rattle.phase_enter.proofs.Joining.{can_split, still_halved, still_shared}
use Rattle.phase_enter.proofs.seats.split_all.Goals as goal

pub split-requires-clause-share : goal.split-requires-clause-share
split-requires-clause-share g c = can_split c.args.workers c.loop.counter c.loop.seat c.loop-test.true c.loop.invariant.left

pub loop-preserved : goal.loop-preserved
loop-preserved g c =
    let i = c.loop.invariant in
    let made = c.in_ok-split.ensures.made in
    let more = c.in_ok-push.ensures.items in record {
      seat = c.split.ensures.seat;
      count = let l = ap length more in let a = length-append c.loop.seats.items (c.in_ok-split.field-0 ∷ []) in let n = i.count in omega arith;
      left = still_halved c.args.workers c.loop.counter c.loop.seat c.split.new.seat c.loop-test.true made.1 i.left;
      share = still_shared _ c.loop.seat c.split.new.seat c.in_ok-split.field-0 c.loop.seats.items _ made.1 made.2 more i.share;
      seats = subst (All (IsSeatOf c.args.map.now)) (sym more) (All-push (IsSeatOf c.args.map.now) c.loop.seats.items c.in_ok-split.field-0 i.seats made.0);
    }
