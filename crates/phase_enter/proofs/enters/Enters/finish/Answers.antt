use Rattle.std.proofs.Common.{◌∷◌, [], length, ap, arith}
use Rattle.std.proofs.lemmas.List.{length-append}
use Rattle.phase_enter.specs.Entries.{grows_then, grows_itself}
use Rattle.phase_enter.proofs.Finishing.{finishes_none, next_low, next_kept, finishes_one}
use Rattle.phase_enter.proofs.enters.Enters.finish.Goals as goal

pub loop-piece-init : goal.loop-piece-init
loop-piece-init g c = record {
  seat = c.requires.seat.0;
  share = c.requires.seat.1;
  grows = grows_itself c.args.seat.now;
  room = let l = ap length c.requires.rests.0 in let a = ap length c.into_iter-piece-iterator.ensures.into_iter_gives.0 in let r = c.requires.rests.1 in omega arith;
  finishing = finishes_none _ _ _ _ c.args.seat.now c.args.answers.items _ _ c.into_iter-piece-iterator.ensures.into_iter_gives.0 c.requires.rests.0 c.requires.answers;
}

pub finish_piece-requires-clause-piece : goal.finish_piece-requires-clause-piece
finish_piece-requires-clause-piece g c = let low = next_low _ _ _ _ _ _ _ _ _ _ c.in-Some.ensures.steps.0 c.loop-piece.invariant.finishing in (low, c.requires.fails c.in-Some.piece low)

pub finish_piece-requires-clause-kept : goal.finish_piece-requires-clause-kept
finish_piece-requires-clause-kept g c = next_kept _ _ _ _ _ _ _ _ _ _ c.in-Some.ensures.steps.0 c.loop-piece.invariant.finishing

pub loop-piece-preserved : goal.loop-piece-preserved
loop-piece-preserved g c =
    let i = c.loop-piece.invariant in
    let more = c.push_reserved.ensures.items in record {
      seat = c.finish_piece.ensures.seat.0;
      share = c.finish_piece.ensures.seat.1;
      grows = grows_then c.args.seat.now c.loop-piece.seat c.finish_piece.new.seat i.grows c.finish_piece.ensures.grows;
      room = let l = ap length c.in-Some.ensures.steps.0 in let m = ap length more in let a = length-append c.loop-piece.rests.items (c.in-Some.answer.rest ∷ []) in let r = i.room in let q = c.push_reserved.ensures.capacity in omega arith;
      finishing = finishes_one _ _ _ _ c.loop-piece.seat c.finish_piece.new.seat _ _ c.loop-piece.rests.items c.push_reserved.new.self.items c.in-Some.piece c.in-Some.answer c.in-Some.ensures.steps.0 more c.finish_piece.ensures.grows c.finish_piece.ensures.has i.finishing;
    }
