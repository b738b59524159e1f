use Rattle.nquads_text.proofs.Puts.{items_then, items_fail}
use Rattle.std.proofs.Common.{rules, List, ℕ, []}
use Rattle.nquads_text.specs.Blocks.{Puts, joined}
use denote.Ref.{Bor}
use Rattle.nquads_text.proofs.block.put_all.Goals as goal

none : Bor (List ℕ)
none = record { ref_ptr = (0, 0); now = [] }

pub returns-in_err-put-clause-bytes : goal.returns-in_err-put-clause-bytes
unfolding none
returns-in_err-put-clause-bytes g c =
    let held = g.K.Sink.held in
    let left : (left : List ℕ) × Puts (held c.args.sink.now) c.args.block.now (held c.put.new.sink) left (joined c.args.pieces.now) = items_fail (λ p. p.now) c.args.pieces.now c.loop-piece.piece-index none (held c.args.sink.now) (held c.loop-piece.sink) (held c.put.new.sink) c.args.block.now c.loop-piece.block c.loop-piece-test.true c.loop-piece.invariant.put c.in_err-put.ensures.bytes in
    search rules

pub loop-piece-preserved : goal.loop-piece-preserved
unfolding none
loop-piece-preserved g c =
    let held = g.K.Sink.held in
    record {
      put = items_then (λ p. p.now) c.args.pieces.now c.loop-piece.piece-index none (held c.args.sink.now) (held c.loop-piece.sink) (held c.put.new.sink) c.args.block.now c.loop-piece.block c.put.new.block c.loop-piece-test.true c.loop-piece.invariant.put c.in_ok-put.ensures.bytes;
      no_fault = search rules;
    }
