use Rattle.std.proofs.Common.{List, Bool, true, None, length, set, Vec, Global, arith, sym, ap, ◌∙◌}
use Rattle.std.proofs.Math.ListN.{length-set, length-map}
use Rattle.std.specs.Vec.{with_item}
use Rattle.job_core.specs.Machine.{Job, job_of, after}
use Rattle.job_core.specs.declared.JobStep.TheVariants.{Enter}
use Rattle.job_core.proofs.Rows.{row_length, written_seen, written_lengths}
use Rattle.job_core.proofs.state.JobState.enter.Goals as goal

pub index_mut-requires-2 : goal.index_mut-requires-2
index_mut-requires-2 c =
    let row = c.index_mut-row.result.now in
    let pieces = ap (λ (job : Job). length job.fails) c.self.view_is in
    let shards = ap (λ (job : Job). length job.turns) c.self.view_is in
    let seen = length-map c.self.inside.entered.items (λ (r : Vec Bool Global). r.items) in
    let same = c.self.invariant.each_shard_entered in
    let long = row_length c.self.inside.entered.items c.args.shard row c.index_mut-row.ensures.value (omega arith) (length c.self.inside.fails.items) c.self.invariant.each_row in
    let sized = row.ok.0 in
    omega arith

pub invariant_of-self : goal.invariant_of-self
invariant_of-self c =
    let row = c.index_mut-row.result.now in
    let rows = c.self.inside.entered.items in
    let shards = ap (λ (job : Job). length job.turns) c.self.view_is in
    let seen = length-map rows (λ (r : Vec Bool Global). r.items) in
    let same = c.self.invariant.each_shard_entered in record {
      each_piece_placed = c.self.invariant.each_piece_placed;
      each_shard_entered =
          length-map (set rows c.args.shard (with_item row c.args.piece true)) (λ (r : Vec Bool Global). r.items)
          ∙ length-set rows c.args.shard (with_item row c.args.piece true)
          ∙ sym seen
          ∙ same
          ∙ sym (length-set c.self.inside.turns.items c.args.shard _);
      each_row = written_lengths rows c.args.shard row c.index_mut-row.ensures.value (omega arith) (length c.self.inside.fails.items) c.args.piece c.self.invariant.each_row;
      few_pieces = c.self.invariant.few_pieces;
    }

pub returns : goal.returns
returns c =
    let row = c.index_mut-row.result.now in
    let rows = c.self.inside.entered.items in
    let shards = ap (λ (job : Job). length job.turns) c.self.view_is in
    let seen = length-map rows (λ (r : Vec Bool Global). r.items) in
    let same = c.self.invariant.each_shard_entered in
    let inside = c.self.inside in
    ap (λ (entered : List (List Bool)). job_of inside.fails.items inside.places.items inside.least inside.seen.items (set inside.turns.items c.args.shard None) entered inside.closed)
    (written_seen rows c.args.shard row c.index_mut-row.ensures.value (omega arith) c.args.piece)
    ∙ ap (λ (job : Job). after job (Enter 0 c.args.shard c.args.piece)) c.self.view_is
