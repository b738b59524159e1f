use Rattle.std.proofs.Common.{arith, rules, sym, ap, ◌∙◌, ◌+◌, ◌≡◌}
use Rattle.shard_map.specs.Views.{covers}
use Rattle.shard_map.proofs.handles.ShardMap.use_turn.Goals as goal
use Rattle.shard_map.proofs.Inserts.{few, part_runs, put_own, put_grows, put_ended}

pub put-kept-requires-clause-room : goal.put-kept-requires-clause-room
put-kept-requires-clause-room g c =
    let l = few g.J.Piecework.count g.J.Piecework.shard_count g.J.Piecework.fails g.J.Piecework.part g.J.Part.Merge.start_of g.J.Part.Merge.end_of g.J.Part.Merge.both c.args.self.now.job c.args.shard c.args.runs.items c.requires.rises c.requires.own in
    let n = c.args.runs.ok.0 in
    let r = c.requires.room in
    omega arith

pub end_turn-requires-clause-own : goal.end_turn-requires-clause-own
end_turn-requires-clause-own g c =
    let place : (g.J.Part.Merge.start_of c.args.part ≡ c.args.piece) × (g.J.Part.Merge.end_of c.args.part ≡ c.args.piece + 1) = search rules in
    put_own g.J.Piecework.count g.J.Piecework.shard_count g.J.Piecework.fails g.J.Piecework.part g.J.Part.Merge.start_of g.J.Part.Merge.end_of g.J.Part.Merge.both c.args.self.now.job c.put-kept.result c.args.runs c.put-kept.new.runs c.args.part c.args.piece c.args.shard c.put-kept.ensures.put
    (part_runs g.J.Piecework.count g.J.Piecework.shard_count g.J.Piecework.fails g.J.Piecework.part g.J.Part.Merge.start_of g.J.Part.Merge.end_of g.J.Part.Merge.both c.args.self.now.job c.args.shard c.args.piece c.args.part c.requires.part.1 c.requires.range.1 c.requires.part.0 place.0 place.1)
    c.requires.own

pub end_turn-requires-clause-grows : goal.end_turn-requires-clause-grows
end_turn-requires-clause-grows g c q e =
    let place : (g.J.Part.Merge.start_of c.args.part ≡ c.args.piece) × (g.J.Part.Merge.end_of c.args.part ≡ c.args.piece + 1) = search rules in
    put_grows g.J.Piecework.count g.J.Piecework.shard_count g.J.Piecework.fails g.J.Piecework.part g.J.Part.Merge.start_of g.J.Part.Merge.end_of g.J.Part.Merge.both c.args.self.now.job c.put-kept.result c.args.runs c.put-kept.new.runs c.args.part c.args.piece q c.put-kept.ensures.put place.0 place.1 (ap (λ l. covers l q) (sym c.requires.began) ∙ e)

pub returns-clause-ended : goal.returns-clause-ended
returns-clause-ended g c =
    let place : (g.J.Part.Merge.start_of c.args.part ≡ c.args.piece) × (g.J.Part.Merge.end_of c.args.part ≡ c.args.piece + 1) = search rules in
    let told = c.end_turn.ensures.ended in
    (told.1, put_ended g.J.Piecework.count g.J.Piecework.shard_count g.J.Piecework.fails g.J.Piecework.part g.J.Part.Merge.start_of g.J.Part.Merge.end_of g.J.Part.Merge.both c.args.self.now.job c.put-kept.result c.args.runs c.put-kept.new.runs c.args.part c.args.piece c.args.shard told.1 c.args.seat.now.me.0 c.end_turn.new.seat.me.0 _ c.put-kept.ensures.put place.0 place.1 c.requires.began told.2)
