use Rattle.std.proofs.Common.{sym, ap, ◌∙◌}
use Rattle.std.specs.Option.{option_copied_mut}
use Rattle.subtree_summary.specs.Parts.{nodes_view}
use Rattle.summary_merge.proofs.Moves.{same_said}
use Rattle.summary_merge.proofs.merging.make_room_at.Goals as goal

pub returns-in_err-make_room-in-Some-clause-same : goal.returns-in_err-make_room-in-Some-clause-same
returns-in_err-make_room-in-Some-clause-same c =
    ap nodes_view (c.get_mut.follows.holds c.make_room.new.self).0
    ∙ same_said c.args.nodes.now.entries c.args.key.now c.in-Some.entry.now c.make_room.new.self (sym c.get_mut.ensures.value ∙ ap option_copied_mut c.in-Some.is) c.make_room.ensures.same

pub returns-in-Some-clause-same : goal.returns-in-Some-clause-same
returns-in-Some-clause-same c =
    ap nodes_view (c.get_mut.follows.holds c.make_room.new.self).0
    ∙ same_said c.args.nodes.now.entries c.args.key.now c.in-Some.entry.now c.make_room.new.self (sym c.get_mut.ensures.value ∙ ap option_copied_mut c.in-Some.is) c.make_room.ensures.same
