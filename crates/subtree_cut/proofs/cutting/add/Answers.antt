use Rattle.std.proofs.Common.{length, ap, ◌∙◌}
use Rattle.subtree_cut.proofs.Noted.{piece_added}
use Rattle.subtree_cut.proofs.cutting.add.Goals as goal

pub returns-clause-added : goal.returns-clause-added
returns-clause-added c =
    piece_added c.args.plan.now.contexts.items c.args.note.context c.args.plan.now.pieces.items
    (record { array = c.args.note.place; from = c.args.note.from; items = c.args.note.items; context = c.in_ok-number.number; property = c.args.note.property; from_map = c.args.note.from_map })
    c.push.new.self.items c.push-2.new.self.items c.requires (c.in_ok-number.ensures ∙ ap length c.as_slice.ensures.value) c.in_ok-push.ensures.items c.in_ok-push-2.ensures.items
