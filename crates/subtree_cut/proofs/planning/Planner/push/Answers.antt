use Rattle.std.proofs.Common.{refl, sym}
use Rattle.subtree_cut.specs.Choices.{note_view}
use Rattle.subtree_cut.proofs.Noted.{noted_more}
use Rattle.subtree_cut.proofs.planning.Planner.push.Goals as goal

pub returns : goal.returns
returns c = noted_more c.self.inside.limit c.self.inside.notes.items c.push.new.self.items c.args.note (note_view c.args.note) c.args.self.now c.in_ok-push.ensures.items refl (sym c.self.view_is)
