use Rattle.std.proofs.Common.{◌≡◌, ◌++◌}
use Rattle.subtree_cut.specs.View.{AreHeld, plan_view}
use Rattle.subtree_cut.specs.Choices.{notes_view}
use Rattle.subtree_cut.proofs.cutting.plan_of.Given as goal

abbrev pub invariant-loop-note : goal.invariant-loop-note
invariant-loop-note l =
    record {
      held : AreHeld l.plan;
      left : plan_view l.plan ++ notes_view l.note-iterator.rest.items ≡ notes_view l.initial.note-iterator.rest.items;
    }
