use Rattle.std.proofs.Common.{sym, ap, ◌∙◌}
use Rattle.op_types.specs.View.{name_view}
use Rattle.summary_merge.specs.Conflict.{conflict_view, place_of}
use Rattle.label_repair.proofs.OwnConflicts.{conflict_is_owned}
use Rattle.label_repair.proofs.runs.conflict_of.Goals as goal

pub placed-requires : goal.placed-requires
placed-requires c =
    let at = c.in-Some.at in
    conflict_is_owned c.args.labels.now c.args.run.now.sum.nodes
    (record { place = place_of at; node = name_view at.node.now; first = at.first.now; second = at.second.now })
    c.requires.nodes (sym c.first_conflict.ensures ∙ ap conflict_view c.in-Some.is)
