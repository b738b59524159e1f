use Rattle.std.proofs.Common.{sym, ap, ◌∙◌}
use Rattle.sum_model.specs.Conflicts as model
use Rattle.sum_model.specs.Conflicts.{earliest, earlier}
use Rattle.op_types.specs.View.{name_view}
use Rattle.subtree_summary.specs.Log.{index_view}
use Rattle.subtree_summary.specs.Parts.{nodes_view}
use Rattle.summary_merge.specs.Conflict.{conflict_view}
use Rattle.summary_merge.proofs.Earlier.{earlier-assoc, before_none}
use Rattle.summary_merge.proofs.conflict.first_of.Goals as goal

pub loop-key-preserved : goal.loop-key-preserved
loop-key-preserved c =
    let rest = c.next.new.self in
    let first = conflict_view c.loop-key.first in
    ap (λ x. earlier x (earliest (nodes_view rest))) (c.the_earlier-first.ensures ∙ ap (earlier first) c.conflict_of.ensures)
    ∙ earlier-assoc first (model.conflict_of (name_view c.in-Some.key.now.node) (index_view c.in-Some.entry.now.index)) (earliest (nodes_view rest))
    ∙ ap (λ es. earlier first (earliest (nodes_view es))) (sym c.in-Some.ensures.steps)
    ∙ c.loop-key.invariant

pub returns : goal.returns
returns c =
    sym (before_none (conflict_view c.loop-key.first))
    ∙ ap (λ es. earlier (conflict_view c.loop-key.first) (earliest (nodes_view es))) (sym c.in-None.ensures.steps.0)
    ∙ c.loop-key.invariant
