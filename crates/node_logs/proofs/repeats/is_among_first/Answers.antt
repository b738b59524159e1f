use Rattle.std.proofs.Common.{take, sym, ap, ◌∙◌}
use Rattle.std.specs.List.{list_any}
use Rattle.ld_model.specs.Tree.{same_tree}
use Rattle.ld_tree.specs.View.{view}
use Rattle.node_logs.proofs.Once.{any_take}
use Rattle.node_logs.proofs.repeats.is_among_first.Goals as goal

pub loop-other-preserved : goal.loop-other-preserved
loop-other-preserved c =
    any_take (same_tree (view c.args.entry.now)) c.loop-other.left (view c.in-Some.other.now) c.next.new.self c.if-left-eq0.false (sym c.same.ensures ∙ c.if-same.false)
    ∙ ap (λ ts. list_any (same_tree (view c.args.entry.now)) (take c.loop-other.left ts)) (sym c.in-Some.ensures.steps) ∙ c.loop-other.invariant
