use Rattle.std.proofs.Common.{◌≡◌, ◌++◌, append-nil, sym, ap, ◌∙◌}
use Rattle.std.specs.Vec.Iter.{into_iter_items}
use Rattle.node_logs.specs.Once.{kept}
use Rattle.node_logs.proofs.Once.{kept-nil}
use Rattle.node_logs.proofs.repeats.those_kept.Goals as goal

pub returns : goal.returns
returns c =
    let all : c.loop-entry.those ++ kept (into_iter_items c.loop-entry.stay) c.loop-entry.entry-iterator ≡ kept c.args.stay.items c.args.entries =
    c.loop-entry.invariant ∙ ap (λ bs. kept bs c.into_iter-entry-iterator.result) c.into_iter-stay.ensures.rest ∙ ap (kept c.args.stay.items) c.into_iter-entry-iterator.ensures.into_iter_gives in
    sym (append-nil c.loop-entry.those) ∙ ap (λ l. c.loop-entry.those ++ l) (sym (kept-nil (into_iter_items c.loop-entry.stay)))
    ∙ ap (λ ts. c.loop-entry.those ++ kept (into_iter_items c.loop-entry.stay) ts) (sym c.in-None.ensures.steps.0) ∙ all
