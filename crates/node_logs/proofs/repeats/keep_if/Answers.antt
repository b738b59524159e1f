use Rattle.std.proofs.Common.{[], ◌∷◌, ◌++◌, append_assoc, sym, ap, ◌∙◌}
use Rattle.ld_tree.specs.View.{view}
use Rattle.node_logs.specs.Once.{kept_if}
use Rattle.node_logs.proofs.repeats.keep_if.Goals as goal

pub returns : goal.returns
returns c = λ ts.
    ap (λ l. l ++ ts) c.in_ok-push.ensures.ok ∙ append_assoc c.args.those.now (view c.args.entry ∷ []) ts
    ∙ ap (λ b. c.args.those.now ++ kept_if b (view c.args.entry) ts) (sym c.if-not-stays.false)
