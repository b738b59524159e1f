use Rattle.std.proofs.Common.{◌≡◌, IfOk, sym, ap, ◌∙◌, subst}
use Rattle.ctx_model.specs.Process.{merged}
use Rattle.ctx_entries.specs.View.{pairs_view, imports_view}
use Rattle.ctx_entries.proofs.Merging.{merged-none}
use Rattle.ctx_entries.proofs.local.ContextEntries.all.Goals as goal

pub returns-in-None : goal.returns-in-None
returns-in-None c =
    let own = c.args.self.now.own.now in
    subst (λ l. IfOk c.listed.result (λ es. pairs_view es.items ≡ l)) (sym (merged-none own) ∙ ap (λ i. merged own (imports_view i)) (sym c.in-None.is)) c.listed.ensures
