use Rattle.std.proofs.Common.{sym, ◌∙◌}
use Rattle.ctx_entries.specs.View.{tree_view}
use Rattle.expand_contexts.proofs.Steps.{same_local-exact}
use Rattle.expand_contexts.proofs.memo.Last.is_by.Goals as goal

pub returns-clause-local : goal.returns-clause-local
returns-clause-local c =
    λ same. same_local-exact (tree_view c.args.self.now.local) (tree_view c.args.local) (sym c.same_local.ensures ∙ same)
