use Rattle.std.proofs.Common.{◌≡◌, sym, ◌∙◌, arith}
use Rattle.std.proofs.lemmas.Grind.{common_steps}
use Rattle.ctx_types.specs.ContextView.{settings_view}
use Rattle.expand_types.proofs.Named.{bare_expands}
use Rattle.expand_types.proofs.keys.is_bare.Goals as goal

pub returns-in-None : goal.returns-in-None
returns-in-None c =
    λ bare t other.
    let empty : c.len.result ≡ 0 = grind (arith, common_steps) in
    bare_expands (settings_view c.args.context.now) t (sym c.len.ensures ∙ empty) c.in-None.is other
