use Rattle.std.proofs.lemmas.Bool.Decides.{Decides-at}
use Rattle.ctx_types.specs.Same.{same_but_protected}
use Rattle.ctx_types.specs.View.{definition_view}
use Rattle.ctx_types.proofs.SameLaws.{same-Decides}
use Rattle.ctx_types.proofs.definition.TermDef.same_but_protected.Goals as goal

pub returns-clause-equal : goal.returns-clause-equal
returns-clause-equal c =
    let test = same-Decides (definition_view c.args.self.now) (definition_view c.args.other.now) in
    Decides-at c.agree.result (same_but_protected (definition_view c.args.self.now) (definition_view c.args.other.now)) c.agree.ensures test
