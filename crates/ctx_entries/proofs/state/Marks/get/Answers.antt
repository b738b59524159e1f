use Rattle.std.proofs.Common.{ap, ◌∙◌, sym}
use Rattle.std.specs.Option.{option_copied}
use Rattle.std.specs.Map.{lookup}
use Rattle.std.specs.BTreeMap.{is_at}
use Rattle.ld_model.specs.Tree.{byte_order}
use Rattle.ctx_entries.proofs.Held.{lookup-view}
use Rattle.ctx_entries.proofs.state.Marks.get.Goals as goal

pub returns-in-Some : goal.returns-in-Some
returns-in-Some c =
    sym (ap option_copied c.in-Some.is) ∙ c.get.ensures.value ∙ sym (lookup-view c.args.term.now c.self.inside.terms.entries) ∙ ap (lookup (is_at (byte_order c.args.term.now))) c.self.view_is

pub returns-in-None : goal.returns-in-None
returns-in-None c =
    sym (ap option_copied c.in-None.is) ∙ c.get.ensures.value ∙ sym (lookup-view c.args.term.now c.self.inside.terms.entries) ∙ ap (lookup (is_at (byte_order c.args.term.now))) c.self.view_is
