use Rattle.std.proofs.Common.{sym, ◌∙◌}
use Rattle.subtree_summary.proofs.Used.{among}
use Rattle.subtree_summary.proofs.uses.LabelUses.ends_with.Goals as goal

pub returns-in-Some : goal.returns-in-Some
returns-in-Some c is = among c.args.self.now.names.keys _ c.in-Some.last.now c.args.name.now (sym c.in-Some.ensures.key) (sym c.eq.ensures ∙ is)
