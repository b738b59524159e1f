use Rattle.std.proofs.Common.{◌∙◌}
use Rattle.division_cut.proofs.Counts.{keys_are}
use Rattle.division_cut.proofs.marking.is_whole.Goals as goal

pub returns : goal.returns
returns c = c.has_either.ensures ∙ keys_are c.args.members.now
