use Rattle.std.proofs.Common.{rules}
use Rattle.division_cut.proofs.Counts.{two_are}
use Rattle.division_cut.proofs.marking.has_two.Goals as goal

pub returns : goal.returns
returns c = search (rules, two_are)
