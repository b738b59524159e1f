use Rattle.subtree_cut.proofs.Lists.{no_way}
use Rattle.subtree_cut.proofs.legal.way_from.Goals as goal

pub returns-then-inner-outer : goal.returns-then-inner-outer
returns-then-inner-outer c = no_way c.args.outer.now c.args.inner.now c.if-inner-outer.true
