use Rattle.std.proofs.Common.{◌∙◌}
use Rattle.subtree_summary.specs.OnTheWay.{sums_view}
use Rattle.node_parts.proofs.Whole.{only_part}
use Rattle.node_parts.proofs.parts.whole_of.Goals as goal

pub only-part-requires : goal.only-part-requires
only-part-requires c = c.into_summary-parts.ensures.parts.0 ∙ c.requires

pub returns-clause-part : goal.returns-clause-part
returns-clause-part c =
    only_part c.into_summary-parts.result.parts.items c.only-part.result ((sums_view c.args.told.sums).said 0) (c.into_summary-parts.ensures.parts.0 ∙ c.requires) (c.into_summary-parts.ensures.parts.1 0) c.only-part.ensures
