use Rattle.ld_tree.specs.View.{trees_view}
use Rattle.division_cut.proofs.Rounds.{starts_few, cut_is, cut_is_few}
use Rattle.division_cut.proofs.cutting.cut_expanded.Goals as goal

pub chunks_from-requires : goal.chunks_from-requires
chunks_from-requires c = starts_few (trees_view c.args.items.now) c.args.weight c.requires c.ranges.weight.fits

pub returns-clause-same : goal.returns-clause-same
returns-clause-same c = cut_is (trees_view c.args.items.now) c.args.weight c.in_ok-chunks.chunks.items c.ranges.weight.fits c.in_ok-chunks.ensures

pub returns-clause-few : goal.returns-clause-few
returns-clause-few c = cut_is_few (trees_view c.args.items.now) c.args.weight c.in_ok-chunks.chunks.items c.requires c.ranges.weight.fits c.in_ok-chunks.ensures
