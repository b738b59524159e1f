use Rattle.ld_tree.specs.View.{trees_view}
use Rattle.op_types.specs.View.{name_view}
use Rattle.division_cut.specs.Views.{division_view}
use Rattle.division_cut.proofs.Rounds.{divided_is}
use Rattle.division_cut.proofs.cutting.divided.Goals as goal

pub returns : goal.returns
returns c =
    divided_is c.args.limit (name_view c.in_ok-graph.graph) (trees_view c.args.items.now) (division_view c.new-division.result) (division_view c.divide_top.new.division) (division_view c.end.new.self)
    c.in_ok-graph.ensures c.new-division.ensures c.in_ok-divide_top.ensures c.in_ok-end.ensures
