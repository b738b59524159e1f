use Rattle.std.proofs.Common.{sym, ap, ◌∙◌, arith}
use Rattle.std.specs.Option.{option_map}
use Rattle.ld_model.specs.Tree.{trees_of}
use Rattle.ld_tree.specs.View.{view, trees_view}
use Rattle.node_walk.specs.Seen.{to_view}
use Rattle.node_walk.specs.Found.{members_in}
use Rattle.op_types.specs.View.{name_view}
use Rattle.division_model.specs.Dividing.{Division}
use Rattle.division_model.specs.ByWeight.{are_few}
use Rattle.division_cut.specs.Found.{members_or_none}
use Rattle.division_cut.specs.Views.{division_view, mark_view, marked_view}
use Rattle.division_cut.proofs.Found.{node_is_made}
use Rattle.division_cut.proofs.Standing.{over_is_made}
use Rattle.division_cut.proofs.Turned.{subst_before, lighter_behind, goes_on, ended_of, enough_of, opened_is_made, not_few}
use Rattle.division_cut.proofs.dividing.+dividing.Goals as goal

pub divide_element-returns-then-is_over : goal.divide_element-returns-then-is_over
divide_element-returns-then-is_over t c =
    over_is_made c.args.limit (name_view c.args.graph.now) (to_view name_view c.args.to) (view c.args.element.now) (division_view c.args.division.now) c.requires
    (not_few (are_few (division_view c.args.division.now).chunks) c.is_over.result c.is_over.ensures c.if-is_over.true)

pub divide_item-returns-in_ok-divide_element-in-Opened : goal.divide_item-returns-in_ok-divide_element-in-Opened
divide_item-returns-in_ok-divide_element-in-Opened t c =
    opened_is_made c.args.limit (name_view c.args.graph.now) (to_view name_view c.args.to) (mark_view c.args.mark) (trees_view c.args.taken.now) (view c.args.item.now)
    (division_view c.args.division.now) (division_view c.range.new.self) (division_view c.divide_element.new.division)
    (ap mark_view c.in-Opened.is) c.in_ok-range-in-Opened.ensures c.in_ok-divide_element-in-Opened.ensures

pub divide_items-returns-then-is_over : goal.divide_items-returns-then-is_over
divide_items-returns-then-is_over t c d stands =
    enough_of c.is_cut-cut.result c.args.limit c.loop-number.sum (name_view c.args.graph.now) (to_view name_view c.args.to) c.loop-number.number _ _ (trees_of (trees_view c.args.items.now)) (division_view c.loop-number.division) d c.is_cut-cut.ensures c.requires
    (not_few (are_few (division_view c.loop-number.division).chunks) c.is_over.result c.is_over.ensures c.if-is_over.true)
    (c.loop-number.invariant.left d stands)

pub divide_items-loop-number-preserved : goal.divide_items-loop-number-preserved
divide_items-loop-number-preserved t c =
    let m = marked_view c.mark_of-marked.result in
    let next = c.first_behind-first.ensures in
    record {
      before = subst_before c.first_behind-first.result c.loop-number.number m.0 c.loop-number.first next c.loop-number.invariant.before;
      left = λ d stands. goes_on c.is_cut-cut.result c.args.limit c.loop-number.sum (name_view c.args.graph.now) (to_view name_view c.args.to) c.args.items.now
          c.loop-number.first c.first_behind-first.result c.loop-number.number c.index-items-number.result
          (division_view c.loop-number.division) (division_view c.divide_item.new.division) _ m
          c.loop-number.invariant.before c.loop-number-test.true c.index-items-number.is c.mark_of-marked.ensures next c.in_ok-divide_item.ensures (c.loop-number.invariant.left d stands);
      weighs = lighter_behind c.args.items.now c.loop-number.number c.index-items-number.result c.loop-number-test.true c.index-items-number.is c.loop-number.invariant.weighs;
    }

pub divide_items-returns : goal.divide_items-returns
divide_items-returns t c d stands =
    ended_of c.is_cut-cut.result c.args.limit c.loop-number.sum (name_view c.args.graph.now) (to_view name_view c.args.to) c.args.items.now c.loop-number.first c.loop-number.number
    (division_view c.loop-number.division) (division_view c.range.new.self) d c.is_cut-cut.ensures c.loop-number.invariant.before (omega (arith, c.loop-number-test.false)) c.in_ok-range.ensures
    (c.loop-number.invariant.left d stands)

pub divide_map-returns : goal.divide_map-returns
divide_map-returns t c =
    node_is_made c.args.limit (name_view c.args.graph.now) (name_view c.in_ok-node.node) (to_view name_view c.args.to) c.args.members.now
    (members_or_none (option_map (λ ms. ms.now) c.map_in-turned.result)) (option_map (λ t. view t.now) c.found_at-inner.result) (option_map (λ t. view t.now) c.found_at-included.result)
    (division_view c.args.division.now) (division_view c.enter_node.new.division) (division_view c.divide_reverse_properties.new.division) (division_view c.add_graph.new.map)
    (division_view c.divide_found.new.division) (division_view c.divide_found-2.new.division) (division_view c.divide_properties.new.division)
    (sym c.is_whole.ensures ∙ c.if-is_whole.false) c.requires.few c.in_ok-node.ensures
    (c.map_in-turned.ensures ∙ ap members_in c.found_at.ensures.value) c.found_at-inner.ensures.value c.found_at-included.ensures.value
    c.in_ok-divide_reverse_properties.ensures c.in_ok-add_graph.ensures c.in_ok-divide_found.ensures c.in_ok-divide_found-2.ensures c.in_ok-divide_properties.ensures
