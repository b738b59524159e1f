use Rattle.std.proofs.Common.{rules, ◌≡◌, ◌+◌, [], Err, refl, sym, ap, ◌∙◌, arith}
use Rattle.std.proofs.lemmas.Grind.{common_steps}
use Rattle.ld_model.specs.Tree.{members_of, trees_of}
use Rattle.ld_tree.specs.View.{view, trees_view}
use Rattle.ld_tree.proofs.ViewLemmas.{item_weighs}
use Rattle.expand_model.specs.Rules.{◌>>=◌, finished_at, nest_in, nest_item_in}
use Rattle.expand_model.specs.Over.{here, items_over, entries_over, walk_over}
use Rattle.expand_types.specs.View.{map_scope_view, options_view, scope_view}
use Rattle.expand_contexts.specs.View.{entered_view}
use Rattle.tree_expand.specs.View.{at_view, inside_view}
use Rattle.tree_expand.proofs.Steps.{gives_of, gives_here, gives_passed, gives_refused}
use Rattle.tree_expand.proofs.Walks.{lighter_next, items_next, entries_next, element_map, nested_map, nest_item_map, node_next, entered_lent}
use Rattle.tree_expand.proofs.recursion.+expansion.Goals as goal

pub element-remembered-requires : goal.element-remembered-requires
element-remembered-requires g t c κs within =
    let recalls = c.new-memo.ensures (options_view c.args.options.now) (scope_view c.args.at.now.scope) in
    (search rules, search rules)

pub items-loop-place-init : goal.items-loop-place-init
items-loop-place-init g t c =
    record {
      recalls = c.new-memo.ensures (options_view c.args.options.now) (scope_view c.args.at.now.scope);
      left = ap (λ n. items_over (options_view c.args.options.now) g.R.Ranges.asked g.R.Ranges.settles (trees_of (trees_view c.args.items.now)) 0 n (at_view c.args.at.now) c.room_for-out.result c.args.ranges.now) (omega arith) ∙ ap (λ out. items_over (options_view c.args.options.now) g.R.Ranges.asked g.R.Ranges.settles (trees_of (trees_view c.args.items.now)) 0 c.args.first (at_view c.args.at.now) out c.args.ranges.now) c.room_for-out.ensures;
    }

pub items-turn-requires : goal.items-turn-requires
items-turn-requires g t c κs within =
    let weighs = item_weighs c.args.items.now c.loop-place.place c.index-items-place.result c.loop-place-test.true c.index-items-place.is in
    (search rules, search rules)

pub nest_items-nest_item-requires : goal.nest_items-nest_item-requires
nest_items-nest_item-requires g t c κs within =
    let weighs = item_weighs c.args.items.now c.loop-number.number c.index-items-number.result c.loop-number-test.true c.index-items-number.is in
    (search rules, search rules)

pub items-returns-in_err-turn : goal.items-returns-in_err-turn
items-returns-in_err-turn g t c =
    let passed : c.from_residual.result ≡ Err c.in_err-turn.field-0.0 = grind (arith, common_steps) in
    gives_of c.from_residual.result (λ ts. ts) c.turn.new.ranges
    (sym c.loop-place.invariant.left ∙ items_next (options_view c.args.options.now) g.R.Ranges.asked g.R.Ranges.settles c.args.items.now c.loop-place.place c.index-items-place.result c.loop-place.more (c.args.first + c.loop-place.place) (at_view c.args.at.now) c.loop-place.out c.loop-place.ranges c.loop-place-test.true c.index-items-place.is)
    (gives_passed c.from_residual.result c.in_err-turn.field-0.0 (λ ts. ts) c.turn.new.ranges _ _ passed c.in_err-turn.ensures.value)

pub entries-returns-in_err-made : goal.entries-returns-in_err-made
entries-returns-in_err-made g t c =
    let passed : c.from_residual.result ≡ Err c.in_err-made.field-0.0 = grind (arith, common_steps) in
    gives_of c.from_residual.result (λ d. d) c.entry.new.ranges
    (ap (λ ms. entries_over (options_view c.args.options.now) g.R.Ranges.asked g.R.Ranges.settles (members_of ms) (inside_view c.args.inside.now) c.args.made c.args.ranges.now) (sym c.into_iter-key-iterator.ensures.into_iter_gives.0)
    ∙ sym c.loop-key.invariant.left
    ∙ entries_next (options_view c.args.options.now) g.R.Ranges.asked g.R.Ranges.settles c.loop-key.key-iterator c.next.new.self c.in-Some.key.now c.as_str.result.now (view c.in-Some.value.now) (inside_view c.args.inside.now) c.loop-key.made c.loop-key.ranges c.in-Some.ensures.steps c.as_str.ensures)
    (gives_passed c.from_residual.result c.in_err-made.field-0.0 (λ d. d) c.entry.new.ranges _ _ passed c.in_err-made.ensures)

pub entries-loop-key-preserved : goal.entries-loop-key-preserved
entries-loop-key-preserved g t c =
    record {
      left = sym (entries_next (options_view c.args.options.now) g.R.Ranges.asked g.R.Ranges.settles c.loop-key.key-iterator c.next.new.self c.in-Some.key.now c.as_str.result.now (view c.in-Some.value.now) (inside_view c.args.inside.now) c.loop-key.made c.loop-key.ranges c.in-Some.ensures.steps c.as_str.ensures
          ∙ ap (λ d. d >>= (λ v. entries_over (options_view c.args.options.now) g.R.Ranges.asked g.R.Ranges.settles (members_of c.next.new.self) (inside_view c.args.inside.now) v.0 v.1)) c.in_ok-made.ensures)
          ∙ c.loop-key.invariant.left;
      lighter = lighter_next c.loop-key.key-iterator c.next.new.self c.into_iter-key-iterator.result _ c.in-Some.ensures.steps c.loop-key.invariant.lighter;
    }

pub nested-returns-in_err-nestable-in-Map : goal.nested-returns-in_err-nestable-in-Map
nested-returns-in_err-nestable-in-Map g t c =
    let passed : c.from_residual.result ≡ Err c.in_err-nestable-in-Map.field-0.0 = grind (arith, common_steps) in
    gives_of c.from_residual.result (λ d. d) c.args.ranges.now
    (nested_map (options_view c.args.options.now) g.R.Ranges.asked g.R.Ranges.settles c.args.value.now c.in-Map.members c.args.key.now (inside_view c.args.inside.now) c.args.made c.args.ranges.now c.in-Map.is)
    (gives_refused c.from_residual.result c.in_err-nestable-in-Map.field-0.0 (λ d. d) c.args.ranges.now _ _ passed c.in_err-nestable-in-Map.ensures)

pub nested-returns-in_ok-nestable-in-Map : goal.nested-returns-in_ok-nestable-in-Map
nested-returns-in_ok-nestable-in-Map g t c =
    gives_of c.walk.result (λ d. d) c.walk.new.ranges
    (nested_map (options_view c.args.options.now) g.R.Ranges.asked g.R.Ranges.settles c.args.value.now c.in-Map.members c.args.key.now (inside_view c.args.inside.now) c.args.made c.args.ranges.now c.in-Map.is
    ∙ ap (λ d. here c.args.ranges.now d >>= (λ v. walk_over (options_view c.args.options.now) g.R.Ranges.asked g.R.Ranges.settles (members_of c.in-Map.members) c.args.made (nest_in c.args.key.now (inside_view c.args.inside.now)) v.1)) c.in_ok-nestable-in-Map.ensures)
    c.walk.ensures

pub nest_item-returns-in_err-nestable-in-Map : goal.nest_item-returns-in_err-nestable-in-Map
nest_item-returns-in_err-nestable-in-Map g t c =
    let passed : c.from_residual.result ≡ Err c.in_err-nestable-in-Map.field-0.0 = grind (arith, common_steps) in
    gives_of c.from_residual.result (λ d. d) c.args.ranges.now
    (nest_item_map (options_view c.args.options.now) g.R.Ranges.asked g.R.Ranges.settles c.args.item.now c.in-Map.members c.args.number c.args.key.now (inside_view c.args.inside.now) c.args.made c.args.ranges.now c.in-Map.is)
    (gives_refused c.from_residual.result c.in_err-nestable-in-Map.field-0.0 (λ d. d) c.args.ranges.now _ _ passed c.in_err-nestable-in-Map.ensures)

pub nest_item-returns-in_ok-nestable-in-Map : goal.nest_item-returns-in_ok-nestable-in-Map
nest_item-returns-in_ok-nestable-in-Map g t c =
    gives_of c.walk.result (λ d. d) c.walk.new.ranges
    (nest_item_map (options_view c.args.options.now) g.R.Ranges.asked g.R.Ranges.settles c.args.item.now c.in-Map.members c.args.number c.args.key.now (inside_view c.args.inside.now) c.args.made c.args.ranges.now c.in-Map.is
    ∙ ap (λ d. here c.args.ranges.now d >>= (λ v. walk_over (options_view c.args.options.now) g.R.Ranges.asked g.R.Ranges.settles (members_of c.in-Map.members) c.args.made (nest_item_in c.args.number c.args.key.now (inside_view c.args.inside.now)) v.1)) c.in_ok-nestable-in-Map.ensures)
    c.walk.ensures

pub node-returns-in-Some-clause-value : goal.node-returns-in-Some-clause-value
node-returns-in-Some-clause-value g t c =
    let o = options_view c.args.options.now in
    let a = at_view c.args.at.now in
    gives_of c.mapped.result view c.mapped.new.ranges
    (node_next o (walk_over o g.R.Ranges.asked g.R.Ranges.settles (members_of c.args.members.now) []) c.args.members.now a c.args.ranges.now (map_scope_view c.in-Some.scope) (map_scope_view c.in-Some.scope) (entered_lent o c.args.members.now a (map_scope_view c.in-Some.scope) (c.in-Some.ensures o)) refl)
    c.mapped.ensures

pub node-returns-clause-value : goal.node-returns-clause-value
node-returns-clause-value g t c =
    let o = options_view c.args.options.now in
    gives_of c.mapped-2.result view c.mapped-2.new.ranges
    (node_next o (walk_over o g.R.Ranges.asked g.R.Ranges.settles (members_of c.args.members.now) []) c.args.members.now (at_view c.args.at.now) c.args.ranges.now (entered_view c.in_ok-entered.entered) (map_scope_view c.scope-scope.result) c.in_ok-entered.ensures.entered c.scope-scope.ensures)
    c.mapped-2.ensures

pub mapped-returns-in_err-made : goal.mapped-returns-in_err-made
mapped-returns-in_err-made g t c =
    let o = options_view c.args.options.now in
    let a = at_view c.args.at.now in
    let passed : c.from_residual.result ≡ Err c.in_err-made.field-0.0 = grind (arith, common_steps) in
    gives_of c.from_residual.result view c.walk.new.ranges
    (ap (λ r. walk_over o g.R.Ranges.asked g.R.Ranges.settles (members_of c.args.members.now) r (record { scope = map_scope_view c.args.scope.now; place = a.place }) c.args.ranges.now >>= (λ v. here v.1 (finished_at a v.0))) (sym c.new.ensures))
    (gives_passed c.from_residual.result c.in_err-made.field-0.0 view c.walk.new.ranges _ _ passed c.in_err-made.ensures)

pub mapped-returns : goal.mapped-returns
mapped-returns g t c =
    let o = options_view c.args.options.now in
    let a = at_view c.args.at.now in
    gives_of c.finished.result view c.walk.new.ranges
    (ap (λ r. walk_over o g.R.Ranges.asked g.R.Ranges.settles (members_of c.args.members.now) r (record { scope = map_scope_view c.args.scope.now; place = a.place }) c.args.ranges.now >>= (λ v. here v.1 (finished_at a v.0))) (sym c.new.ensures)
    ∙ ap (λ d. d >>= (λ v. here v.1 (finished_at a v.0))) c.in_ok-made.ensures)
    (gives_here c.finished.result view c.walk.new.ranges (finished_at a c.in_ok-made.made) c.finished.ensures)

pub remembered-returns-in-Map-clause-value : goal.remembered-returns-in-Map-clause-value
remembered-returns-in-Map-clause-value g t c =
    gives_of c.node.result view c.node.new.ranges
    (element_map (options_view c.args.options.now) g.R.Ranges.asked g.R.Ranges.settles c.args.value.now c.in-Map.members (at_view c.args.at.now) c.args.ranges.now c.in-Map.is)
    c.node.ensures.value
