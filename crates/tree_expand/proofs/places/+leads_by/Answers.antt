use Rattle.std.proofs.Common.{ap}
use Rattle.expand_types.specs.View.{trail_view}
use Rattle.tree_expand.proofs.PlaceLemmas.{none_left, with_last, other_last}
use Rattle.tree_expand.proofs.places.+leads_by.Goals as goal

pub returns-in-None : goal.returns-in-None
returns-in-None t c = none_left _ _ c.args.steps.now _ (ap trail_view c.in-InKey.is) c.in-None.ensures.cases

pub returns-then-is_key : goal.returns-then-is_key
returns-then-is_key t c = with_last _ _ _ _ _ _ _ _ (ap trail_view c.in-InKey.is) c.in-Some.ensures.cases.0 c.is_key.ensures c.if-is_key.true c.leads_by.ensures

pub returns-else-is_key : goal.returns-else-is_key
returns-else-is_key t c = other_last _ _ _ _ _ _ _ (ap trail_view c.in-InKey.is) c.in-Some.ensures.cases.0 c.is_key.ensures c.if-is_key.false

pub returns-in-None-split_last : goal.returns-in-None-split_last
returns-in-None-split_last t c = none_left _ _ c.args.steps.now _ (ap trail_view c.in-InItem.is) c.in-None-split_last.ensures.cases

pub returns-then-is_item : goal.returns-then-is_item
returns-then-is_item t c = with_last _ _ _ _ _ _ _ _ (ap trail_view c.in-InItem.is) c.in-Some-split_last.ensures.cases.0 c.is_item.ensures c.if-is_item.true c.leads_by-then-is_item.ensures

pub returns-else-is_item : goal.returns-else-is_item
returns-else-is_item t c = other_last _ _ _ _ _ _ _ (ap trail_view c.in-InItem.is) c.in-Some-split_last.ensures.cases.0 c.is_item.ensures c.if-is_item.false
