use Rattle.json_canon.proofs.OrderLemmas.{before_itself, before_trans, before_total}
use Rattle.json_canon.proofs.laws.less_utf16_orders_texts.Goals as goal

pub returns-clause-irreflexive : goal.returns-clause-irreflexive
returns-clause-irreflexive c = before_itself

pub returns-clause-transitive : goal.returns-clause-transitive
returns-clause-transitive c = before_trans

pub returns-clause-total : goal.returns-clause-total
returns-clause-total c = before_total
