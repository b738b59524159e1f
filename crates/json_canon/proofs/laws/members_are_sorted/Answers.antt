use Rattle.json_canon.proofs.Sorting.{IsPermutation-in_order, in_order_ascends}
use Rattle.json_canon.proofs.laws.members_are_sorted.Goals as goal

pub returns-clause-moved : goal.returns-clause-moved
returns-clause-moved c = IsPermutation-in_order

pub returns-clause-ascending : goal.returns-clause-ascending
returns-clause-ascending c = in_order_ascends
