use Rattle.std.proofs.Common.{◌≡◌, true, ◌∙◌, arith}
use Rattle.std.proofs.lemmas.Grind.{common_steps}
use Rattle.ld_tree.specs.View.{members_view}
use Rattle.ld_tree.specs.Built.{ascend}
use Rattle.ld_tree.proofs.Builds.{built-ascending, ascending_is}
use Rattle.ld_tree.proofs.value.Members.from_pairs.Goals as goal

pub invariant_of-result : goal.invariant_of-result
invariant_of-result c =
    let up : ascend (members_view c.args.pairs.items) ≡ true = grind (arith, common_steps) in
    ascending_is (members_view c.args.pairs.items) up

pub returns-then-are_ascending : goal.returns-then-are_ascending
returns-then-are_ascending c =
    let up : ascend (members_view c.args.pairs.items) ≡ true = grind (arith, common_steps) in
    built-ascending (members_view c.args.pairs.items) (ascending_is (members_view c.args.pairs.items) up)

pub invariant_of-result-then-are_ascending-2 : goal.invariant_of-result-then-are_ascending-2
invariant_of-result-then-are_ascending-2 c =
    let up : ascend (members_view c.in_ok-pairs.pairs.items) ≡ true = grind (arith, common_steps) in
    ascending_is (members_view c.in_ok-pairs.pairs.items) up

pub returns-then-are_ascending-2 : goal.returns-then-are_ascending-2
returns-then-are_ascending-2 c =
    let up : ascend (members_view c.in_ok-pairs.pairs.items) ≡ true = grind (arith, common_steps) in
    built-ascending (members_view c.in_ok-pairs.pairs.items) (ascending_is (members_view c.in_ok-pairs.pairs.items) up) ∙ c.in_ok-pairs.ensures
