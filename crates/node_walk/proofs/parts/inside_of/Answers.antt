use Rattle.std.proofs.Common.{◌≤◌, [], ◌∷◌, ◌∙◌, refl, sym, ap, subst, arith}
use Rattle.ld_model.specs.Tree.{members_weight, members_of, member_at}
use Rattle.ld_model.specs.Keys.{graph_key}
use Rattle.node_model.specs.Keys.{reverse_key, included_key}
use Rattle.node_walk.specs.Found.{found_weight, members_in}
use Rattle.node_walk.proofs.Lefts.{nothing_taken, taken_too, found_weighs, members_weigh}
use Rattle.node_walk.proofs.parts.inside_of.Goals as goal

pub returns-clause-graph : goal.returns-clause-graph
returns-clause-graph c =
    let all = c.args.members in
    let left = taken_too [] reverse_key all all c.take.new.self (nothing_taken all) refl c.take.ensures.left in
    c.take-graph.ensures.value ∙ left.others graph_key refl

pub returns-clause-included : goal.returns-clause-included
returns-clause-included c =
    let all = c.args.members in
    let first = taken_too [] reverse_key all all c.take.new.self (nothing_taken all) refl c.take.ensures.left in
    let left = taken_too (reverse_key ∷ []) graph_key all c.take.new.self c.take-graph.new.self first refl c.take-graph.ensures.left in
    c.take-included.ensures.value ∙ left.others included_key refl

pub returns-clause-left : goal.returns-clause-left
returns-clause-left c =
    let all = c.args.members in
    let first = taken_too [] reverse_key all all c.take.new.self (nothing_taken all) refl c.take.ensures.left in
    let second = taken_too (reverse_key ∷ []) graph_key all c.take.new.self c.take-graph.new.self first refl c.take-graph.ensures.left in
    taken_too (graph_key ∷ reverse_key ∷ []) included_key all c.take-graph.new.self c.take-included.new.self second refl c.take-included.ensures.left

pub returns-clause-light_turned : goal.returns-clause-light_turned
returns-clause-light_turned c =
    let turned = c.map_of-turned.ensures ∙ ap members_in c.take.ensures.value in
    let within = members_weigh (member_at reverse_key c.args.members) in
    let found = found_weighs reverse_key c.args.members in
    rw turned (omega (arith, within, found))

pub returns-clause-light_graph : goal.returns-clause-light_graph
returns-clause-light_graph c = subst (λ found. found_weight found ≤ members_weight (members_of c.args.members)) (sym (returns-clause-graph c)) (found_weighs graph_key c.args.members)

pub returns-clause-light_included : goal.returns-clause-light_included
returns-clause-light_included c = subst (λ found. found_weight found ≤ members_weight (members_of c.args.members)) (sym (returns-clause-included c)) (found_weighs included_key c.args.members)
