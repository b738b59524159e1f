use Rattle.std.proofs.Common.{[], ◌∷◌, ◌∙◌, refl, ap}
use Rattle.ld_model.specs.Keys.{id_key}
use Rattle.node_model.specs.Keys.{type_key, index_key}
use Rattle.node_model.specs.Walk.{text_in}
use Rattle.node_walk.proofs.Lefts.{nothing_taken, taken_too}
use Rattle.node_walk.proofs.parts.take_head.Goals as goal

pub returns-clause-id : goal.returns-clause-id
returns-clause-id c =
    let all = c.args.members.now in
    let left = taken_too [] type_key all all c.take-types.new.self (nothing_taken all) refl c.take-types.ensures.left in
    c.text_of-id.ensures ∙ ap text_in (c.take.ensures.value ∙ left.others id_key refl)

pub returns-clause-index : goal.returns-clause-index
returns-clause-index c =
    let all = c.args.members.now in
    let first = taken_too [] type_key all all c.take-types.new.self (nothing_taken all) refl c.take-types.ensures.left in
    let left = taken_too (type_key ∷ []) id_key all c.take-types.new.self c.take.new.self first refl c.take.ensures.left in
    c.text_of-index.ensures ∙ ap text_in (c.take-2.ensures.value ∙ left.others index_key refl)

pub returns-clause-left : goal.returns-clause-left
returns-clause-left c =
    let all = c.args.members.now in
    let first = taken_too [] type_key all all c.take-types.new.self (nothing_taken all) refl c.take-types.ensures.left in
    let second = taken_too (type_key ∷ []) id_key all c.take-types.new.self c.take.new.self first refl c.take.ensures.left in
    taken_too (id_key ∷ type_key ∷ []) index_key all c.take.new.self c.take-2.new.self second refl c.take-2.ensures.left
