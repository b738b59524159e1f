use Rattle.std.proofs.Common.{◌++◌, ap, sym, ◌∙◌}
use Rattle.expand_types.proofs.Named.{joined_by}
use Rattle.expand_types.proofs.keys.are_joined.Goals as goal

pub returns-in-Some : goal.returns-in-Some
returns-in-Some c =
    let strips = c.in-Some.ensures.cases in
    c.eq.ensures ∙ joined_by c.args.front.now c.args.rest.now c.in-Some.tail.now c.args.word.now (strips.1.1 ∙ ap (λ x. c.args.front.now ++ x) (sym strips.2))
