use Rattle.nquads_text.proofs.Gaps.{comment_at}
use Rattle.std.proofs.Common.{◌≡◌, ◌<◌, length, drop, [], true, false, Ok, arith, sym, ap, ◌∙◌}
use Rattle.std.proofs.lemmas.List.{drop_all}
use Rattle.nquads_text.specs.Statement.{uncommented}
use Rattle.nquads_text.proofs.line.gap.Goals as goal

pub returns-then-is_text : goal.returns-then-is_text
returns-then-is_text c =
    let line = c.args.line.now in
    let place = c.unspaced-place.result in
    let within : place < length line = omega (arith, c.unspaced-place.ensures.within) in
    let none : drop (length line) line ≡ [] = drop_all (length line) line (omega arith) in
    (omega arith, ap uncommented (sym c.unspaced-place.ensures.place) ∙ comment_at line place true within c.if-line-place-ne35.false (sym c.if-is_text.ensures) ∙ ap Ok (sym none))

pub returns-else-is_text : goal.returns-else-is_text
returns-else-is_text c =
    let line = c.args.line.now in
    let place = c.unspaced-place.result in
    let within : place < length line = omega (arith, c.unspaced-place.ensures.within) in
    (c.unspaced-place.ensures.within, ap uncommented (sym c.unspaced-place.ensures.place) ∙ comment_at line place false within c.if-line-place-ne35.false (sym c.if-is_text.ensures))
