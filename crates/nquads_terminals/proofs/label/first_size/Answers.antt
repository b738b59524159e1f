use Rattle.nquads_terminals.proofs.Labels.{label_first}
use Rattle.std.proofs.Common.{◌≡◌, ◌<◌, length, false, true, arith, subst, sym, ap, ◌∙◌}
use Rattle.std.proofs.lemmas.Bool.Decides.{nat_tests}
use Rattle.std.specs.Option.{option_map_or}
use Rattle.bstr.specs.Utf8.{decoded}
use Rattle.nquads_terminals.specs.Terminals.{may_begin}
use Rattle.nquads_terminals.specs.Steps.{IsFirst}
use Rattle.nquads_terminals.proofs.label.first_size.Goals as goal

pub returns-then-starts : goal.returns-then-starts
returns-then-starts c =
    let bytes = c.args.bytes.now in
    let some : 0 < length bytes = grind (arith, nat_tests, c.if-is_empty.ensures) in
    let passes : option_map_or may_begin (decoded bytes).char false ≡ true = ap (λ o. option_map_or may_begin o false) (sym c.decode-character.ensures.char) ∙ sym c.if-starts.ensures in
    subst (IsFirst bytes) (sym c.decode-character.ensures.size) (label_first bytes some passes)
