use Rattle.nquads_terminals.proofs.Labels.{label_char, label_end}
use Rattle.std.proofs.Common.{◌≡◌, false, true, eqb, get_or, arith, subst, sym, ap, ◌∙◌}
use Rattle.std.proofs.lemmas.Bool.Decides.{nat_tests}
use Rattle.std.specs.Option.{option_map_or}
use Rattle.rdf_terms.specs.Quad.{is_pn_chars}
use Rattle.bstr.specs.Utf8.{decoded}
use Rattle.nquads_terminals.specs.Steps.{IsStep}
use Rattle.nquads_terminals.specs.declared.label.Step.TheVariants.{Character}
use Rattle.nquads_terminals.proofs.label.next_step.Goals as goal

pub returns-then-goes_on : goal.returns-then-goes_on
returns-then-goes_on c =
    let bytes = c.args.bytes.now in
    let passes : option_map_or is_pn_chars (decoded bytes).char false ≡ true = ap (λ o. option_map_or is_pn_chars o false) (sym c.decode-character.ensures.char) ∙ sym c.if-goes_on.ensures in
    subst (λ n. IsStep bytes (Character n)) (sym c.decode-character.ensures.size) (label_char bytes c.requires passes)

pub returns : goal.returns
returns c =
    let bytes = c.args.bytes.now in
    let none : option_map_or is_pn_chars (decoded bytes).char false ≡ false = ap (λ o. option_map_or is_pn_chars o false) (sym c.decode-character.ensures.char) ∙ sym c.if-goes_on.ensures in
    let dot : eqb (get_or bytes 0 0) 46 ≡ false = grind (arith, nat_tests) in
    label_end bytes c.requires none dot
