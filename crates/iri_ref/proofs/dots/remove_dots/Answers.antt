use Rattle.std.proofs.Common.{◌≡◌, ◌∙◌, sym, ap, fold, not, ◌∷◌, ◌++◌, string_bytes}
use Rattle.std.specs.Option.{option_copied}
use Rattle.std.specs.List.{before_first}
use Rattle.iri_ref.specs.Parts.{slash}
use Rattle.iri_ref.specs.Dots.{closed, is_dots, segments_of}
use Rattle.iri_ref.specs.Walk.{path_with}
use Rattle.iri_ref.proofs.Walk.{Rest, path_stepped, plain_behind, remove_dots_walk, rest_behind}
use Rattle.iri_ref.proofs.dots.remove_dots.Goals as goal
use Rattle.iri_ref.proofs.dots.remove_dots.Goals.{else-is_none-via-then-is_none+else-is_dots, else-is_none-via-else-is_none}

pub loop-rest-preserved : goal.loop-rest-preserved
loop-rest-preserved c =
    let rest = option_copied c.cut-in-Some.result.1 in
    let parts : closed (segments_of c.in-Some.text.now) ≡ before_first slash c.in-Some.text.now ∷ Rest rest = elim c.else-is_none.branch [
      | else-is_none-via-then-is_none+else-is_dots w ↦ plain_behind c.in-Some.text.now rest c.cut-in-Some.ensures.rest (ap is_dots (sym c.cut-in-Some.ensures.front) ∙ sym w.is_dots.ensures ∙ w.if-is_dots.false)
      | else-is_none-via-else-is_none w ↦ rest_behind c.in-Some.text.now c.cut-in-Some.result.1 c.cut-in-Some.ensures.rest (c.is_none.ensures ∙ ap not w.if-is_none.false)
    ] in
    path_stepped (string_bytes c.loop-rest.kept) (string_bytes c.place.new.kept) c.cut-in-Some.result.0.now c.in-Some.text.now rest c.in_ok-place.ensures c.cut-in-Some.ensures.front parts
    ∙ ap (λ r. fold path_with (string_bytes c.loop-rest.kept) (Rest (option_copied r))) (sym c.in-Some.is)
    ∙ c.loop-rest.invariant

pub returns : goal.returns
returns c =
    let rest = option_copied c.cut.result.1 in
    ap (λ r. fold path_with (string_bytes c.loop-rest.kept) (Rest (option_copied r))) (sym c.in_default.is)
    ∙ c.loop-rest.invariant
    ∙ ap (λ path. fold path_with path (Rest rest)) (c.in_ok-push_str.ensures.bytes ∙ ap (λ bs. bs ++ c.cut.result.0.now) c.in_ok-kept.ensures.bytes ∙ c.cut.ensures.front)
    ∙ sym (remove_dots_walk c.args.path.now c.without_leading_dots.result.now rest c.without_leading_dots.ensures.same c.without_leading_dots.ensures.ahead c.cut.ensures.rest)
