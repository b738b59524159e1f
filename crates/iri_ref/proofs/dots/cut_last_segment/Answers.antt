use Rattle.std.proofs.Common.{◌≡◌, ap, ◌∙◌, take, lit<, string_bytes}
use Rattle.std.proofs.lemmas.Str.Pattern.{rfind_char}
use Rattle.iri_ref.proofs.Walk.{last_place}
use Rattle.iri_ref.proofs.dots.cut_last_segment.Goals as goal

pub returns : goal.returns
returns c =
    let bytes = string_bytes c.args.kept.now in
    let same : c.as_str.result.now ≡ bytes = c.as_str.ensures.value in
    let cut = last_place c.as_str.result.now c.rfind.result (rfind_char 47 c.as_str.result.now c.rfind.result c.rfind.ensures.cases (lit< tt)) in
    c.truncate.ensures.bytes ∙ ap (λ n. take n bytes) c.unwrap_or-end.ensures ∙ rw same at cut
