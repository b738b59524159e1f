use Rattle.std.proofs.Common.{◌≡◌, ap, ◌∙◌, sym, take, drop, length, Some, None, lit<, arith}
use Rattle.std.specs.List.{position_or_len}
use Rattle.std.proofs.lemmas.List.{drop_all, take_all}
use Rattle.std.proofs.lemmas.Str.Pattern.{find_char}
use Rattle.iri_ref.specs.Parts.{is}
use Rattle.iri_ref.proofs.Slashes.{first_place}
use Rattle.iri_ref.proofs.reference.split_before_slash.Goals as goal

pub returns-in-Some-clause-front : goal.returns-in-Some-clause-front
returns-in-Some-clause-front c =
    let place : position_or_len (is 47) c.args.text.now ≡ c.in-Some.at = first_place 47 c.args.text.now (Some c.in-Some.at) (find_char 47 c.args.text.now (Some c.in-Some.at) c.in-Some.ensures.cases (lit< tt)) in
    c.split_at.ensures.front ∙ ap (λ n. take n c.args.text.now) (sym place)

pub returns-in-Some-clause-rest : goal.returns-in-Some-clause-rest
returns-in-Some-clause-rest c =
    let place : position_or_len (is 47) c.args.text.now ≡ c.in-Some.at = first_place 47 c.args.text.now (Some c.in-Some.at) (find_char 47 c.args.text.now (Some c.in-Some.at) c.in-Some.ensures.cases (lit< tt)) in
    c.split_at.ensures.back ∙ ap (λ n. drop n c.args.text.now) (sym place)

pub returns-in-None-clause-front : goal.returns-in-None-clause-front
returns-in-None-clause-front c =
    let place : position_or_len (is 47) c.args.text.now ≡ length c.args.text.now = first_place 47 c.args.text.now None (find_char 47 c.args.text.now None c.in-None.ensures.cases (lit< tt)) in
    rw place (sym (take_all (length c.args.text.now) c.args.text.now (omega arith)))

pub returns-in-None-clause-rest : goal.returns-in-None-clause-rest
returns-in-None-clause-rest c =
    let place : position_or_len (is 47) c.args.text.now ≡ length c.args.text.now = first_place 47 c.args.text.now None (find_char 47 c.args.text.now None c.in-None.ensures.cases (lit< tt)) in
    rw place (sym (drop_all (length c.args.text.now) c.args.text.now (omega arith)))
