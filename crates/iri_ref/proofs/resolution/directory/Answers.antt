use Rattle.std.proofs.Common.{◌+◌, ◌∙◌, sym, Some, None, lit<}
use Rattle.std.proofs.lemmas.Str.Pattern.{rfind_char}
use Rattle.iri_ref.proofs.Walk.{front_range, last_directory}
use Rattle.iri_ref.proofs.resolution.directory.Goals as goal

pub returns-in-Some : goal.returns-in-Some
returns-in-Some c =
    let found = last_directory c.args.path.now (Some c.in-Some.at) (rfind_char 47 c.args.path.now (Some c.in-Some.at) c.in-Some.ensures.cases (lit< tt)) in
    c.range.ensures.value ∙ front_range c.args.path.now (c.in-Some.at + 1) ∙ sym found

pub returns-in-None : goal.returns-in-None
returns-in-None c = sym (last_directory c.args.path.now None (rfind_char 47 c.args.path.now None c.in-None.ensures.cases (lit< tt)))
