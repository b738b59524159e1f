use Rattle.std.proofs.Common.{Some, None, arith, refl, ◌∙◌}
use Rattle.std.proofs.lemmas.Grind.{common_steps}
use Rattle.ld_json.specs.Numbers.{refused_number}
use Rattle.ld_tree.specs.View.{view}
use Rattle.ld_json.proofs.Whole.{reading-gated, reading-marked, reading-none, numbers}
use Rattle.ld_json.proofs.by_tokens.read_by_tokens.Goals as goal

pub returns-in-Err-Syntax-clause-answer : goal.returns-in-Err-Syntax-clause-answer
returns-in-Err-Syntax-clause-answer c = reading-none c.args.bytes.now (c.in-Err-Syntax.ensures.err (grind (arith, common_steps)))

pub returns-in-Some-clause-answer : goal.returns-in-Some-clause-answer
returns-in-Some-clause-answer c = reading-gated c.args.bytes.now (view c.in-Ok.read.0) (Some c.in-Some.at) c.in-Ok.ensures.ok.0 c.in-Ok.ensures.ok.1 (grind (arith, common_steps))

pub returns-in-Some-2-clause-answer : goal.returns-in-Some-2-clause-answer
returns-in-Some-2-clause-answer c =
    reading-marked c.args.bytes.now (view c.in-Ok.read.0) (Some c.in-Some-2.place) c.in-Ok.ensures.ok.0 c.in-Ok.ensures.ok.1 (grind (arith, common_steps)) (grind (arith, common_steps))

pub returns-in-None-clause-answer : goal.returns-in-None-clause-answer
returns-in-None-clause-answer c =
    reading-marked c.args.bytes.now (view c.in-Ok.read.0) None c.in-Ok.ensures.ok.0 c.in-Ok.ensures.ok.1 (grind (arith, common_steps)) (grind (arith, common_steps))

pub returns-in-Some-clause-numbers : goal.returns-in-Some-clause-numbers
returns-in-Some-clause-numbers c = numbers c.args.bytes.now (view c.in-Ok.read.0) (Some c.in-Some.at) c.in-Ok.ensures.ok.1 (grind (arith, common_steps))

pub returns-in-Some-2-clause-numbers : goal.returns-in-Some-2-clause-numbers
returns-in-Some-2-clause-numbers c = numbers c.args.bytes.now (view c.in-Ok.read.0) None c.in-Ok.ensures.ok.1 (grind (arith, common_steps))

pub returns-in-None-clause-numbers : goal.returns-in-None-clause-numbers
returns-in-None-clause-numbers c = numbers c.args.bytes.now (view c.in-Ok.read.0) None c.in-Ok.ensures.ok.1 (grind (arith, common_steps))

pub refused_unless-requires : goal.refused_unless-requires
refused_unless-requires c = c.in-Ok.ensures.accepted ∙ numbers c.args.bytes.now (view c.in-Ok.read.0) (refused_number c.args.bytes.now) c.in-Ok.ensures.ok.1 refl
