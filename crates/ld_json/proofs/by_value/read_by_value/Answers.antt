use Rattle.std.proofs.Common.{Some, None, arith}
use Rattle.std.proofs.lemmas.Grind.{common_steps}
use Rattle.serde_json.specs.View.{view as value_view}
use Rattle.ld_tree.specs.View.{view}
use Rattle.ld_json.proofs.ReadValues.{reading-utf8, reading-no_json, reading-tree}
use Rattle.ld_json.proofs.Accepted.{accepted}
use Rattle.ld_json.proofs.by_value.read_by_value.Goals as goal

pub returns-in-Err-clause-answer : goal.returns-in-Err-clause-answer
returns-in-Err-clause-answer c = reading-no_json c.args.bytes.now (c.in-Err.ensures.err (λ m. grind (arith, common_steps)))

pub returns-in-Some-clause-answer : goal.returns-in-Some-clause-answer
returns-in-Some-clause-answer c =
    reading-utf8 c.args.bytes.now (Some (value_view c.in-Ok.value)) (Some c.in-Some.at) c.in-Ok.ensures.ok.0 (grind (arith, common_steps)) c.in-Ok.ensures.ok.1

pub returns-in-Some-2-clause-answer : goal.returns-in-Some-2-clause-answer
returns-in-Some-2-clause-answer c =
    reading-tree c.args.bytes.now c.in-Ok.value (view c.in_ok-tree.tree) (Some c.in-Some-2.place) c.in-Ok.ensures.ok.0 c.in-Ok.ensures.ok.1 (grind (arith, common_steps)) c.in_ok-tree.ensures (grind (arith, common_steps))

pub returns-in-None-clause-answer : goal.returns-in-None-clause-answer
returns-in-None-clause-answer c =
    reading-tree c.args.bytes.now c.in-Ok.value (view c.in_ok-tree.tree) None c.in-Ok.ensures.ok.0 c.in-Ok.ensures.ok.1 (grind (arith, common_steps)) c.in_ok-tree.ensures (grind (arith, common_steps))

pub returns-in-Some-clause-numbers : goal.returns-in-Some-clause-numbers
returns-in-Some-clause-numbers c = accepted c.args.bytes.now (value_view c.in-Ok.value) (Some c.in-Some.at) c.in-Ok.ensures.ok.1 (grind (arith, common_steps))

pub returns-in-Some-2-clause-numbers : goal.returns-in-Some-2-clause-numbers
returns-in-Some-2-clause-numbers c = accepted c.args.bytes.now (value_view c.in-Ok.value) None c.in-Ok.ensures.ok.1 (grind (arith, common_steps))

pub returns-in-None-clause-numbers : goal.returns-in-None-clause-numbers
returns-in-None-clause-numbers c = accepted c.args.bytes.now (value_view c.in-Ok.value) None c.in-Ok.ensures.ok.1 (grind (arith, common_steps))
