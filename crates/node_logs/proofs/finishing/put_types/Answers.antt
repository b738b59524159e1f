use Rattle.std.proofs.Common.{List, [], sym, ap, ◌∙◌}
use Rattle.ld_model.specs.Tree as model
use Rattle.ld_model.specs.Tree.{array, trees_of, put, is_empty}
use Rattle.node_model.specs.Keys.{type_key}
use Rattle.node_logs.specs.Log.{all_told}
use Rattle.node_logs.proofs.Logs.{types_put-none, types_put-is}
use Rattle.node_logs.proofs.finishing.put_types.Goals as goal

pub returns-then-is_empty : goal.returns-then-is_empty
returns-then-is_empty c = types_put-none c.args.types.items c.args.members.now (sym (c.is_empty.ensures ∙ ap is_empty c.in_ok-texts.ensures) ∙ c.if-is_empty.true)

pub returns : goal.returns
unfolding put
returns c =
    let once = c.in_ok-once.ensures ∙ ap (λ (ts : List model.Tree). all_told ts []) c.in_ok-texts.ensures in
    c.in_ok-put.ensures.ok ∙ ap (λ (ts : List model.Tree). put type_key (array (trees_of ts)) c.args.members.now) once
    ∙ types_put-is c.args.types.items c.args.members.now (sym (c.is_empty.ensures ∙ ap is_empty c.in_ok-texts.ensures) ∙ c.if-is_empty.false)
