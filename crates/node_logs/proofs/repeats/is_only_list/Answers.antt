use Rattle.std.proofs.Common.{◌≡◌, Some, None, sym, ◌∙◌, rules}
use Rattle.std.specs.Prelude.{slice_get}
use Rattle.ld_tree.specs.View.{view}
use Rattle.node_logs.proofs.Once.{only_one, none_first, not_one}
use Rattle.node_logs.proofs.repeats.is_only_list.Goals as goal

pub returns-then-len-ne1 : goal.returns-then-len-ne1
returns-then-len-ne1 c = not_one c.args.members.now (λ one. c.if-len-ne1.true (c.len.ensures ∙ one))

pub returns-in-Some : goal.returns-in-Some
returns-in-Some c =
    let first : slice_get c.args.members.now 0 ≡ Some (c.in-Some.key.now, view c.in-Some.value.now) = search rules in
    c.is_list_member.ensures ∙ only_one (c.in-Some.key.now, view c.in-Some.value.now) c.args.members.now (sym c.len.ensures ∙ c.if-len-ne1.false) first

pub returns-in-None : goal.returns-in-None
returns-in-None c =
    let first : slice_get c.args.members.now 0 ≡ None = search rules in
    none_first c.args.members.now (sym c.len.ensures ∙ c.if-len-ne1.false) first
