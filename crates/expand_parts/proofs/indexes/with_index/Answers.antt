use Rattle.std.proofs.Common.{ap, ◌∙◌}
use Rattle.ld_tree.specs.View.{view}
use Rattle.ctx_types.specs.ContextView.{settings_view}
use Rattle.expand_model.specs.Indexes.{members_indexed, with_index}
use Rattle.expand_types.specs.View.{definition_in}
use Rattle.expand_values.proofs.Carried.{answers_of, of_object}
use Rattle.expand_parts.proofs.indexes.with_index.Goals as goal

pub returns-in-Map : goal.returns-in-Map
returns-in-Map c =
    let s = settings_view c.args.context.now in
    let d = definition_in c.args.definition in
    let i = c.args.index.now in
    answers_of c.index_members.result view (ap (λ v. with_index s d i (view v)) c.in-Map.is ∙ of_object (members_indexed s d i) c.in-Map.members) c.index_members.ensures
