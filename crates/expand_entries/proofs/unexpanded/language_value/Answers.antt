use Rattle.std.proofs.Common.{ap, ◌∙◌}
use Rattle.ld_tree.specs.View.{view}
use Rattle.ctx_types.specs.ContextView.{settings_view}
use Rattle.expand_model.specs.Properties.{language_value}
use Rattle.expand_types.specs.View.{definition_in}
use Rattle.expand_values.proofs.Carried.{answers_of, of_object}
use Rattle.expand_entries.specs.Strings.{strings_array}
use Rattle.expand_entries.proofs.unexpanded.language_value.Goals as goal

pub returns-in-Map : goal.returns-in-Map
returns-in-Map c =
    let s = settings_view c.args.context.now in
    let d = definition_in c.args.definition in
    answers_of c.strings_array.result view (ap (λ v. language_value s d (view v)) c.in-Map.is ∙ of_object (strings_array s d) c.in-Map.languages) c.strings_array.ensures
