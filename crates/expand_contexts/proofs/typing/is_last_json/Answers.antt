use Rattle.std.proofs.Common.{None, Some, ap, sym, ◌∙◌}
use Rattle.std.specs.Option.{option_map}
use Rattle.ld_tree.specs.View.{view}
use Rattle.ctx_types.specs.ContextView.{settings_view}
use Rattle.expand_contexts.proofs.Steps.{json_of_items}
use Rattle.expand_contexts.proofs.typing.is_last_json.Goals as goal

pub returns-in-None : goal.returns-in-None
returns-in-None c =
    sym (json_of_items (settings_view c.args.context.now) (view c.args.value.now) c.in-Items.items None (ap view c.in-Items.is) (sym (ap (option_map (λ t. view t.now)) c.in-None.is) ∙ c.last_of.ensures))

pub returns-in-Some : goal.returns-in-Some
returns-in-Some c =
    c.is_json_text.ensures
    ∙ sym (json_of_items (settings_view c.args.context.now) (view c.args.value.now) c.in-Items.items (Some (view c.in-Some.last.now)) (ap view c.in-Items.is) (sym (ap (option_map (λ t. view t.now)) c.in-Some.is) ∙ c.last_of.ensures))
