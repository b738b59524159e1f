use Rattle.std.proofs.Common.{None, Some, ap, sym, ◌∙◌}
use Rattle.std.specs.Option.{option_map}
use Rattle.ctx_types.specs.ContextView.{settings_view}
use Rattle.expand_contexts.specs.Types.{first_type}
use Rattle.expand_contexts.proofs.Steps.{json_first, with_rest}
use Rattle.expand_contexts.proofs.typing.is_json.Goals as goal

pub returns-in-None : goal.returns-in-None
returns-in-None c =
    sym (json_first (settings_view c.args.context.now) c.args.members.now None (sym (ap (option_map (with_rest c.next_type.new.entries)) c.in-None.is) ∙ c.next_type.ensures ∙ ap (first_type (settings_view c.args.context.now)) c.iter.ensures.members))

pub returns-in-Some : goal.returns-in-Some
returns-in-Some c =
    c.is_last_json.ensures
    ∙ sym (json_first (settings_view c.args.context.now) c.args.members.now (Some (with_rest c.next_type.new.entries c.in-Some.value)) (sym (ap (option_map (with_rest c.next_type.new.entries)) c.in-Some.is) ∙ c.next_type.ensures ∙ ap (first_type (settings_view c.args.context.now)) c.iter.ensures.members))
