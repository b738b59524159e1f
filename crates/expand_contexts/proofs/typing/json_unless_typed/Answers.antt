use Rattle.std.proofs.Common.{◌≡◌, false, None, Some, ap, sym, ◌∙◌, arith}
use Rattle.std.proofs.lemmas.Grind.{common_steps}
use Rattle.std.specs.Option.{option_map}
use Rattle.ctx_types.specs.ContextView.{context_view, settings_view}
use Rattle.ld_tree.specs.View.{view}
use Rattle.expand_contexts.specs.Types.{first_type}
use Rattle.expand_contexts.proofs.Steps.{lent_typing, no_types, with_rest}
use Rattle.expand_contexts.proofs.typing.json_unless_typed.Goals as goal

pub returns-in_default : goal.returns-in_default
returns-in_default c =
    λ o. no_types o (context_view c.args.types.now) c.args.members.now (sym (ap (option_map (with_rest c.next_type.new.entries)) c.in_default.is) ∙ c.next_type.ensures ∙ ap (first_type (settings_view c.args.types.now)) c.iter-entries.ensures.members)

pub returns : goal.returns
returns c =
    λ o.
    let rest = c.next_type.new.entries in
    let unscoped : c.has_scoped_type.result ≡ false = grind (arith, common_steps) in
    let first : Some (with_rest rest c.in-Some.value) ≡ first_type (settings_view c.args.types.now) c.args.members.now = sym (ap (option_map (with_rest rest)) c.in-Some.is) ∙ c.next_type.ensures ∙ ap (first_type (settings_view c.args.types.now)) c.iter-entries.ensures.members in
    let last : None ≡ first_type (settings_view c.args.types.now) rest = sym (ap (option_map (with_rest c.next_type-2.new.entries)) c.in-None.is) ∙ c.next_type-2.ensures in
    lent_typing o (context_view c.args.types.now) c.args.members.now (view c.in-Some.value.now) rest c.is_last_json.result first last (sym c.has_scoped_type.ensures ∙ unscoped) c.is_last_json.ensures
