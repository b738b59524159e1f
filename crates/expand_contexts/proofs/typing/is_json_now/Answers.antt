use Rattle.std.proofs.Common.{Some, ap, sym, ◌∙◌}
use Rattle.ld_tree.specs.View.{view}
use Rattle.ctx_types.specs.ContextView.{context_view, settings_view}
use Rattle.expand_model.specs.Contexts.{is_json}
use Rattle.expand_contexts.specs.View.{made_view}
use Rattle.expand_contexts.proofs.Steps.{json_first}
use Rattle.expand_contexts.proofs.typing.is_json_now.Goals as goal

pub returns-in-None : goal.returns-in-None
returns-in-None c =
    λ rest is. c.is_last_json.ensures ∙ sym (json_first (settings_view c.args.types.now) c.args.members.now (Some (view c.args.value.now, rest)) (sym is)) ∙ ap (λ m. is_json (made_view m (context_view c.args.types.now)).current c.args.members.now) (sym c.in-None.is)
