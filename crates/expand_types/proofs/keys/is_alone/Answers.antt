use Rattle.std.proofs.Common.{◌≡◌, length, ap, sym, ◌∙◌, arith}
use Rattle.std.specs.Option.{option_map}
use Rattle.std.proofs.lemmas.Grind.{common_steps}
use Rattle.ld_tree.specs.View.{view}
use Rattle.ctx_types.specs.ContextView.{settings_view}
use Rattle.expand_model.specs.Scope.{expands_to}
use Rattle.expand_types.proofs.Named.{alone_is}
use Rattle.expand_types.proofs.keys.is_alone.Goals as goal

pub returns-in-Some : goal.returns-in-Some
returns-in-Some c =
    let one : length c.args.members.now ≡ 1 = grind (arith, common_steps) in
    c.expands_to.ensures
    ∙ ap (λ t. expands_to (settings_view c.args.context.now) c.args.word.now t) c.as_str.ensures
    ∙ sym (alone_is (settings_view c.args.context.now) c.args.word.now c.in-Some.key.now (view c.in-Some.field-0-1.now) c.args.members.now one (sym (ap (option_map (λ m. (m.0.now, view m.1.now))) c.in-Some.is) ∙ c.at.ensures))
