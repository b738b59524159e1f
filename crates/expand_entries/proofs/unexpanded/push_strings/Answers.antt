use Rattle.std.proofs.Common.{◌≡◌, ◌++◌, ap, sym, subst, ◌∙◌}
use Rattle.std.specs.Prelude.{OnOk}
use Rattle.std.specs.List.{filter_map}
use Rattle.ld_tree.specs.View.{view}
use Rattle.ctx_types.specs.ContextView.{settings_view}
use Rattle.expand_model.specs.Properties.{language_string, language_strings}
use Rattle.expand_types.specs.View.{definition_in}
use Rattle.expand_values.proofs.Carried.{of_items}
use Rattle.expand_entries.proofs.unexpanded.push_strings.Goals as goal

pub returns-in-Items : goal.returns-in-Items
returns-in-Items c =
    let s = settings_view c.args.context.now in
    let d = definition_in c.args.definition in
    let l = c.args.language.now in
    let same = ap (λ v. language_strings s d (l, view v)) c.in-Items.is ∙ of_items (filter_map (language_string s d l)) c.in-Items.items in
    subst (λ ts. OnOk c.push_each.result (c.push_each.new.strings ≡ c.args.strings.now ++ ts)) (sym same) c.push_each.ensures
