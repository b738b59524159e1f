use Rattle.std.proofs.Common.{◌≡◌, ap, sym, ◌∙◌}
use Rattle.std.specs.Option.{option_or}
use Rattle.ld_model.specs.Tree.{member_at}
use Rattle.ctx_entries.specs.View.{tree_view, imports_view}
use Rattle.ctx_entries.proofs.Listed.{merged_at}
use Rattle.ctx_entries.proofs.local.ContextEntries.get.Goals as goal

pub returns-in-Some : goal.returns-in-Some
returns-in-Some c =
    let k = c.args.key.now in
    let own : member_at k c.args.self.now.own.now ≡ tree_view c.own_entry.result = sym c.own_entry.ensures.value in
    let looked = merged_at k c.args.self.now.own.now (imports_view c.args.self.now.imports) c.own_entry.ensures.ascending in
    sym (looked ∙ ap (λ o. option_or o (member_at k (imports_view c.args.self.now.imports))) (own ∙ ap tree_view c.in-Some.is))

pub returns-in-Some-imports : goal.returns-in-Some-imports
returns-in-Some-imports c =
    let k = c.args.key.now in
    let own : member_at k c.args.self.now.own.now ≡ tree_view c.own_entry.result = sym c.own_entry.ensures.value in
    let looked = merged_at k c.args.self.now.own.now (imports_view c.args.self.now.imports) c.own_entry.ensures.ascending in
    c.get.ensures ∙ ap (λ i. member_at k (imports_view i)) (sym c.in-Some-imports.is) ∙ sym (looked ∙ ap (λ o. option_or o (member_at k (imports_view c.args.self.now.imports))) (own ∙ ap tree_view c.in-None.is))

pub returns-in-None-imports : goal.returns-in-None-imports
returns-in-None-imports c =
    let k = c.args.key.now in
    let own : member_at k c.args.self.now.own.now ≡ tree_view c.own_entry.result = sym c.own_entry.ensures.value in
    let looked = merged_at k c.args.self.now.own.now (imports_view c.args.self.now.imports) c.own_entry.ensures.ascending in
    sym (looked ∙ ap (λ o. option_or o (member_at k (imports_view c.args.self.now.imports))) (own ∙ ap tree_view c.in-None.is) ∙ ap (λ i. member_at k (imports_view i)) c.in-None-imports.is)
