use Rattle.std.proofs.Common.{◌≡◌, ◌<◌, [], ◌∷◌, ap, sym, ◌∙◌, refl, length, arith}
use Rattle.std.specs.List.{list_all}
use Rattle.ld_model.specs.Tree.{Pairs}
use Rattle.ld_tree.specs.View.{view}
use Rattle.ctx_model.specs.Definition.{are_type_entries, is_type_entry, may_define_type}
use Rattle.ctx_entries.proofs.Listed.{of_object}
use Rattle.ctx_entries.proofs.definition.may_define_type.Goals as goal

some_entries : (es : Pairs) → 0 < length es → list_all is_type_entry es ≡ are_type_entries es
some_entries [] some = absurd (omega (arith, some))
some_entries (e ∷ es) some = refl

pub returns-then-len-gt0 : goal.returns-then-len-gt0
returns-then-len-gt0 c =
    c.are_type_entries.ensures ∙ some_entries c.in-Map.entries (omega (arith, c.if-len-gt0.true, c.len.ensures))
    ∙ sym (of_object are_type_entries c.in-Map.entries) ∙ sym (ap (λ v. may_define_type (view v)) c.in-Map.is)
