use Rattle.std.proofs.Common.{ap, sym, ◌∙◌}
use Rattle.std.specs.Prelude.{codes}
use Rattle.ld_model.specs.Tree.{member_at}
use Rattle.ld_tree.specs.View.{view}
use Rattle.ctx_model.specs.Process.{propagates_by, propagates_in}
use Rattle.ctx_entries.proofs.Listed.{of_object}
use Rattle.ctx_settings.proofs.items.propagates_in.Goals as goal

pub returns-in-Map : goal.returns-in-Map
returns-in-Map c =
    c.propagates_by.ensures ∙ ap (propagates_by c.args.propagates) c.get.ensures ∙ sym (of_object (λ es. propagates_by c.args.propagates (member_at (codes "@propagate") es)) c.in-Map.entries)
    ∙ sym (ap (λ v. propagates_in c.args.propagates (view v)) c.in-Map.is)
