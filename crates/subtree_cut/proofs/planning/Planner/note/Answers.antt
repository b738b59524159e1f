use Rattle.std.proofs.Common.{ap, ◌∙◌}
use Rattle.ld_model.specs.Tree.{trees_of}
use Rattle.ld_tree.specs.View.{trees_view}
use Rattle.expand_types.specs.View.{scope_view}
use Rattle.tree_expand.specs.View.{at_view}
use Rattle.cut_model.specs.Planning.{with_piece}
use Rattle.subtree_cut.proofs.Noted.{firsts}
use Rattle.subtree_cut.proofs.planning.Planner.note.Goals as goal

pub returns : goal.returns
returns c =
    c.in_ok-push.ensures
    ∙ ap (λ p. with_piece p c.args.self.now)
    (c.in_ok-note.ensures
    ∙ ap (λ q. record { at = record { scope = scope_view c.args.at.now.scope; place = q }; from = c.args.number; items = trees_of (trees_view c.in_ok-items.items.now) }) c.in_ok-place.ensures
    ∙ ap (λ ts. record { at = at_view c.args.at.now; from = c.args.number; items = ts }) (ap trees_of c.in_ok-items.ensures ∙ firsts c.args.behind (trees_view c.args.rest.now)))
