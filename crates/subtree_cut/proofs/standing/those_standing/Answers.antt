use Rattle.std.proofs.Common.{◌+◌, sym, ap, ◌∙◌}
use Rattle.ld_tree.specs.View.{trees_view}
use Rattle.subtree_cut.proofs.Noted.{same_items, viewed}
use Rattle.subtree_cut.proofs.standing.those_standing.Goals as goal

pub returns-then-are_same : goal.returns-then-are_same
returns-then-are_same c =
    same_items (trees_view c.front-found.result.now) (trees_view c.front-wanted.result.now) (sym c.are_same.ensures ∙ c.if-are_same.true)
    ∙ ap trees_view c.front-wanted.ensures
    ∙ viewed (c.args.behind + 1) c.args.rest.now
