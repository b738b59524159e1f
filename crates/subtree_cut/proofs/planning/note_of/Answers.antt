use Rattle.std.proofs.Common.{refl}
use Rattle.ld_model.specs.Tree.{trees_of}
use Rattle.ld_tree.specs.View.{trees_view}
use Rattle.expand_types.specs.View.{scope_view}
use Rattle.subtree_cut.proofs.Noted.{same_piece}
use Rattle.subtree_cut.proofs.planning.note_of.Goals as goal

pub returns : goal.returns
returns c =
    same_piece (record { place = c.args.place; from = c.args.number; items = c.args.items; context = c.in_ok-context.context; property = c.in_ok-property.property; from_map = c.args.at.now.scope.from_map })
    (record { at = record { scope = scope_view c.args.at.now.scope; place = c.args.place }; from = c.args.number; items = trees_of (trees_view c.args.items.now) })
    refl refl c.in_ok-context.ensures c.in_ok-property.ensures refl refl
