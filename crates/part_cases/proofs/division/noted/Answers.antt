use Rattle.std.proofs.Common.{refl, sym, subst, None, false}
use Rattle.std.specs.List.{AllByRecursion}
use Rattle.ld_tree.specs.View.{trees_view}
use Rattle.op_types.specs.View.{name_view}
use Rattle.op_laws.specs.Sound.{IsSound, IsSoundName}
use Rattle.op_laws.proofs.Sound.{operations_are_sound}
use Rattle.part_cases.proofs.division.noted.Goals as goal

pub returns : goal.returns
returns c =
    subst (AllByRecursion IsSound) (sym c.in_ok-ops.ensures)
    (operations_are_sound c.args.number (trees_view c.args.items.now) (name_view c.in_ok-graph.graph) None None false (subst IsSoundName (sym c.in_ok-graph.ensures) refl) tt)
