use Rattle.std.proofs.Common.{ap, ◌∙◌}
use Rattle.ld_tree.specs.View.{view}
use Rattle.expand_model.specs.Keywords.{each_reversed, forward_added, reverse_map_added, reversed_in}
use Rattle.expand_values.proofs.Carried.{answers_of, of_object}
use Rattle.expand_parts.proofs.keywords.reverse_map.Goals as goal

pub returns-in-Map : goal.returns-in-Map
unfolding reverse_map_added
returns-in-Map c =
    let r = c.args.made.now in
    answers_of _ _ (ap (λ v. reverse_map_added (view v) r) c.in-Map.is ∙ of_object (λ es. each_reversed es (forward_added (reversed_in es) r)) c.in-Map.members) c.reverse_members.ensures
