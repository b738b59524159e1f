use Rattle.tree_expand.proofs.PlaceLemmas.{places_differ}
use Rattle.tree_expand.proofs.places.are_same.Goals as goal

pub returns-then-steps-others : goal.returns-then-steps-others
returns-then-steps-others c = places_differ c.args.steps.now c.args.others.now c.if-steps-others.true
