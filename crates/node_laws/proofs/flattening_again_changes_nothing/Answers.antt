use Rattle.node_laws.proofs.FlattenedAgain as again
use Rattle.node_laws.proofs.flattening_again_changes_nothing.Goals as goal

pub returns : goal.returns
returns c = again.flattening_again_changes_nothing
