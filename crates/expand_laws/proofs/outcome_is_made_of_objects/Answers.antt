use Rattle.expand_laws.proofs.ObjectNodes as proved
use Rattle.expand_laws.proofs.outcome_is_made_of_objects.Goals as goal

pub returns : goal.returns
returns c = proved.outcome_is_made_of_objects
