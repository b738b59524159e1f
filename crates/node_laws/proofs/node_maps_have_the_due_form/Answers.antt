use Rattle.node_laws.proofs.DueForm as due_form
use Rattle.node_laws.proofs.node_maps_have_the_due_form.Goals as goal

pub returns : goal.returns
returns c = due_form.node_maps_have_the_due_form
