use Rattle.cut_laws.proofs.Theorems as theorems
use Rattle.cut_laws.proofs.a_light_document_is_not_cut.Goals as goal

pub returns : goal.returns
returns c = theorems.a_light_document_is_not_cut
