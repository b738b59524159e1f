use Rattle.cut_laws.proofs.Theorems as theorems
use Rattle.cut_laws.proofs.pieces_stand_in_the_document.Goals as goal

pub returns : goal.returns
returns c = theorems.pieces_stand_in_the_document
