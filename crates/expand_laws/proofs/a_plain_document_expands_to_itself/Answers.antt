use Rattle.expand_laws.proofs.PlainItems as proved
use Rattle.expand_laws.proofs.a_plain_document_expands_to_itself.Goals as goal

pub returns : goal.returns
returns c = proved.a_plain_document_expands_to_itself
