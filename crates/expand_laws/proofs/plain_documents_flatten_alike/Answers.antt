use Rattle.expand_laws.proofs.PlainStatements as proved
use Rattle.expand_laws.proofs.plain_documents_flatten_alike.Goals as goal

pub returns : goal.returns
returns c = proved.plain_documents_flatten_alike
