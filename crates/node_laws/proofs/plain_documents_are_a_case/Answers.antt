use Rattle.node_laws.proofs.PlainDocuments as plain_documents
use Rattle.node_laws.proofs.plain_documents_are_a_case.Goals as goal

pub returns : goal.returns
returns c = plain_documents.plain_documents_are_a_case
