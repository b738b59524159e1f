use Rattle.ld_tree.specs.View.{view}
use Rattle.range_laws.specs.Right.{expands_each, keeps_each}
use Rattle.range_laws.proofs.Plain.{document_run}
use Rattle.tree_expand.proofs.Steps.{answers_of}
use Rattle.tree_expand.proofs.document.expand_document.Goals as goal

pub returns : goal.returns
returns c =
    answers_of c.document_over.result (λ ts. ts) c.document_over.new.ranges _ _
    (document_run _ expands_each keeps_each (λ ts n a s. tt {0}) (view c.args.tree.now) _)
    c.document_over.ensures
