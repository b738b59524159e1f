use Rattle.ctx_terms.proofs.Names.{found_keyword}
use Rattle.ctx_terms.proofs.container.word_named.Goals as goal

pub returns : goal.returns
returns c = found_keyword c.args.text.now c.keyword_of.result c.keyword_of.ensures.listed c.keyword_of.ensures.named
