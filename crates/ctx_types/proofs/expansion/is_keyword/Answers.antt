use Rattle.std.proofs.Common.{◌∙◌}
use Rattle.ctx_types.proofs.Forms.{found_is_keyword}
use Rattle.ctx_types.proofs.expansion.is_keyword.Goals as goal

pub returns : goal.returns
returns c = c.is_some.ensures ∙ found_is_keyword c.args.text.now c.keyword_of.result c.keyword_of.ensures.listed c.keyword_of.ensures.named
