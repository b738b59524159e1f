use Rattle.std.proofs.Common.{lit<}
use Rattle.ctx_types.proofs.Forms.{without_colon}
use Rattle.ctx_types.proofs.expansion.colon_parts.Goals as goal

pub returns-in-None : goal.returns-in-None
returns-in-None c = without_colon c.args.text.now (c.in-None.ensures.byte (lit< tt) (λ w o f. f))
