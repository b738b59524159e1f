use Rattle.ld_io.proofs.Turns.{TakesFront-more}
use Rattle.ld_io.proofs.whole.read_within.Goals as goal

pub returns-in_err-read_more-clause-taken : goal.returns-in_err-read_more-clause-taken
returns-in_err-read_more-clause-taken g c =
    TakesFront-more _ _ _ _ _ c.loop-source.invariant.gathered c.in_err-read_more.ensures.taken
