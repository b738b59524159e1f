use Rattle.nquads_terminals.proofs.Raw.{raw_read}
use Rattle.std.proofs.Common.{arith, sym, subst, ◌∙◌}
use Rattle.std.specs.Str.{IsUtf8}
use Rattle.nquads_terminals.proofs.enclosed.raw_text.Goals as goal

pub returns-in-Ok-clause-read : goal.returns-in-Ok-clause-read
returns-in-Ok-clause-read c =
    let cases = c.in-Ok.ensures.cases in
    raw_read c.args.kind c.args.bytes.now c.raw_len-len.result c.in-Ok.text.now c.raw_len-len.ensures (omega arith) (c.if-bytes-len.false ∙ c.closing.ensures) cases.0 (subst IsUtf8 (sym cases.0) cases.1)
