use Rattle.nquads_terminals.proofs.Iris.{raw_iri_read}
use Rattle.std.proofs.Common.{rules}
use Rattle.nquads_terminals.proofs.iri.raw_iri.Goals as goal

pub returns-then-has_scheme-clause-read : goal.returns-then-has_scheme-clause-read
returns-then-has_scheme-clause-read c =
    raw_iri_read c.args.bytes.now c.in_ok-text.text.now _ c.in_ok-text.ensures.value (search rules) c.in_ok-text.ensures.read
