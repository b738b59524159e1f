use Rattle.nquads_terminals.proofs.Raw.{escaped_step}
use Rattle.std.proofs.Common.{rules}
use Rattle.std.specs.Char.{encode_utf8}
use Rattle.nquads_terminals.proofs.enclosed.take_character.Goals as goal

pub returns-then-first-eq92-clause-good : goal.returns-then-first-eq92-clause-good
returns-then-first-eq92-clause-good c =
    (encode_utf8 c.in-Some.character, search rules, escaped_step c.args.kind c.args.bytes.now c.from.result.now c.in-Some.character c.in-Some.len c.requires.some (search rules) c.requires.unclosed c.from.ensures (search rules))
