use Rattle.nquads_terminals.proofs.Tags.{tag_text_is_ascii}
use Rattle.std.proofs.Common.{◌≡◌, ◌+◌, ◌-◌, drop, take, true, arith, sym, ap, ◌∙◌}
use Rattle.std.specs.Str.{IsUtf8}
use Rattle.nquads_terminals.specs.Terminals.{tag_more}
use Rattle.nquads_terminals.proofs.language.tag_text.Goals as goal

pub returns-in-Err : goal.returns-in-Err
returns-in-Err c =
    let bytes = c.args.bytes.now in
    let len : c.tag_more-len.result ≡ tag_more true (drop 2 bytes) = c.tag_more-len.ensures.value ∙ ap (tag_more true) c.from.ensures in
    let count : (2 + c.tag_more-len.result) - 1 ≡ 1 + tag_more true (drop 2 bytes) = omega arith in
    let whole : IsUtf8 (take (1 + tag_more true (drop 2 bytes)) (drop 1 bytes)) = tag_text_is_ascii bytes (omega arith) (sym c.if-not-is_ascii_alphabetic.ensures.value) in
    absurd (c.in-Err.ensures.cases.0 (rw count whole))
