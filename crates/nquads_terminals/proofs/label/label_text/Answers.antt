use Rattle.nquads_terminals.proofs.Labels.{label_text, label_read}
use Rattle.std.proofs.Common.{◌≡◌, ◌<◌, ◌+◌, length, take, drop, Some, arith, sym, ap, ◌∙◌, length-take, length-drop}
use Rattle.std.specs.Str.{IsUtf8}
use Rattle.nquads_terminals.specs.Terminals.{label_len, label}
use Rattle.nquads_terminals.proofs.label.label_text.Goals as goal

pub returns-in-Ok : goal.returns-in-Ok
returns-in-Ok c =
    let bytes = c.args.bytes.now in
    let len : label_len (drop 2 bytes) ≡ c.label_len-len.result = sym (c.label_len-len.ensures.value ∙ ap label_len c.from.ensures) in
    let text : c.in-Ok.text.now ≡ take (2 + c.label_len-len.result) bytes = c.in-Ok.ensures.cases.0 in
    let within : 2 + c.label_len-len.result < length bytes + 1 = omega (arith, c.label_len-len.ensures.within, ap length c.from.ensures, length-drop 2 bytes) in
    let cut : length (take (2 + c.label_len-len.result) bytes) ≡ 2 + c.label_len-len.result = omega (arith, length-take (2 + c.label_len-len.result) bytes) in
    let long : length c.in-Ok.text.now ≡ 2 + c.label_len-len.result = ap length text ∙ cut in
    let read : label bytes ≡ Some (take (2 + label_len (drop 2 bytes)) bytes, drop (2 + label_len (drop 2 bytes)) bytes) = label_read bytes (omega arith) c.if-bytes-ne95.false c.if-bytes-ne58.false (omega arith) in
    (omega arith, rw (long, text, ← len) read)

pub returns-in-Err : goal.returns-in-Err
returns-in-Err c =
    let bytes = c.args.bytes.now in
    let len : c.label_len-len.result ≡ label_len (drop 2 bytes) = c.label_len-len.ensures.value ∙ ap label_len c.from.ensures in
    let whole : IsUtf8 (take (2 + label_len (drop 2 bytes)) bytes) = label_text bytes (omega arith) c.if-bytes-ne95.false c.if-bytes-ne58.false in
    absurd (c.in-Err.ensures.cases.0 (rw len whole))
