use Rattle.std.proofs.Common.{◌≡◌, ◌+◌, ◌-◌, ◌∷◌, length, take, drop, sym, ap, ◌∙◌, arith}
use Rattle.ctx_store.specs.Index.{lines}
use Rattle.ctx_store.proofs.Lines.{first_line, last_line}
use Rattle.ctx_store.proofs.index.next_line.Goals as goal

pub returns-in-Some-clause-first : goal.returns-in-Some-clause-first
returns-in-Some-clause-first c =
    first_line c.args.bytes.now c.in-Some.at (sym c.in-Some.ensures) ∙ ap (λ l. l ∷ lines (take (length c.args.bytes.now - (c.in-Some.at + 1)) (drop (c.in-Some.at + 1) c.args.bytes.now))) (sym c.without_return.ensures)

pub returns-in-None-clause-first : goal.returns-in-None-clause-first
returns-in-None-clause-first c =
    let nothing : length c.args.bytes.now - length c.args.bytes.now ≡ 0 = omega arith in
    rw nothing (last_line c.args.bytes.now c.requires (sym c.in-None.ensures))
