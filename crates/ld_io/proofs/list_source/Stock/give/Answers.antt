use Rattle.std.proofs.Common.{◌≤◌, ◌∙◌, ap, sym, arith, length, take, drop}
use Rattle.ld_io.specs.Stock.{left_of}
use Rattle.ld_io.proofs.Repeats.{length-repeated, take-repeated, drop-repeated}
use Rattle.ld_io.proofs.list_source.Stock.give.Goals as goal

pub returns-in-Repeated-clause-count : goal.returns-in-Repeated-clause-count
returns-in-Repeated-clause-count c =
    omega (arith, c.min-given.ensures, ap (λ s. length (left_of s)) c.in-Repeated.is, length-repeated c.in-Repeated.count c.in-Repeated.byte)

pub returns-in-Repeated-clause-bytes : goal.returns-in-Repeated-clause-bytes
returns-in-Repeated-clause-bytes c =
    let small : c.min-given.result ≤ c.in-Repeated.count = omega (arith, c.min-given.ensures) in
    c.fill_front.ensures ∙ sym (ap (λ s. take c.min-given.result (left_of s)) c.in-Repeated.is ∙ take-repeated c.min-given.result c.in-Repeated.count c.in-Repeated.byte small)

pub returns-in-Repeated-clause-left : goal.returns-in-Repeated-clause-left
returns-in-Repeated-clause-left c =
    sym (ap (λ s. drop c.min-given.result (left_of s)) c.in-Repeated.is ∙ drop-repeated c.min-given.result c.in-Repeated.count c.in-Repeated.byte)
