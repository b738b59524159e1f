-- The parts of a job that is measured.
use Rattle.std.specs.Prelude.{ℕ}
use Rattle.pool_bench.specs.declared.grind.Span.{Span}

abbrev pub span : ℕ → ℕ → Span
span first end = record { first = first; end = end }

abbrev pub over : Span → Span → Span
over a b = span a.first b.end
