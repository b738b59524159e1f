-- A job of which every so many-th piece fails.
use Rattle.std.specs.Prelude.{ℕ, ◌%◌, Bool, false, ◌==◌, if◌then◌else◌}
use Rattle.thread_tests.specs.declared.job.Span.{Span}

abbrev pub span : ℕ → ℕ → Span
span first end = record { first = first; end = end }

abbrev pub over : Span → Span → Span
over a b = span a.first b.end

-- no piece fails at a period of 0
abbrev pub is_failing : ℕ → ℕ → ℕ → Bool
is_failing period at piece = if period == 0 then false else (piece % period == at)
