-- What is left of the rows answers as they all do.
use Rattle.std.proofs.Common.{◌≡◌, drop}
use Rattle.std.specs.Str.{bytes_eq}
use Rattle.std.specs.Map.{lookup}
use Rattle.case_tables.specs.Rows.{pairs_of}
use Rattle.case_tables.proofs.table.number_beside.Given as goal

abbrev pub invariant-loop-row : goal.invariant-loop-row
invariant-loop-row l = lookup (bytes_eq l.name) (pairs_of (drop l.row-index l.rows)) ≡ lookup (bytes_eq l.name) (pairs_of l.rows)
