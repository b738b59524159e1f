-- What is left of the rows answers as they all do.
use Rattle.std.proofs.Common.{◌≡◌, drop, nat_eq}
use Rattle.std.specs.Map.{lookup}
use Rattle.case_tables.specs.Rows.{pairs_of, turned}
use Rattle.case_tables.proofs.table.name_beside.Given as goal

abbrev pub invariant-loop-row : goal.invariant-loop-row
invariant-loop-row l = lookup (nat_eq l.number) (turned (pairs_of (drop l.row-index l.rows))) ≡ lookup (nat_eq l.number) (turned (pairs_of l.rows))
