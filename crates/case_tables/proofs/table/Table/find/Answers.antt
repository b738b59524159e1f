use Rattle.case_tables.proofs.LookUp.{number_found}
use Rattle.case_tables.specs.Rows.{pairs_of}
use Rattle.case_tables.proofs.table.Table.find.Goals as goal

pub returns : goal.returns
returns g c n = rw (← c.self.view_is, c.number_beside.ensures) (number_found c.args.name.now (pairs_of c.self.inside.rows.now) c.self.invariant.2 n)
