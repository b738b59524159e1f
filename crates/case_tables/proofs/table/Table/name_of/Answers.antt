use Rattle.case_tables.proofs.LookUp.{name_found}
use Rattle.case_tables.specs.Rows.{pairs_of}
use Rattle.case_tables.proofs.table.Table.name_of.Goals as goal

pub returns : goal.returns
returns g c name = rw (← c.self.view_is, c.name_beside.ensures) (name_found c.args.number (pairs_of c.self.inside.rows.now) c.self.invariant.3 name)
