use Rattle.std.proofs.Common.{◌≡◌, ap, ◌∙◌, Some, None, sym}
use Rattle.std.specs.List.{slice_get}
use Rattle.case_tables.proofs.EveryDatatype.{is_listed}
use Rattle.case_tables.proofs.Numbered.{found_value, named_value}
use Rattle.case_tables.specs.Datatype.{datatype_name}
use Rattle.case_tables.specs.declared.datatype.TheConstants.{DATATYPES}
use Rattle.case_tables.proofs.datatype.datatype_of.Goals as goal

pub returns-in_err-number-clause-listed : goal.returns-in_err-number-clause-listed
returns-in_err-number-clause-listed c k named =
    let found = found_value datatype_name DATATYPES c.datatype_table.result c.args.iri.now c.find.result c.datatype_table.ensures c.find.ensures k (is_listed k) named in
    absurd (let e : Some found.0 ≡ None = sym found.1 ∙ c.in_err-number.was in cc)

pub returns-clause-listed : goal.returns-clause-listed
returns-clause-listed c k named =
    let found = found_value datatype_name DATATYPES c.datatype_table.result c.args.iri.now c.find.result c.datatype_table.ensures c.find.ensures k (is_listed k) named in
    let same : c.in_ok-number.number ≡ found.0 = let e : Some c.in_ok-number.number ≡ Some found.0 = sym c.in_ok-number.was ∙ found.1 in cc in
    c.datatype_at.ensures ∙ ap (slice_get DATATYPES) same ∙ found.2

pub returns-clause-named : goal.returns-clause-named
returns-clause-named c =
    rw c.datatype_at.ensures (named_value datatype_name DATATYPES c.datatype_table.result c.args.iri.now c.find.result c.datatype_table.ensures c.find.ensures c.in_ok-number.number c.in_ok-number.was)
