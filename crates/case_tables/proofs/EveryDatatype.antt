-- Each of them stands in the list of all.
use Rattle.std.proofs.Common.{refl, Contains, lit<}
use Rattle.case_tables.specs.declared.datatype.Datatype.{Datatype}
use Rattle.case_tables.specs.declared.datatype.Datatype.TheVariants.{XsdBoolean, XsdInteger, XsdDouble, XsdString, RdfLangString, RdfJson}
use Rattle.case_tables.specs.declared.datatype.TheConstants.{DATATYPES}

pub is_listed : (k : Datatype) → Contains DATATYPES k
is_listed XsdBoolean = (0, lit< tt, refl)
is_listed XsdInteger = (1, lit< tt, refl)
is_listed XsdDouble = (2, lit< tt, refl)
is_listed XsdString = (3, lit< tt, refl)
is_listed RdfLangString = (4, lit< tt, refl)
is_listed RdfJson = (5, lit< tt, refl)
