use Rattle.std.specs.Prelude.{ℕ, List, codes}
use Rattle.case_tables.specs.declared.datatype.Datatype.{Datatype}
use Rattle.case_tables.specs.declared.datatype.Datatype.TheVariants.{XsdBoolean, XsdInteger, XsdDouble, XsdString, RdfLangString, RdfJson}

-- the IRI of each datatype (XML Schema 1.1 part 2; RDF 1.1 Concepts, sections 3.3 and 5; JSON-LD 1.1, section 10.2)
abbrev pub datatype_name : Datatype → List ℕ
datatype_name XsdBoolean = codes "http://www.w3.org/2001/XMLSchema#boolean"
datatype_name XsdInteger = codes "http://www.w3.org/2001/XMLSchema#integer"
datatype_name XsdDouble = codes "http://www.w3.org/2001/XMLSchema#double"
datatype_name XsdString = codes "http://www.w3.org/2001/XMLSchema#string"
datatype_name RdfLangString = codes "http://www.w3.org/1999/02/22-rdf-syntax-ns#langString"
datatype_name RdfJson = codes "http://www.w3.org/1999/02/22-rdf-syntax-ns#JSON"
