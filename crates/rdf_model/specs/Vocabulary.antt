-- The names of RDF that conversion uses (RDF 1.1 Concepts, section 1.4; RDF Schema 1.1, section 5.2).
use Rattle.std.specs.Prelude.{codes}
use Rattle.rdf_terms.specs.declared.term.Term.{Term}
use Rattle.rdf_terms.specs.declared.term.Term.TheVariants.{Iri}

abbrev pub rdf_type : Term
rdf_type = Iri (codes "http://www.w3.org/1999/02/22-rdf-syntax-ns#type")

abbrev pub rdf_first : Term
rdf_first = Iri (codes "http://www.w3.org/1999/02/22-rdf-syntax-ns#first")

abbrev pub rdf_rest : Term
rdf_rest = Iri (codes "http://www.w3.org/1999/02/22-rdf-syntax-ns#rest")

abbrev pub rdf_nil : Term
rdf_nil = Iri (codes "http://www.w3.org/1999/02/22-rdf-syntax-ns#nil")
