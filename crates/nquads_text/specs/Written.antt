-- How quads are written (RDF 1.1 N-Quads).
use Rattle.std.specs.Prelude.{ℕ, ◌==◌, ◌||◌, not, Bool, if◌then◌else◌, List, [], ◌∷◌, ◌++◌, codes, Option, Some, None}
use Rattle.std.specs.List.{flat_map}
use Rattle.std.specs.Str.{bytes_eq}
use Rattle.case_tables.specs.Datatype.{datatype_name}
use Rattle.case_tables.specs.declared.datatype.Datatype.TheVariants.{XsdString}
use Rattle.rdf_terms.specs.declared.term.Term.{Term}
use Rattle.rdf_terms.specs.declared.term.Term.TheVariants.{Iri, Blank, Literal}
use Rattle.rdf_terms.specs.declared.term.Quad.{Quad}

-- A byte of a string: `"`, `\`, LF and CR are escaped, and nothing else is.
abbrev pub escaped : ℕ → List ℕ
escaped b = if b == 34 then codes "\\\"" else (if b == 92 then codes "\\\\" else (if b == 10 then codes "\\n" else (if b == 13 then codes "\\r" else b ∷ [])))

-- A byte that isn't escaped.
abbrev pub is_plain : ℕ → Bool
is_plain b = not (b == 34 || b == 92 || b == 10 || b == 13)

abbrev pub quoted : List ℕ → List ℕ
quoted lexical = (34 ∷ flat_map escaped lexical) ++ 34 ∷ []

abbrev pub bracketed : List ℕ → List ℕ
bracketed iri = (60 ∷ iri) ++ 62 ∷ []

-- What follows a string. The datatype of a language-tagged string and `xsd:string` are not written.
abbrev pub annotation : List ℕ → Option (List ℕ) → List ℕ
annotation datatype (Some tag) = 64 ∷ tag
annotation datatype None = if bytes_eq datatype (datatype_name XsdString) then [] else codes "^^" ++ bracketed datatype

abbrev pub term_text : Term → List ℕ
term_text (Iri iri) = bracketed iri
term_text (Blank label) = label
term_text (Literal lexical datatype language) = quoted lexical ++ annotation datatype language

-- A term with a space in front.
abbrev pub next_text : Term → List ℕ
next_text term = 32 ∷ term_text term

abbrev pub graph_text : Option Term → List ℕ
graph_text None = []
graph_text (Some graph) = next_text graph

abbrev pub triple_text : Quad → List ℕ
triple_text q = term_text q.subject ++ next_text q.predicate ++ next_text q.object

-- One space between terms, ` .` and a line feed.
abbrev pub quad_text : Quad → List ℕ
quad_text q = triple_text q ++ graph_text q.graph ++ codes " .\n"

-- The quads, a line each.
abbrev pub written : List Quad → List ℕ
written quads = flat_map quad_text quads
