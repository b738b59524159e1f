-- Which quads are valid (RDF 1.1 Concepts, section 3; RDF 1.1 N-Quads, the grammar).
use Rattle.std.specs.Prelude.{ℕ, ◌==◌, ◌&&◌, ◌||◌, nat_le, Bool, true, false, List, [], ◌∷◌, Option, Some, None, IsTrue, drop}
use Rattle.std.specs.List.{list_any}
use Rattle.std.specs.Str.{chars, bytes_eq}
use Rattle.std.specs.Char.{is_ascii_digit}
use Rattle.iri_ref.specs.Parts.{is_well_formed}
use Rattle.case_tables.specs.Datatype.{datatype_name}
use Rattle.case_tables.specs.declared.datatype.Datatype.TheVariants.{RdfLangString}
use Rattle.ld_model.specs.Iri.{has_scheme}
use Rattle.ld_model.specs.Label.{is_blank}
use Rattle.rdf_terms.specs.Language.{is_tag}
use Rattle.rdf_terms.specs.declared.term.Term.{Term}
use Rattle.rdf_terms.specs.declared.term.Term.TheVariants.{Iri, Blank, Literal}
use Rattle.rdf_terms.specs.declared.term.Quad.{Quad}

-- ---- labels of blank nodes

-- The character lies in one of these ranges, bounds included.
abbrev pub is_in : List (ℕ × ℕ) → ℕ → Bool
is_in ranges c = list_any (λ r. nat_le r.0 c && nat_le c r.1) ranges

-- PN_CHARS_BASE
abbrev pub is_pn_chars_base : ℕ → Bool
is_pn_chars_base = is_in ((0x41, 0x5A) ∷ (0x61, 0x7A) ∷ (0xC0, 0xD6) ∷ (0xD8, 0xF6) ∷ (0xF8, 0x2FF) ∷ (0x370, 0x37D) ∷ (0x37F, 0x1FFF) ∷ (0x200C, 0x200D) ∷ (0x2070, 0x218F) ∷ (0x2C00, 0x2FEF) ∷ (0x3001, 0xD7FF) ∷ (0xF900, 0xFDCF) ∷ (0xFDF0, 0xFFFD) ∷ (0x1_0000, 0xE_FFFF) ∷ [])

-- PN_CHARS_U: these, `_` and `:`
abbrev pub is_pn_chars_u : ℕ → Bool
is_pn_chars_u c = is_pn_chars_base c || (c == 95) || (c == 58)

-- PN_CHARS: these, `-`, a digit, and some marks
abbrev pub is_pn_chars : ℕ → Bool
is_pn_chars c = is_pn_chars_u c || (c == 45) || is_ascii_digit c || is_in ((0xB7, 0xB7) ∷ (0x300, 0x36F) ∷ (0x203F, 0x2040) ∷ []) c

-- `((PN_CHARS | '.')* PN_CHARS)?`
abbrev pub is_label_rest : List ℕ → Bool
is_label_rest [] = true
is_label_rest (c ∷ []) = is_pn_chars c
is_label_rest (c ∷ d ∷ cs) = (is_pn_chars c || (c == 46)) && is_label_rest (d ∷ cs)

-- What follows `_:`: PN_CHARS_U or a digit, and the rest.
abbrev pub is_label_body : List ℕ → Bool
is_label_body [] = false
is_label_body (c ∷ cs) = (is_pn_chars_u c || is_ascii_digit c) && is_label_rest cs

-- BLANK_NODE_LABEL
abbrev pub is_label : List ℕ → Bool
is_label s = is_blank s && is_label_body (chars (drop 2 s))

-- ---- terms

-- A language stands only beside the datatype `rdf:langString`, and is a language tag.
abbrev pub is_language_of : List ℕ → Option (List ℕ) → Bool
is_language_of datatype None = true
is_language_of datatype (Some tag) = is_tag tag && bytes_eq datatype (datatype_name RdfLangString)

-- IRIs are well-formed, labels are labels, and languages stand where they may.
abbrev pub is_valid_term : Term → Bool
is_valid_term (Iri iri) = is_well_formed iri
is_valid_term (Blank label) = is_label label
is_valid_term (Literal lexical datatype language) = is_well_formed datatype && is_language_of datatype language

abbrev pub is_iri : Term → Bool
is_iri (Iri iri) = true
is_iri _ = false

abbrev pub is_iri_or_blank : Term → Bool
is_iri_or_blank (Iri iri) = true
is_iri_or_blank (Blank label) = true
is_iri_or_blank _ = false

-- An IRI has the form of one, and the label of a blank node begins with `_:`.
abbrev pub is_named : Term → Bool
is_named (Iri iri) = has_scheme iri
is_named (Blank label) = is_blank label
is_named (Literal lexical datatype language) = has_scheme datatype

-- ---- quads

-- The graph, if there is one, passes the test.
abbrev pub graph_passes : (Term → Bool) → Option Term → Bool
graph_passes test None = true
graph_passes test (Some graph) = test graph

-- Every term of the quad passes the test.
abbrev pub each_term : (Term → Bool) → Quad → Bool
each_term test q = test q.subject && test q.predicate && test q.object && graph_passes test q.graph

-- The subject is an IRI or a blank node, the predicate an IRI, and the graph's name an IRI or a blank node.
abbrev pub HasKinds : Quad → Type 0
HasKinds q = IsTrue (is_iri_or_blank q.subject && is_iri q.predicate && graph_passes is_iri_or_blank q.graph)

-- Every IRI of the quad has the form of one, and every label begins with `_:`.
abbrev pub HasNames : Quad → Type 0
HasNames q = IsTrue (each_term is_named q)

-- The terms are of these kinds, and each is valid.
abbrev pub IsValidQuad : Quad → Type 0
IsValidQuad q = HasKinds q × IsTrue (each_term is_valid_term q)
