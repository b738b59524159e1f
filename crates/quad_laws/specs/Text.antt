-- What the laws of N-Quads speak of.
use Rattle.std.specs.Prelude.{ℕ, ◌&&◌, Bool, List, ◌++◌, codes, IsTrue, [], ◌∷◌}
use Rattle.std.specs.Str.{is_utf8}
use Rattle.rdf_terms.specs.declared.term.Term.{Term}
use Rattle.rdf_terms.specs.declared.term.Term.TheVariants.{Iri, Blank, Literal}
use Rattle.rdf_terms.specs.declared.term.Quad.{Quad}
use Rattle.rdf_terms.specs.Quad.{each_term, IsValidQuad}
use Rattle.nquads_text.specs.Written.{triple_text, graph_text}

-- The texts of a term are UTF-8, as every `Text` of the code is.
abbrev pub is_text : Term → Bool
is_text (Iri iri) = is_utf8 iri
is_text (Blank label) = is_utf8 label
is_text (Literal lexical datatype language) = is_utf8 lexical && is_utf8 datatype

-- A valid quad of texts.
abbrev pub IsGood : Quad → Type 0
IsGood q = IsValidQuad q × IsTrue (each_term is_text q)

-- Each of the quads is one.
abbrev pub AreGood : List Quad → Type 0
AreGood [] = Unit {0}
AreGood (q ∷ qs) = IsGood q × AreGood qs

-- The line of a quad, without its line feed.
abbrev pub line_text : Quad → List ℕ
line_text q = triple_text q ++ graph_text q.graph ++ codes " ."
