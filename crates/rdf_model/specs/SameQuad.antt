-- Equality of terms and quads (RDF 1.1 Concepts, sections 3.1 to 3.4), and lists without what repeats.
use Rattle.std.specs.Prelude.{ℕ, ◌&&◌, not, Bool, true, false, List, [], ◌∷◌, Option, Some, None, filter}
use Rattle.std.specs.Str.{bytes_eq}
use Rattle.rdf_terms.specs.declared.term.Term.{Term}
use Rattle.rdf_terms.specs.declared.term.Term.TheVariants.{Iri, Blank, Literal}
use Rattle.rdf_terms.specs.declared.term.Quad.{Quad}

abbrev pub same_language : Option (List ℕ) → Option (List ℕ) → Bool
same_language None None = true
same_language (Some a) (Some b) = bytes_eq a b
same_language _ _ = false

abbrev pub same_term : Term → Term → Bool
same_term (Iri a) (Iri b) = bytes_eq a b
same_term (Blank a) (Blank b) = bytes_eq a b
same_term (Literal a d l) (Literal b e m) = bytes_eq a b && bytes_eq d e && same_language l m
same_term _ _ = false

abbrev pub same_graph : Option Term → Option Term → Bool
same_graph None None = true
same_graph (Some a) (Some b) = same_term a b
same_graph _ _ = false

abbrev pub same_quad : Quad → Quad → Bool
same_quad p q = same_term p.subject q.subject && same_term p.predicate q.predicate && same_term p.object q.object && same_graph p.graph q.graph

-- The quads, each where it stands first.
abbrev pub distinct : List Quad → List Quad
distinct [] = []
distinct (q ∷ qs) = q ∷ filter (λ r. not (same_quad q r)) (distinct qs)
