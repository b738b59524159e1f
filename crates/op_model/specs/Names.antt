-- Names that a node, a graph, a property or a type has before labels are issued (JSON-LD 1.1 API, section 7.4).
use Rattle.std.specs.Prelude.{ℕ, ◌==◌, List, [], ◌∷◌, Bool, false, ◌&&◌, if◌then◌else◌}
use Rattle.std.specs.Str.{bytes_eq}
use Rattle.ld_model.specs.Label.{is_blank}

-- An IRI, which needs no label (`@default`, the name of the default graph, counts with these); a label of the document; or what a node
-- without an id is called: the number of its chunk, and its number, from 0, among such nodes of the chunk.
pub data Name : Type 0 where
  iri : List ℕ → Name
  source : List ℕ → Name
  fresh : (chunk number : ℕ) → Name

abbrev pub same_name : Name → Name → Bool
same_name (iri a) (iri b) = bytes_eq a b
same_name (source a) (source b) = bytes_eq a b
same_name (fresh c n) (fresh d m) = (c == d) && (n == m)
same_name _ _ = false

-- The name that a text of the document is.
abbrev pub name_of : List ℕ → Name
name_of s = if is_blank s then source s else iri s

-- The name, where it needs a label.
abbrev pub blank : Name → List Name
blank (iri s) = []
blank n = n ∷ []
