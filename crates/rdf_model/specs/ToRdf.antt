-- Conversion of a node map to RDF (JSON-LD 1.1 API, section 8.1, Deserialize JSON-LD to RDF Algorithm, and sections 8.4.2 and 8.4.3). Graphs,
-- subjects, properties and values are taken in the order of the node map, and list cells are labelled from a counter on.
use Rattle.std.specs.Prelude.{ℕ, ◌+◌, ◌++◌, List, [], ◌∷◌, length, Option, Some, None, if◌then◌else◌, is_some}
use Rattle.std.specs.Str.{bytes_eq}
use Rattle.iri_ref.specs.Parts.{is_well_formed}
use Rattle.ld_model.specs.Keys.{id_key, value_key}
use Rattle.ld_model.specs.Label.{is_blank, label_of}
use Rattle.ld_model.specs.Tree.{Tree, Trees, Members, Pairs, text, array, object, no_trees, tree, no_members, member, tree_list, member_list, member_at}
use Rattle.node_model.specs.Keys.{type_key, list_key}
use Rattle.rdf_terms.specs.declared.term.Term.{Term}
use Rattle.rdf_terms.specs.declared.term.Term.TheVariants.{Iri, Blank}
use Rattle.rdf_terms.specs.declared.term.Quad.{Quad}
use Rattle.rdf_model.specs.Literal.{literal}
use Rattle.rdf_model.specs.SameQuad.{distinct}
use Rattle.rdf_model.specs.Vocabulary.{rdf_type, rdf_first, rdf_rest, rdf_nil}

-- ---- terms

-- The node of this name: a blank node by its label, or a well-formed IRI. Any other name names nothing.
abbrev pub node_term : List ℕ → Option Term
node_term s = if is_blank s then Some (Blank s) else (if is_well_formed s then Some (Iri s) else None)

abbrev pub node_of : Option Tree → Option Term
node_of (Some (text s)) = node_term s
node_of _ = None

-- What a map that is no list object stands for: a literal where it has a value, or else a node (section 8.4.2).
abbrev pub term_of : Pairs → Option Term
term_of ms = if is_some (member_at value_key ms) then literal ms else node_of (member_at id_key ms)

-- ---- quads

-- A statement with this subject, predicate, object and graph.
abbrev pub quad : Option Term → Term → Term → Term → Quad
quad g s p o = record { subject = s; predicate = p; object = o; graph = g }

-- The statement with this object, where there is one.
abbrev pub stated : Option Term → Term → Term → Option Term → List Quad
stated graph subject predicate None = []
stated graph subject predicate (Some o) = quad graph subject predicate o ∷ []

-- The number of the next label, and what was said.
pub record Said : Type 0 where
  pub next : ℕ
  pub quads : List Quad

-- The object that a value is, if it is one, with what is said of its list.
pub record Object : Type 0 where
  pub object : Option Term
  pub next : ℕ
  pub quads : List Quad

-- This, and then what is said from there on.
abbrev pub then_said : List Quad → Said → Said
then_said before more = record { next = more.next; quads = before ++ more.quads }

-- ---- lists (section 8.4.3, List to RDF Conversion)

-- The cell with this number.
abbrev pub cell : ℕ → Term
cell number = Blank (label_of number)

-- The cell behind this one, or the end of the list.
abbrev pub behind : ℕ → Trees → Term
behind number no_trees = rdf_nil
behind number (tree _ _) = cell (number + 1)

-- The object of a list: its first cell, or the empty list.
abbrev pub list_term : ℕ → Trees → Term
list_term number no_trees = rdf_nil
list_term number (tree _ _) = cell number

-- What is said of a cell, with the list of its item behind it.
abbrev pub cell_quads : Option Term → ℕ → Trees → Object → List Quad
cell_quads graph number rest item = stated graph (cell number) rdf_first item.object ++ quad graph (cell number) rdf_rest (behind number rest) ∷ item.quads

abbrev pub object_only : ℕ → Option Term → Object
object_only next term = record { object = term; next = next; quads = [] }

abbrev pub list_object : ℕ → Trees → Said → Object
list_object number ts said = record { object = Some (list_term number ts); next = said.next; quads = said.quads }

abbrev mutual
  -- A value, with the list that it may have (section 8.4.2). The cells of a list are labelled before what stands in them.
  pub object_of : Option Term → ℕ → Tree → Object
  object_of graph next (object (member k (array ts) no_members)) = if bytes_eq k list_key then list_object next ts (cells graph next (next + length (tree_list ts)) ts) else object_only next (term_of ((k, array ts) ∷ []))
  object_of graph next (object ms) = object_only next (term_of (member_list ms))
  object_of graph next _ = object_only next None

  -- The cells of a list from this number on, where `next` is the number of the next label.
  pub cells : Option Term → ℕ → ℕ → Trees → Said
  cells graph number next no_trees = record { next = next; quads = [] }
  cells graph number next (tree t ts) =
      let item = object_of graph next t in
      then_said (cell_quads graph number ts item) (cells graph (number + 1) item.next ts)

-- ---- nodes

-- The values of a property.
abbrev pub values : Option Term → Term → Term → ℕ → Trees → Said
values graph subject predicate next no_trees = record { next = next; quads = [] }
values graph subject predicate next (tree t ts) =
    let value = object_of graph next t in
    then_said (stated graph subject predicate value.object ++ value.quads) (values graph subject predicate value.next ts)

-- The types of a node (section 8.1, step 1.3.2.1).
abbrev pub types : Option Term → Term → Trees → List Quad
types graph subject no_trees = []
types graph subject (tree t ts) = stated graph subject rdf_type (node_of (Some t)) ++ types graph subject ts

-- An entry of a node: its types, or a property. Other keywords, blank properties and those that aren't well-formed say nothing.
abbrev pub entry : Option Term → Term → ℕ → List ℕ → Tree → Said
entry graph subject next k (array ts) = if bytes_eq k type_key then record { next = next; quads = types graph subject ts } else (if is_well_formed k then values graph subject (Iri k) next ts else record { next = next; quads = [] })
entry graph subject next k _ = record { next = next; quads = [] }

abbrev pub entries : Option Term → Term → ℕ → Members → Said
entries graph subject next no_members = record { next = next; quads = [] }
entries graph subject next (member k t ms) =
    let said = entry graph subject next k t in
    then_said said.quads (entries graph subject said.next ms)

-- What is said once.
abbrev pub once : Said → Said
once said = record { next = said.next; quads = distinct said.quads }

-- What a node of a graph says: nothing where its id names nothing. A statement that it has made already is made once.
abbrev pub node : Option Term → Option Term → ℕ → Tree → Said
node graph (Some subject) next (object ms) = once (entries graph subject next ms)
node graph _ next _ = record { next = next; quads = [] }
