-- The operations of a chunk of a document: node map generation's traversal (JSON-LD 1.1 API, section 7.2), with steps that note
-- operations. What is noted depends on the chunk and its number alone.
use Rattle.std.specs.Prelude.{ℕ, ◌+◌, List, [], ◌∷◌, ◌++◌, Bool, true, false, not, if◌then◌else◌, Option, Some, None}
use Rattle.ld_model.specs.Tree.{Tree, array, trees_of}
use Rattle.ld_model.specs.Label.{is_blank}
use Rattle.ld_model.specs.Keys.{default_graph}
use Rattle.node_model.specs.Walk.{Steps, To, nowhere, under, reverse, walk}
use Rattle.op_model.specs.Names.{Name, iri, source, fresh, name_of}
use Rattle.op_model.specs.Ops.{Entry, value, reference, list, entries_of, Op, use_label, ensure_graph, ensure_node, ensure_property, add_entry, append_list, add_type, set_index}

-- The number of the chunk, how many nodes without an id it has had so far, and the operations so far.
pub record Notes : Type 0 where
  pub chunk : ℕ
  pub unnamed : ℕ
  pub ops : List Op

abbrev pub note : Op → Notes → Notes
note o n = record { chunk = n.chunk; unnamed = n.unnamed; ops = n.ops ++ o ∷ [] }

-- A node by its id, or else one with a fresh name.
abbrev pub note_node : Name → Option (List ℕ) → Notes → Name × Notes
note_node g (Some s) n = (name_of s, note (ensure_node g (name_of s)) n)
note_node g None n =
    let name = fresh n.chunk n.unnamed in
    (name, record { chunk = n.chunk; unnamed = n.unnamed + 1; ops = n.ops ++ ensure_node g name ∷ [] })

abbrev pub noting : Steps Notes Name Entry
noting = record {
  named = λ s n. (name_of s, if is_blank s then note (use_label (source s)) n else n);
  node = note_node;
  property = λ g id s n. (name_of s, note (ensure_property g id (name_of s)) n);
  graph = λ g. note (ensure_graph g);
  value = value;
  reference = reference;
  list = λ es. list (entries_of es);
  add = λ g id p e. note (add_entry g id p e);
  append = λ g id p es. note (append_list g id p (entries_of es));
  type_ = λ g id t. note (add_type g id t);
  index = λ g id i. note (set_index g id i);
}

-- Part of a document: operations that are given as they are, or items of an array as they stand in a graph. The array stands under a
-- property of a subject, perhaps as that of a reverse property, or nowhere, as the items of the document do.
pub data Chunk : Type 0 where
  spine : (ops : List Op) → Chunk
  range : (items : List Tree) (graph : Name) (subject property : Option Name) (reversed : Bool) → Chunk

abbrev pub place_of_items : Option Name → Option Name → Bool → To Name
place_of_items (Some n) (Some p) true = reverse n p
place_of_items (Some n) (Some p) false = under n p
place_of_items _ _ _ = nowhere

-- A range has a subject exactly where it has a property, and only then may it be a reverse property's.
abbrev pub is_placed : Chunk → Bool
is_placed (range items graph (Some n) (Some p) reversed) = true
is_placed (range items graph None None reversed) = not reversed
is_placed (range items graph _ _ reversed) = false
is_placed (spine os) = true

-- Items of the document's own array.
abbrev pub top_range : List Tree → Chunk
top_range items = range items (iri default_graph) None None false

-- Before the first step of a chunk.
abbrev pub no_notes : ℕ → Notes
no_notes number = record { chunk = number; unnamed = 0; ops = [] }

-- The operations of the chunk with this number.
abbrev pub ops_of : ℕ → Chunk → List Op
ops_of number (spine os) = os
ops_of number (range items graph subject property reversed) =
    (walk noting graph (place_of_items subject property reversed) (array (trees_of items)) (record { state = no_notes number; items = [] })).state.ops

-- The operations of chunks one after another, which are numbered from this number on.
abbrev pub ops_of_chunks : ℕ → List Chunk → List Op
ops_of_chunks number [] = []
ops_of_chunks number (c ∷ cs) = ops_of number c ++ ops_of_chunks (number + 1) cs
