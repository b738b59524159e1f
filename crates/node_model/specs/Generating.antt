-- Node map generation (JSON-LD 1.1 API, section 7.2): the steps that make a node map, and what they make of a document.
use Rattle.std.specs.Prelude.{ℕ, List, [], ◌∷◌, ◌++◌, if◌then◌else◌, Option, Some, None, Result, Ok, Err}
use Rattle.std.specs.Str.{bytes_eq}
use Rattle.ld_model.specs.Tree.{Tree, Pairs, array, trees_of}
use Rattle.ld_model.specs.Keys.{default_graph}
use Rattle.ld_model.specs.NodeMap.{reference}
use Rattle.node_model.specs.Labels.{Labels, no_labels, named, id_or_new}
use Rattle.node_model.specs.NodeMap.{Graphs, Conflict, node_in, graph_in, on_graph, on_node, list_object, told, on_entries, with_type, with_index}
use Rattle.node_model.specs.AsTrees.{graph_pairs}
use Rattle.node_model.specs.Walk.{Steps, nowhere, walk}

-- The node map so far, the labels issued so far, and the first conflict, if there was one.
pub record State : Type 0 where
  pub graphs : Graphs
  pub labels : Labels
  pub conflict : Option Conflict

-- The graphs, changed.
abbrev pub on_graphs : (Graphs → Graphs) → State → State
on_graphs change s = record { graphs = change s.graphs; labels = s.labels; conflict = s.conflict }

-- A name for which a label may have been issued, and the state once the graphs are changed for it.
abbrev pub issued : (List ℕ → Graphs → Graphs) → State → List ℕ × Labels → List ℕ × State
issued change s name = (name.0, record { graphs = change name.0 s.graphs; labels = name.1; conflict = s.conflict })

-- The earlier conflict stays.
abbrev pub or_conflict : Option Conflict → Conflict → Option Conflict
or_conflict (Some c) later = Some c
or_conflict None later = Some later

-- An index of a node that has this one: a different one is a conflict (step 6.8).
abbrev pub index_by : Option (List ℕ) → List ℕ → List ℕ → List ℕ → State → State
index_by None g id index s = on_graphs (on_node g id (with_index index)) s
index_by (Some first) g id index s =
    if bytes_eq first index then s
    else record { graphs = s.graphs; labels = s.labels; conflict = or_conflict s.conflict (record { node = id; first = first; second = index }) }

abbrev pub index_set : List ℕ → List ℕ → List ℕ → State → State
index_set g id index s = index_by (node_in id (graph_in g s.graphs)).index g id index s

abbrev pub generating : Steps State (List ℕ) Tree
generating = record {
  named = λ text s. issued (λ name graphs. graphs) s (named text s.labels);
  node = λ g id s. issued (λ name. on_node g name (λ n. n)) s (id_or_new id s.labels);
  property = λ g id text s. issued (λ name. on_node g id (on_entries name (λ es. es))) s (named text s.labels);
  graph = λ g. on_graphs (on_graph g (λ nodes. nodes));
  value = λ t. t;
  reference = reference;
  list = list_object;
  add = λ g id property e. on_graphs (on_node g id (on_entries property (told e)));
  append = λ g id property es. on_graphs (on_node g id (on_entries property (told (list_object es))));
  type_ = λ g id name. on_graphs (on_node g id (with_type name));
  index = index_set;
}

-- Before the first element: the default graph, and nothing in it.
abbrev pub empty : State
empty = record { graphs = (default_graph, []) ∷ []; labels = no_labels; conflict = None }

-- The state after the items of a document.
abbrev pub walked : List Tree → State
walked ts = (walk generating default_graph nowhere (array (trees_of ts)) (record { state = empty; items = [] })).state

-- What generation gives: the node map, and how many labels were issued.
pub record Generated : Type 0 where
  pub graphs : Pairs
  pub issued : ℕ

-- The first conflict, or else the node map.
abbrev pub outcome : Option Conflict → State → Result Generated Conflict
outcome (Some c) s = Err c
outcome None s = Ok (record { graphs = graph_pairs s.graphs; issued = s.labels.issued })

abbrev pub generate : List Tree → Result Generated Conflict
generate ts = outcome (walked ts).conflict (walked ts)
