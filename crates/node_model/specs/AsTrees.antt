-- The node map as JSON: a map from names of graphs to maps from ids to nodes, each a map of its entries.
use Rattle.std.specs.Prelude.{ℕ, List, [], ◌∷◌, Option, Some, None, map as each}
use Rattle.ld_model.specs.Tree.{Tree, Pairs, text, array, object, trees_of, members_of, put}
use Rattle.ld_model.specs.Keys.{id_key}
use Rattle.node_model.specs.Keys.{type_key, index_key}
use Rattle.node_model.specs.Maps.{MapOf}
use Rattle.node_model.specs.NodeMap.{Node, Graph, Graphs}

abbrev pub index_put : Option (List ℕ) → Pairs → Pairs
index_put (Some i) ms = put index_key (text i) ms
index_put None ms = ms

-- A node that no type was stated of has no `@type`.
abbrev pub types_put : List (List ℕ) → Pairs → Pairs
types_put [] ms = ms
types_put (t ∷ ts) ms = put type_key (array (trees_of (each text (t ∷ ts)))) ms

-- A property is there also where it has no entries.
abbrev pub properties_put : MapOf (List Tree) → Pairs → Pairs
properties_put [] ms = ms
properties_put (p ∷ ps) ms = properties_put ps (put p.0 (array (trees_of p.1)) ms)

abbrev pub node_members : List ℕ → Node → Pairs
node_members id n = properties_put n.properties (types_put n.types (index_put n.index ((id_key, text id) ∷ [])))

abbrev pub node_pair : List ℕ × Node → List ℕ × Tree
node_pair e = (e.0, object (members_of (node_members e.0 e.1)))

abbrev pub graph_pair : List ℕ × Graph → List ℕ × Tree
graph_pair e = (e.0, object (members_of (each node_pair e.1)))

abbrev pub graph_pairs : Graphs → Pairs
graph_pairs graphs = each graph_pair graphs
