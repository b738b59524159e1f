-- The form that each node map has.
use Rattle.std.specs.Prelude.{ℕ, ◌≡◌, List, [], ◌∷◌, Bool, true, false, ◌&&◌, ◌||◌, not, if◌then◌else◌, is_some}
use Rattle.std.specs.Str.{bytes_eq}
use Rattle.std.specs.List.{list_all}
use Rattle.ld_model.specs.Tree.{Tree, Trees, Members, Pairs, text, array, object, no_trees, tree, no_members, member, tree_list, member_list, member_at}
use Rattle.ld_model.specs.Keys.{id_key, value_key, default_graph}
use Rattle.ctx_types.specs.Expansion.{is_keyword}
use Rattle.node_model.specs.Keys.{type_key, list_key, index_key}

abbrev pub is_text : Tree → Bool
is_text (text s) = true
is_text _ = false

abbrev pub are_texts : Tree → Bool
are_texts (array ts) = list_all is_text (tree_list ts)
are_texts _ = false

-- An entry of a property: a value object, a reference, or a list of entries.
abbrev mutual
  pub is_entry : Tree → Bool
  is_entry (object ms) = is_some (member_at value_key (member_list ms)) || is_lone ms
  is_entry _ = false

  pub is_lone : Members → Bool
  is_lone (member k t no_members) = (bytes_eq k id_key && is_text t) || (bytes_eq k list_key && is_list t)
  is_lone _ = false

  pub is_list : Tree → Bool
  is_list (array ts) = are_entries ts
  is_list _ = false

  pub are_entries : Trees → Bool
  are_entries no_trees = true
  are_entries (tree t ts) = is_entry t && are_entries ts

-- The entry of a node at this key.
abbrev pub is_node_entry : List ℕ → List ℕ × Tree → Bool
is_node_entry id (k, text s) = (bytes_eq k id_key && bytes_eq s id) || bytes_eq k index_key
is_node_entry id (k, array ts) = if bytes_eq k type_key then are_texts (array ts) else (not (is_keyword k) && are_entries ts)
is_node_entry id _ = false

abbrev pub is_node : List ℕ × Tree → Bool
is_node (id, object ms) = is_some (member_at id_key (member_list ms)) && list_all (is_node_entry id) (member_list ms)
is_node _ = false

abbrev pub is_graph : List ℕ × Tree → Bool
is_graph (name, object nodes) = list_all is_node (member_list nodes)
is_graph _ = false

-- The default graph is there; each graph is a map from ids to nodes; each node is a map with its id, perhaps with texts at `@type` and a
-- text at `@index`, and for the rest with entries under properties, none of which is a keyword.
abbrev pub has_due_form : Pairs → Bool
has_due_form graphs = is_some (member_at default_graph graphs) && list_all is_graph graphs
