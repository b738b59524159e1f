-- The names in a node map: of its graphs, of nodes, types and properties, and of nodes that are referred to.
use Rattle.std.specs.Prelude.{ℕ, ◌≡◌, ◌<◌, List, [], ◌∷◌, ◌++◌, if◌then◌else◌, true, Some}
use Rattle.std.specs.Str.{bytes_eq}
use Rattle.std.specs.List.{flat_map}
use Rattle.ld_model.specs.Tree.{Tree, Trees, Members, Pairs, text, array, object, no_trees, tree, no_members, member, member_list}
use Rattle.ld_model.specs.Keys.{id_key}
use Rattle.ld_model.specs.Label.{is_blank, label_of}
use Rattle.ctx_types.specs.Expansion.{is_keyword}
use Rattle.node_model.specs.Keys.{type_key, list_key}
use Rattle.node_model.specs.Walk.{texts_of}

-- In an entry of a property: the id of a reference, and those in a list. A value has none.
abbrev mutual
  pub entry_names : Tree → List (List ℕ)
  entry_names (object ms) = lone_names ms
  entry_names _ = []

  pub lone_names : Members → List (List ℕ)
  lone_names (member k t no_members) = if bytes_eq k id_key then text_names t else (if bytes_eq k list_key then list_names t else [])
  lone_names _ = []

  pub text_names : Tree → List (List ℕ)
  text_names (text s) = s ∷ []
  text_names _ = []

  pub list_names : Tree → List (List ℕ)
  list_names (array es) = entries_names es
  list_names _ = []

  pub entries_names : Trees → List (List ℕ)
  entries_names no_trees = []
  entries_names (tree e es) = entry_names e ++ entries_names es

-- In a member of a node: its types, or a property with its entries.
abbrev pub member_names : List ℕ × Tree → List (List ℕ)
member_names m = if bytes_eq m.0 type_key then texts_of (Some m.1) else (if is_keyword m.0 then [] else (m.0 ∷ list_names m.1))

abbrev pub node_names : List ℕ × Tree → List (List ℕ)
node_names (id, object ms) = id ∷ flat_map member_names (member_list ms)
node_names (id, _) = id ∷ []

abbrev pub graph_names : List ℕ × Tree → List (List ℕ)
graph_names (name, object nodes) = name ∷ flat_map node_names (member_list nodes)
graph_names (name, _) = name ∷ []

abbrev pub names_in : Pairs → List (List ℕ)
names_in graphs = flat_map graph_names graphs

-- Where this is the name of a blank node, it is a label with a number below this count.
abbrev pub IsIssued : ℕ → List ℕ → Type 0
IsIssued count s = is_blank s ≡ true → (n : ℕ) × (n < count) × (s ≡ label_of n)
