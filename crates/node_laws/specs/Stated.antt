-- What a document states, in the order of the walk, by the names that the node map has; and what it is for a node map to have that and
-- nothing else.
use Rattle.std.specs.Prelude.{ℕ, ◌≡◌, List, [], ◌∷◌, ◌++◌, Bool, false, ◌&&◌, ◌||◌, not, if◌then◌else◌, Option, Some, None, is_some, filter}
use Rattle.std.specs.Option.{option_map}
use Rattle.std.specs.Str.{bytes_eq}
use Rattle.std.specs.List.{list_any, flat_map}
use Rattle.ld_model.specs.Tree.{Tree, Pairs, text, array, object, trees_of, tree_list, member_list, member_at, is_empty, same_tree}
use Rattle.ld_model.specs.Keys.{default_graph}
use Rattle.ld_model.specs.NodeMap.{reference}
use Rattle.ctx_types.specs.Expansion.{is_keyword}
use Rattle.node_model.specs.Keys.{type_key, index_key}
use Rattle.node_model.specs.Labels.{Labels, no_labels, named, id_or_new}
use Rattle.node_model.specs.NodeMap.{Conflict, list_object, is_list_object}
use Rattle.node_model.specs.Walk.{Steps, nowhere, walk, texts_of}

-- What is said of a node: that it is there; that it has a property, perhaps with no entry; an entry of a property; a type; an index.
pub data Said : Type 0 where
  it_is : Said
  a_property : (property : List ℕ) → Said
  an_entry : (property : List ℕ) (entry : Tree) → Said
  a_type : (name : List ℕ) → Said
  an_index : (index : List ℕ) → Said

-- A statement: that there is a graph, or what is said of a node in a graph.
pub data Statement : Type 0 where
  of_graph : (graph : List ℕ) → Statement
  of_node : (graph node : List ℕ) (said : Said) → Statement

-- The labels issued so far, and the statements so far.
pub record Stating : Type 0 where
  pub labels : Labels
  pub stated : List Statement

abbrev pub saying : Statement → Stating → Stating
saying x s = record { labels = s.labels; stated = s.stated ++ x ∷ [] }

-- A name for which a label may have been issued, and what is stated once it is.
abbrev pub saying_by : (List ℕ → List Statement → List Statement) → Stating → List ℕ × Labels → List ℕ × Stating
saying_by more s name = (name.0, record { labels = name.1; stated = more name.0 s.stated })

-- The steps that note statements.
abbrev pub stating : Steps Stating (List ℕ) Tree
stating = record {
  named = λ text s. saying_by (λ name stated. stated) s (named text s.labels);
  node = λ g id s. saying_by (λ name stated. stated ++ of_node g name it_is ∷ []) s (id_or_new id s.labels);
  property = λ g id text s. saying_by (λ name stated. stated ++ of_node g id (a_property name) ∷ []) s (named text s.labels);
  graph = λ g. saying (of_graph g);
  value = λ t. t;
  reference = reference;
  list = list_object;
  add = λ g id property e. saying (of_node g id (an_entry property e));
  append = λ g id property es. saying (of_node g id (an_entry property (list_object es)));
  type_ = λ g id name. saying (of_node g id (a_type name));
  index = λ g id index. saying (of_node g id (an_index index));
}

-- The statements of a document.
abbrev pub stated_in : List Tree → List Statement
stated_in ts = (walk stating default_graph nowhere (array (trees_of ts)) (record { state = record { labels = no_labels; stated = [] }; items = [] })).state.stated

abbrev pub is_of_graph : List ℕ → Statement → Bool
is_of_graph g (of_graph h) = bytes_eq g h
is_of_graph g (of_node h id said) = bytes_eq g h

-- What is said of this node in this graph.
abbrev pub said_by : List ℕ → List ℕ → Statement → List Said
said_by g id (of_graph h) = []
said_by g id (of_node h k said) = if bytes_eq g h && bytes_eq id k then (said ∷ []) else []

abbrev pub said_of : List ℕ → List ℕ → List Statement → List Said
said_of g id stated = flat_map (said_by g id) stated

abbrev pub types_said : Said → List (List ℕ)
types_said (a_type name) = name ∷ []
types_said _ = []

abbrev pub indexes_said : Said → List (List ℕ)
indexes_said (an_index index) = index ∷ []
indexes_said _ = []

abbrev pub is_of_property : List ℕ → Said → Bool
is_of_property p (a_property q) = bytes_eq p q
is_of_property p (an_entry q e) = bytes_eq p q
is_of_property p _ = false

abbrev pub entries_said : List ℕ → Said → List Tree
entries_said p (an_entry q e) = if bytes_eq p q then (e ∷ []) else []
entries_said p _ = []

-- The first element, if there is one.
abbrev pub first : {X : Type 0} → List X → Option X
first [] = None
first (x ∷ xs) = Some x

-- The elements without those that repeat an earlier one.
abbrev pub once_by : {X : Type 0} → (X → X → Bool) → List X → List X
once_by repeats [] = []
once_by repeats (x ∷ xs) = x ∷ filter (λ y. not (repeats y x)) (once_by repeats xs)

-- A value or a reference repeats an equal one; a list repeats nothing.
abbrev pub repeats_entry : Tree → Tree → Bool
repeats_entry e earlier = not (is_list_object e) && same_tree e earlier

-- An index is in conflict with the first one that was said of the same node in the same graph, if it is another one.
abbrev pub conflict_by : Option (List ℕ) → List ℕ → List ℕ → List Conflict
conflict_by (Some earlier) id index = if bytes_eq earlier index then [] else (record { node = id; first = earlier; second = index } ∷ [])
conflict_by None id index = []

abbrev pub conflict_said : List Said → List ℕ → Said → List Conflict
conflict_said before id (an_index index) = conflict_by (first (flat_map indexes_said before)) id index
conflict_said before id _ = []

abbrev pub conflict_with : List Statement → Statement → List Conflict
conflict_with before (of_node g id said) = conflict_said (said_of g id before) id said
conflict_with before (of_graph g) = []

-- The conflicts of statements with those before them.
abbrev pub conflicts_after : List Statement → List Statement → List Conflict
conflicts_after before [] = []
conflicts_after before (x ∷ xs) = conflict_with before x ++ conflicts_after (before ++ x ∷ []) xs

abbrev pub conflicts_in : List Statement → List Conflict
conflicts_in stated = conflicts_after [] stated

-- The members of an object, the elements of an array, and nothing where there is none.
abbrev pub object_in : Option Tree → Pairs
object_in (Some (object ms)) = member_list ms
object_in _ = []

abbrev pub array_in : Option Tree → List Tree
array_in (Some (array ts)) = tree_list ts
array_in _ = []

-- These members of a node are what is said of it: its types once each, if there are some, its first index, and under each property its entries, without
-- those that repeat an earlier one, in the order in which they are stated first.
pub record IsAsSaid (said : List Said) (ms : Pairs) : Type 0 where
  pub types : texts_of (member_at type_key ms) ≡ once_by bytes_eq (flat_map types_said said)
  pub typed : is_some (member_at type_key ms) ≡ not (is_empty (flat_map types_said said))
  pub index : member_at index_key ms ≡ option_map text (first (flat_map indexes_said said))
  pub property : (p : List ℕ) → is_keyword p ≡ false → is_some (member_at p ms) ≡ list_any (is_of_property p) said
  pub entries : (p : List ℕ) → is_keyword p ≡ false → array_in (member_at p ms) ≡ once_by repeats_entry (flat_map (entries_said p) said)

-- A node map has the default graph and the graphs that are stated, in each the nodes of which something is said, and of each what is said.
pub record IsAsStated (stated : List Statement) (graphs : Pairs) : Type 0 where
  pub graph : (g : List ℕ) → is_some (member_at g graphs) ≡ (bytes_eq g default_graph || list_any (is_of_graph g) stated)
  pub node : (g id : List ℕ) → is_some (member_at id (object_in (member_at g graphs))) ≡ not (is_empty (said_of g id stated))
  pub said : (g id : List ℕ) → IsAsSaid (said_of g id stated) (object_in (member_at id (object_in (member_at g graphs))))
