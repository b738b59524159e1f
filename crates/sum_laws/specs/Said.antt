-- What operations say of graphs and nodes, read off the operations themselves, and that this is what their sum has.
use Rattle.std.specs.Prelude.{ℕ, ◌≡◌, ◌↔◌, List, [], ◌∷◌, Bool, not, ◌&&◌, if◌then◌else◌, Option, Some, None, filter, flat_map, find}
use Rattle.std.specs.List.{IsDistinct}
use Rattle.std.specs.Map.{keys_of}
use Rattle.std.specs.Str.{bytes_eq}
use Rattle.op_model.specs.Names.{Name, same_name}
use Rattle.op_model.specs.Ops.{Entry, list, Op, use_label, ensure_graph, ensure_node, ensure_property, add_entry, append_list, add_type, set_index}
use Rattle.sum_model.specs.Joins.{value_at}
use Rattle.sum_model.specs.Sums.{Place, Placed, Key, same_key, same_entry, Index, PartEntry, bare, Sum, sum}

-- The list without what is the same as something before it.
abbrev pub once : {X : Type 0} → (X → X → Bool) → List X → List X
once same [] = []
once same (x ∷ xs) = x ∷ filter (λ y. not (same x y)) (once same xs)

-- This one, where the test holds.
abbrev pub only : {X : Type 0} → Bool → X → List X
only holds x = if holds then x ∷ [] else []

-- The graph that an operation names.
abbrev pub graph_named : Op → List Name
graph_named (ensure_graph g) = g ∷ []
graph_named _ = []

-- The node that it is about.
abbrev pub node_named : Op → List Key
node_named (use_label name) = []
node_named (ensure_graph g) = []
node_named (ensure_node g n) = (g, n) ∷ []
node_named (ensure_property g n p) = (g, n) ∷ []
node_named (add_entry g n p e) = (g, n) ∷ []
node_named (append_list g n p es) = (g, n) ∷ []
node_named (add_type g n t) = (g, n) ∷ []
node_named (set_index g n i) = (g, n) ∷ []

-- The type that it adds to this node.
abbrev pub type_added : Key → Op → List Name
type_added k (add_type g n t) = only (same_key k (g, n)) t
type_added k _ = []

-- The property of this node that it names.
abbrev pub property_named : Key → Op → List Name
property_named k (ensure_property g n p) = only (same_key k (g, n)) p
property_named k (add_entry g n p e) = only (same_key k (g, n)) p
property_named k (append_list g n p es) = only (same_key k (g, n)) p
property_named k _ = []

-- The entry that it adds under this property of this node.
abbrev pub entry_added : Key → Name → Op → List Entry
entry_added k q (add_entry g n p e) = only (same_key k (g, n) && same_name q p) e
entry_added k q (append_list g n p es) = only (same_key k (g, n) && same_name q p) (list es)
entry_added k q _ = []

-- The index that it sets at this node, with its place.
abbrev pub index_set : Key → Placed → List (Place × List ℕ)
index_set k (at, set_index g n i) = only (same_key k (g, n)) (at, i)
index_set k _ = []

-- What operations say one after another.
abbrev pub said : {X : Type 0} → (Op → List X) → List Placed → List X
said by os = flat_map (λ o. by o.1) os

-- The first of these indexes, and the first of the others that is different.
abbrev pub index_of : List (Place × List ℕ) → Option Index
index_of [] = None
index_of (x ∷ xs) = Some (record { place = x.0; text = x.1; conflict = find (λ y. not (bytes_eq x.1 y.1)) xs })

-- What a sum has at a node.
abbrev pub at_key : Key → Sum → PartEntry
at_key k s = value_at same_key bare k s.nodes

abbrev pub under_property : Key → Name → Sum → List Entry
under_property k p s = value_at same_name [] p (at_key k s).properties

-- The sum has what the operations say, and has it in the order in which they say it first: the graphs and the nodes that they name, and
-- at each node the types and the properties, each once; under each property the entries, of which values and references stand once; and
-- the index that was set first, with the first different one.
abbrev pub GraphsAreSaid : List Placed → Sum → Type 0
GraphsAreSaid os s = s.graphs ≡ once same_name (said graph_named os)

abbrev pub NodesAreSaid : List Placed → Sum → Type 0
NodesAreSaid os s = keys_of s.nodes ≡ once same_key (said node_named os)

abbrev pub TypesAreSaid : List Placed → Sum → Type 0
TypesAreSaid os s = (k : Key) → (at_key k s).types ≡ once same_name (said (type_added k) os)

abbrev pub PropertiesAreSaid : List Placed → Sum → Type 0
PropertiesAreSaid os s = (k : Key) → keys_of (at_key k s).properties ≡ once same_name (said (property_named k) os)

abbrev pub EntriesAreSaid : List Placed → Sum → Type 0
EntriesAreSaid os s = (k : Key) (p : Name) → under_property k p s ≡ once same_entry (said (entry_added k p) os)

abbrev pub IndexesAreSaid : List Placed → Sum → Type 0
IndexesAreSaid os s = (k : Key) → (at_key k s).index ≡ index_of (flat_map (index_set k) os)

pub record IsSaid (os : List Placed) (s : Sum) : Type 0 where
  pub graphs : GraphsAreSaid os s
  pub nodes : NodesAreSaid os s
  pub types : TypesAreSaid os s
  pub properties : PropertiesAreSaid os s
  pub entries : EntriesAreSaid os s
  pub indexes : IndexesAreSaid os s

-- A relation of operations to a sum, which each list of operations has to its own.
abbrev pub OfEachSum : (List Placed → Sum → Type 0) → Type 0
OfEachSum Is = (os : List Placed) → Is os (sum os)

-- No graph and no node stands twice, nor does a type, a property, or an entry that is no list at a node.
pub record HasNoRepeats (s : Sum) : Type 0 where
  pub graphs : IsDistinct same_name s.graphs
  pub nodes : IsDistinct same_key (keys_of s.nodes)
  pub types : (k : Key) → IsDistinct same_name (at_key k s).types
  pub properties : (k : Key) → IsDistinct same_name (keys_of (at_key k s).properties)
  pub entries : (k : Key) (p : Name) → IsDistinct same_entry (under_property k p s)

abbrev pub NothingStandsTwice : Type 0
NothingStandsTwice = (os : List Placed) → HasNoRepeats (sum os)

-- The sum of any operations has what they say, and no other value has just that.
abbrev pub TheSumIsWhatIsSaid : Type 0
TheSumIsWhatIsSaid = (os : List Placed) (s : Sum) → IsSaid os s ↔ (s ≡ sum os)
