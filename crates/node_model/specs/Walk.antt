-- Node map generation (JSON-LD 1.1 API, section 7.2): the traversal of an expanded document. What is done on the way is a record of
-- steps, so that one traversal serves whatever is made of it. Entries of a map are taken in the order of their keys' bytes.
--
-- [Ours] These rules are for trees that expansion never gives, or gives only where an index has become another name for a keyword:
-- an element that is neither an array nor a map is passed over, a set object is taken as a node object, and so are keyword entries that
-- the standard doesn't speak of; `@type`, `@graph`, `@included`, `@list` and the values of properties may be without their array; an `@id`,
-- `@index` or type that is no text, a `@reverse` that is no map, and a keyword as a key of `@reverse` are passed over.
use Rattle.std.specs.Prelude.{ℕ, List, [], ◌∷◌, ◌++◌, Bool, true, false, if◌then◌else◌, Option, Some, None, is_some}
use Rattle.std.specs.Str.{bytes_eq}
use Rattle.ld_model.specs.Tree.{Tree, Trees, Members, text, array, object, no_trees, tree, no_members, member, member_list, member_at}
use Rattle.ld_model.specs.Keys.{id_key, value_key, graph_key}
use Rattle.ctx_types.specs.Expansion.{is_keyword}
use Rattle.node_model.specs.Keys.{type_key, list_key, index_key, reverse_key, included_key}

-- The steps. `S` is the state that they hand on, `N` the name of a node, a graph or a property, `E` an entry of a property.
pub record Steps (S N E : Type 0) : Type 0 where
  -- a name of the document; the label of a blank node is replaced (section 7.4), an IRI stays
  pub named : List ℕ → S → N × S
  -- a node of this graph: by the id that it has in the document, or else with a new label (steps 6.1 to 6.4)
  pub node : N → Option (List ℕ) → S → N × S
  -- a property of a node of a graph, by its name in the document; its array is made where there is none (steps 6.12.1 and 6.12.2)
  pub property : N → N → List ℕ → S → N × S
  -- a graph (step 6.10)
  pub graph : N → S → S
  -- a value, a reference to a node and a list, as entries
  pub value : Tree → E
  pub reference : N → E
  pub list : List E → E
  -- in this graph, of this node, under this property: an entry, unless an equal one is there (steps 4.1.2, 6.5.2 and 6.6.2.2)
  pub add : N → N → N → E → S → S
  -- likewise a list, whatever is there (step 5.3)
  pub append : N → N → N → List E → S → S
  -- in this graph, of this node: a type, unless it is there (step 6.7), and an index (step 6.8)
  pub type_ : N → N → N → S → S
  pub index : N → N → List ℕ → S → S

-- Where an element goes: nowhere, since there is no active subject; under a property of the active subject; into a list; or it is a
-- node, reached by a reverse property, that gets this property with a reference to the active subject.
pub data To (N : Type 0) : Type 0 where
  nowhere : To N
  under : (subject property : N) → To N
  in_list : To N
  reverse : (subject property : N) → To N

-- The state, and what the list under way has so far.
pub record At (S E : Type 0) : Type 0 where
  pub state : S
  pub items : List E

-- What is at a key of a map.
abbrev pub has_key : List ℕ → Members → Bool
has_key k ms = is_some (member_at k (member_list ms))

abbrev pub text_in : Option Tree → Option (List ℕ)
text_in (Some (text s)) = Some s
text_in _ = None

abbrev pub text_at : List ℕ → Members → Option (List ℕ)
text_at k ms = text_in (member_at k (member_list ms))

abbrev pub texts_in : Trees → List (List ℕ)
texts_in no_trees = []
texts_in (tree (text s) ts) = s ∷ texts_in ts
texts_in (tree t ts) = texts_in ts

abbrev pub texts_of : Option Tree → List (List ℕ)
texts_of (Some (array ts)) = texts_in ts
texts_of (Some (text s)) = s ∷ []
texts_of _ = []

abbrev pub types_in : Members → List (List ℕ)
types_in ms = texts_of (member_at type_key (member_list ms))

-- A value or a list can go there. [Ours: elsewhere it is skipped whole, and what stands in a list too.]
abbrev pub takes_values : {N : Type 0} → To N → Bool
takes_values (under n q) = true
takes_values in_list = true
takes_values _ = false

module _ {S N E : Type 0} (p : Steps S N E) (g : N) where
  -- A value goes there (step 4).
  abbrev pub value_into : To N → E → At S E → At S E
  value_into (under n q) e w = record { state = p.add g n q e w.state; items = w.items }
  value_into in_list e w = record { state = w.state; items = w.items ++ e ∷ [] }
  value_into _ e w = w

  -- A list whose items were gathered goes there (step 5). Its index is lost.
  abbrev pub list_into : To N → List E → At S E → At S E
  list_into (under n q) es w = record { state = p.append g n q es w.state; items = w.items }
  list_into in_list es w = record { state = w.state; items = w.items ++ p.list es ∷ [] }
  list_into _ es w = w

  -- A node goes there (steps 6.5 and 6.6).
  abbrev pub node_into : To N → N → At S E → At S E
  node_into nowhere id w = w
  node_into (under n q) id w = record { state = p.add g n q (p.reference id) w.state; items = w.items }
  node_into in_list id w = record { state = w.state; items = w.items ++ p.reference id ∷ [] }
  node_into (reverse n q) id w = record { state = p.add g id q (p.reference n) w.state; items = w.items }

  abbrev pub types_into : N → List N → S → S
  types_into id [] s = s
  types_into id (t ∷ ts) s = types_into id ts (p.type_ g id t s)

  abbrev pub index_into : N → Option (List ℕ) → S → S
  index_into id (Some i) s = p.index g id i s
  index_into id None s = s

-- Names of the document, one after another.
abbrev pub names : {S N E : Type 0} → Steps S N E → List (List ℕ) → S → List N × S
names p [] s = ([], s)
names p (t ∷ ts) s = let first = p.named t s in let rest = names p ts first.1 in (first.0 ∷ rest.0, rest.1)

-- A node object, before what stands in it: its types' names, its id, the reference to it, its types, its index (steps 3 and 6.1 to 6.8).
abbrev pub entered : {S N E : Type 0} → Steps S N E → N → To N → Members → At S E → N × At S E
entered p g to ms w =
    let types = names p (types_in ms) w.state in
    let id = p.node g (text_at id_key ms) types.1 in
    let there = node_into p g to id.0 (record { state = id.1; items = w.items }) in
    let typed = types_into p g id.0 types.0 there.state in
    (id.0, record { state = index_into p g id.0 (text_at index_key ms) typed; items = there.items })

-- A graph is made also where its array is empty. [Ours]
abbrev pub with_graph : {S N E : Type 0} → Steps S N E → N → Members → At S E → At S E
with_graph p id ms w = record { state = if has_key graph_key ms then p.graph id w.state else w.state; items = w.items }

-- A name that a step made, and the state after it; the list under way stays.
abbrev pub held : {S N E : Type 0} → At S E → N × S → N × At S E
held w made = (made.0, record { state = made.1; items = w.items })

-- A list goes where its object goes, behind what was gathered before it.
abbrev pub list_held : {S N E : Type 0} → Steps S N E → N → To N → At S E → At S E → At S E
list_held p g to w inner = list_into p g to inner.items (record { state = inner.state; items = w.items })

abbrev mutual
  -- An element of the active graph (steps 1 to 6). A map with both `@value` and `@list` is a value object. [Ours]
  pub walk : {S N E : Type 0} → Steps S N E → N → To N → Tree → At S E → At S E
  walk p g to (array ts) w = walk_all p g to ts w
  walk p g to (object ms) w =
      if has_key value_key ms then value_into p g to (p.value (object ms)) w
      else if has_key list_key ms then
      (if takes_values to then list_held p g to w (walk_at p g in_list list_key ms (record { state = w.state; items = [] })) else w)
      else
      let node = entered p g to ms w in
      let turned = walk_reverse p g node.0 ms node.1 in
      let inside = walk_at p node.0 nowhere graph_key ms (with_graph p node.0 ms turned) in
      let included = walk_at p g nowhere included_key ms inside in
      walk_properties p g node.0 ms included
  walk p g to t w = w

  -- The items of an array (step 1).
  pub walk_all : {S N E : Type 0} → Steps S N E → N → To N → Trees → At S E → At S E
  walk_all p g to no_trees w = w
  walk_all p g to (tree t ts) w = walk_all p g to ts (walk p g to t w)

  -- What is at this key (steps 5.2, 6.10 and 6.11).
  pub walk_at : {S N E : Type 0} → Steps S N E → N → To N → List ℕ → Members → At S E → At S E
  walk_at p g to key no_members w = w
  walk_at p g to key (member k t ms) w = if bytes_eq k key then walk p g to t w else walk_at p g to key ms w

  -- The reverse properties of a node (step 6.9). The label of a blank one is replaced. [Ours]
  pub walk_reverse : {S N E : Type 0} → Steps S N E → N → N → Members → At S E → At S E
  walk_reverse p g id no_members w = w
  walk_reverse p g id (member k t ms) w = if bytes_eq k reverse_key then walk_reverse_map p g id t w else walk_reverse p g id ms w

  pub walk_reverse_map : {S N E : Type 0} → Steps S N E → N → N → Tree → At S E → At S E
  walk_reverse_map p g id (object ms) w = walk_reverse_properties p g id ms w
  walk_reverse_map p g id t w = w

  pub walk_reverse_properties : {S N E : Type 0} → Steps S N E → N → N → Members → At S E → At S E
  walk_reverse_properties p g id no_members w = w
  walk_reverse_properties p g id (member k t ms) w =
      walk_reverse_properties p g id ms
      (if is_keyword k then w else let q = held w (p.named k w.state) in walk p g (reverse id q.0) t q.1)

  -- The properties of a node: its entries that are no keywords (step 6.12).
  pub walk_properties : {S N E : Type 0} → Steps S N E → N → N → Members → At S E → At S E
  walk_properties p g id no_members w = w
  walk_properties p g id (member k t ms) w =
      walk_properties p g id ms
      (if is_keyword k then w else let q = held w (p.property g id k w.state) in walk p g (under id q.0) t q.1)
