-- A plain document, walked with the steps that generate, gives what the definition for plain documents gives.
use Rattle.std.proofs.Common.{◌≡◌, ℕ, List, [], ◌∷◌, Bool, true, false, ◌&&◌, ◌||◌, if◌then◌else◌, Option, Some, None, is_some, Ok, refl, sym, ap, ◌∙◌, subst}
use Rattle.std.specs.Str.{bytes_eq}
use Rattle.ld_model.specs.Tree.{Tree, Trees, Members, text, array, object, no_trees, tree, no_members, member, trees_of, tree_list, members_of, member_list, member_at}
use Rattle.ld_model.specs.Keys.{id_key, value_key, graph_key, default_graph}
use Rattle.ld_model.specs.Iri.{has_scheme}
use Rattle.ld_model.specs.Label.{Labels as PlainLabels, no_labels as no_plain_labels}
use Rattle.ld_model.specs.NodeMap as plain
use Rattle.ld_model.specs.NodeMap.{reference}
use Rattle.ld_model.specs.Plain.{is_plain_entry, are_plain_entries, is_plain_array, is_plain_member, are_plain_members, is_plain_item, are_plain_items}
use Rattle.ld_model.proofs.Truths.{both}
use Rattle.ld_model.proofs.Puts.{bytes_eq-exact}
use Rattle.flatten_laws.proofs.PlainNames.{named_iri as plain_named_iri, plain_id}
use Rattle.flatten_laws.proofs.NoLabels.{items_keep}
use Rattle.flatten_laws.proofs.Gathering.{property_parts, scheme_of}
use Rattle.ctx_types.specs.Expansion.{is_keyword}
use Rattle.node_model.specs.Keys.{type_key, list_key, index_key, included_key}
use Rattle.node_model.specs.Labels.{Labels, named}
use Rattle.node_model.specs.NodeMap.{on_node, on_entries, told}
use Rattle.node_model.specs.Generating.{State, on_graphs, issued, generating, empty, outcome}
use Rattle.node_model.specs.Walk.{nowhere, under, At, has_key, text_in, texts_of, text_at, types_in, value_into, types_into, index_into, names, entered, with_graph, held, walk, walk_all, walk_at, walk_reverse, walk_properties}
use Rattle.node_laws.specs.Laws.{PlainDocumentsAreACase}
use Rattle.node_laws.proofs.Shape.{no_nodes, told_is}
use Rattle.node_laws.proofs.PlainKeys.{no_keyword, named_iri, missing, nothing_at, nothing_reversed}
use Rattle.node_laws.proofs.PlainMap.{Shows, changed_shows, made_shows}

-- A walk came to these nodes.
abbrev Came : At State Tree → plain.State → Type 0
Came w s = Shows w.state s.nodes

-- A value under a property.
value_shows : (id p k to : List ℕ) (w : At State Tree) (s : plain.State) → k ≡ value_key → is_keyword p ≡ false → Came w s
    → Came (walk generating default_graph (under id p) (object (member k (text to) no_members)) w) (plain.value_into id p (object (member k (text to) no_members)) s)
value_shows id p k to w s key apart came =
    subst (λ k. Came (walk generating default_graph (under id p) (object (member k (text to) no_members)) w) (plain.value_into id p (object (member k (text to) no_members)) s)) (sym key)
    (changed_shows id p (told (object (member value_key (text to) no_members))) w.state s.nodes apart (told_is (object (member value_key (text to) no_members)) refl) came)

-- A reference under a property, by its id as it is issued.
abbrev referred : List ℕ → List ℕ → At State Tree → List ℕ × Labels → At State Tree
referred id p w to =
    let made = issued (λ name. on_node default_graph name (λ n. n)) w.state to in
    record { state = on_graphs (on_node default_graph id (on_entries p (told (reference made.0)))) made.1; items = w.items }

walked_reference : (id p to : List ℕ) (w : At State Tree) → walk generating default_graph (under id p) (object (member id_key (text to) no_members)) w ≡ referred id p w (named to w.state.labels)
walked_reference id p to w = refl

reference_shows : (id p k to : List ℕ) (w : At State Tree) (s : plain.State) → k ≡ id_key → has_scheme to ≡ true → is_keyword p ≡ false → Came w s
    → Came (walk generating default_graph (under id p) (object (member k (text to) no_members)) w) (plain.reference_into id p (plain.named to s.labels) s.nodes)
reference_shows id p k to w s key scheme apart came =
    subst (λ k. Came (walk generating default_graph (under id p) (object (member k (text to) no_members)) w) (plain.reference_into id p (plain.named to s.labels) s.nodes)) (sym key)
    (subst (λ (name : List ℕ × Labels). Came (referred id p w name) (plain.reference_into id p (plain.named to s.labels) s.nodes)) (sym (named_iri to w.state.labels scheme))
    (subst (λ (name : List ℕ × PlainLabels). Came (referred id p w (to, w.state.labels)) (plain.reference_into id p name s.nodes)) (sym (plain_named_iri to s.labels scheme))
    (changed_shows id p (told (reference to)) (on_graphs (on_node default_graph to (λ n. n)) w.state) (plain.with_node to s.nodes) apart (told_is (reference to) refl) (made_shows to w.state s.nodes came))))

value_key_of : (k to : List ℕ) → bytes_eq k id_key ≡ false → (bytes_eq k value_key || (bytes_eq k id_key && has_scheme to)) ≡ true → k ≡ value_key
value_key_of k to apart plain = bytes_eq-exact k value_key (alone (bytes_eq k value_key) (sym (ap (λ b. bytes_eq k value_key || (b && has_scheme to)) apart) ∙ plain))
  where
    alone : (b : Bool) → (b || false) ≡ true → b ≡ true
    alone true is = refl
    alone false is = is

entry_shows : (id p : List ℕ) (e : Tree) (w : At State Tree) (s : plain.State) → is_plain_entry e ≡ true → is_keyword p ≡ false → Came w s → Came (walk generating default_graph (under id p) e w) (plain.entry_into id p e s)
entry_shows id p (object (member k (text to) no_members)) w s plain_is apart came = by_key (bytes_eq k id_key) refl
  where
    by_key : (b : Bool) → bytes_eq k id_key ≡ b → Came (walk generating default_graph (under id p) (object (member k (text to) no_members)) w) (plain.entry_by (if b then Some to else None) id p (object (member k (text to) no_members)) s)
    by_key true same = reference_shows id p k to w s (bytes_eq-exact k id_key same) (scheme_of k to same plain_is) apart came
    by_key false other = value_shows id p k to w s (value_key_of k to other plain_is) apart came
entry_shows id p _ w s plain_is apart came = absurd (cc)

entries_show : (id p : List ℕ) (es : Trees) (w : At State Tree) (s : plain.State) → are_plain_entries (tree_list es) ≡ true → is_keyword p ≡ false → Came w s → Came (walk_all generating default_graph (under id p) es w) (plain.entries_into id p (tree_list es) s)
entries_show id p no_trees w s plain_is apart came = came
entries_show id p (tree e es) w s plain_is apart came =
    let parts = both (is_plain_entry e) (are_plain_entries (tree_list es)) plain_is in
    entries_show id p es (walk generating default_graph (under id p) e w) (plain.entry_into id p e s) parts.1 apart (entry_shows id p e w s parts.0 apart came)

-- A property with its array, by its name as it is issued.
abbrev begun : List ℕ → At State Tree → List ℕ × Labels → List ℕ × At State Tree
begun id w name = held w (issued (λ name. on_node default_graph id (on_entries name (λ es. es))) w.state name)

array_shows : (id k : List ℕ) (t : Tree) (w : At State Tree) (s : plain.State) → is_plain_array t ≡ true → is_keyword k ≡ false → Came w s → Came (walk generating default_graph (under id k) t w) (plain.entries_into id k (plain.entries_of (Some t)) s)
array_shows id k (array es) w s plain_is apart came = entries_show id k es w s plain_is apart came
array_shows id k _ w s plain_is apart came = absurd (cc)

property_shows : (id k : List ℕ) (t : Tree) (w : At State Tree) (s : plain.State) → has_scheme k ≡ true → is_plain_array t ≡ true → Came w s
    → Came (let q = held w (generating.property default_graph id k w.state) in walk generating default_graph (under id q.0) t q.1) (plain.property_into id (k, t) s)
property_shows id k t w s scheme plain_is came =
    subst (λ (name : List ℕ × Labels). Came (walk generating default_graph (under id (begun id w name).0) t (begun id w name).1) (plain.property_into id (k, t) s)) (sym (named_iri k w.state.labels scheme))
    (subst (λ (name : List ℕ × PlainLabels). Came (walk generating default_graph (under id k) t (begun id w (k, w.state.labels)).1) (plain.named_property_into id name (plain.entries_of (Some t)) s.nodes)) (sym (plain_named_iri k s.labels scheme))
    (array_shows id k t (begun id w (k, w.state.labels)).1 (record { nodes = plain.changed id k (λ ts. ts) s.nodes; labels = s.labels }) plain_is (no_keyword k scheme)
    (changed_shows id k (λ es. es) w.state s.nodes (no_keyword k scheme) (λ es all. all) came)))

member_shows : (id k : List ℕ) (t : Tree) (w : At State Tree) (s : plain.State) (b : Bool) → bytes_eq k id_key ≡ b → is_plain_member (k, t) ≡ true → Came w s
    → Came (if is_keyword k then w else let q = held w (generating.property default_graph id k w.state) in walk generating default_graph (under id q.0) t q.1) (if b then s else plain.property_into id (k, t) s)
member_shows id k t w s true same plain_is came =
    subst (λ b. Came (if b then w else let q = held w (generating.property default_graph id k w.state) in walk generating default_graph (under id q.0) t q.1) s) (sym (ap is_keyword (bytes_eq-exact k id_key same))) came
member_shows id k t w s false apart plain_is came =
    let parts = property_parts (k, t) apart plain_is in
    subst (λ b. Came (if b then w else let q = held w (generating.property default_graph id k w.state) in walk generating default_graph (under id q.0) t q.1) (plain.property_into id (k, t) s)) (sym (no_keyword k parts.0))
    (property_shows id k t w s parts.0 parts.1 came)

properties_show : (id : List ℕ) (ms : Members) (w : At State Tree) (s : plain.State) → are_plain_members (member_list ms) ≡ true → Came w s → Came (walk_properties generating default_graph id ms w) (plain.properties_into id (member_list ms) s)
properties_show id no_members w s plain_is came = came
properties_show id (member k t ms) w s plain_is came =
    let parts = both (is_plain_member (k, t)) (are_plain_members (member_list ms)) plain_is in
    properties_show id ms _ _ parts.1 (member_shows id k t w s (bytes_eq k id_key) refl parts.0 came)

-- A node object without types and index, by its id as it is issued.
abbrev entered_as : At State Tree → List (List ℕ) → Option (List ℕ) → Option (List ℕ) → List ℕ × At State Tree
entered_as w type_texts id_text index_text =
    let types = names generating type_texts w.state in
    let id = generating.node default_graph id_text types.1 in
    let typed = types_into generating default_graph id.0 types.0 id.1 in
    (id.0, record { state = index_into generating default_graph id.0 index_text typed; items = w.items })

abbrev made_as : At State Tree → List ℕ × Labels → List ℕ × At State Tree
made_as w name = held w (issued (λ name. on_node default_graph name (λ n. n)) w.state name)

module _ (ms : Members) (w : At State Tree) (plain_is : are_plain_members (member_list ms) ≡ true) (id : List ℕ) (stands : member_at id_key (member_list ms) ≡ Some (text id)) (scheme : has_scheme id ≡ true) where
  no_types : types_in ms ≡ []
  no_types = ap texts_of (missing type_key refl refl ms plain_is)

  no_index : text_at index_key ms ≡ None
  no_index = ap text_in (missing index_key refl refl ms plain_is)

  entered_is : entered generating default_graph nowhere ms w ≡ made_as w (id, w.state.labels)
  entered_is = (λ i. entered_as w (no_types i) (ap text_in stands i) (no_index i)) ∙ ap (made_as w) (named_iri id w.state.labels scheme)

  absent : (key : List ℕ) → has_scheme key ≡ false → bytes_eq key id_key ≡ false → has_key key ms ≡ false
  absent key none other = ap is_some (missing key none other ms plain_is)

  -- What stands in it, but its properties.
  abbrev whole : List ℕ × At State Tree → At State Tree
  whole node =
      let turned = walk_reverse generating default_graph node.0 ms node.1 in
      let inside = walk_at generating node.0 nowhere graph_key ms (with_graph generating node.0 ms turned) in
      let included = walk_at generating default_graph nowhere included_key ms inside in
      walk_properties generating default_graph node.0 ms included

  no_graph : (n : List ℕ) (v : At State Tree) → with_graph generating n ms v ≡ v
  no_graph n v = ap (λ b. record { state = if b then generating.graph n v.state else v.state; items = v.items }) (absent graph_key refl refl)

  properties_alone : (node : List ℕ × At State Tree) → whole node ≡ walk_properties generating default_graph node.0 ms node.1
  properties_alone node =
      ap (walk_properties generating default_graph node.0 ms)
      (nothing_at included_key refl refl generating default_graph nowhere ms (walk_at generating node.0 nowhere graph_key ms (with_graph generating node.0 ms (walk_reverse generating default_graph node.0 ms node.1))) plain_is
      ∙ nothing_at graph_key refl refl generating node.0 nowhere ms (with_graph generating node.0 ms (walk_reverse generating default_graph node.0 ms node.1)) plain_is
      ∙ no_graph node.0 (walk_reverse generating default_graph node.0 ms node.1)
      ∙ nothing_reversed generating default_graph node.0 ms node.1 plain_is)

  object_walked : walk generating default_graph nowhere (object ms) w ≡ walk_properties generating default_graph id ms (made_as w (id, w.state.labels)).1
  object_walked =
      ap (λ b. if b then value_into generating default_graph nowhere (generating.value (object ms)) w else (if has_key list_key ms then w else whole (entered generating default_graph nowhere ms w))) (absent value_key refl refl)
      ∙ ap (λ b. if b then w else whole (entered generating default_graph nowhere ms w)) (absent list_key refl refl)
      ∙ properties_alone (entered generating default_graph nowhere ms w)
      ∙ ap (λ (node : List ℕ × At State Tree). walk_properties generating default_graph node.0 ms node.1) entered_is

item_shows : (t : Tree) (w : At State Tree) (s : plain.State) → is_plain_item t ≡ true → Came w s → Came (walk generating default_graph nowhere t w) (plain.item_into t s)
item_shows (object ms) w s plain_is came =
    let parts = both (is_some (member_at id_key (member_list ms))) (are_plain_members (member_list ms)) plain_is in
    let own = plain_id (member_list ms) parts.1 parts.0 in
    let name : plain.name_of (member_at id_key (member_list ms)) s.labels ≡ (own.id, s.labels) = ap (λ o. plain.name_of o s.labels) own.stands ∙ plain_named_iri own.id s.labels own.scheme in
    subst (λ (v : At State Tree). Came v (plain.item_into (object ms) s)) (sym (object_walked ms w parts.1 own.id own.stands own.scheme))
    (subst (λ (name : List ℕ × PlainLabels). Came (walk_properties generating default_graph own.id ms (made_as w (own.id, w.state.labels)).1) (plain.named_item_into name (member_list ms) s.nodes)) (sym name)
    (properties_show own.id ms (made_as w (own.id, w.state.labels)).1 (record { nodes = plain.with_node own.id s.nodes; labels = s.labels }) parts.1 (made_shows own.id w.state s.nodes came)))
item_shows _ w s plain_is came = absurd (cc)

items_show : (ts : List Tree) (w : At State Tree) (s : plain.State) → are_plain_items ts ≡ true → Came w s → Came (walk_all generating default_graph nowhere (trees_of ts) w) (plain.items_into ts s)
items_show [] w s plain_is came = came
items_show (t ∷ ts) w s plain_is came =
    let parts = both (is_plain_item t) (are_plain_items ts) plain_is in
    items_show ts (walk generating default_graph nowhere t w) (plain.item_into t s) parts.1 (item_shows t w s parts.0 came)

pub plain_documents_are_a_case : PlainDocumentsAreACase
plain_documents_are_a_case ts plain_is =
    let first : plain.State = record { nodes = []; labels = no_plain_labels } in
    let came = items_show ts (record { state = empty; items = [] }) first plain_is (record { graph = []; state = refl; is = no_nodes; nodes_are = refl }) in
    ap (λ (s : State). outcome s.conflict s) came.state
    ∙ (λ i. Ok (record { graphs = (default_graph, object (members_of (came.nodes_are i))) ∷ []; issued = sym (ap (λ (l : PlainLabels). l.issued) (items_keep ts first plain_is)) i }))
