-- The nodes of a plain document are plain.
use Rattle.std.proofs.Common.{◌≡◌, ℕ, List, [], ◌∷◌, ◌++◌, Bool, true, false, cond, ◌&&◌, Option, Some, None, is_some, refl, sym, ap, ap₂, ◌∙◌, subst}
use Rattle.std.specs.Prelude.{filter, map as each}
use Rattle.std.specs.Str.{bytes_eq}
use Rattle.std.specs.List.{list_any, AllByRecursion}
use Rattle.std.proofs.lemmas.Bool.{false_from_ne_true, false≢true}
use Rattle.ld_model.specs.Tree.{Tree, text, array, object, Pairs, no_members, member, member_list, members_of, member_list-members_of, member_at, trees_of, tree_list-trees_of, same_tree}
use Rattle.ld_model.specs.Keys.{id_key}
use Rattle.ld_model.specs.Iri.{has_scheme}
use Rattle.ld_model.specs.Label.{Labels}
use Rattle.ld_model.specs.Plain.{is_iri_text, is_plain_entry, are_plain_entries, is_plain_array, is_plain_member, are_plain_members, is_plain_item, are_plain_items}
use Rattle.ld_model.specs.NodeMap.{State, new_node, node_or_new, node_at, with_node_by, with_node, entries_of, added, with_entries, changed, reference, reference_into, entry_by, entry_into, entries_into, named_property_into, property_into, properties_into, name_of, named_item_into, item_into, items_into}
use Rattle.ld_model.specs.Flatten.{has_more, nodes_of}
use Rattle.flatten_laws.specs.Statements.{members_in}
use Rattle.ld_model.proofs.Puts.{bytes_eq-exact, at_first, at_later, all-put}
use Rattle.ld_model.proofs.Truths.{both}
use Rattle.flatten_laws.proofs.PlainNames.{named_iri, plain_id}
use Rattle.flatten_laws.proofs.Gathering.{scheme_of, property_parts, plain_entries}
use Rattle.flatten_laws.proofs.Graph.{IsNode}

-- The members of the node are plain.
abbrev pub IsPlainNode : List ℕ × Tree → Type 0
IsPlainNode m = are_plain_members (members_in m.1) ≡ true

abbrev IsPlainMember : List ℕ × Tree → Type 0
IsPlainMember m = is_plain_member m ≡ true

all_members : (ms : Pairs) → are_plain_members ms ≡ true → AllByRecursion IsPlainMember ms
all_members [] plain = tt
all_members (m ∷ ms) plain = let parts = both (is_plain_member m) (are_plain_members ms) plain in (parts.0, all_members ms parts.1)

plain_members : (ms : Pairs) → AllByRecursion IsPlainMember ms → are_plain_members ms ≡ true
plain_members [] all = refl
plain_members (m ∷ ms) all = ap₂ ◌&&◌ all.0 (plain_members ms all.1)

iri_apart : (p : List ℕ) → has_scheme p ≡ true → bytes_eq p id_key ≡ false
iri_apart p scheme = false_from_ne_true (bytes_eq p id_key) (λ same. false≢true (ap has_scheme (sym (bytes_eq-exact p id_key same)) ∙ scheme))

property_plain : (p : List ℕ) (t : Tree) → has_scheme p ≡ true → is_plain_array t ≡ true → is_plain_member (p, t) ≡ true
property_plain p t scheme plain = ap (λ b. cond b (is_iri_text t) (has_scheme p && is_plain_array t)) (iri_apart p scheme) ∙ ap₂ ◌&&◌ scheme plain

entries_plain_by : (p : List ℕ) (m : List ℕ × Tree) (ms : Pairs) (b : Bool) → bytes_eq p m.0 ≡ b → has_scheme p ≡ true → is_plain_member m ≡ true → are_plain_entries (entries_of (member_at p ms)) ≡ true → are_plain_entries (entries_of (member_at p (m ∷ ms))) ≡ true
entries_plain_by p m ms true same scheme plain rest =
    let apart : bytes_eq m.0 id_key ≡ false = ap (λ x. bytes_eq x id_key) (sym (bytes_eq-exact p m.0 same)) ∙ iri_apart p scheme in
    ap (λ o. are_plain_entries (entries_of o)) (at_first p m ms same) ∙ plain_entries m.1 (property_parts m apart plain).1
entries_plain_by p m ms false apart scheme plain rest = ap (λ o. are_plain_entries (entries_of o)) (at_later p m ms apart) ∙ rest

entries_plain : (p : List ℕ) (ms : Pairs) → has_scheme p ≡ true → are_plain_members ms ≡ true → are_plain_entries (entries_of (member_at p ms)) ≡ true
entries_plain p [] scheme plain = refl
entries_plain p (m ∷ ms) scheme plain =
    let parts = both (is_plain_member m) (are_plain_members ms) plain in
    entries_plain_by p m ms (bytes_eq p m.0) refl scheme parts.0 (entries_plain p ms scheme parts.1)

new_node_plain : (id : List ℕ) → has_scheme id ≡ true → are_plain_members (new_node id) ≡ true
new_node_plain id scheme = ap (λ b. b && true) scheme

node_or_new_plain : (id : List ℕ) (t : Tree) → has_scheme id ≡ true → are_plain_members (members_in t) ≡ true → are_plain_members (node_or_new id (Some t)) ≡ true
node_or_new_plain id (object ms) scheme plain = plain
node_or_new_plain id _ scheme plain = new_node_plain id scheme

node_plain_by : (id : List ℕ) (m : List ℕ × Tree) (nodes : Pairs) (b : Bool) → bytes_eq id m.0 ≡ b → has_scheme id ≡ true → IsPlainNode m → are_plain_members (node_at id nodes) ≡ true → are_plain_members (node_at id (m ∷ nodes)) ≡ true
node_plain_by id m nodes true same scheme plain rest = ap (λ o. are_plain_members (node_or_new id o)) (at_first id m nodes same) ∙ node_or_new_plain id m.1 scheme plain
node_plain_by id m nodes false apart scheme plain rest = ap (λ o. are_plain_members (node_or_new id o)) (at_later id m nodes apart) ∙ rest

node_plain : (id : List ℕ) (nodes : Pairs) → has_scheme id ≡ true → AllByRecursion IsPlainNode nodes → are_plain_members (node_at id nodes) ≡ true
node_plain id [] scheme all = new_node_plain id scheme
node_plain id (m ∷ nodes) scheme all = node_plain_by id m nodes (bytes_eq id m.0) refl scheme all.0 (node_plain id nodes scheme all.1)

with_entries_plain : (p : List ℕ) (f : List Tree → List Tree) (ms : Pairs) → has_scheme p ≡ true → ((ts : List Tree) → are_plain_entries ts ≡ true → are_plain_entries (f ts) ≡ true) → are_plain_members ms ≡ true → are_plain_members (with_entries p f ms) ≡ true
unfolding with_entries
with_entries_plain p f ms scheme keeps plain =
    plain_members _ (all-put IsPlainMember p (array (trees_of (f (entries_of (member_at p ms))))) ms
    (property_plain p (array (trees_of (f (entries_of (member_at p ms))))) scheme (ap are_plain_entries (tree_list-trees_of (f (entries_of (member_at p ms)))) ∙ keeps _ (entries_plain p ms scheme plain)))
    (all_members ms plain))

changed_plain : (id p : List ℕ) (f : List Tree → List Tree) (nodes : Pairs) → has_scheme id ≡ true → has_scheme p ≡ true → ((ts : List Tree) → are_plain_entries ts ≡ true → are_plain_entries (f ts) ≡ true) → AllByRecursion IsPlainNode nodes → AllByRecursion IsPlainNode (changed id p f nodes)
unfolding changed
changed_plain id p f nodes id_scheme scheme keeps all =
    all-put IsPlainNode id (object (members_of (with_entries p f (node_at id nodes)))) nodes
    (ap are_plain_members (member_list-members_of (with_entries p f (node_at id nodes))) ∙ with_entries_plain p f (node_at id nodes) scheme keeps (node_plain id nodes id_scheme all))
    all

with_node_plain_by : (o : Option Tree) (id : List ℕ) (nodes : Pairs) → has_scheme id ≡ true → AllByRecursion IsPlainNode nodes → AllByRecursion IsPlainNode (with_node_by o id nodes)
with_node_plain_by (Some t) id nodes scheme all = all
with_node_plain_by None id nodes scheme all = all-put IsPlainNode id (object (members_of (new_node id))) nodes (new_node_plain id scheme) all

with_node_plain : (id : List ℕ) (nodes : Pairs) → has_scheme id ≡ true → AllByRecursion IsPlainNode nodes → AllByRecursion IsPlainNode (with_node id nodes)
unfolding with_node
with_node_plain id nodes scheme all = with_node_plain_by (member_at id nodes) id nodes scheme all

append_plain : (ts : List Tree) (e : Tree) → are_plain_entries ts ≡ true → is_plain_entry e ≡ true → are_plain_entries (ts ++ e ∷ []) ≡ true
append_plain [] e all plain = ap (λ b. b && true) plain
append_plain (t ∷ ts) e all plain = let parts = both (is_plain_entry t) (are_plain_entries ts) all in ap₂ ◌&&◌ parts.0 (append_plain ts e parts.1 plain)

added_plain : (e : Tree) → is_plain_entry e ≡ true → (ts : List Tree) → are_plain_entries ts ≡ true → are_plain_entries (added e ts) ≡ true
unfolding added
added_plain e plain ts all = by_test (list_any (same_tree e) ts)
  where
    by_test : (b : Bool) → are_plain_entries (cond b ts (ts ++ e ∷ [])) ≡ true
    by_test true = all
    by_test false = append_plain ts e all plain

entry_plain_by : (id p k to : List ℕ) (s : State) (b : Bool) → bytes_eq k id_key ≡ b → has_scheme id ≡ true → has_scheme p ≡ true → is_plain_entry (object (member k (text to) no_members)) ≡ true → AllByRecursion IsPlainNode s.nodes → AllByRecursion IsPlainNode (entry_by (cond b (Some to) None) id p (object (member k (text to) no_members)) s).nodes
entry_plain_by id p k to s true same id_scheme scheme plain all =
    let to_scheme = scheme_of k to same plain in
    subst (λ (name : List ℕ × Labels). AllByRecursion IsPlainNode (reference_into id p name s.nodes).nodes) (sym (named_iri to s.labels to_scheme))
    (changed_plain id p (added (reference to)) (with_node to s.nodes) id_scheme scheme (added_plain (reference to) to_scheme) (with_node_plain to s.nodes to_scheme all))
entry_plain_by id p k to s false apart id_scheme scheme plain all =
    changed_plain id p (added (object (member k (text to) no_members))) s.nodes id_scheme scheme (added_plain (object (member k (text to) no_members)) plain) all

entry_plain : (id p : List ℕ) (e : Tree) (s : State) → has_scheme id ≡ true → has_scheme p ≡ true → is_plain_entry e ≡ true → AllByRecursion IsPlainNode s.nodes → AllByRecursion IsPlainNode (entry_into id p e s).nodes
entry_plain id p (object (member k (text to) no_members)) s id_scheme scheme plain all = entry_plain_by id p k to s (bytes_eq k id_key) refl id_scheme scheme plain all
entry_plain id p _ s id_scheme scheme plain all = absurd (cc)

all_entries_plain : (id p : List ℕ) (es : List Tree) (s : State) → has_scheme id ≡ true → has_scheme p ≡ true → are_plain_entries es ≡ true → AllByRecursion IsPlainNode s.nodes → AllByRecursion IsPlainNode (entries_into id p es s).nodes
all_entries_plain id p [] s id_scheme scheme plain all = all
all_entries_plain id p (e ∷ es) s id_scheme scheme plain all =
    let parts = both (is_plain_entry e) (are_plain_entries es) plain in
    all_entries_plain id p es _ id_scheme scheme parts.1 (entry_plain id p e s id_scheme scheme parts.0 all)

member_plain : (id : List ℕ) (m : List ℕ × Tree) (s : State) (b : Bool) → bytes_eq m.0 id_key ≡ b → has_scheme id ≡ true → is_plain_member m ≡ true → AllByRecursion IsPlainNode s.nodes → AllByRecursion IsPlainNode (cond b s (property_into id m s)).nodes
member_plain id m s true same scheme plain all = all
member_plain id m s false apart scheme plain all =
    let parts = property_parts m apart plain in
    subst (λ (name : List ℕ × Labels). AllByRecursion IsPlainNode (named_property_into id name (entries_of (Some m.1)) s.nodes).nodes) (sym (named_iri m.0 s.labels parts.0))
    (all_entries_plain id m.0 (entries_of (Some m.1)) _ scheme parts.0 (plain_entries m.1 parts.1)
    (changed_plain id m.0 (λ ts. ts) s.nodes scheme parts.0 (λ ts plain. plain) all))

properties_plain : (id : List ℕ) (ms : Pairs) (s : State) → has_scheme id ≡ true → are_plain_members ms ≡ true → AllByRecursion IsPlainNode s.nodes → AllByRecursion IsPlainNode (properties_into id ms s).nodes
properties_plain id [] s scheme plain all = all
properties_plain id (m ∷ ms) s scheme plain all =
    let parts = both (is_plain_member m) (are_plain_members ms) plain in
    properties_plain id ms _ scheme parts.1 (member_plain id m s (bytes_eq m.0 id_key) refl scheme parts.0 all)

item_plain : (t : Tree) (s : State) → is_plain_item t ≡ true → AllByRecursion IsPlainNode s.nodes → AllByRecursion IsPlainNode (item_into t s).nodes
item_plain (object ms) s plain all =
    let parts = both (is_some (member_at id_key (member_list ms))) (are_plain_members (member_list ms)) plain in
    let id = plain_id (member_list ms) parts.1 parts.0 in
    let name : name_of (member_at id_key (member_list ms)) s.labels ≡ (id.id, s.labels) = ap (λ o. name_of o s.labels) id.stands ∙ named_iri id.id s.labels id.scheme in
    subst (λ (name : List ℕ × Labels). AllByRecursion IsPlainNode (named_item_into name (member_list ms) s.nodes).nodes) (sym name)
    (properties_plain id.id (member_list ms) _ id.scheme parts.1 (with_node_plain id.id s.nodes id.scheme all))
item_plain _ s plain all = absurd (cc)

pub items_plain : (ts : List Tree) (s : State) → are_plain_items ts ≡ true → AllByRecursion IsPlainNode s.nodes → AllByRecursion IsPlainNode (items_into ts s).nodes
items_plain [] s plain all = all
items_plain (t ∷ ts) s plain all =
    let parts = both (is_plain_item t) (are_plain_items ts) plain in
    items_plain ts _ parts.1 (item_plain t s parts.0 all)

-- So the outcome is plain.
node_is_plain : (k : List ℕ) (t : Tree) → IsNode (k, t) → IsPlainNode (k, t) → is_plain_item t ≡ true
node_is_plain k (object ms) is plain = ap₂ ◌&&◌ (ap is_some is.id_at) plain
node_is_plain k _ is plain = absurd is

pub outcome_is_plain : (nodes : Pairs) → AllByRecursion IsNode nodes → AllByRecursion IsPlainNode nodes → are_plain_items (nodes_of nodes) ≡ true
outcome_is_plain [] all plain = refl
outcome_is_plain (m ∷ nodes) all plain = by_test (has_more m) (outcome_is_plain nodes all.1 plain.1)
  where
    by_test : (b : Bool) → are_plain_items (nodes_of nodes) ≡ true → are_plain_items (each (λ m. m.1) (cond b (m ∷ filter has_more nodes) (filter has_more nodes))) ≡ true
    by_test true rest = ap₂ ◌&&◌ (node_is_plain m.0 m.1 all.0 plain.0) rest
    by_test false rest = rest
