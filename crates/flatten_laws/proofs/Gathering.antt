-- What generation gathers under a property of a node, from a plain document.
use Rattle.std.proofs.Common.{◌≡◌, ℕ, List, [], ◌∷◌, ◌++◌, Bool, true, false, cond, ◌&&◌, ◌||◌, Some, None, is_some, refl, sym, ap, ap₂, ◌∙◌, subst}
use Rattle.std.specs.Str.{bytes_eq}
use Rattle.std.specs.List.{flat_map}
use Rattle.ld_model.specs.Tree.{Tree, text, array, object, Pairs, no_members, member, member_list, member_at}
use Rattle.ld_model.specs.Keys.{id_key, value_key}
use Rattle.ld_model.specs.Iri.{has_scheme}
use Rattle.ld_model.specs.Label.{Labels}
use Rattle.ld_model.specs.Plain.{is_iri_text, is_plain_entry, are_plain_entries, is_plain_array, is_plain_member, are_plain_members, is_plain_item, are_plain_items}
use Rattle.ld_model.specs.NodeMap.{State, named, with_node, entries_of, added, changed, reference, reference_into, entry_by, entry_into, entries_into, named_property_into, property_into, properties_into, name_of, named_item_into, item_into, items_into}
use Rattle.flatten_laws.specs.Statements.{entries_in, has_id, is_same, text_of, member_states, object_states, statements}
use Rattle.ld_model.proofs.Puts.{bytes_eq-exact}
use Rattle.ld_model.proofs.Truths.{both}
use Rattle.flatten_laws.proofs.Once.{gathered, gathered-append}
use Rattle.flatten_laws.proofs.Entries.{entries_at, entries_at-changed, node_at-with_node}
use Rattle.flatten_laws.proofs.PlainNames.{named_iri, iri_member, plain_id}

entries_at-with_node : (id q r : List ℕ) (nodes : Pairs) → entries_at q r (with_node id nodes) ≡ entries_at q r nodes
entries_at-with_node id q r nodes = ap (λ ms. entries_of (member_at r ms)) (node_at-with_node q id nodes)

gathered_one : (b : Bool) (t : Tree) (held : List Tree) → cond b (added t held) held ≡ gathered held (cond b (t ∷ []) [])
gathered_one true t held = refl
gathered_one false t held = refl

-- A value.
value_at : (id p q r : List ℕ) (e : Tree) (nodes : Pairs) → entries_at q r (changed id p (added e) nodes) ≡ gathered (entries_at q r nodes) (cond (bytes_eq id q && bytes_eq p r) (e ∷ []) [])
value_at id p q r e nodes = entries_at-changed id p q r (added e) nodes ∙ gathered_one (bytes_eq id q && bytes_eq p r) e (entries_at q r nodes)

-- A reference.
reference_at : (id p q r : List ℕ) (k to : List ℕ) (s : State) → k ≡ id_key → has_scheme to ≡ true → entries_at q r (reference_into id p (named to s.labels) s.nodes).nodes ≡ gathered (entries_at q r s.nodes) (cond (bytes_eq id q && bytes_eq p r) (object (member k (text to) no_members) ∷ []) [])
reference_at id p q r k to s is scheme =
    ap (λ (to : List ℕ × Labels). entries_at q r (reference_into id p to s.nodes).nodes) (named_iri to s.labels scheme)
    ∙ value_at id p q r (reference to) (with_node to s.nodes)
    ∙ ap₂ (λ (held : List Tree) (k : List ℕ). gathered held (cond (bytes_eq id q && bytes_eq p r) (object (member k (text to) no_members) ∷ []) [])) (entries_at-with_node to q r s.nodes) (sym is)

pub scheme_of : (k to : List ℕ) → bytes_eq k id_key ≡ true → (bytes_eq k value_key || (bytes_eq k id_key && has_scheme to)) ≡ true → has_scheme to ≡ true
scheme_of k to same plain =
    subst (λ x. (bytes_eq x value_key || (bytes_eq x id_key && has_scheme to)) ≡ true) (bytes_eq-exact k id_key same) plain

entry_by_key : (id p q r : List ℕ) (k to : List ℕ) (s : State) (b : Bool) → bytes_eq k id_key ≡ b → is_plain_entry (object (member k (text to) no_members)) ≡ true → entries_at q r (entry_by (cond b (Some to) None) id p (object (member k (text to) no_members)) s).nodes ≡ gathered (entries_at q r s.nodes) (cond (bytes_eq id q && bytes_eq p r) (object (member k (text to) no_members) ∷ []) [])
entry_by_key id p q r k to s true same plain = reference_at id p q r k to s (bytes_eq-exact k id_key same) (scheme_of k to same plain)
entry_by_key id p q r k to s false apart plain = value_at id p q r (object (member k (text to) no_members)) s.nodes

entry_at : (id p q r : List ℕ) (e : Tree) (s : State) → is_plain_entry e ≡ true → entries_at q r (entry_into id p e s).nodes ≡ gathered (entries_at q r s.nodes) (cond (bytes_eq id q && bytes_eq p r) (e ∷ []) [])
entry_at id p q r (object (member k (text to) no_members)) s plain = entry_by_key id p q r k to s (bytes_eq k id_key) refl plain
entry_at id p q r _ s plain = absurd (cc)

gathered_more : (b : Bool) (t : Tree) (ts held : List Tree) → gathered (gathered held (cond b (t ∷ []) [])) (cond b ts []) ≡ gathered held (cond b (t ∷ ts) [])
gathered_more true t ts held = refl
gathered_more false t ts held = refl

gathered_none : (b : Bool) (held : List Tree) → held ≡ gathered held (cond b [] [])
gathered_none true held = refl
gathered_none false held = refl

entries_at-entries : (id p q r : List ℕ) (es : List Tree) (s : State) → are_plain_entries es ≡ true → entries_at q r (entries_into id p es s).nodes ≡ gathered (entries_at q r s.nodes) (cond (bytes_eq id q && bytes_eq p r) es [])
entries_at-entries id p q r [] s plain = gathered_none (bytes_eq id q && bytes_eq p r) (entries_at q r s.nodes)
entries_at-entries id p q r (e ∷ es) s plain =
    let parts = both (is_plain_entry e) (are_plain_entries es) plain in
    entries_at-entries id p q r es (entry_into id p e s) parts.1
    ∙ ap (λ held. gathered held (cond (bytes_eq id q && bytes_eq p r) es [])) (entry_at id p q r e s parts.0)
    ∙ gathered_more (bytes_eq id q && bytes_eq p r) e es (entries_at q r s.nodes)

-- A property.
cond_same : (b : Bool) (held : List Tree) → cond b held held ≡ held
cond_same true held = refl
cond_same false held = refl

cond_twice : (a b : Bool) (ts : List Tree) → cond (a && b) ts [] ≡ cond a (cond b ts []) []
cond_twice true b ts = refl
cond_twice false b ts = refl

pub plain_entries : (t : Tree) → is_plain_array t ≡ true → are_plain_entries (entries_of (Some t)) ≡ true
plain_entries (array ts) plain = plain
plain_entries _ plain = absurd (cc)

pub entries_in-is : (t : Tree) → entries_of (Some t) ≡ entries_in t
entries_in-is (array ts) = refl
entries_in-is _ = refl

property_at : (id q r : List ℕ) (m : List ℕ × Tree) (s : State) → has_scheme m.0 ≡ true → is_plain_array m.1 ≡ true → entries_at q r (property_into id m s).nodes ≡ gathered (entries_at q r s.nodes) (cond (bytes_eq id q) (member_states r m) [])
property_at id q r m s scheme plain =
    ap (λ (name : List ℕ × Labels). entries_at q r (named_property_into id name (entries_of (Some m.1)) s.nodes).nodes) (named_iri m.0 s.labels scheme)
    ∙ entries_at-entries id m.0 q r (entries_of (Some m.1)) _ (plain_entries m.1 plain)
    ∙ ap₂ gathered
    (entries_at-changed id m.0 q r (λ ts. ts) s.nodes ∙ cond_same (bytes_eq id q && bytes_eq m.0 r) (entries_at q r s.nodes))
    (cond_twice (bytes_eq id q) (bytes_eq m.0 r) (entries_of (Some m.1)) ∙ ap (λ ts. cond (bytes_eq id q) (cond (bytes_eq m.0 r) ts []) []) (entries_in-is m.1))

pub property_parts : (m : List ℕ × Tree) → bytes_eq m.0 id_key ≡ false → is_plain_member m ≡ true → (has_scheme m.0 ≡ true) × (is_plain_array m.1 ≡ true)
property_parts m apart plain =
    both (has_scheme m.0) (is_plain_array m.1) (sym (ap (λ b. cond b (is_iri_text m.1) (has_scheme m.0 && is_plain_array m.1)) apart) ∙ plain)

-- The id states nothing.
no_entries : (t : Tree) → is_iri_text t ≡ true → entries_in t ≡ []
no_entries (text s) iri = refl
no_entries _ iri = absurd (cc)

member_at_by : (id q r : List ℕ) (m : List ℕ × Tree) (s : State) (b : Bool) → bytes_eq m.0 id_key ≡ b → is_plain_member m ≡ true → entries_at q r (cond b s (property_into id m s)).nodes ≡ gathered (entries_at q r s.nodes) (cond (bytes_eq id q) (member_states r m) [])
member_at_by id q r m s true same plain =
    let none : member_states r m ≡ [] = ap (λ ts. cond (bytes_eq m.0 r) ts []) (no_entries m.1 (iri_member m same plain)) ∙ cond_same (bytes_eq m.0 r) [] in
    sym (ap (gathered (entries_at q r s.nodes)) (ap (λ ts. cond (bytes_eq id q) ts []) none ∙ cond_same (bytes_eq id q) []))
member_at_by id q r m s false apart plain =
    let parts = property_parts m apart plain in
    property_at id q r m s parts.0 parts.1

gathered_cond : (b : Bool) (held ts us : List Tree) → gathered (gathered held (cond b ts [])) (cond b us []) ≡ gathered held (cond b (ts ++ us) [])
gathered_cond true held ts us = sym (gathered-append held ts us)
gathered_cond false held ts us = refl

properties_at : (id q r : List ℕ) (ms : Pairs) (s : State) → are_plain_members ms ≡ true → entries_at q r (properties_into id ms s).nodes ≡ gathered (entries_at q r s.nodes) (cond (bytes_eq id q) (flat_map (member_states r) ms) [])
properties_at id q r [] s plain = gathered_none (bytes_eq id q) (entries_at q r s.nodes)
properties_at id q r (m ∷ ms) s plain =
    let parts = both (is_plain_member m) (are_plain_members ms) plain in
    properties_at id q r ms _ parts.1
    ∙ ap (λ held. gathered held (cond (bytes_eq id q) (flat_map (member_states r) ms) [])) (member_at_by id q r m s (bytes_eq m.0 id_key) refl parts.0)
    ∙ gathered_cond (bytes_eq id q) (entries_at q r s.nodes) (member_states r m) (flat_map (member_states r) ms)

-- A node object.
item_at : (q r : List ℕ) (t : Tree) (s : State) → is_plain_item t ≡ true → entries_at q r (item_into t s).nodes ≡ gathered (entries_at q r s.nodes) (object_states q r t)
item_at q r (object ms) s plain =
    let parts = both (is_some (member_at id_key (member_list ms))) (are_plain_members (member_list ms)) plain in
    let named = plain_id (member_list ms) parts.1 parts.0 in
    let name : name_of (member_at id_key (member_list ms)) s.labels ≡ (named.id, s.labels) = ap (λ o. name_of o s.labels) named.stands ∙ named_iri named.id s.labels named.scheme in
    let same : has_id q (object ms) ≡ bytes_eq named.id q = ap (λ o. is_same q (text_of o)) named.stands in
    ap (λ (to : List ℕ × Labels). entries_at q r (named_item_into to (member_list ms) s.nodes).nodes) name
    ∙ properties_at named.id q r (member_list ms) _ parts.1
    ∙ ap₂ (λ (held : List Tree) (b : Bool). gathered held (cond b (flat_map (member_states r) (member_list ms)) [])) (entries_at-with_node named.id q r s.nodes) (sym same)
item_at q r _ s plain = absurd (cc)

pub items_at : (q r : List ℕ) (ts : List Tree) (s : State) → are_plain_items ts ≡ true → entries_at q r (items_into ts s).nodes ≡ gathered (entries_at q r s.nodes) (statements q r ts)
items_at q r [] s plain = refl
items_at q r (t ∷ ts) s plain =
    let parts = both (is_plain_item t) (are_plain_items ts) plain in
    items_at q r ts (item_into t s) parts.1
    ∙ ap (λ held. gathered held (statements q r ts)) (item_at q r t s parts.0)
    ∙ sym (gathered-append (entries_at q r s.nodes) (object_states q r t) (statements q r ts))
