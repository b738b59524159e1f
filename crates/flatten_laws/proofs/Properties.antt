-- Which properties a node has, after each step of generation and in the outcome.
use Rattle.std.proofs.Common.{◌≡◌, ℕ, List, [], ◌∷◌, Bool, true, false, cond, ◌&&◌, ◌||◌, Option, Some, None, is_some, length, nat_lt, refl, sym, ap, ap₂, ◌∙◌, subst, arith, lt-ltb}
use Rattle.std.specs.Prelude.{filter, map as each}
use Rattle.std.specs.Str.{bytes_eq}
use Rattle.std.specs.List.{AllByRecursion}
use Rattle.std.specs.Map.{keys_of}
use Rattle.ld_model.specs.Tree.{Tree, text, object, Pairs, no_members, member, member_list, member_at, AreAscending, IsBefore}
use Rattle.ld_model.specs.Keys.{id_key}
use Rattle.ld_model.specs.Label.{Labels}
use Rattle.ld_model.specs.Plain.{is_plain_member, are_plain_members, is_plain_item, are_plain_items}
use Rattle.ld_model.specs.Iri.{has_scheme}
use Rattle.ld_model.specs.NodeMap.{State, named, node_or_new, node_at, with_node, entries_of, with_entries, added, changed, target, reference, entry_by, entry_into, entries_into, named_property_into, property_into, properties_into, name_of, named_item_into, item_into, items_into}
use Rattle.ld_model.specs.Flatten.{has_more, nodes_of}
use Rattle.flatten_laws.specs.Statements.{has_id, is_same, text_of, has_member, gives}
use Rattle.ld_model.proofs.Puts.{bytes_eq-exact, bytes_eq-sym, apart_before, at_first, at_later, member_at-put, member_at-put_other, ascending_head, ascending_tail}
use Rattle.ld_model.proofs.Truths.{both}
use Rattle.flatten_laws.proofs.Entries.{node_at-changed, node_at-changed_other, node_at-with_node}
use Rattle.flatten_laws.proofs.PlainNames.{named_iri, plain_id}
use Rattle.flatten_laws.proofs.Gathering.{property_parts}
use Rattle.flatten_laws.proofs.Graph.{IsNode, IsGraph, members_of_node}
use Rattle.flatten_laws.proofs.Ids.{id_of-node}

or_true : (a : Bool) → true ≡ (a || true)
or_true true = refl
or_true false = refl

or_false : (a : Bool) → a ≡ (a || false)
or_false true = refl
or_false false = refl

or_twice : (a b : Bool) → ((a || b) || b) ≡ (a || b)
or_twice true b = refl
or_twice false true = refl
or_twice false false = refl

or_assoc : (a b c : Bool) → ((a || b) || c) ≡ (a || (b || c))
or_assoc true b c = refl
or_assoc false b c = refl

spread : (a b x y : Bool) → ((a || (b && x)) || (b && y)) ≡ (a || (b && (x || y)))
spread true b x y = refl
spread false true x y = refl
spread false false x y = refl

abbrev pub has_at : List ℕ → List ℕ → Pairs → Bool
has_at id property nodes = is_some (member_at property (node_at id nodes))

has_same : (p : List ℕ) (f : List Tree → List Tree) (ms : Pairs) → is_some (member_at p (with_entries p f ms)) ≡ true
unfolding with_entries
has_same p f ms = ap is_some (member_at-put p _ ms)

has_other : (r p : List ℕ) (f : List Tree → List Tree) (ms : Pairs) → bytes_eq r p ≡ false → is_some (member_at r (with_entries p f ms)) ≡ is_some (member_at r ms)
unfolding with_entries
has_other r p f ms apart = ap is_some (member_at-put_other r p _ ms apart)

changed_by : (id p q r : List ℕ) (f : List Tree → List Tree) (nodes : Pairs) (b c : Bool) → bytes_eq id q ≡ b → bytes_eq p r ≡ c → has_at q r (changed id p f nodes) ≡ (has_at q r nodes || (b && c))
changed_by id p q r f nodes true true same_node same =
    ap₂ (λ x y. has_at q r (changed x y f nodes)) (bytes_eq-exact id q same_node) (bytes_eq-exact p r same)
    ∙ ap (λ ms. is_some (member_at r ms)) (node_at-changed q r f nodes)
    ∙ has_same r f (node_at q nodes) ∙ or_true (has_at q r nodes)
changed_by id p q r f nodes true false same_node apart =
    ap (λ x. has_at q r (changed x p f nodes)) (bytes_eq-exact id q same_node)
    ∙ ap (λ ms. is_some (member_at r ms)) (node_at-changed q p f nodes)
    ∙ has_other r p f (node_at q nodes) (bytes_eq-sym r p ∙ apart) ∙ or_false (has_at q r nodes)
changed_by id p q r f nodes false c apart same =
    ap (λ ms. is_some (member_at r ms)) (node_at-changed_other q id p f nodes (bytes_eq-sym q id ∙ apart)) ∙ or_false (has_at q r nodes)

has_at-changed : (id p q r : List ℕ) (f : List Tree → List Tree) (nodes : Pairs) → has_at q r (changed id p f nodes) ≡ (has_at q r nodes || (bytes_eq id q && bytes_eq p r))
has_at-changed id p q r f nodes = changed_by id p q r f nodes (bytes_eq id q) (bytes_eq p r) refl refl

has_at-with_node : (id q r : List ℕ) (nodes : Pairs) → has_at q r (with_node id nodes) ≡ has_at q r nodes
has_at-with_node id q r nodes = ap (λ ms. is_some (member_at r ms)) (node_at-with_node q id nodes)

entry_has_by : (o : Option (List ℕ)) (id p q r : List ℕ) (e : Tree) (s : State) → has_at q r (entry_by o id p e s).nodes ≡ (has_at q r s.nodes || (bytes_eq id q && bytes_eq p r))
entry_has_by None id p q r e s = has_at-changed id p q r (added e) s.nodes
entry_has_by (Some to) id p q r e s =
    has_at-changed id p q r (added (reference (named to s.labels).0)) (with_node (named to s.labels).0 s.nodes)
    ∙ ap (λ b. b || (bytes_eq id q && bytes_eq p r)) (has_at-with_node (named to s.labels).0 q r s.nodes)

entries_have : (id p q r : List ℕ) (b : Bool) (es : List Tree) (s : State) → has_at q r s.nodes ≡ (b || (bytes_eq id q && bytes_eq p r)) → has_at q r (entries_into id p es s).nodes ≡ (b || (bytes_eq id q && bytes_eq p r))
entries_have id p q r b [] s is = is
entries_have id p q r b (e ∷ es) s is =
    entries_have id p q r b es (entry_into id p e s)
    (entry_has_by (target e) id p q r e s ∙ ap (λ c. c || (bytes_eq id q && bytes_eq p r)) is ∙ or_twice b (bytes_eq id q && bytes_eq p r))

property_has : (id q r : List ℕ) (m : List ℕ × Tree) (s : State) → has_scheme m.0 ≡ true → has_at q r (property_into id m s).nodes ≡ (has_at q r s.nodes || (bytes_eq id q && bytes_eq m.0 r))
property_has id q r m s scheme =
    ap (λ (name : List ℕ × Labels). has_at q r (named_property_into id name (entries_of (Some m.1)) s.nodes).nodes) (named_iri m.0 s.labels scheme)
    ∙ entries_have id m.0 q r (has_at q r s.nodes) (entries_of (Some m.1)) _ (has_at-changed id m.0 q r (λ ts. ts) s.nodes)

member_has_by : (id q r : List ℕ) (m : List ℕ × Tree) (s : State) (b : Bool) → bytes_eq m.0 id_key ≡ b → bytes_eq r id_key ≡ false → is_plain_member m ≡ true → has_at q r (cond b s (property_into id m s)).nodes ≡ (has_at q r s.nodes || (bytes_eq id q && bytes_eq m.0 r))
member_has_by id q r m s true same apart plain =
    let other : bytes_eq m.0 r ≡ false = ap (λ x. bytes_eq x r) (bytes_eq-exact m.0 id_key same) ∙ bytes_eq-sym id_key r ∙ apart in
    or_false (has_at q r s.nodes) ∙ ap (λ b. has_at q r s.nodes || b) (none (bytes_eq id q) ∙ ap (λ b. bytes_eq id q && b) (sym other))
  where
    none : (a : Bool) → false ≡ (a && false)
    none true = refl
    none false = refl
member_has_by id q r m s false other apart plain = property_has id q r m s (property_parts m other plain).0

one_more : (r : List ℕ) (m : List ℕ × Tree) (ms : Pairs) (b : Bool) → bytes_eq m.0 r ≡ b → (b || is_some (member_at r ms)) ≡ is_some (member_at r (m ∷ ms))
one_more r m ms true same = sym (ap is_some (at_first r m ms (bytes_eq-sym r m.0 ∙ same)))
one_more r m ms false apart = sym (ap is_some (at_later r m ms (bytes_eq-sym r m.0 ∙ apart)))

nothing_more : (a b : Bool) → a ≡ (a || (b && false))
nothing_more true b = refl
nothing_more false true = refl
nothing_more false false = refl

properties_have : (id q r : List ℕ) (ms : Pairs) (s : State) → bytes_eq r id_key ≡ false → are_plain_members ms ≡ true → has_at q r (properties_into id ms s).nodes ≡ (has_at q r s.nodes || (bytes_eq id q && is_some (member_at r ms)))
properties_have id q r [] s apart plain = nothing_more (has_at q r s.nodes) (bytes_eq id q)
properties_have id q r (m ∷ ms) s apart plain =
    let parts = both (is_plain_member m) (are_plain_members ms) plain in
    properties_have id q r ms _ apart parts.1
    ∙ ap (λ b. b || (bytes_eq id q && is_some (member_at r ms))) (member_has_by id q r m s (bytes_eq m.0 id_key) refl apart parts.0)
    ∙ spread (has_at q r s.nodes) (bytes_eq id q) (bytes_eq m.0 r) (is_some (member_at r ms))
    ∙ ap (λ b. has_at q r s.nodes || (bytes_eq id q && b)) (one_more r m ms (bytes_eq m.0 r) refl)

item_has : (q r : List ℕ) (t : Tree) (s : State) → bytes_eq r id_key ≡ false → is_plain_item t ≡ true → has_at q r (item_into t s).nodes ≡ (has_at q r s.nodes || (has_id q t && has_member r t))
item_has q r (object ms) s apart plain =
    let parts = both (is_some (member_at id_key (member_list ms))) (are_plain_members (member_list ms)) plain in
    let named = plain_id (member_list ms) parts.1 parts.0 in
    let name : name_of (member_at id_key (member_list ms)) s.labels ≡ (named.id, s.labels) = ap (λ o. name_of o s.labels) named.stands ∙ named_iri named.id s.labels named.scheme in
    let same : has_id q (object ms) ≡ bytes_eq named.id q = ap (λ o. is_same q (text_of o)) named.stands in
    ap (λ (to : List ℕ × Labels). has_at q r (named_item_into to (member_list ms) s.nodes).nodes) name
    ∙ properties_have named.id q r (member_list ms) _ apart parts.1
    ∙ ap₂ (λ a b. a || (b && is_some (member_at r (member_list ms)))) (has_at-with_node named.id q r s.nodes) (sym same)
item_has q r _ s apart plain = absurd (cc)

pub items_have : (q r : List ℕ) (ts : List Tree) (s : State) → bytes_eq r id_key ≡ false → are_plain_items ts ≡ true → has_at q r (items_into ts s).nodes ≡ (has_at q r s.nodes || gives q r ts)
items_have q r [] s apart plain = or_false (has_at q r s.nodes)
items_have q r (t ∷ ts) s apart plain =
    let parts = both (is_plain_item t) (are_plain_items ts) plain in
    items_have q r ts (item_into t s) apart parts.1
    ∙ ap (λ b. b || gives q r ts) (item_has q r t s apart parts.0)
    ∙ or_assoc (has_at q r s.nodes) (has_id q t && has_member r t) (gives q r ts)

-- What the nodes of the outcome give is what the graph has at them.
object_gives : (q r k : List ℕ) (t : Tree) → IsNode (k, t) → (has_id q t && has_member r t) ≡ (bytes_eq k q && has_member r t)
object_gives q r k t is = ap (λ o. is_same q o && has_member r t) (id_of-node k t is)

gives_none : (q r : List ℕ) (m : List ℕ × Tree) → IsNode m → bytes_eq m.0 q ≡ false → (has_id q m.1 && has_member r m.1) ≡ false
gives_none q r m is apart = object_gives q r m.0 m.1 is ∙ ap (λ b. b && has_member r m.1) apart

gives_own : (q r : List ℕ) (m : List ℕ × Tree) → IsNode m → bytes_eq m.0 q ≡ true → (has_id q m.1 && has_member r m.1) ≡ has_member r m.1
gives_own q r m is same = object_gives q r m.0 m.1 is ∙ ap (λ b. b && has_member r m.1) same

only_id_by : (r k key : List ℕ) (t : Tree) (b : Bool) → bytes_eq id_key key ≡ b → bytes_eq r id_key ≡ false → member_at id_key ((key, t) ∷ []) ≡ Some (text k) → is_some (member_at r ((key, t) ∷ [])) ≡ false
only_id_by r k key t true same apart is = ap is_some (at_later r (key, t) [] (ap (bytes_eq r) (sym (bytes_eq-exact id_key key same)) ∙ apart))
only_id_by r k key t false other apart is = let none = at_later id_key (key, t) [] other in absurd (cc)

dropped_gives_none : (r k : List ℕ) (t : Tree) → bytes_eq r id_key ≡ false → IsNode (k, t) → has_more (k, t) ≡ false → has_member r t ≡ false
dropped_gives_none r k (object no_members) apart is dropped = refl
dropped_gives_none r k (object (member key t no_members)) apart is dropped = only_id_by r k key t (bytes_eq id_key key) refl apart is.id_at
dropped_gives_none r k (object (member key t (member l u ms))) apart is dropped =
    let more : nat_lt 1 (length ((key, t) ∷ (l, u) ∷ member_list ms)) ≡ true = lt-ltb 1 _ (omega arith) in
    absurd (cc)
dropped_gives_none r k _ apart is dropped = absurd is

kept_or_none : (q r : List ℕ) (m : List ℕ × Tree) (nodes : Pairs) (b : Bool) → bytes_eq r id_key ≡ false → has_more m ≡ b → IsNode m → gives q r (each (λ m. m.1) (cond b (m ∷ filter has_more nodes) (filter has_more nodes))) ≡ ((has_id q m.1 && has_member r m.1) || gives q r (nodes_of nodes))
kept_or_none q r m nodes true apart kept is = refl
kept_or_none q r m nodes false apart dropped is = sym (ap (λ b. b || gives q r (nodes_of nodes)) (none (bytes_eq m.0 q) refl))
  where
    none : (b : Bool) → bytes_eq m.0 q ≡ b → (has_id q m.1 && has_member r m.1) ≡ false
    none true same = gives_own q r m is same ∙ dropped_gives_none r m.0 m.1 apart is dropped
    none false other = gives_none q r m is other

gives-nodes : (q r : List ℕ) (m : List ℕ × Tree) (nodes : Pairs) → bytes_eq r id_key ≡ false → IsNode m → gives q r (nodes_of (m ∷ nodes)) ≡ ((has_id q m.1 && has_member r m.1) || gives q r (nodes_of nodes))
gives-nodes q r m nodes apart is = kept_or_none q r m nodes (has_more m) apart refl is

later_nodes_give_none : (q r : List ℕ) (nodes : Pairs) → bytes_eq r id_key ≡ false → AllByRecursion (IsBefore q) (keys_of nodes) → AllByRecursion IsNode nodes → gives q r (nodes_of nodes) ≡ false
later_nodes_give_none q r [] apart later all = refl
later_nodes_give_none q r (m ∷ nodes) apart later all =
    gives-nodes q r m nodes apart all.0
    ∙ ap₂ ◌||◌ (gives_none q r m all.0 (bytes_eq-sym m.0 q ∙ apart_before q m.0 later.0)) (later_nodes_give_none q r nodes apart later.1 all.1)

nodes_by : (q r : List ℕ) (m : List ℕ × Tree) (nodes : Pairs) (b : Bool) → bytes_eq r id_key ≡ false → bytes_eq q m.0 ≡ b → AreAscending (m ∷ nodes) → AllByRecursion IsNode (m ∷ nodes) → gives q r (nodes_of nodes) ≡ has_at q r nodes → gives q r (nodes_of (m ∷ nodes)) ≡ has_at q r (m ∷ nodes)
nodes_by q r m nodes true apart same sorted all rest =
    let later = subst (λ x. AllByRecursion (IsBefore x) (keys_of nodes)) (sym (bytes_eq-exact q m.0 same)) (ascending_head m nodes sorted) in
    gives-nodes q r m nodes apart all.0
    ∙ ap₂ ◌||◌ (gives_own q r m all.0 (bytes_eq-sym m.0 q ∙ same)) (later_nodes_give_none q r nodes apart later all.1)
    ∙ sym (or_false (has_member r m.1))
    ∙ ap (λ ms. is_some (member_at r ms)) (members_of_node q m.0 m.1 all.0 ∙ sym (ap (node_or_new q) (at_first q m nodes same)))
nodes_by q r m nodes false apart other sorted all rest =
    gives-nodes q r m nodes apart all.0
    ∙ ap₂ ◌||◌ (gives_none q r m all.0 (bytes_eq-sym m.0 q ∙ other)) rest
    ∙ sym (ap (λ o. is_some (member_at r (node_or_new q o))) (at_later q m nodes other))

pub none_at : (q r : List ℕ) → bytes_eq r id_key ≡ false → has_at q r [] ≡ false
none_at q r apart = ap is_some (at_later r (id_key, text q) [] apart)

gives-is : (q r : List ℕ) (nodes : Pairs) → bytes_eq r id_key ≡ false → AreAscending nodes → AllByRecursion IsNode nodes → gives q r (nodes_of nodes) ≡ has_at q r nodes
gives-is q r [] apart sorted all = sym (none_at q r apart)
gives-is q r (m ∷ nodes) apart sorted all = nodes_by q r m nodes (bytes_eq q m.0) apart refl sorted all (gives-is q r nodes apart (ascending_tail m nodes sorted) all.1)

pub gives-nodes_of : (q r : List ℕ) (nodes : Pairs) → bytes_eq r id_key ≡ false → IsGraph nodes → gives q r (nodes_of nodes) ≡ has_at q r nodes
gives-nodes_of q r nodes apart graph = gives-is q r nodes apart graph.ascending graph.each
