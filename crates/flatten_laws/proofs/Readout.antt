-- What the nodes of the outcome state is what the graph has at them.
use Rattle.std.proofs.Common.{◌≡◌, ℕ, List, [], ◌∷◌, ◌++◌, Bool, true, false, cond, Some, None, length, nat_lt, refl, sym, ap, ap₂, ◌∙◌, subst, append-nil, arith, lt-ltb}
use Rattle.std.specs.Prelude.{filter, map as each}
use Rattle.std.specs.Str.{bytes_eq}
use Rattle.std.specs.List.{AllByRecursion, flat_map}
use Rattle.std.specs.Map.{keys_of}
use Rattle.std.specs.BTreeMap.{is_at}
use Rattle.ld_model.specs.Tree.{Tree, text, object, Pairs, no_members, member, member_list, member_at, AreAscending, IsBefore, byte_order}
use Rattle.ld_model.specs.Keys.{id_key}
use Rattle.ld_model.specs.NodeMap.{node_or_new, entries_of}
use Rattle.ld_model.specs.Flatten.{has_more, nodes_of}
use Rattle.flatten_laws.specs.Statements.{entries_in, members_in, is_same, member_states, object_states, statements}
use Rattle.ld_model.proofs.Puts.{bytes_eq-exact, bytes_eq-sym, apart_before, at_first, at_later, ascending_head, ascending_tail}
use Rattle.flatten_laws.proofs.Graph.{IsNode, IsGraph, members_of_node}
use Rattle.flatten_laws.proofs.Ids.{id_of-node}
use Rattle.flatten_laws.proofs.Gathering.{entries_in-is}
use Rattle.flatten_laws.proofs.Entries.{entries_at}

-- Among members in order, one alone states something under a property.
later_state_none : (r : List ℕ) (ms : Pairs) → AllByRecursion (IsBefore r) (keys_of ms) → flat_map (member_states r) ms ≡ []
later_state_none r [] all = refl
later_state_none r (m ∷ ms) all =
    ap₂ ◌++◌ (ap (λ b. cond b (entries_in m.1) []) (bytes_eq-sym m.0 r ∙ apart_before r m.0 all.0)) (later_state_none r ms all.1)

members_by : (r : List ℕ) (m : List ℕ × Tree) (ms : Pairs) (b : Bool) → bytes_eq r m.0 ≡ b → AreAscending (m ∷ ms) → flat_map (member_states r) ms ≡ entries_of (member_at r ms) → flat_map (member_states r) (m ∷ ms) ≡ entries_of (member_at r (m ∷ ms))
members_by r m ms true same sorted rest =
    let none : flat_map (member_states r) ms ≡ [] = later_state_none r ms (subst (λ x. AllByRecursion (IsBefore x) (keys_of ms)) (sym (bytes_eq-exact r m.0 same)) (ascending_head m ms sorted)) in
    ap₂ ◌++◌ (ap (λ b. cond b (entries_in m.1) []) (bytes_eq-sym m.0 r ∙ same)) none
    ∙ append-nil (entries_in m.1) ∙ sym (entries_in-is m.1) ∙ sym (ap entries_of (at_first r m ms same))
members_by r m ms false apart sorted rest =
    ap (λ b. cond b (entries_in m.1) [] ++ flat_map (member_states r) ms) (bytes_eq-sym m.0 r ∙ apart)
    ∙ rest ∙ sym (ap entries_of (at_later r m ms apart))

members_state : (r : List ℕ) (ms : Pairs) → AreAscending ms → flat_map (member_states r) ms ≡ entries_of (member_at r ms)
members_state r [] sorted = refl
members_state r (m ∷ ms) sorted = members_by r m ms (bytes_eq r m.0) refl sorted (members_state r ms (ascending_tail m ms sorted))

-- A node states what it has, at its id alone.
node_states : (q r k : List ℕ) (t : Tree) → IsNode (k, t) → object_states q r t ≡ cond (bytes_eq k q) (entries_of (member_at r (members_in t))) []
node_states q r k (object ms) is =
    ap (λ o. cond (is_same q o) (flat_map (member_states r) (member_list ms)) []) (id_of-node k (object ms) is)
    ∙ ap (λ ts. cond (bytes_eq k q) ts []) (members_state r (member_list ms) is.ascending)
node_states q r k _ is = absurd is

states_none : (q r : List ℕ) (m : List ℕ × Tree) → IsNode m → bytes_eq m.0 q ≡ false → object_states q r m.1 ≡ []
states_none q r m is apart = node_states q r m.0 m.1 is ∙ ap (λ b. cond b (entries_of (member_at r (members_in m.1))) []) apart

states_own : (q r : List ℕ) (m : List ℕ × Tree) → IsNode m → bytes_eq m.0 q ≡ true → object_states q r m.1 ≡ entries_of (member_at r (members_in m.1))
states_own q r m is same = node_states q r m.0 m.1 is ∙ ap (λ b. cond b (entries_of (member_at r (members_in m.1))) []) same

-- A node that is dropped states nothing.
only_id_by : (r k key : List ℕ) (t : Tree) (b : Bool) → bytes_eq id_key key ≡ b → member_at id_key ((key, t) ∷ []) ≡ Some (text k) → entries_of (member_at r ((key, t) ∷ [])) ≡ []
only_id_by r k key t true same is =
    let whole : t ≡ text k = cc (at_first id_key (key, t) [] same) in
    subst (λ x. entries_of (member_at r ((key, x) ∷ [])) ≡ []) (sym whole) (by_test (is_at (byte_order r) key))
  where
    by_test : (b : Bool) → entries_of (cond b (Some (text k)) None) ≡ []
    by_test true = refl
    by_test false = refl
only_id_by r k key t false apart is = let none = at_later id_key (key, t) [] apart in absurd (cc)

dropped_states_none : (r k : List ℕ) (t : Tree) → IsNode (k, t) → has_more (k, t) ≡ false → entries_of (member_at r (members_in t)) ≡ []
dropped_states_none r k (object no_members) is dropped = refl
dropped_states_none r k (object (member key t no_members)) is dropped = only_id_by r k key t (bytes_eq id_key key) refl is.id_at
dropped_states_none r k (object (member key t (member l u ms))) is dropped =
    let more : nat_lt 1 (length ((key, t) ∷ (l, u) ∷ member_list ms)) ≡ true = lt-ltb 1 _ (omega arith) in
    absurd (cc)
dropped_states_none r k _ is dropped = absurd is

kept_or_none : (q r : List ℕ) (m : List ℕ × Tree) (nodes : Pairs) (b : Bool) → has_more m ≡ b → IsNode m → statements q r (each (λ m. m.1) (cond b (m ∷ filter has_more nodes) (filter has_more nodes))) ≡ object_states q r m.1 ++ statements q r (nodes_of nodes)
kept_or_none q r m nodes true kept is = refl
kept_or_none q r m nodes false dropped is = sym (ap (λ ts. ts ++ statements q r (nodes_of nodes)) (none (bytes_eq m.0 q) refl))
  where
    none : (b : Bool) → bytes_eq m.0 q ≡ b → object_states q r m.1 ≡ []
    none true same = states_own q r m is same ∙ dropped_states_none r m.0 m.1 is dropped
    none false apart = states_none q r m is apart

statements-nodes : (q r : List ℕ) (m : List ℕ × Tree) (nodes : Pairs) → IsNode m → statements q r (nodes_of (m ∷ nodes)) ≡ object_states q r m.1 ++ statements q r (nodes_of nodes)
statements-nodes q r m nodes is = kept_or_none q r m nodes (has_more m) refl is

-- Among nodes in order, one alone has an id.
later_nodes_state_none : (q r : List ℕ) (nodes : Pairs) → AllByRecursion (IsBefore q) (keys_of nodes) → AllByRecursion IsNode nodes → statements q r (nodes_of nodes) ≡ []
later_nodes_state_none q r [] later all = refl
later_nodes_state_none q r (m ∷ nodes) later all =
    statements-nodes q r m nodes all.0
    ∙ ap₂ ◌++◌ (states_none q r m all.0 (bytes_eq-sym m.0 q ∙ apart_before q m.0 later.0)) (later_nodes_state_none q r nodes later.1 all.1)

nodes_by : (q r : List ℕ) (m : List ℕ × Tree) (nodes : Pairs) (b : Bool) → bytes_eq q m.0 ≡ b → AreAscending (m ∷ nodes) → AllByRecursion IsNode (m ∷ nodes) → statements q r (nodes_of nodes) ≡ entries_at q r nodes → statements q r (nodes_of (m ∷ nodes)) ≡ entries_at q r (m ∷ nodes)
nodes_by q r m nodes true same sorted all rest =
    let later = subst (λ x. AllByRecursion (IsBefore x) (keys_of nodes)) (sym (bytes_eq-exact q m.0 same)) (ascending_head m nodes sorted) in
    statements-nodes q r m nodes all.0
    ∙ ap₂ ◌++◌ (states_own q r m all.0 (bytes_eq-sym m.0 q ∙ same)) (later_nodes_state_none q r nodes later all.1)
    ∙ append-nil (entries_of (member_at r (members_in m.1)))
    ∙ ap (λ ms. entries_of (member_at r ms)) (members_of_node q m.0 m.1 all.0 ∙ sym (ap (node_or_new q) (at_first q m nodes same)))
nodes_by q r m nodes false apart sorted all rest =
    statements-nodes q r m nodes all.0
    ∙ ap₂ ◌++◌ (states_none q r m all.0 (bytes_eq-sym m.0 q ∙ apart)) rest
    ∙ sym (ap (λ o. entries_of (member_at r (node_or_new q o))) (at_later q m nodes apart))

pub nothing_at : (q r : List ℕ) → entries_at q r [] ≡ []
nothing_at q r = by_test (is_at (byte_order r) id_key)
  where
    by_test : (b : Bool) → entries_of (cond b (Some (text q)) None) ≡ []
    by_test true = refl
    by_test false = refl

statements-is : (q r : List ℕ) (nodes : Pairs) → AreAscending nodes → AllByRecursion IsNode nodes → statements q r (nodes_of nodes) ≡ entries_at q r nodes
statements-is q r [] sorted all = sym (nothing_at q r)
statements-is q r (m ∷ nodes) sorted all = nodes_by q r m nodes (bytes_eq q m.0) refl sorted all (statements-is q r nodes (ascending_tail m nodes sorted) all.1)

pub statements-nodes_of : (q r : List ℕ) (nodes : Pairs) → IsGraph nodes → statements q r (nodes_of nodes) ≡ entries_at q r nodes
statements-nodes_of q r nodes graph = statements-is q r nodes graph.ascending graph.each
