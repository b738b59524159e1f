-- What node objects state determines them.
use Rattle.std.proofs.Common.{◌≡◌, ℕ, List, [], ◌∷◌, Bool, true, false, cond, Option, Some, None, is_some, length, nat_lt, refl, sym, ap, ◌∙◌, subst, lt-ltb}
use Rattle.std.specs.Prelude.{filter, map as each}
use Rattle.std.specs.Str.{bytes_eq}
use Rattle.std.specs.List.{AllByRecursion}
use Rattle.std.specs.List.Sorted.{IsStrictlySortedBy}
use Rattle.std.specs.Map.{keys_of}
use Rattle.ld_model.specs.Tree.{Tree, text, array, object, Trees, no_trees, tree, Members, no_members, member, Pairs, member_list, members_of, member_at, trees_of, tree_list, AreAscending, byte_order}
use Rattle.ld_model.specs.Keys.{id_key}
use Rattle.ld_model.specs.Plain.{is_plain_array, is_plain_member, are_plain_members, is_plain_item, are_plain_items}
use Rattle.ld_model.specs.NodeMap.{node_or_new, node_at, entries_of}
use Rattle.ld_model.specs.Flatten.{has_more, nodes_of}
use Rattle.flatten_laws.specs.Statements.{id_of, text_of, statements, gives}
use Rattle.flatten_laws.specs.Laws.{AscendById, IsInOrder}
use Rattle.ld_model.proofs.Puts.{bytes_eq-exact, at_first, at_later}
use Rattle.ld_model.proofs.Truths.{both}
use Rattle.ld_model.proofs.SameMembers.{same_members}
use Rattle.flatten_laws.proofs.PlainNames.{plain_id}
use Rattle.flatten_laws.proofs.Gathering.{property_parts}
use Rattle.flatten_laws.proofs.Graph.{IsNode, IsGraph, node_at_is}
use Rattle.flatten_laws.proofs.Entries.{entries_at}
use Rattle.flatten_laws.proofs.Properties.{has_at, gives-nodes_of}
use Rattle.flatten_laws.proofs.Readout.{statements-nodes_of}

-- The lists of a tree, there and back.
trees_of-tree_list : (ts : Trees) → trees_of (tree_list ts) ≡ ts
trees_of-tree_list no_trees = refl
trees_of-tree_list (tree t ts) = ap (tree t) (trees_of-tree_list ts)

members_of-member_list : (ms : Members) → members_of (member_list ms) ≡ ms
members_of-member_list no_members = refl
members_of-member_list (member k t ms) = ap (member k t) (members_of-member_list ms)

-- An array stands somewhere, or nothing does.
abbrev IsArrayIfAny : Option Tree → Type 0
IsArrayIfAny None = Unit {0}
IsArrayIfAny (Some (array ts)) = Unit {0}
IsArrayIfAny _ = ⊥

same_arrays : (o p : Option Tree) → IsArrayIfAny o → IsArrayIfAny p → is_some o ≡ is_some p → entries_of o ≡ entries_of p → o ≡ p
same_arrays None None o_is p_is some entries = refl
same_arrays None (Some t) o_is p_is some entries = absurd (cc)
same_arrays (Some t) None o_is p_is some entries = absurd (cc)
same_arrays (Some (array ts)) (Some (array us)) o_is p_is some entries =
    ap (λ l. Some (array l)) (sym (trees_of-tree_list ts) ∙ ap trees_of entries ∙ trees_of-tree_list us)
same_arrays (Some (array ts)) (Some _) o_is p_is some entries = absurd p_is
same_arrays (Some _) (Some t) o_is p_is some entries = absurd o_is

array_if_plain : (t : Tree) → is_plain_array t ≡ true → IsArrayIfAny (Some t)
array_if_plain (array ts) plain = tt
array_if_plain _ plain = absurd (cc)

array_by : (r : List ℕ) (m : List ℕ × Tree) (ms : Pairs) (b : Bool) → bytes_eq r m.0 ≡ b → bytes_eq r id_key ≡ false → is_plain_member m ≡ true → IsArrayIfAny (member_at r ms) → IsArrayIfAny (member_at r (m ∷ ms))
array_by r m ms true same apart plain rest =
    let other : bytes_eq m.0 id_key ≡ false = ap (λ x. bytes_eq x id_key) (sym (bytes_eq-exact r m.0 same)) ∙ apart in
    subst IsArrayIfAny (sym (at_first r m ms same)) (array_if_plain m.1 (property_parts m other plain).1)
array_by r m ms false other apart plain rest = subst IsArrayIfAny (sym (at_later r m ms other)) rest

array_at : (r : List ℕ) (ms : Pairs) → bytes_eq r id_key ≡ false → are_plain_members ms ≡ true → IsArrayIfAny (member_at r ms)
array_at r [] apart plain = tt
array_at r (m ∷ ms) apart plain =
    let parts = both (is_plain_member m) (are_plain_members ms) plain in
    array_by r m ms (bytes_eq r m.0) refl apart parts.0 (array_at r ms apart parts.1)

-- A node as the outcome has it.
abbrev pub IsOutcome : Tree → Type 0
IsOutcome (object ms) = (are_plain_members (member_list ms) ≡ true) × (nat_lt 1 (length (member_list ms)) ≡ true)
IsOutcome _ = ⊥

abbrev IsOutcomeIfAny : Option Tree → Type 0
IsOutcomeIfAny None = Unit {0}
IsOutcomeIfAny (Some t) = IsOutcome t

outcome_by : (k : List ℕ) (m : List ℕ × Tree) (nodes : Pairs) (b : Bool) → bytes_eq k m.0 ≡ b → IsOutcome m.1 → IsOutcomeIfAny (member_at k nodes) → IsOutcomeIfAny (member_at k (m ∷ nodes))
outcome_by k m nodes true same is rest = subst IsOutcomeIfAny (sym (at_first k m nodes same)) is
outcome_by k m nodes false apart is rest = subst IsOutcomeIfAny (sym (at_later k m nodes apart)) rest

outcome_at : (k : List ℕ) (nodes : Pairs) → AllByRecursion (λ m. IsOutcome m.1) nodes → IsOutcomeIfAny (member_at k nodes)
outcome_at k [] all = tt
outcome_at k (m ∷ nodes) all = outcome_by k m nodes (bytes_eq k m.0) refl all.0 (outcome_at k nodes all.1)

array_in : (k r : List ℕ) (o : Option Tree) → bytes_eq r id_key ≡ false → IsOutcomeIfAny o → IsArrayIfAny (member_at r (node_or_new k o))
array_in k r None apart is = subst IsArrayIfAny (sym (at_later r (id_key, text k) [] apart)) tt
array_in k r (Some (object ms)) apart is = array_at r (member_list ms) apart is.0
array_in k r (Some _) apart is = absurd is

same_nodes : (k : List ℕ) (o p : Option Tree) → IsOutcomeIfAny o → IsOutcomeIfAny p → node_or_new k o ≡ node_or_new k p → o ≡ p
same_nodes k None None o_is p_is same = refl
same_nodes k None (Some (object ms)) o_is p_is same =
    let less : false ≡ nat_lt 1 (length (member_list ms)) = ap (λ l. nat_lt 1 (length l)) same in
    let more = p_is.1 in
    absurd (cc)
same_nodes k None (Some _) o_is p_is same = absurd p_is
same_nodes k (Some (object ms)) None o_is p_is same =
    let less : nat_lt 1 (length (member_list ms)) ≡ false = ap (λ l. nat_lt 1 (length l)) same in
    let more = o_is.1 in
    absurd (cc)
same_nodes k (Some (object ms)) (Some (object ns)) o_is p_is same =
    ap (λ l. Some (object l)) (sym (members_of-member_list ms) ∙ ap members_of same ∙ members_of-member_list ns)
same_nodes k (Some (object ms)) (Some _) o_is p_is same = absurd p_is
same_nodes k (Some _) p o_is p_is same = absurd o_is

-- Nodes with the same properties and entries are the same.
pub record IsFlat (nodes : Pairs) : Type 0 where
  pub graph : IsGraph nodes
  pub outcome : AllByRecursion (λ m. IsOutcome m.1) nodes

module _ (g h : Pairs) (g_flat : IsFlat g) (h_flat : IsFlat h) (properties : (q r : List ℕ) → bytes_eq r id_key ≡ false → has_at q r g ≡ has_at q r h) (entries : (q r : List ℕ) → entries_at q r g ≡ entries_at q r h) where
  same_at_by : (q r : List ℕ) (b : Bool) → bytes_eq r id_key ≡ b → member_at r (node_at q g) ≡ member_at r (node_at q h)
  same_at_by q r true same =
      subst (λ x. member_at x (node_at q g) ≡ member_at x (node_at q h)) (sym (bytes_eq-exact r id_key same))
      ((node_at_is q g g_flat.graph.each).id_at ∙ sym (node_at_is q h h_flat.graph.each).id_at)
  same_at_by q r false apart =
      same_arrays _ _ (array_in q r (member_at q g) apart (outcome_at q g g_flat.outcome)) (array_in q r (member_at q h) apart (outcome_at q h h_flat.outcome)) (properties q r apart) (entries q r)

  same_node_at : (q : List ℕ) → node_at q g ≡ node_at q h
  same_node_at q =
      same_members (node_at q g) (node_at q h) (node_at_is q g g_flat.graph.each).ascending (node_at_is q h h_flat.graph.each).ascending
      (λ r. same_at_by q r (bytes_eq r id_key) refl)

  pub same_graph : g ≡ h
  same_graph =
      same_members g h g_flat.graph.ascending h_flat.graph.ascending
      (λ q. same_nodes q (member_at q g) (member_at q h) (outcome_at q g g_flat.outcome) (outcome_at q h h_flat.outcome) (same_node_at q))

-- Node objects as a graph: each at its id.
abbrev pub key_of : Option (List ℕ) → List ℕ
key_of (Some id) = id
key_of None = []

abbrev pub keyed : List Tree → Pairs
keyed [] = []
keyed (t ∷ ts) = (key_of (id_of t), t) ∷ keyed ts

pub values_keyed : (ts : List Tree) → each (λ m. m.1) (keyed ts) ≡ ts
values_keyed [] = refl
values_keyed (t ∷ ts) = ap (λ l. t ∷ l) (values_keyed ts)

keys_keyed : (ts : List Tree) → keys_of (keyed ts) ≡ each key_of (each id_of ts)
keys_keyed [] = refl
keys_keyed (t ∷ ts) = ap (λ l. key_of (id_of t) ∷ l) (keys_keyed ts)

keys_some : (ids : List (List ℕ)) → each key_of (each Some ids) ≡ ids
keys_some [] = refl
keys_some (id ∷ ids) = ap (λ l. id ∷ l) (keys_some ids)

keyed_ascends : (ts : List Tree) → AscendById ts → AreAscending (keyed ts)
keyed_ascends ts ascend = subst (IsStrictlySortedBy byte_order) (sym (keys_keyed ts ∙ ap (each key_of) ascend.1 ∙ keys_some ascend.0)) ascend.2

keyed_is_node : (t : Tree) → is_plain_item t ≡ true → IsInOrder t → IsNode (key_of (id_of t), t)
keyed_is_node (object ms) plain order =
    let parts = both (is_some (member_at id_key (member_list ms))) (are_plain_members (member_list ms)) plain in
    let id = plain_id (member_list ms) parts.1 parts.0 in
    record { ascending = order.0; id_at = id.stands ∙ ap (λ o. Some (text (key_of (text_of o)))) (sym id.stands) }
keyed_is_node _ plain order = absurd (cc)

keyed_is_outcome : (t : Tree) → is_plain_item t ≡ true → IsInOrder t → IsOutcome t
keyed_is_outcome (object ms) plain order =
    ((both (is_some (member_at id_key (member_list ms))) (are_plain_members (member_list ms)) plain).1, lt-ltb 1 (length (member_list ms)) order.1)
keyed_is_outcome _ plain order = absurd (cc)

keyed_nodes : (ts : List Tree) → are_plain_items ts ≡ true → AllByRecursion IsInOrder ts → AllByRecursion IsNode (keyed ts)
keyed_nodes [] plain order = tt
keyed_nodes (t ∷ ts) plain order =
    let parts = both (is_plain_item t) (are_plain_items ts) plain in
    (keyed_is_node t parts.0 order.0, keyed_nodes ts parts.1 order.1)

keyed_outcomes : (ts : List Tree) → are_plain_items ts ≡ true → AllByRecursion IsInOrder ts → AllByRecursion (λ m. IsOutcome m.1) (keyed ts)
keyed_outcomes [] plain order = tt
keyed_outcomes (t ∷ ts) plain order =
    let parts = both (is_plain_item t) (are_plain_items ts) plain in
    (keyed_is_outcome t parts.0 order.0, keyed_outcomes ts parts.1 order.1)

pub keyed_is_flat : (ts : List Tree) → are_plain_items ts ≡ true → AscendById ts → AllByRecursion IsInOrder ts → IsFlat (keyed ts)
keyed_is_flat ts plain ascend order =
    record { graph = record { ascending = keyed_ascends ts ascend; each = keyed_nodes ts plain order }; outcome = keyed_outcomes ts plain order }

outcome_has_more : (k : List ℕ) (t : Tree) → IsOutcome t → has_more (k, t) ≡ true
outcome_has_more k (object ms) is = is.1
outcome_has_more k _ is = absurd is

all_stay : (nodes : Pairs) → AllByRecursion (λ m. IsOutcome m.1) nodes → nodes_of nodes ≡ each (λ m. m.1) nodes
all_stay [] all = refl
all_stay (m ∷ nodes) all =
    ap (λ b. each (λ (m : List ℕ × Tree). m.1) (cond b (m ∷ filter has_more nodes) (filter has_more nodes))) (outcome_has_more m.0 m.1 all.0)
    ∙ ap (λ l. m.1 ∷ l) (all_stay nodes all.1)

pub keyed_stays : (ts : List Tree) → IsFlat (keyed ts) → nodes_of (keyed ts) ≡ ts
keyed_stays ts flat = all_stay (keyed ts) flat.outcome ∙ values_keyed ts

-- Node objects that state the same are the same.
pub same_objects : (ts us : List Tree) → IsFlat (keyed ts) → IsFlat (keyed us) → ((q r : List ℕ) → bytes_eq r id_key ≡ false → gives q r ts ≡ gives q r us) → ((q r : List ℕ) → statements q r ts ≡ statements q r us) → ts ≡ us
same_objects ts us ts_flat us_flat properties entries =
    sym (values_keyed ts)
    ∙ ap (each (λ m. m.1)) (same_graph (keyed ts) (keyed us) ts_flat us_flat
    (λ q r apart. sym (gives-nodes_of q r (keyed ts) apart ts_flat.graph) ∙ ap (gives q r) (keyed_stays ts ts_flat) ∙ properties q r apart ∙ sym (ap (gives q r) (keyed_stays us us_flat)) ∙ gives-nodes_of q r (keyed us) apart us_flat.graph)
    (λ q r. sym (statements-nodes_of q r (keyed ts) ts_flat.graph) ∙ ap (statements q r) (keyed_stays ts ts_flat) ∙ entries q r ∙ sym (ap (statements q r) (keyed_stays us us_flat)) ∙ statements-nodes_of q r (keyed us) us_flat.graph))
    ∙ values_keyed us
