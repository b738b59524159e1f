-- What generation keeps true of the nodes: their ids ascend, and each has its id and its properties in order.
use Rattle.std.proofs.Common.{◌≡◌, ℕ, List, [], ◌∷◌, Bool, true, false, cond, Option, Some, None, refl, sym, ◌∙◌, subst}
use Rattle.std.specs.Str.{bytes_eq}
use Rattle.std.specs.List.{AllByRecursion}
use Rattle.std.specs.Map.{lookup}
use Rattle.ld_model.specs.Tree.{Tree, text, object, Pairs, member_list, members_of, member_list-members_of, member_at, put, AreAscending}
use Rattle.ld_model.specs.Keys.{id_key}
use Rattle.ld_model.specs.Label.{Labels, is_blank, issue}
use Rattle.ld_model.specs.NodeMap.{State, named, new_node, node_or_new, node_at, with_node_by, with_node, entries_of, added, with_entries, changed, target, entry_by, entries_into, property_into, properties_into, item_into, items_into}
use Rattle.flatten_laws.specs.Statements.{members_in}
use Rattle.ld_model.proofs.Puts.{bytes_eq-exact, bytes_eq-sym, at_first, at_later, member_at-put_other, all-put, ascending_nil, ascending_cons, ascending-put}

-- Members of a node with this id.
pub record IsNodeOf (id : List ℕ) (ms : Pairs) : Type 0 where
  pub ascending : AreAscending ms
  pub id_at : member_at id_key ms ≡ Some (text id)

abbrev pub IsNode : List ℕ × Tree → Type 0
IsNode (k, object ms) = IsNodeOf k (member_list ms)
IsNode _ = ⊥

pub record IsGraph (nodes : Pairs) : Type 0 where
  pub ascending : AreAscending nodes
  pub each : AllByRecursion IsNode nodes

new_node_is : (id : List ℕ) → IsNodeOf id (new_node id)
new_node_is id = record { ascending = ascending_cons (id_key, text id) [] tt ascending_nil; id_at = refl }

first_is : (id k : List ℕ) (t : Tree) → bytes_eq id k ≡ true → IsNode (k, t) → IsNodeOf id (node_or_new id (Some t))
first_is id k (object ms) same is = subst (λ x. IsNodeOf x (member_list ms)) (sym (bytes_eq-exact id k same)) is
first_is id k _ same is = absurd is

node_at_by : (id : List ℕ) (m : List ℕ × Tree) (nodes : Pairs) (b : Bool) → bytes_eq id m.0 ≡ b → IsNode m → IsNodeOf id (node_at id nodes) → IsNodeOf id (node_at id (m ∷ nodes))
node_at_by id m nodes true same is rest = subst (λ o. IsNodeOf id (node_or_new id o)) (sym (at_first id m nodes same)) (first_is id m.0 m.1 same is)
node_at_by id m nodes false same is rest = subst (λ o. IsNodeOf id (node_or_new id o)) (sym (at_later id m nodes same)) rest

pub node_at_is : (id : List ℕ) (nodes : Pairs) → AllByRecursion IsNode nodes → IsNodeOf id (node_at id nodes)
node_at_is id [] all = new_node_is id
node_at_is id (m ∷ nodes) all = node_at_by id m nodes (bytes_eq id m.0) refl all.0 (node_at_is id nodes all.1)

put_is_graph : (id : List ℕ) (ms nodes : Pairs) → IsNodeOf id ms → IsGraph nodes → IsGraph (put id (object (members_of ms)) nodes)
put_is_graph id ms nodes node graph =
    record {
      ascending = ascending-put id (object (members_of ms)) nodes graph.ascending;
      each = all-put IsNode id (object (members_of ms)) nodes (subst (IsNodeOf id) (sym (member_list-members_of ms)) node) graph.each;
    }

pub changed_is_graph : (id property : List ℕ) (change : List Tree → List Tree) (nodes : Pairs) → bytes_eq property id_key ≡ false → IsGraph nodes → IsGraph (changed id property change nodes)
unfolding changed with_entries
changed_is_graph id property change nodes apart graph =
    let old = node_at_is id nodes graph.each in
    put_is_graph id (with_entries property change (node_at id nodes)) nodes
    (record {
      ascending = ascending-put property _ (node_at id nodes) old.ascending;
      id_at = member_at-put_other id_key property _ (node_at id nodes) (bytes_eq-sym id_key property ∙ apart) ∙ old.id_at;
    })
    graph

with_node_by_is_graph : (o : Option Tree) (id : List ℕ) (nodes : Pairs) → IsGraph nodes → IsGraph (with_node_by o id nodes)
with_node_by_is_graph None id nodes graph = put_is_graph id (new_node id) nodes (new_node_is id) graph
with_node_by_is_graph (Some t) id nodes graph = graph

with_node_is_graph : (id : List ℕ) (nodes : Pairs) → IsGraph nodes → IsGraph (with_node id nodes)
unfolding with_node
with_node_is_graph id nodes graph = with_node_by_is_graph (member_at id nodes) id nodes graph

-- The name of a property is not `@id`.
issued_apart : (s : List ℕ) (l : Labels) → bytes_eq (issue (Some s) l).0 id_key ≡ false
issued_apart s l = by_given (lookup (bytes_eq s) l.given) refl
  where
    by_given : (o : Option ℕ) → lookup (bytes_eq s) l.given ≡ o → bytes_eq (issue (Some s) l).0 id_key ≡ false
    by_given (Some n) is = rw is
    by_given None is = rw is

named_apart_by : (b : Bool) (s : List ℕ) (l : Labels) → bytes_eq s id_key ≡ false → bytes_eq (cond b (issue (Some s) l) (s, l)).0 id_key ≡ false
named_apart_by true s l apart = issued_apart s l
named_apart_by false s l apart = apart

named_apart : (s : List ℕ) (l : Labels) → bytes_eq s id_key ≡ false → bytes_eq (named s l).0 id_key ≡ false
named_apart s l apart = named_apart_by (is_blank s) s l apart

entry_by_is_graph : (o : Option (List ℕ)) (id property : List ℕ) (entry : Tree) (s : State) → bytes_eq property id_key ≡ false → IsGraph s.nodes → IsGraph (entry_by o id property entry s).nodes
entry_by_is_graph None id property entry s apart graph = changed_is_graph id property (added entry) s.nodes apart graph
entry_by_is_graph (Some to) id property entry s apart graph =
    changed_is_graph id property _ _ apart (with_node_is_graph (named to s.labels).0 s.nodes graph)

entries_is_graph : (id property : List ℕ) (es : List Tree) (s : State) → bytes_eq property id_key ≡ false → IsGraph s.nodes → IsGraph (entries_into id property es s).nodes
entries_is_graph id property [] s apart graph = graph
entries_is_graph id property (e ∷ es) s apart graph = entries_is_graph id property es _ apart (entry_by_is_graph (target e) id property e s apart graph)

property_is_graph : (id : List ℕ) (m : List ℕ × Tree) (s : State) → bytes_eq m.0 id_key ≡ false → IsGraph s.nodes → IsGraph (property_into id m s).nodes
property_is_graph id m s apart graph =
    let name : bytes_eq (named m.0 s.labels).0 id_key ≡ false = named_apart m.0 s.labels apart in
    entries_is_graph id (named m.0 s.labels).0 (entries_of (Some m.1)) _ name (changed_is_graph id (named m.0 s.labels).0 (λ ts. ts) s.nodes name graph)

member_is_graph : (b : Bool) (id : List ℕ) (m : List ℕ × Tree) (s : State) → bytes_eq m.0 id_key ≡ b → IsGraph s.nodes → IsGraph (cond b s (property_into id m s)).nodes
member_is_graph true id m s is graph = graph
member_is_graph false id m s is graph = property_is_graph id m s is graph

properties_is_graph : (id : List ℕ) (ms : Pairs) (s : State) → IsGraph s.nodes → IsGraph (properties_into id ms s).nodes
properties_is_graph id [] s graph = graph
properties_is_graph id (m ∷ ms) s graph = properties_is_graph id ms _ (member_is_graph (bytes_eq m.0 id_key) id m s refl graph)

item_is_graph : (t : Tree) (s : State) → IsGraph s.nodes → IsGraph (item_into t s).nodes
item_is_graph (object ms) s graph = properties_is_graph _ (member_list ms) _ (with_node_is_graph _ s.nodes graph)
item_is_graph _ s graph = graph

pub items_is_graph : (ts : List Tree) (s : State) → IsGraph s.nodes → IsGraph (items_into ts s).nodes
items_is_graph [] s graph = graph
items_is_graph (t ∷ ts) s graph = items_is_graph ts _ (item_is_graph t s graph)

pub empty_is_graph : IsGraph []
empty_is_graph = record { ascending = ascending_nil; each = tt }

-- A node of a graph is an object, so it has the members that a look-up reads.
pub members_of_node : (q k : List ℕ) (t : Tree) → IsNode (k, t) → members_in t ≡ node_or_new q (Some t)
members_of_node q k (object ms) is = refl
members_of_node q k _ is = absurd is
