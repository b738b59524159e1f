-- Node maps whose graphs and nodes ascend are equal where the same is found everywhere.
use Rattle.std.proofs.Common.{◌≡◌, ℕ, List, [], ◌∷◌, Bool, true, false, Option, Some, None, is_some, Ordering, Less, Equal, Greater, refl, sym, ap, ◌∙◌, subst}
use Rattle.std.specs.Prelude.{if◌then◌else◌}
use Rattle.std.specs.Str.{bytes_eq}
use Rattle.std.specs.List.{AllByRecursion}
use Rattle.std.specs.Map.{keys_of}
use Rattle.std.proofs.lemmas.Cmp.{nat_list_cmp_total}
use Rattle.std.proofs.lemmas.Map.Lookups.{exact_bytes}
use Rattle.ld_model.specs.Tree.{byte_order, IsBefore}
use Rattle.ld_model.specs.Keys.{default_graph}
use Rattle.ld_model.proofs.Puts.{bytes_eq-refl, bytes_eq-exact, flipped}
use Rattle.node_model.specs.Maps.{MapOf, at}
use Rattle.node_model.specs.NodeMap.{Node, Graph, Graphs, graph_or_new, graph_in, node_in, on_graph, with_node, on_node, list_object, told, on_entries, with_type, with_index}
use Rattle.node_model.specs.Generating.{State, index_by, empty}
use Rattle.node_laws.proofs.Maps.{Ascend, at_first, at_later, ascend_none, ascend_cons, ascend_head, ascend_tail, ascend-with_at, none_before, all-with_at, all-at}
use Rattle.op_model.specs.Names.{Name}
use Rattle.op_model.specs.Ops.{Op, use_label, ensure_graph, ensure_node, ensure_property, add_entry, append_list, add_type, set_index}
use Rattle.op_model.specs.Running.{label_in, entry_in, entries_in, apply, apply_all}

module _ {V : Type 0} where
  before_all : (k l : List ℕ) (m : MapOf V) → IsBefore k l → AllByRecursion (IsBefore l) (keys_of m) → AllByRecursion (IsBefore k) (keys_of m)
  before_all k l [] less all = tt
  before_all k l (e ∷ m) less all = (nat_list_cmp_total.trans k l e.0 less all.0, before_all k l m less all.1)

  missing : (e : List ℕ × V) (m n : MapOf V) → AllByRecursion (IsBefore e.0) (keys_of n) → ((k : List ℕ) → at k (e ∷ m) ≡ at k n) → ⊥
  missing e m n before same = absurd (let no_way : Some e.1 ≡ None = sym (at_first e.0 e m (bytes_eq-refl e.0)) ∙ same e.0 ∙ none_before e.0 n before in cc)

  pub same_maps : (m n : MapOf V) → Ascend m → Ascend n → ((k : List ℕ) → at k m ≡ at k n) → m ≡ n
  same_maps [] [] a b same = refl
  same_maps [] (f ∷ fs) a b same = absurd (missing f fs [] tt (λ k. sym (same k)))
  same_maps (e ∷ es) [] a b same = absurd (missing e es [] tt same)
  same_maps (e ∷ es) (f ∷ fs) a b same = by_order (byte_order e.0 f.0) refl (same_maps es fs (ascend_tail e es a) (ascend_tail f fs b))
    where
      behind : e.0 ≡ f.0 → (k : List ℕ) (t : Bool) → bytes_eq k e.0 ≡ t → at k es ≡ at k fs
      behind key k true is =
          let here : k ≡ e.0 = bytes_eq-exact k e.0 is in
          ap (λ x. at x es) here
          ∙ none_before e.0 es (ascend_head e es a)
          ∙ sym (none_before f.0 fs (ascend_head f fs b))
          ∙ ap (λ x. at x fs) (sym (here ∙ key))
      behind key k false is =
          sym (at_later k e es is) ∙ same k ∙ at_later k f fs (subst (λ x. bytes_eq k x ≡ false) key is)

      by_order : (o : Ordering) → byte_order e.0 f.0 ≡ o → (((k : List ℕ) → at k es ≡ at k fs) → es ≡ fs) → e ∷ es ≡ f ∷ fs
      by_order Less is rest = absurd (missing e es (f ∷ fs) (is, before_all e.0 f.0 fs is (ascend_head f fs b)) same)
      by_order Greater is rest =
          let less : IsBefore f.0 e.0 = flipped e.0 f.0 Greater is in
          absurd (missing f fs (e ∷ es) (less, before_all f.0 e.0 es less (ascend_head e es a)) (λ k. sym (same k)))
      by_order Equal is rest =
          let key : e.0 ≡ f.0 = exact_bytes e.0 f.0 is in
          let value : Some e.1 ≡ Some f.1 = sym (at_first e.0 e es (bytes_eq-refl e.0)) ∙ same e.0 ∙ at_first e.0 f fs (ap (bytes_eq e.0) (sym key) ∙ bytes_eq-refl e.0) in
          let same_value : e.1 ≡ f.1 = cc in
          λ i. (key i, same_value i) ∷ rest (λ k. behind key k (bytes_eq k e.0) refl) i

pub record IsInOrder (graphs : Graphs) : Type 0 where
  pub ascend : Ascend graphs
  pub each : AllByRecursion (λ g. Ascend g.1) graphs

pub nothing_in_order : IsInOrder []
nothing_in_order = record { ascend = ascend_none Graph; each = tt }

pub empty_in_order : IsInOrder empty.graphs
empty_in_order = record { ascend = ascend_cons {V = Graph} (default_graph, []) [] tt (ascend_none Graph); each = (ascend_none Node, tt) }

pub graph_ascends : (g : List ℕ) (graphs : Graphs) → IsInOrder graphs → Ascend (graph_in g graphs)
graph_ascends g graphs order = by_found (at g graphs) refl
  where
    by_found : (o : Option Graph) → at g graphs ≡ o → Ascend (graph_or_new o)
    by_found (Some nodes) is = all-at (λ e. Ascend e.1) g graphs nodes order.each is
    by_found None is = ascend_none Node

pub on_graph_in_order : (g : List ℕ) (change : Graph → Graph) (graphs : Graphs) → ((nodes : Graph) → Ascend nodes → Ascend (change nodes)) → IsInOrder graphs → IsInOrder (on_graph g change graphs)
on_graph_in_order g change graphs keeps order =
    let nodes = change (graph_in g graphs) in
    record { ascend = ascend-with_at g nodes graphs order.ascend; each = all-with_at (λ e. Ascend e.1) g nodes graphs (keeps (graph_in g graphs) (graph_ascends g graphs order)) order.each }

pub on_node_in_order : (g id : List ℕ) (change : Node → Node) (graphs : Graphs) → IsInOrder graphs → IsInOrder (on_node g id change graphs)
on_node_in_order g id change graphs order = on_graph_in_order g (with_node id change) graphs (λ nodes ascend. ascend-with_at id (change (node_in id nodes)) nodes ascend) order

pub same_option : {V X : Type 0} (read : Option V → X) → ((a b : V) → read (Some a) ≡ read (Some b) → a ≡ b) → (o p : Option V) → is_some o ≡ is_some p → read o ≡ read p → o ≡ p
same_option read exact None None there same = refl
same_option read exact (Some a) (Some b) there same = ap Some (exact a b same)
same_option read exact None (Some b) there same = absurd (cc)
same_option read exact (Some a) None there same = absurd (cc)

pub same_graphs : (a b : Graphs) → IsInOrder a → IsInOrder b → ((g : List ℕ) → is_some (at g a) ≡ is_some (at g b)) → ((g id : List ℕ) → at id (graph_in g a) ≡ at id (graph_in g b)) → a ≡ b
same_graphs a b a_order b_order there same =
    same_maps a b a_order.ascend b_order.ascend (λ g. same_option graph_or_new (λ x y is. is) (at g a) (at g b) (there g) (same_maps (graph_in g a) (graph_in g b) (graph_ascends g a a_order) (graph_ascends g b b_order) (same g)))

-- Operations keep the order.
module _ (names : List Name) where
  index_in_order : (o : Option (List ℕ)) (g id index : List ℕ) (s : State) → IsInOrder s.graphs → IsInOrder (index_by o g id index s).graphs
  index_in_order None g id index s order = on_node_in_order g id (with_index index) s.graphs order
  index_in_order (Some first) g id index s order = by_test (bytes_eq first index) s _ order order
    where
      by_test : (t : Bool) (r u : State) → IsInOrder r.graphs → IsInOrder u.graphs → IsInOrder (if t then r else u).graphs
      by_test true r u first second = first
      by_test false r u first second = second

  one_in_order : (o : Op) (s : State) → IsInOrder s.graphs → IsInOrder (apply names o s).graphs
  one_in_order (use_label n) s order = order
  one_in_order (ensure_graph g) s order = on_graph_in_order (label_in names g) (λ nodes. nodes) s.graphs (λ nodes ascend. ascend) order
  one_in_order (ensure_node g n) s order = on_node_in_order (label_in names g) (label_in names n) (λ n. n) s.graphs order
  one_in_order (ensure_property g n p) s order = on_node_in_order (label_in names g) (label_in names n) (on_entries (label_in names p) (λ es. es)) s.graphs order
  one_in_order (add_entry g n p e) s order = on_node_in_order (label_in names g) (label_in names n) (on_entries (label_in names p) (told (entry_in names e))) s.graphs order
  one_in_order (append_list g n p es) s order = on_node_in_order (label_in names g) (label_in names n) (on_entries (label_in names p) (told (list_object (entries_in names es)))) s.graphs order
  one_in_order (add_type g n t) s order = on_node_in_order (label_in names g) (label_in names n) (with_type (label_in names t)) s.graphs order
  one_in_order (set_index g n i) s order = index_in_order (node_in (label_in names n) (graph_in (label_in names g) s.graphs)).index (label_in names g) (label_in names n) i s order

  pub all_in_order : (os : List Op) (s : State) → IsInOrder s.graphs → IsInOrder (apply_all names os s).graphs
  all_in_order [] s order = order
  all_in_order (o ∷ os) s order = all_in_order os (apply names o s) (one_in_order o s order)
