-- In sums of sound operations, names and entries are told apart.
use Rattle.std.proofs.Common.{List, [], ◌∷◌, Bool, true, false, cond, Some, None, sym, subst}
use Rattle.std.specs.Prelude.{filter}
use Rattle.std.specs.List.{AllByRecursion}
use Rattle.std.specs.Map.{lookup, keys_of}
use Rattle.op_model.specs.Names.{Name, same_name}
use Rattle.op_model.specs.Ops.{Entry, list, Op, use_label, ensure_graph, ensure_node, ensure_property, add_entry, append_list, add_type, set_index}
use Rattle.op_laws.specs.Own.{HasOwn, EntryHasOwn, OpHasOwn}
use Rattle.op_laws.specs.Sound.{IsSoundProperty, IsSound}
use Rattle.op_laws.proofs.Owned.{sound_names_have_own_labels}
use Rattle.sum_model.specs.Joins.{is_new, lists_joined, or_empty, value_at, values_joined, maps_joined}
use Rattle.sum_model.specs.Sums.{Place, Placed, Key, same_key, same_entry, PartEntry, bare, part_entries_joined, Sum, join, sum_of_one, sum}
use Rattle.sum_model.specs.Shards.{part_in}
use Rattle.sum_laws.specs.Said.{at_key}
use Rattle.sum_laws.proofs.Places.{all-append}
use Rattle.sum_laws.proofs.Once.{all-filter}
use Rattle.sum_laws.proofs.Parts.{the_sum_of_a_shard_is_its_part}
use Rattle.shard_model.specs.Own.{PropertyHasOwn, PartHasOwn, NodeHasOwn, SumHasOwn}
use Rattle.shard_laws.specs.Laws.{ops, labels_by, SumsHaveOwn}

all-joined : {X : Type 0} (P : X → Type 0) (same : X → X → Bool) (a b : List X) → AllByRecursion P a → AllByRecursion P b → AllByRecursion P (lists_joined same a b)
all-joined P same a b first second = all-append P a (filter (is_new same a) b) first (all-filter P (is_new same a) b second)

-- What holds of the values of two maps, with their keys, holds of the joined ones.
module _ {K V : Type 0} (same : K → K → Bool) (empty : V) (join : V → V → V) (P : K × V → Type 0) (Q : V → Type 0) (none : Q empty) (from : (e : K × V) → P e → Q e.1) (both : (k : K) (v w : V) → P (k, v) → Q w → P (k, join v w)) where
  pub value_is : (k : K) (m : List (K × V)) → AllByRecursion P m → Q (value_at same empty k m)
  value_is k [] all = none
  value_is k (e ∷ es) all = by_test (same k e.0) (value_is k es all.1)
    where
      by_test : (b : Bool) → Q (or_empty empty (lookup (same k) es)) → Q (or_empty empty (cond b (Some e.1) (lookup (same k) es)))
      by_test true rest = from e all.0
      by_test false rest = rest

  values_are : (a b : List (K × V)) → AllByRecursion P a → AllByRecursion P b → AllByRecursion P (values_joined same empty join a b)
  values_are [] b first second = tt
  values_are (e ∷ es) b first second = (both e.0 e.1 (value_at same empty e.0 b) first.0 (value_is e.0 b second), values_are es b first.1 second)

  pub maps_are : (a b : List (K × V)) → AllByRecursion P a → AllByRecursion P b → AllByRecursion P (maps_joined same empty join a b)
  maps_are a b first second = all-append P (values_joined same empty join a b) (filter (λ e. is_new same (keys_of a) e.0) b) (values_are a b first second) (all-filter P (λ e. is_new same (keys_of a) e.0) b second)

module _ (names : List Name) where
  property_joined : (k : Name) (v w : List Entry) → PropertyHasOwn names (k, v) → AllByRecursion (EntryHasOwn names) w → PropertyHasOwn names (k, lists_joined same_entry v w)
  property_joined k v w is entries = record { name = is.name; property = is.property; entries = all-joined (EntryHasOwn names) same_entry v w is.entries entries }

  pub part_joined : (a b : PartEntry) → PartHasOwn names a → PartHasOwn names b → PartHasOwn names (part_entries_joined a b)
  part_joined a b first second = record {
    types = all-joined (HasOwn names) same_name a.types b.types first.types second.types;
    properties = maps_are same_name [] (lists_joined same_entry) (PropertyHasOwn names) (AllByRecursion (EntryHasOwn names)) tt (λ e is. is.entries) property_joined a.properties b.properties first.properties second.properties;
  }

  pub bare_own : PartHasOwn names bare
  bare_own = record { types = tt; properties = tt }

  node_joined : (k : Key) (v w : PartEntry) → NodeHasOwn names (k, v) → PartHasOwn names w → NodeHasOwn names (k, part_entries_joined v w)
  node_joined k v w is part = record { graph = is.graph; node = is.node; part = part_joined v w is.part part }

  sum_joined : (a b : Sum) → SumHasOwn names a → SumHasOwn names b → SumHasOwn names (join a b)
  sum_joined a b first second = record {
    graphs = all-joined (HasOwn names) same_name a.graphs b.graphs first.graphs second.graphs;
    nodes = maps_are same_key bare part_entries_joined (NodeHasOwn names) (PartHasOwn names) bare_own (λ e is. is.part) node_joined a.nodes b.nodes first.nodes second.nodes;
  }

  pub part_at : (k : Key) (s : Sum) → SumHasOwn names s → PartHasOwn names (at_key k s)
  part_at k s is = value_is same_key bare part_entries_joined (NodeHasOwn names) (PartHasOwn names) bare_own (λ e is. is.part) node_joined k s.nodes is.nodes

  a_property : (p : Name) (es : List Entry) → HasOwn names p → IsSoundProperty p → AllByRecursion (EntryHasOwn names) es → PartHasOwn names (record { types = []; index = None; properties = (p, es) ∷ [] })
  a_property p es own sound entries = record { types = tt; properties = (record { name = own; property = sound; entries = entries }, tt) }

  a_node : (g n : Name) (e : PartEntry) → HasOwn names g → HasOwn names n → PartHasOwn names e → SumHasOwn names (record { graphs = []; nodes = ((g, n), e) ∷ [] })
  a_node g n e graph node part = record { graphs = tt; nodes = (record { graph = graph; node = node; part = part }, tt) }

  pub one_own : (at : Place) (o : Op) → IsSound o → OpHasOwn names o → SumHasOwn names (sum_of_one at o)
  one_own at (use_label n) sound own = record { graphs = tt; nodes = tt }
  one_own at (ensure_graph g) sound own = record { graphs = (own, tt); nodes = tt }
  one_own at (ensure_node g n) sound own = a_node g n bare own.0 own.1 bare_own
  one_own at (ensure_property g n p) sound own = a_node g n (record { types = []; index = None; properties = (p, []) ∷ [] }) own.0 own.1 (a_property p [] own.2 sound.2 tt)
  one_own at (add_entry g n p e) sound own = a_node g n (record { types = []; index = None; properties = (p, e ∷ []) ∷ [] }) own.0 own.1 (a_property p (e ∷ []) own.2 sound.2 (own.3, tt))
  one_own at (append_list g n p es) sound own = a_node g n (record { types = []; index = None; properties = (p, list es ∷ []) ∷ [] }) own.0 own.1 (a_property p (list es ∷ []) own.2 sound.2 (own.3, tt))
  one_own at (add_type g n t) sound own = a_node g n (record { types = t ∷ []; index = None; properties = [] }) own.0 own.1 (record { types = (own.2, tt); properties = tt })
  one_own at (set_index g n i) sound own = a_node g n (record { types = []; index = Some (record { place = at; text = i; conflict = None }); properties = [] }) own.0 own.1 (record { types = tt; properties = tt })

  pub sum_own : (os : List Placed) → AllByRecursion IsSound (ops os) → AllByRecursion (OpHasOwn names) (ops os) → SumHasOwn names (sum os)
  sum_own [] sound own = record { graphs = tt; nodes = tt }
  sum_own (o ∷ os) sound own = sum_joined (sum_of_one o.0 o.1) (sum os) (one_own o.0 o.1 sound.0 own.0) (sum_own os sound.1 own.1)

  pub part_of_own : (here : Name → Bool) (s : Sum) → SumHasOwn names s → SumHasOwn names (part_in here s)
  part_of_own here s is = record { graphs = all-filter (HasOwn names) here s.graphs is.graphs; nodes = all-filter (NodeHasOwn names) (λ e. here e.0.1) s.nodes is.nodes }

pub sums_have_own : SumsHaveOwn
sums_have_own os here sound =
    let names = labels_by (ops os) in
    subst (SumHasOwn names) (sym (the_sum_of_a_shard_is_its_part here os))
    (part_of_own names here (sum os) (sum_own names os sound (sound_names_have_own_labels (ops os) sound)))
