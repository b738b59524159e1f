-- What operations make of a node map. A name gets its label where it is used first (JSON-LD 1.1 API, section 7.4), so the number in its
-- label is its place among the names in the order of first use.
use Rattle.std.specs.Prelude.{ℕ, suc, List, [], ◌∷◌, ◌++◌, length, if◌then◌else◌}
use Rattle.std.specs.List.{list_any}
use Rattle.ld_model.specs.Tree.{Tree}
use Rattle.ld_model.specs.Label.{label_of}
use Rattle.ld_model.specs.NodeMap.{reference as reference_to}
use Rattle.node_model.specs.Maps.{MapOf, with_at}
use Rattle.node_model.specs.Labels.{Labels}
use Rattle.node_model.specs.NodeMap.{on_node, on_entries, list_object}
use Rattle.node_model.specs.Generating.{State, on_graphs, generating, empty}
use Rattle.op_model.specs.Names.{Name, iri, source, fresh, same_name, blank}
use Rattle.op_model.specs.Ops.{Entry, value, reference, list, Entries, no_entries, entry, Op, use_label, ensure_graph, ensure_node, ensure_property, add_entry, append_list, add_type, set_index}

-- The names, with this one at their end, unless it is among them.
unfoldable pub with_name : List Name → Name → List Name
with_name names n = if list_any (same_name n) names then names else (names ++ n ∷ [])

-- The names in the order of first use, once these are used too.
abbrev pub used : List Name → List Name → List Name
used names [] = names
used names (n ∷ ns) = used (with_name names n) ns

-- How many names stand before this one.
abbrev pub place_of : Name → List Name → ℕ
place_of n [] = 0
place_of n (m ∷ ms) = if same_name n m then 0 else suc (place_of n ms)

-- What a name is called in the node map, where these names need labels, in this order.
abbrev pub label_in : List Name → Name → List ℕ
label_in names (iri s) = s
label_in names n = label_of (place_of n names)

abbrev mutual
  pub entry_in : List Name → Entry → Tree
  entry_in names (value t) = t
  entry_in names (reference n) = reference_to (label_in names n)
  entry_in names (list es) = list_object (entries_in names es)

  pub entries_in : List Name → Entries → List Tree
  entries_in names no_entries = []
  entries_in names (entry e es) = entry_in names e ∷ entries_in names es

-- The names in an operation that need labels, in the order of its fields, and a list's in the order of its entries.
abbrev mutual
  pub uses_of_entry : Entry → List Name
  uses_of_entry (value t) = []
  uses_of_entry (reference n) = blank n
  uses_of_entry (list es) = uses_of_entries es

  pub uses_of_entries : Entries → List Name
  uses_of_entries no_entries = []
  uses_of_entries (entry e es) = uses_of_entry e ++ uses_of_entries es

abbrev pub uses : Op → List Name
uses (use_label n) = blank n
uses (ensure_graph g) = blank g
uses (ensure_node g n) = blank g ++ blank n
uses (ensure_property g n p) = blank g ++ (blank n ++ blank p)
uses (add_entry g n p e) = blank g ++ (blank n ++ (blank p ++ uses_of_entry e))
uses (append_list g n p es) = blank g ++ (blank n ++ (blank p ++ uses_of_entries es))
uses (add_type g n t) = blank g ++ (blank n ++ blank t)
uses (set_index g n i) = blank g ++ blank n

-- The uses of operations, one after another.
abbrev pub uses_of_all : List Op → List Name
uses_of_all [] = []
uses_of_all (o ∷ os) = uses o ++ uses_of_all os

-- The numbers that labels of the document have been given, where names are used in this order from this number on.
abbrev pub numbers_from : ℕ → List Name → MapOf ℕ
numbers_from n [] = []
numbers_from n (source s ∷ names) = with_at s n (numbers_from (suc n) names)
numbers_from n (iri s ∷ names) = numbers_from (suc n) names
numbers_from n (fresh c k ∷ names) = numbers_from (suc n) names

-- The labels of generation, once a label has been issued for each of these names.
abbrev pub labels_of : List Name → Labels
labels_of names = record { issued = length names; given = numbers_from 0 names }

abbrev pub labelled : List Name → State → State
labelled names s = record { graphs = s.graphs; labels = labels_of names; conflict = s.conflict }

-- An operation: generation's step under the labels of its names. The labels of the state stay.
abbrev pub apply : List Name → Op → State → State
apply names (use_label n) s = s
apply names (ensure_graph g) s = generating.graph (label_in names g) s
apply names (ensure_node g n) s = on_graphs (on_node (label_in names g) (label_in names n) (λ n. n)) s
apply names (ensure_property g n p) s = on_graphs (on_node (label_in names g) (label_in names n) (on_entries (label_in names p) (λ es. es))) s
apply names (add_entry g n p e) s = generating.add (label_in names g) (label_in names n) (label_in names p) (entry_in names e) s
apply names (append_list g n p es) s = generating.append (label_in names g) (label_in names n) (label_in names p) (entries_in names es) s
apply names (add_type g n t) s = generating.type_ (label_in names g) (label_in names n) (label_in names t) s
apply names (set_index g n i) s = generating.index (label_in names g) (label_in names n) i s

-- Operations, where labels were numbered before.
abbrev pub apply_all : List Name → List Op → State → State
apply_all names [] s = s
apply_all names (o ∷ os) s = apply_all names os (apply names o s)

-- The state of generation, and the names that have a label in it, in the order of first use.
pub record Run : Type 0 where
  pub names : List Name
  pub state : State

-- An operation, once these names have labels.
abbrev pub applied : List Name → Op → State → Run
applied names o s = record { names = names; state = apply names o (labelled names s) }

abbrev pub run_one : Op → Run → Run
run_one o r = applied (used r.names (uses o)) o r.state

-- Operations, one after another.
abbrev pub run : List Op → Run → Run
run [] r = r
run (o ∷ os) r = run os (run_one o r)

-- Before the first operation of a document.
abbrev pub before : Run
before = record { names = []; state = empty }
