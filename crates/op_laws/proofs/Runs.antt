-- Steps that note operations answer alike to steps that generate, where what is noted is run.
use Rattle.std.proofs.Common.{◌≡◌, ℕ, arith, List, [], ◌∷◌, ◌++◌, if◌then◌else◌, Bool, true, false, Option, Some, None, refl, sym, ap, ap₂, ◌∙◌, subst}
use Rattle.std.specs.Str.{bytes_eq}
use Rattle.ld_model.specs.Tree.{Tree}
use Rattle.ld_model.specs.Label.{is_blank}
use Rattle.ld_model.specs.NodeMap.{reference as reference_to}
use Rattle.node_model.specs.Labels.{named, new_label}
use Rattle.node_model.specs.NodeMap.{graph_in, node_in, on_node, on_entries, list_object}
use Rattle.node_model.specs.Generating.{State, generating, index_by}
use Rattle.node_laws.proofs.Likeness.{Likeness, Pairwise, Lasts, Reach, AnswerAlike}
use Rattle.op_model.specs.Names.{Name, iri, source, fresh, name_of, blank}
use Rattle.op_model.specs.Ops.{Entry, entries_of, Op, use_label, ensure_graph, ensure_node, ensure_property, add_entry, append_list, add_type, set_index}
use Rattle.op_model.specs.Noting.{Notes, note, noting}
use Rattle.op_model.specs.Running.{used, label_in, entry_in, entries_in, uses_of_entry, uses_of_entries, uses, labels_of, labelled, apply, Run, applied, run_one, run}
use Rattle.op_laws.specs.Words.{is_known}
use Rattle.op_laws.proofs.Used.{used_again, used_now, known_stays, label_stays}
use Rattle.op_laws.proofs.Numbers.{name_issued, fresh_issued}
use Rattle.op_laws.proofs.Known.{AllKnown, blank_known, all_known-append, all_known_stay, skipped, entry_used, entries_used, entry_stays}
use Rattle.op_laws.proofs.Unused.{AreUnused, unused_after_name, unused_after_fresh}

pub run-append : (os bs : List Op) (r : Run) → run (os ++ bs) r ≡ run bs (run os r)
run-append [] bs r = refl
run-append (o ∷ os) bs r = run-append os bs (run_one o r)

-- Operations leave the labels of the state as they are.
index_keeps_labels : (o : Option (List ℕ)) (g id index : List ℕ) (s : State) → (index_by o g id index s).labels ≡ s.labels
index_keeps_labels None g id index s = refl
index_keeps_labels (Some first) g id index s = by_test (bytes_eq first index) s _ refl
  where
    by_test : (b : Bool) (r u : State) → u.labels ≡ r.labels → (if b then r else u).labels ≡ r.labels
    by_test true r u same = refl
    by_test false r u same = same

pub apply_keeps_labels : (names : List Name) (o : Op) (s : State) → (apply names o s).labels ≡ s.labels
apply_keeps_labels names (use_label n) s = refl
apply_keeps_labels names (ensure_graph g) s = refl
apply_keeps_labels names (ensure_node g n) s = refl
apply_keeps_labels names (ensure_property g n p) s = refl
apply_keeps_labels names (add_entry g n p e) s = refl
apply_keeps_labels names (append_list g n p es) s = refl
apply_keeps_labels names (add_type g n t) s = refl
apply_keeps_labels names (set_index g n i) s = index_keeps_labels (node_in (label_in names n) (graph_in (label_in names g) s.graphs)).index (label_in names g) (label_in names n) i s

-- A state that has the labels of these names.
pub already_labelled : (names : List Name) (s : State) → s.labels ≡ labels_of names → labelled names s ≡ s
already_labelled names s is = λ i. record { graphs = s.graphs; labels = sym is i; conflict = s.conflict }

-- From this run on, in the chunk with this number.
module _ (chunk : ℕ) (r : Run) where
  abbrev pub after : Notes → Run
  after n = run n.ops r

  -- What was noted, once it is run, gives this state.
  pub record Stands (n : Notes) (t : State) : Type 0 where
    pub same : (after n).state ≡ t
    pub labels : (after n).state.labels ≡ labels_of (after n).names
    pub unused : AreUnused n.chunk n.unnamed (after n).names
    pub in_chunk : n.chunk ≡ chunk

  pub record IsCalled (n : Notes) (name : Name) (s : List ℕ) : Type 0 where
    pub known : is_known (after n).names name ≡ true
    pub label : label_in (after n).names name ≡ s

  pub record IsEntry (n : Notes) (e : Entry) (t : Tree) : Type 0 where
    pub known : AllKnown (after n).names (uses_of_entry e)
    pub tree : entry_in (after n).names e ≡ t

  abbrev pub standing : Likeness Notes Name Entry State (List ℕ) Tree
  standing = record { states = Stands; names = IsCalled; properties = IsCalled; entries = IsEntry }

  -- What stands still does when more names are used.
  still_called : (n m : Notes) (ns : List Name) → (after m).names ≡ used (after n).names ns → (name : Name) (s : List ℕ) → IsCalled n name s → IsCalled m name s
  still_called n m ns are name s is = record {
    known = ap (λ l. is_known l name) are ∙ known_stays (after n).names name ns is.known;
    label = ap (λ l. label_in l name) are ∙ label_stays (after n).names name ns is.known ∙ is.label;
  }

  more_used : (n m : Notes) (ns : List Name) → (after m).names ≡ used (after n).names ns → Lasts standing n m
  more_used n m ns are = record {
    names = still_called n m ns are;
    properties = still_called n m ns are;
    entries = λ e t is. record {
      known = subst (λ l. AllKnown l (uses_of_entry e)) (sym are) (all_known_stay (after n).names (uses_of_entry e) ns is.known);
      tree = ap (λ l. entry_in l e) are ∙ entry_stays (after n).names e ns is.known ∙ is.tree;
    };
  }

  -- Notes that an operation was added to, which uses these names for the first time.
  one_more : (o : Op) (ns : List Name) (n m : Notes) (u : State) → after m ≡ applied (used (after n).names ns) o (after n).state
      → apply (used (after n).names ns) o (labelled (used (after n).names ns) (after n).state) ≡ u → AreUnused m.chunk m.unnamed (used (after n).names ns) → m.chunk ≡ chunk → Reach standing n m u
  one_more o ns n m u done to unused in_chunk =
      let names = used (after n).names ns in
      record {
        states = record {
          same = ap (λ (r : Run). r.state) done ∙ to;
          labels = ap (λ (r : Run). r.state.labels) done ∙ apply_keeps_labels names o (labelled names (after n).state) ∙ ap (λ (r : Run). labels_of r.names) (sym done);
          unused = subst (λ (r : Run). AreUnused m.chunk m.unnamed r.names) (sym done) unused;
          in_chunk = in_chunk;
        };
        lasts = more_used n m ns (ap (λ (r : Run). r.names) done);
      }

  -- An operation all of whose names are known.
  all_known : (o : Op) (n : Notes) (t u : State) → Stands n t → used (after n).names (uses o) ≡ (after n).names
      → ((s : State) → s ≡ t → apply (after n).names o s ≡ u) → Reach standing n (note o n) u
  all_known o n t u is known to =
      let names = (after n).names in
      let s = (after n).state in
      one_more o [] n (note o n) u
      (run-append n.ops (o ∷ []) r ∙ ap (λ l. applied l o s) known)
      (to (labelled names s) (already_labelled names s is.labels ∙ is.same))
      is.unused is.in_chunk

  -- An operation that uses a name for the first time.
  first_use : (o : Op) (name : Name) (n m : Notes) (u : State) (s : List ℕ) → after m ≡ applied (used (after n).names (blank name)) o (after n).state
      → apply (used (after n).names (blank name)) o (labelled (used (after n).names (blank name)) (after n).state) ≡ u → label_in (used (after n).names (blank name)) name ≡ s
      → AreUnused m.chunk m.unnamed (used (after n).names (blank name)) → m.chunk ≡ chunk → Reach standing n m u × IsCalled m name s
  first_use o name n m u s done to label unused in_chunk = (
    one_more o (blank name) n m u done to unused in_chunk,
    record {
      known = ap (λ (r : Run). is_known r.names name) done ∙ used_now (after n).names name;
      label = ap (λ (r : Run). label_in r.names name) done ∙ label;
    },
  )

  -- The label that generation gives to a name of the document.
  issued_alike : (x : List ℕ) (n : Notes) (t : State) → Stands n t → (label_in (used (after n).names (blank (name_of x))) (name_of x), labels_of (used (after n).names (blank (name_of x)))) ≡ named x t.labels
  issued_alike x n t is = sym (name_issued x (after n).names) ∙ ap (named x) (sym is.labels ∙ ap (λ (s : State). s.labels) is.same)

  named_alike : (x : List ℕ) (n : Notes) (t : State) → Stands n t → Reach standing n (noting.named x n).1 (generating.named x t).1 × IsCalled (noting.named x n).1 (noting.named x n).0 (generating.named x t).0
  named_alike x n t is =
      let names = (after n).names in
      let issued = issued_alike x n t is in
      first_use (use_label (name_of x)) (name_of x) n (noting.named x n).1 _ _
      (by_form (is_blank x))
      (λ i. record { graphs = (is.same i).graphs; labels = (issued i).1; conflict = (is.same i).conflict })
      (λ i. (issued i).0)
      (still_unused (is_blank x) (used names (blank (name_of x))) (unused_after_name n.chunk n.unnamed names x is.unused))
      (same_chunk (is_blank x) ∙ is.in_chunk)
    where
      by_form : (b : Bool) → after (if b then note (use_label (source x)) n else n) ≡ applied (used (after n).names (blank (if b then source x else iri x))) (use_label (if b then source x else iri x)) (after n).state
      by_form true = run-append n.ops (use_label (source x) ∷ []) r
      by_form false = λ i. record { names = (after n).names; state = sym (already_labelled (after n).names (after n).state is.labels) i }

      same_chunk : (b : Bool) → (if b then note (use_label (source x)) n else n).chunk ≡ n.chunk
      same_chunk true = refl
      same_chunk false = refl

      still_unused : (b : Bool) (ns : List Name) → AreUnused n.chunk n.unnamed ns → AreUnused (if b then note (use_label (source x)) n else n).chunk (if b then note (use_label (source x)) n else n).unnamed ns
      still_unused true ns are = are
      still_unused false ns are = are

  node_alike : (g : Name) (h : List ℕ) (id : Option (List ℕ)) (n : Notes) (t : State) → IsCalled n g h → Stands n t
      → Reach standing n (noting.node g id n).1 (generating.node h id t).1 × IsCalled (noting.node g id n).1 (noting.node g id n).0 (generating.node h id t).0
  node_alike g h (Some x) n t graph is =
      let names = (after n).names in
      let name = name_of x in
      let issued = issued_alike x n t is in
      let graph_label = label_stays names g (blank name) graph.known ∙ graph.label in
      first_use (ensure_node g name) name n (note (ensure_node g name) n) _ _
      (run-append n.ops (ensure_node g name ∷ []) r ∙ ap (λ l. applied l (ensure_node g name) (after n).state) (skipped names g (blank name) graph.known))
      (λ i. record { graphs = on_node (graph_label i) (issued i).0 (λ n. n) (is.same i).graphs; labels = (issued i).1; conflict = (is.same i).conflict })
      (λ i. (issued i).0)
      (unused_after_name n.chunk n.unnamed names x is.unused) is.in_chunk
  node_alike g h None n t graph is =
      let names = (after n).names in
      let name = fresh n.chunk n.unnamed in
      let ns = used names (blank name) in
      let new = is.unused.here n.unnamed (omega arith) in
      let issued : (label_in ns name, labels_of ns) ≡ new_label t.labels = sym (fresh_issued n.chunk n.unnamed names new) ∙ ap new_label (sym is.labels ∙ ap (λ (s : State). s.labels) is.same) in
      let graph_label = label_stays names g (blank name) graph.known ∙ graph.label in
      first_use (ensure_node g name) name n (noting.node g None n).1 _ _
      (run-append n.ops (ensure_node g name ∷ []) r ∙ ap (λ l. applied l (ensure_node g name) (after n).state) (skipped names g (blank name) graph.known))
      (λ i. record { graphs = on_node (graph_label i) (issued i).0 (λ n. n) (is.same i).graphs; labels = (issued i).1; conflict = (is.same i).conflict })
      (λ i. (issued i).0)
      (unused_after_fresh n.chunk n.unnamed names is.unused) is.in_chunk

  property_alike : (g : Name) (h : List ℕ) (id : Name) (s : List ℕ) (x : List ℕ) (n : Notes) (t : State) → IsCalled n g h → IsCalled n id s → Stands n t
      → Reach standing n (noting.property g id x n).1 (generating.property h s x t).1 × IsCalled (noting.property g id x n).1 (noting.property g id x n).0 (generating.property h s x t).0
  property_alike g h id s x n t graph node is =
      let names = (after n).names in
      let name = name_of x in
      let o = ensure_property g id name in
      let issued = issued_alike x n t is in
      let graph_label = label_stays names g (blank name) graph.known ∙ graph.label in
      let node_label = label_stays names id (blank name) node.known ∙ node.label in
      let known = skipped names g (blank id ++ blank name) graph.known ∙ skipped names id (blank name) node.known in
      first_use o name n (note o n) _ _
      (run-append n.ops (o ∷ []) r ∙ ap (λ l. applied l o (after n).state) known)
      (λ i. record { graphs = on_node (graph_label i) (node_label i) (on_entries (issued i).0 (λ es. es)) (is.same i).graphs; labels = (issued i).1; conflict = (is.same i).conflict })
      (λ i. (issued i).0)
      (unused_after_name n.chunk n.unnamed names x is.unused) is.in_chunk

  -- The items of a list.
  items_alike : (n : Notes) (es : List Entry) (ts : List Tree) → Pairwise (IsEntry n) es ts → AllKnown (after n).names (uses_of_entries (entries_of es)) × (entries_in (after n).names (entries_of es) ≡ ts)
  items_alike n [] [] are = (tt, refl)
  items_alike n (e ∷ es) (t ∷ ts) are =
      let rest = items_alike n es ts are.1 in
      (all_known-append (after n).names (uses_of_entry e) (uses_of_entries (entries_of es)) are.0.known rest.0, ap₂ (λ t ts. t ∷ ts) are.0.tree rest.1)
  items_alike n [] (t ∷ ts) are = absurd are
  items_alike n (e ∷ es) [] are = absurd are

  -- Three names that are known, before others.
  three_skipped : (g id p : Name) (ns : List Name) (n : Notes) → is_known (after n).names g ≡ true → is_known (after n).names id ≡ true → is_known (after n).names p ≡ true
      → used (after n).names ns ≡ (after n).names → used (after n).names (blank g ++ (blank id ++ (blank p ++ ns))) ≡ (after n).names
  three_skipped g id p ns n graph node property rest =
      let names = (after n).names in
      skipped names g (blank id ++ (blank p ++ ns)) graph ∙ skipped names id (blank p ++ ns) node ∙ skipped names p ns property ∙ rest

  pub steps_alike : AnswerAlike standing noting generating
  steps_alike = record {
    named = λ x n t is. let both = named_alike x n t is in (both.0, both.1, λ apart. both.1);
    node = node_alike;
    property = λ g h id s x n t apart. property_alike g h id s x n t;
    graph = λ g h n t graph is. all_known (ensure_graph g) n t _ is (used_again (after n).names g graph.known) (λ s same i. generating.graph (graph.label i) (same i));
    value = λ ms n is_value. record { known = tt; tree = refl };
    reference = λ id s n node. record { known = blank_known (after n).names id node.known; tree = ap reference_to node.label };
    list = λ es ts n are. let items = items_alike n es ts are in record { known = items.0; tree = ap list_object items.1 };
    add = λ g h id s p q e t n u graph node property item is. all_known (add_entry g id p e) n u _ is
        (three_skipped g id p (uses_of_entry e) n graph.known node.known property.known (entry_used (after n).names e item.known))
        (λ s same i. generating.add (graph.label i) (node.label i) (property.label i) (item.tree i) (same i));
    append = λ g h id s p q es ts n u graph node property are is. let items = items_alike n es ts are in all_known (append_list g id p (entries_of es)) n u _ is
        (three_skipped g id p (uses_of_entries (entries_of es)) n graph.known node.known property.known (entries_used (after n).names (entries_of es) items.0))
        (λ s same i. generating.append (graph.label i) (node.label i) (property.label i) (items.1 i) (same i));
    type_ = λ g h id s x y n t graph node type is. all_known (add_type g id x) n t _ is
        (skipped (after n).names g (blank id ++ blank x) graph.known ∙ skipped (after n).names id (blank x) node.known ∙ used_again (after n).names x type.known)
        (λ s same i. generating.type_ (graph.label i) (node.label i) (type.label i) (same i));
    index = λ g h id s x n t graph node is. all_known (set_index g id x) n t _ is
        (skipped (after n).names g (blank id) graph.known ∙ used_again (after n).names id node.known)
        (λ s same i. generating.index (graph.label i) (node.label i) x (same i));
  }
