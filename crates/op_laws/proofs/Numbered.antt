-- Labels that are numbered before operations are applied.
use Rattle.std.proofs.Common.{◌≡◌, ℕ, List, [], ◌∷◌, ◌++◌, Bool, true, false, ◌||◌, if◌then◌else◌, Option, Some, None, refl, sym, ap, ◌∙◌}
use Rattle.std.specs.Str.{bytes_eq}
use Rattle.std.specs.List.{list_any, flat_map}
use Rattle.node_model.specs.NodeMap.{graph_in, node_in, on_node, on_entries}
use Rattle.node_model.specs.Generating.{State, on_graphs, generating, index_by}
use Rattle.op_model.specs.Names.{Name, same_name, blank}
use Rattle.op_model.specs.Ops.{Op, use_label, ensure_graph, ensure_node, ensure_property, add_entry, append_list, add_type, set_index}
use Rattle.op_model.specs.Running.{with_name, used, label_in, uses_of_entry, uses_of_entries, uses, uses_of_all, labels_of, labelled, apply, apply_all, Run, run_one, run, before}
use Rattle.op_laws.specs.Laws.{LabelsCanBeNumberedFirst, FirstUsesAreEnough}
use Rattle.op_laws.proofs.Used.{or_true, with_old, with_new, any-used, used-append, label_stays}
use Rattle.op_laws.proofs.Known.{AllKnown, known_blank, parts_known, all_known_now, entry_stays, entries_stay}
use Rattle.op_laws.proofs.Runs.{apply_keeps_labels, already_labelled}

-- An operation does the same whatever the labels of the state are.
index_relabelled : (more : List Name) (o : Option (List ℕ)) (g id index : List ℕ) (s : State) → labelled more (index_by o g id index s) ≡ index_by o g id index (labelled more s)
index_relabelled more None g id index s = refl
index_relabelled more (Some first) g id index s = by_test (bytes_eq first index) s _
  where
    by_test : (b : Bool) (r u : State) → labelled more (if b then r else u) ≡ (if b then labelled more r else labelled more u)
    by_test true r u = refl
    by_test false r u = refl

relabelled : (more names : List Name) (o : Op) (s : State) → labelled more (apply names o s) ≡ apply names o (labelled more s)
relabelled more names (use_label n) s = refl
relabelled more names (ensure_graph g) s = refl
relabelled more names (ensure_node g n) s = refl
relabelled more names (ensure_property g n p) s = refl
relabelled more names (add_entry g n p e) s = refl
relabelled more names (append_list g n p es) s = refl
relabelled more names (add_type g n t) s = refl
relabelled more names (set_index g n i) s = index_relabelled more (node_in (label_in names n) (graph_in (label_in names g) s.graphs)).index (label_in names g) (label_in names n) i s

-- An operation whose names are known does the same when more names are used.
module _ (names more : List Name) where
  stays : (n : Name) → AllKnown names (blank n) → label_in (used names more) n ≡ label_in names n
  stays n known = label_stays names n more (known_blank names n known)

  apply_stays : (o : Op) (s : State) → AllKnown names (uses o) → apply (used names more) o s ≡ apply names o s
  apply_stays (use_label n) s known = refl
  apply_stays (ensure_graph g) s known = λ i. generating.graph (stays g known i) s
  apply_stays (ensure_node g n) s known =
      let parts = parts_known names (blank g) (blank n) known in
      λ i. on_graphs (on_node (stays g parts.0 i) (stays n parts.1 i) (λ n. n)) s
  apply_stays (ensure_property g n p) s known =
      let parts = parts_known names (blank g) (blank n ++ blank p) known in
      let rest = parts_known names (blank n) (blank p) parts.1 in
      λ i. on_graphs (on_node (stays g parts.0 i) (stays n rest.0 i) (on_entries (stays p rest.1 i) (λ es. es))) s
  apply_stays (add_entry g n p e) s known =
      let parts = parts_known names (blank g) (blank n ++ (blank p ++ uses_of_entry e)) known in
      let rest = parts_known names (blank n) (blank p ++ uses_of_entry e) parts.1 in
      let last = parts_known names (blank p) (uses_of_entry e) rest.1 in
      λ i. generating.add (stays g parts.0 i) (stays n rest.0 i) (stays p last.0 i) (entry_stays names e more last.1 i) s
  apply_stays (append_list g n p es) s known =
      let parts = parts_known names (blank g) (blank n ++ (blank p ++ uses_of_entries es)) known in
      let rest = parts_known names (blank n) (blank p ++ uses_of_entries es) parts.1 in
      let last = parts_known names (blank p) (uses_of_entries es) rest.1 in
      λ i. generating.append (stays g parts.0 i) (stays n rest.0 i) (stays p last.0 i) (entries_stay names es more last.1 i) s
  apply_stays (add_type g n t) s known =
      let parts = parts_known names (blank g) (blank n ++ blank t) known in
      let rest = parts_known names (blank n) (blank t) parts.1 in
      λ i. generating.type_ (stays g parts.0 i) (stays n rest.0 i) (stays t rest.1 i) s
  apply_stays (set_index g n x) s known =
      let parts = parts_known names (blank g) (blank n) known in
      λ i. generating.index (stays g parts.0 i) (stays n parts.1 i) x s

-- The names once operations are run are those that they use, and the state is what they make under the labels of all these.
abbrev numbered_first : List Name → List Op → State → Run
numbered_first names os s = record { names = names; state = apply_all names os (labelled names s) }

pub run_numbered : (os : List Op) (r : Run) → r.state.labels ≡ labels_of r.names → run os r ≡ numbered_first (used r.names (uses_of_all os)) os r.state
run_numbered [] r is = λ i. record { names = r.names; state = sym (already_labelled r.names r.state is) i }
run_numbered (o ∷ os) r is =
    let first = used r.names (uses o) in
    let names = used first (uses_of_all os) in
    let labels = apply_keeps_labels first o (labelled first r.state) in
    run_numbered os (run_one o r) labels
    ∙ ap (λ s. record { names = names; state = apply_all names os s })
    (relabelled names first o (labelled first r.state) ∙ sym (apply_stays first (uses_of_all os) o (labelled names r.state) (all_known_now r.names (uses o))))
    ∙ ap (λ names. numbered_first names (o ∷ os) r.state) (sym (used-append r.names (uses o) (uses_of_all os)))

pub labels_can_be_numbered_first : LabelsCanBeNumberedFirst
labels_can_be_numbered_first os = run_numbered os before refl

-- First uses may be gathered part by part.
used_name : (names ns : List Name) (n : Name) → used names (with_name ns n) ≡ with_name (used names ns) n
used_name names ns n = by_test (list_any (same_name n) ns) refl
  where
    by_test : (b : Bool) → list_any (same_name n) ns ≡ b → used names (with_name ns n) ≡ with_name (used names ns) n
    by_test true there =
        let still : list_any (same_name n) (used names ns) ≡ true = any-used n names ns ∙ ap (λ b. list_any (same_name n) names || b) there ∙ or_true (list_any (same_name n) names) in
        ap (used names) (with_old n ns there) ∙ sym (with_old n (used names ns) still)
    by_test false new = ap (used names) (with_new n ns new) ∙ used-append names ns (n ∷ [])

used_of_used : (names ns ms : List Name) → used names (used ns ms) ≡ used (used names ns) ms
used_of_used names ns [] = refl
used_of_used names ns (m ∷ ms) = used_of_used names (with_name ns m) ms ∙ ap (λ l. used l ms) (used_name names ns m)

uses-append : (os bs : List Op) (names : List Name) → used names (uses_of_all (os ++ bs)) ≡ used (used names (uses_of_all os)) (uses_of_all bs)
uses-append [] bs names = refl
uses-append (o ∷ os) bs names =
    used-append names (uses o) (uses_of_all (os ++ bs))
    ∙ uses-append os bs (used names (uses o))
    ∙ ap (λ l. used l (uses_of_all bs)) (sym (used-append names (uses o) (uses_of_all os)))

parts_used : (parts : List (List Op)) (names : List Name) → used names (uses_of_all (flat_map (λ os. os) parts)) ≡ used names (flat_map (λ os. used [] (uses_of_all os)) parts)
parts_used [] names = refl
parts_used (os ∷ parts) names =
    uses-append os (flat_map (λ os. os) parts) names
    ∙ parts_used parts (used names (uses_of_all os))
    ∙ ap (λ l. used l (flat_map (λ os. used [] (uses_of_all os)) parts)) (sym (used_of_used names [] (uses_of_all os)))
    ∙ sym (used-append names (used [] (uses_of_all os)) (flat_map (λ os. used [] (uses_of_all os)) parts))

pub first_uses_are_enough : FirstUsesAreEnough
first_uses_are_enough parts = parts_used parts []
