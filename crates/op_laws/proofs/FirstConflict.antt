-- The first conflict of operations, one after another.
use Rattle.std.proofs.Common.{◌≡◌, ℕ, List, [], ◌∷◌, ◌++◌, Bool, true, false, if◌then◌else◌, Option, Some, None, refl, sym, ap, ◌∙◌}
use Rattle.std.specs.Option.{option_or}
use Rattle.std.specs.Str.{bytes_eq}
use Rattle.node_model.specs.NodeMap.{Node, Conflict, graph_in, node_in}
use Rattle.node_model.specs.Generating.{State, or_conflict, index_by, empty}
use Rattle.op_model.specs.Names.{Name}
use Rattle.op_model.specs.Ops.{Op, use_label, ensure_graph, ensure_node, ensure_property, add_entry, append_list, add_type, set_index}
use Rattle.op_model.specs.Running.{used, label_in, uses_of_all, labelled, apply, apply_all, Run}
use Rattle.op_laws.specs.Told.{index_conflict, conflict_of, conflict_told, AreTold}
use Rattle.op_laws.specs.Laws.{TheFirstConflictIsTold}
use Rattle.op_laws.proofs.Numbered.{labels_can_be_numbered_first}
use Rattle.op_laws.proofs.Told.{told_from_empty}

or_none : {X : Type 0} (o : Option X) → o ≡ option_or o None
or_none (Some x) = refl
or_none None = refl

option_or-assoc : {X : Type 0} (a b c : Option X) → option_or (option_or a b) c ≡ option_or a (option_or b c)
option_or-assoc (Some x) b c = refl
option_or-assoc None b c = refl

-- An index that is set: the earlier conflict stays, and else a different index is one.
conflict_indexed : (o : Option (List ℕ)) (g id index : List ℕ) (s : State) → (index_by o g id index s).conflict ≡ option_or s.conflict (index_conflict o id index)
conflict_indexed None g id index s = or_none s.conflict
conflict_indexed (Some first) g id index s = by_test (bytes_eq first index) s _ (or_later s.conflict)
  where
    or_later : (o : Option Conflict) → or_conflict o (record { node = id; first = first; second = index }) ≡ option_or o (Some (record { node = id; first = first; second = index }))
    or_later (Some c) = refl
    or_later None = refl

    by_test : (b : Bool) (r u : State) → u.conflict ≡ option_or r.conflict (Some (record { node = id; first = first; second = index }))
        → (if b then r else u).conflict ≡ option_or r.conflict (if b then None else Some (record { node = id; first = first; second = index }))
    by_test true r u is = or_none r.conflict
    by_test false r u is = is

module _ (names : List Name) (s : State) (is_empty : s.graphs ≡ empty.graphs) where
  abbrev done : List Op → State
  done earlier = apply_all names earlier s

  one_conflict : (earlier : List Op) (o : Op) → (apply names o (done earlier)).conflict ≡ option_or (done earlier).conflict (conflict_of names earlier o)
  one_conflict earlier (use_label n) = or_none (done earlier).conflict
  one_conflict earlier (ensure_graph g) = or_none (done earlier).conflict
  one_conflict earlier (ensure_node g n) = or_none (done earlier).conflict
  one_conflict earlier (ensure_property g n p) = or_none (done earlier).conflict
  one_conflict earlier (add_entry g n p e) = or_none (done earlier).conflict
  one_conflict earlier (append_list g n p es) = or_none (done earlier).conflict
  one_conflict earlier (add_type g n t) = or_none (done earlier).conflict
  one_conflict earlier (set_index g n i) =
      let told : AreTold names earlier (done earlier).graphs = told_from_empty names earlier s is_empty in
      conflict_indexed (node_in (label_in names n) (graph_in (label_in names g) (done earlier).graphs)).index (label_in names g) (label_in names n) i (done earlier)
      ∙ ap (λ (x : Node). option_or (done earlier).conflict (index_conflict x.index (label_in names n) i)) (told.content (label_in names g) (label_in names n))

  done_then : (earlier : List Op) (o : Op) (from : State) → apply_all names (earlier ++ o ∷ []) from ≡ apply names o (apply_all names earlier from)
  done_then [] o from = refl
  done_then (e ∷ earlier) o from = done_then earlier o (apply names e from)

  all_conflicts : (os earlier : List Op) → (apply_all names os (done earlier)).conflict ≡ option_or (done earlier).conflict (conflict_told names earlier os)
  all_conflicts [] earlier = or_none (done earlier).conflict
  all_conflicts (o ∷ os) earlier =
      let next = done_then earlier o s in
      ap (λ (u : State). (apply_all names os u).conflict) (sym next)
      ∙ all_conflicts os (earlier ++ o ∷ [])
      ∙ ap (λ (u : State). option_or u.conflict (conflict_told names (earlier ++ o ∷ []) os)) next
      ∙ ap (λ c. option_or c (conflict_told names (earlier ++ o ∷ []) os)) (one_conflict earlier o)
      ∙ option_or-assoc (done earlier).conflict (conflict_of names earlier o) (conflict_told names (earlier ++ o ∷ []) os)

pub the_first_conflict_is_told : TheFirstConflictIsTold
the_first_conflict_is_told os =
    let names = used [] (uses_of_all os) in
    ap (λ (r : Run). r.state.conflict) (labels_can_be_numbered_first os) ∙ all_conflicts names (labelled names empty) refl os []
