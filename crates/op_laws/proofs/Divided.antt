-- Chunks that are run one after another.
use Rattle.std.proofs.Common.{◌≡◌, ℕ, ◌+◌, arith, List, [], ◌∷◌, ◌++◌, true, false, None, refl, sym, ap, ◌∙◌}
use Rattle.std.specs.Prelude.{map as each}
use Rattle.std.specs.List.{flat_map}
use Rattle.ld_model.specs.Tree.{Tree, Trees, trees_of}
use Rattle.ld_model.specs.Keys.{default_graph}
use Rattle.node_model.specs.Walk.{At, To, nowhere, under, in_list, reverse, walk_all}
use Rattle.node_model.specs.Generating.{State, generating}
use Rattle.node_laws.proofs.Likeness.{Toward, lasts_here}
use Rattle.node_laws.proofs.Alike.{all_beside}
use Rattle.node_laws.proofs.Conflicts.{walk_all-append}
use Rattle.op_model.specs.Names.{Name, iri}
use Rattle.op_model.specs.Noting.{Notes, noting, no_notes, place_of_items, top_range, ops_of, ops_of_chunks}
use Rattle.op_model.specs.Running.{label_in, Run, run, before}
use Rattle.op_laws.specs.Words.{is_known, IsPlaceKnown, place_in, IsReady}
use Rattle.op_laws.specs.Laws.{OperationsAreGeneration, ARangeRunsAnywhere}
use Rattle.op_laws.proofs.Unused.{AreUnused}
use Rattle.op_laws.proofs.Runs.{run-append, Stands, standing, steps_alike}
use Rattle.op_laws.proofs.Gathered.{all_hold}

none_used : (number : ℕ) (r : Run) → IsReady number r → AreUnused number 0 r.names
none_used number r ready = record {
  here = λ k from. ready.unused number k (omega arith);
  later = λ d k less. ready.unused d k (omega arith);
}

same_place : (number : ℕ) (r : Run) (to : To Name) → IsPlaceKnown r.names to → Toward (standing number r) (no_notes number) to (place_in r.names to)
same_place number r nowhere known = tt
same_place number r (under n p) known = (record { known = known.0; label = refl }, record { known = known.1; label = refl })
same_place number r in_list known = tt
same_place number r (reverse n p) known = (record { known = known.0; label = refl }, record { known = known.1; label = refl })

-- What was noted on the way through some items, and what was generated.
items_stand : (number : ℕ) (g : Name) (to : To Name) (ts : Trees) (r : Run) → IsReady number r → is_known r.names g ≡ true → IsPlaceKnown r.names to
    → Stands number r (walk_all noting g to ts (record { state = no_notes number; items = [] })).state (walk_all generating (label_in r.names g) (place_in r.names to) ts (record { state = r.state; items = [] })).state
items_stand number g to ts r ready graph place =
    (all_beside (standing number r) noting generating (steps_alike number r) g (label_in r.names g) to (place_in r.names to) ts (no_notes number) (record { state = no_notes number; items = [] }) (record { state = r.state; items = [] })
    (record { known = graph; label = refl }) (same_place number r to place)
    (record {
      states = record { same = refl; labels = ready.labels; unused = none_used number r ready; in_chunk = refl };
      gathered = tt;
      lasts = lasts_here (standing number r) (no_notes number);
    })).states

-- The next chunk can follow.
ready_for_next : (number : ℕ) (r : Run) (n : Notes) (t : State) → Stands number r n t → IsReady (number + 1) (run n.ops r)
ready_for_next number r n t is = record {
  labels = is.labels;
  unused = λ d k from. is.unused.later d k (let same = is.in_chunk in omega arith);
}

pub a_range_runs_anywhere : ARangeRunsAnywhere
a_range_runs_anywhere number items graph subject property reversed r ready known place =
    let is = items_stand number graph (place_of_items subject property reversed) (trees_of items) r ready known place in
    (is.same, ready_for_next number r _ _ is)

-- The items of the document, from a state on.
abbrev walked_from : State → List Tree → State
walked_from s ts = (walk_all generating default_graph nowhere (trees_of ts) (record { state = s; items = [] })).state

walked_on : (s : State) (ts us : List Tree) → walked_from s (ts ++ us) ≡ walked_from (walked_from s ts) us
walked_on s ts us =
    let first = walk_all generating default_graph nowhere (trees_of ts) (record { state = s; items = [] }) in
    ap (λ (w : At State Tree). w.state) (walk_all-append generating default_graph nowhere ts us (record { state = s; items = [] }))
    ∙ ap (λ (es : List Tree). (walk_all generating default_graph nowhere (trees_of us) (record { state = first.state; items = es })).state)
    (all_hold generating [] default_graph nowhere (trees_of ts) (record { state = s; items = [] }) refl refl)

chunks_run : (number : ℕ) (parts : List (List Tree)) (r : Run) → IsReady number r → (run (ops_of_chunks number (each top_range parts)) r).state ≡ walked_from r.state (flat_map (λ items. items) parts)
chunks_run number [] r ready = refl
chunks_run number (part ∷ parts) r ready =
    let first = a_range_runs_anywhere number part (iri default_graph) None None false r ready refl tt in
    let rest = flat_map (λ items. items) parts in
    ap (λ (r : Run). r.state) (run-append (ops_of number (top_range part)) (ops_of_chunks (number + 1) (each top_range parts)) r)
    ∙ chunks_run (number + 1) parts (run (ops_of number (top_range part)) r) first.1
    ∙ ap (λ s. walked_from s rest) first.0
    ∙ sym (walked_on r.state part rest)

pub operations_are_generation : OperationsAreGeneration
operations_are_generation parts = chunks_run 0 parts before (record { labels = refl; unused = λ c k from. refl })
