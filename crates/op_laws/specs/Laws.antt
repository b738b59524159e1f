-- The laws of operations.
use Rattle.std.specs.Prelude.{ℕ, ◌+◌, ◌^◌, ◌≡◌, ◌≤◌, List, [], length, Bool, true, Option, map as each}
use Rattle.std.specs.List.{flat_map, AllByRecursion}
use Rattle.ld_model.specs.Tree.{Tree, array, trees_of}
use Rattle.node_model.specs.Walk.{walk}
use Rattle.node_model.specs.NodeMap.{told, type_told}
use Rattle.node_model.specs.Generating.{generating, empty, walked}
use Rattle.op_model.specs.Names.{Name}
use Rattle.op_model.specs.Ops.{Entry, Op}
use Rattle.op_model.specs.Noting.{Chunk, range, top_range, place_of_items, ops_of, ops_of_chunks}
use Rattle.op_model.specs.Running.{with_name, used, label_in, entry_in, uses_of_all, labelled, apply_all, Run, run, before}
use Rattle.op_laws.specs.Words.{is_known, IsPlaceKnown, place_in, IsReady, with_entry}
use Rattle.op_laws.specs.Own.{HasOwn, EntryHasOwn, OpHasOwn}
use Rattle.op_laws.specs.Told.{AreTold, conflict_told}
use Rattle.op_laws.specs.Exchanged.{Exchange, exchanged, exchanged_op, IsOneToOne, Divides}
use Rattle.op_laws.specs.Sound.{IsSoundName, IsSoundPlace, IsSound}

-- The items of a document, divided into chunks in any way: the operations of these, run one after another, come to the state of
-- generation after the whole document.
abbrev pub OperationsAreGeneration : Type 0
OperationsAreGeneration = (parts : List (List Tree)) → (run (ops_of_chunks 0 (each top_range parts)) before).state ≡ walked (flat_map (λ items. items) parts)

-- A range may stand anywhere in a document, wherever its graph, its subject and its property are known: its operations come to what
-- generation comes to there, and the next chunk can follow.
abbrev pub ARangeRunsAnywhere : Type 0
ARangeRunsAnywhere =
    (number : ℕ) (items : List Tree) (graph : Name) (subject property : Option Name) (reversed : Bool) (r : Run)
    → IsReady number r → is_known r.names graph ≡ true → IsPlaceKnown r.names (place_of_items subject property reversed)
    → let after = run (ops_of number (range items graph subject property reversed)) r in
    let place = place_in r.names (place_of_items subject property reversed) in
    (after.state ≡ (walk generating (label_in r.names graph) place (array (trees_of items)) (record { state = r.state; items = [] })).state) × IsReady (number + 1) after

-- Labels can be numbered by the uses alone, before any operation is applied.
abbrev pub LabelsCanBeNumberedFirst : Type 0
LabelsCanBeNumberedFirst = (os : List Op) → let names = used [] (uses_of_all os) in run os before ≡ record { names = names; state = apply_all names os (labelled names empty) }

-- Of each part of the operations its own first uses are enough.
abbrev pub FirstUsesAreEnough : Type 0
FirstUsesAreEnough = (parts : List (List Op)) → used [] (uses_of_all (flat_map (λ os. os) parts)) ≡ used [] (flat_map (λ os. used [] (uses_of_all os)) parts)

-- Two names with one label are one name.
abbrev pub NamesAreToldApart : Type 0
NamesAreToldApart = (names : List Name) (a b : Name) → length names ≤ 2 ^ 64 → HasOwn names a → HasOwn names b → label_in names a ≡ label_in names b → a ≡ b

-- Two entries that become one are one.
abbrev pub EntriesAreToldApart : Type 0
EntriesAreToldApart = (names : List Name) (e f : Entry) → length names ≤ 2 ^ 64 → EntryHasOwn names e → EntryHasOwn names f → entry_in names e ≡ entry_in names f → e ≡ f

-- Adding to types or entries comes to the same before labels are put in place of names, and after.
abbrev pub AddingIsAlike : Type 0
AddingIsAlike =
    (names : List Name) → length names ≤ 2 ^ 64 →
    ((t : Name) (ts : List Name) → HasOwn names t → AllByRecursion (HasOwn names) ts → type_told (label_in names t) (each (label_in names) ts) ≡ each (label_in names) (with_name ts t))
    × ((e : Entry) (es : List Entry) → EntryHasOwn names e → AllByRecursion (EntryHasOwn names) es → told (entry_in names e) (each (entry_in names) es) ≡ each (entry_in names) (with_entry e es))

-- The node map has what the operations tell, and nothing else.
abbrev pub NodeMapsAreTold : Type 0
NodeMapsAreTold = (os : List Op) → AreTold (used [] (uses_of_all os)) os (run os before).state.graphs

-- The conflict is the first index that is set on a node to which the operations before it gave another one.
abbrev pub TheFirstConflictIsTold : Type 0
TheFirstConflictIsTold = (os : List Op) → (run os before).state.conflict ≡ conflict_told (used [] (uses_of_all os)) [] os

-- Operations that are noted have their form, if the graph and the place do.
abbrev pub OperationsAreSound : Type 0
OperationsAreSound =
    (number : ℕ) (items : List Tree) (graph : Name) (subject property : Option Name) (reversed : Bool)
    → IsSoundName graph → IsSoundPlace (place_of_items subject property reversed) → AllByRecursion IsSound (ops_of number (range items graph subject property reversed))

-- Once labels are numbered by them, operations of this form have names and entries that are told apart.
abbrev pub SoundNamesHaveOwnLabels : Type 0
SoundNamesHaveOwnLabels = (os : List Op) → AllByRecursion IsSound os → AllByRecursion (OpHasOwn (used [] (uses_of_all os))) os

-- It makes no difference how fresh names are chosen, if different nodes have different ones.
abbrev pub FreshNamesCanBeExchanged : Type 0
FreshNamesCanBeExchanged =
    (other : Exchange) (os : List Op) → IsOneToOne other (uses_of_all os)
    → run (each (exchanged_op other) os) before ≡ record { names = each (exchanged other) (run os before).names; state = (run os before).state }

-- A document divided into chunks of any kind: their operations come to the state of generation after the whole document.
abbrev pub DivisionsAreGeneration : Type 0
DivisionsAreGeneration = (chunks : List Chunk) (items : List Tree) → Divides chunks items → (run (ops_of_chunks 0 chunks) before).state ≡ walked items
