-- The operations of chunks, and the laws over them.
use Rattle.std.proofs.Common.{◌≡◌, ◌≤◌, ◌<◌, ◌+◌, ◌^◌, ℕ, suc, List, [], ◌∷◌, ◌++◌, length, Bool, true, false, Option, Some, None, refl, sym, ap, ap₂, ◌∙◌, subst, arith}
use Rattle.std.specs.Prelude.{flat_map, option_map, if◌then◌else◌, Ok, map as each}
use Rattle.std.specs.List.{list_any, AllByRecursion}
use Rattle.std.specs.Map.{lookup}
use Rattle.std.proofs.lemmas.List.{map-append}
use Rattle.ld_model.specs.Tree.{Tree}
use Rattle.ld_model.specs.Keys.{default_graph}
use Rattle.node_model.specs.NodeMap.{Graphs}
use Rattle.node_model.specs.AsTrees.{graph_pairs}
use Rattle.node_model.specs.Generating.{State, outcome, empty}
use Rattle.op_model.specs.Names.{Name, iri, source, fresh, same_name}
use Rattle.op_model.specs.Ops.{Entry, value, reference, list, Entries, no_entries, entry, Op, use_label, ensure_graph, ensure_node, ensure_property, add_entry, append_list, add_type, set_index}
use Rattle.op_model.specs.Noting.{Chunk, top_range, ops_of, ops_of_chunks}
use Rattle.op_model.specs.Running.{place_of, labelled, apply_all, apply, Run, run, before, used}
use Rattle.op_laws.specs.Exchanged.{Exchange, exchanged, exchanged_entry, exchanged_entries, exchanged_op, Divides}
use Rattle.op_laws.specs.Sound.{IsSoundName, IsSoundProperty, IsSoundEntry, AreSoundEntries, IsSound}
use Rattle.op_laws.proofs.Runs.{apply_keeps_labels}
use Rattle.op_laws.proofs.Numbered.{labels_can_be_numbered_first, first_uses_are_enough}
use Rattle.op_laws.proofs.Divided.{operations_are_generation}
use Rattle.op_laws.proofs.Exchanged.{divisions_are_generation}
use Rattle.op_laws.proofs.Sound.{operations_are_sound}
use Rattle.sum_model.specs.Sums.{Placed, placed_from, placed, placed_chunks}
use Rattle.sum_laws.proofs.Places.{chunks_are_in_order}
use Rattle.shard_model.specs.Numbered.{numbered_from}
use Rattle.shard_model.specs.Renamed.{PlacedConflict}
use Rattle.shard_model.specs.Joined.{graphs_joined, conflict_joined, outcome_of, with_count}
use Rattle.shard_laws.specs.Laws.{NumbersAreThoseInLabels, ops, labels_by, shards_of, ShardsAreTheNodeMap, ops_by_chunk, DivisionsAreSound, NamesAreThoseOfParts, ShardsAreGeneration, RangesAreGeneration, RangesAreSound}
use Rattle.op_laws.proofs.Owned.{sound_names_have_own_labels}
use Rattle.shard_laws.proofs.Whole.{whole_is_made}
use Rattle.shard_laws.proofs.Shards.{shards_are_whole}
use Rattle.shard_laws.proofs.Conflicts.{conflict_is_told}

-- Numbers, from any on.
number_from : (m : ℕ) (n : Name) (names : List Name) → lookup (same_name n) (numbered_from m names) ≡ (if list_any (same_name n) names then Some (m + place_of n names) else None)
number_from m n [] = refl
number_from m n (x ∷ names) = by_test (same_name n x) refl (number_from (m + 1) n names)
  where
    behind : (b : Bool) → (if b then Some ((m + 1) + place_of n names) else None) ≡ (if b then Some (m + suc (place_of n names)) else None)
    behind true = let same : (m + 1) + place_of n names ≡ m + suc (place_of n names) = omega arith in ap Some same
    behind false = refl

    by_test : (b : Bool) → same_name n x ≡ b → lookup (same_name n) (numbered_from (m + 1) names) ≡ (if list_any (same_name n) names then Some ((m + 1) + place_of n names) else None)
        → lookup (same_name n) ((x, m) ∷ numbered_from (m + 1) names) ≡ (if list_any (same_name n) (x ∷ names) then Some (m + place_of n (x ∷ names)) else None)
    by_test true is rest = let same : m ≡ m + 0 = omega arith in rw is (ap Some same)
    by_test false is rest = rw is (rest ∙ behind (list_any (same_name n) names))

pub numbers_are_those_in_labels : NumbersAreThoseInLabels
numbers_are_those_in_labels n names = number_from 0 n names ∙ by_test (list_any (same_name n) names)
  where
    by_test : (b : Bool) → (if b then Some (0 + place_of n names) else None) ≡ (if b then Some (place_of n names) else None)
    by_test true = let same : 0 + place_of n names ≡ place_of n names = omega arith in ap Some same
    by_test false = refl

-- The operations of chunks, without their places.
ops_placed : (chunk number : ℕ) (os : List Op) → ops (placed_from chunk number os) ≡ os
ops_placed chunk number [] = refl
ops_placed chunk number (o ∷ os) = ap (λ l. o ∷ l) (ops_placed chunk (number + 1) os)

ops_of_all : (chunk : ℕ) (chunks : List (List Op)) → ops (placed_chunks chunk chunks) ≡ flat_map (λ os. os) chunks
ops_of_all chunk [] = refl
ops_of_all chunk (os ∷ chunks) =
    map-append (λ (o : Placed). o.1) (placed chunk os) (placed_chunks (chunk + 1) chunks)
    ∙ ap₂ ◌++◌ (ops_placed chunk 0 os) (ops_of_all (chunk + 1) chunks)

pub chunk_by_chunk : (number : ℕ) (chunks : List Chunk) → flat_map (λ os. os) (ops_by_chunk number chunks) ≡ ops_of_chunks number chunks
chunk_by_chunk number [] = refl
chunk_by_chunk number (c ∷ cs) = ap (λ l. ops_of number c ++ l) (chunk_by_chunk (number + 1) cs)

-- The law, for operations at their places.
placed_law : (shards : ℕ) → 0 < shards → (chunks : List (List Op)) → let os = placed_chunks 0 chunks in
    AllByRecursion IsSound (ops os) → length (labels_by (ops os)) ≤ 2 ^ 64
    → let all = shards_of (labels_by (ops os)) shards os in
    (graphs_joined all ≡ (run (ops os) before).state.graphs) × (option_map (λ c. c.conflict) (conflict_joined all) ≡ (run (ops os) before).state.conflict)
placed_law shards some chunks sound few =
    let os = placed_chunks 0 chunks in
    let names = labels_by (ops os) in (
      shards_are_whole shards os sound few some
          ∙ whole_is_made names few os sound (sound_names_have_own_labels (ops os) sound)
          ∙ ap (λ (r : Run). r.state.graphs) (sym (labels_can_be_numbered_first (ops os))),
      conflict_is_told shards some os (chunks_are_in_order chunks) sound few,
    )

pub shards_are_the_node_map : ShardsAreTheNodeMap
shards_are_the_node_map shards some chunks =
    subst (λ l. AllByRecursion IsSound l → length (labels_by l) ≤ 2 ^ 64
    → (graphs_joined (shards_of (labels_by l) shards (placed_chunks 0 chunks)) ≡ (run l before).state.graphs)
    × (option_map (λ c. c.conflict) (conflict_joined (shards_of (labels_by l) shards (placed_chunks 0 chunks))) ≡ (run l before).state.conflict))
    (ops_of_all 0 chunks) (placed_law shards some chunks)

-- Operations stay sound when fresh names are exchanged.
module _ (other : Exchange) where
  name_sound : (n : Name) → IsSoundName n → IsSoundName (exchanged other n)
  name_sound (iri s) is = is
  name_sound (source s) is = tt
  name_sound (fresh c k) is = tt

  property_sound : (n : Name) → IsSoundProperty n → IsSoundProperty (exchanged other n)
  property_sound (iri s) is = is
  property_sound (source s) is = tt
  property_sound (fresh c k) is = tt

  mutual
    entry_sound : (e : Entry) → IsSoundEntry e → IsSoundEntry (exchanged_entry other e)
    entry_sound (value t) is = is
    entry_sound (reference n) is = name_sound n is
    entry_sound (list es) is = entries_sound es is

    entries_sound : (es : Entries) → AreSoundEntries es → AreSoundEntries (exchanged_entries other es)
    entries_sound no_entries are = tt
    entries_sound (entry e es) are = (entry_sound e are.0, entries_sound es are.1)

  op_sound : (o : Op) → IsSound o → IsSound (exchanged_op other o)
  op_sound (use_label n) is = name_sound n is
  op_sound (ensure_graph g) is = name_sound g is
  op_sound (ensure_node g n) is = (name_sound g is.0, name_sound n is.1)
  op_sound (ensure_property g n p) is = (name_sound g is.0, name_sound n is.1, property_sound p is.2)
  op_sound (add_entry g n p e) is = (name_sound g is.0, name_sound n is.1, property_sound p is.2, entry_sound e is.3)
  op_sound (append_list g n p es) is = (name_sound g is.0, name_sound n is.1, property_sound p is.2, entries_sound es is.3)
  op_sound (add_type g n t) is = (name_sound g is.0, name_sound n is.1, name_sound t is.2)
  op_sound (set_index g n i) is = (name_sound g is.0, name_sound n is.1)

  all_sound : (os : List Op) → AllByRecursion IsSound os → AllByRecursion IsSound (each (exchanged_op other) os)
  all_sound [] are = tt
  all_sound (o ∷ os) are = (op_sound o are.0, all_sound os are.1)

pub divided_are_sound : (chunks : List Chunk) (items : List Tree) → Divides chunks items → AllByRecursion IsSound (ops_of_chunks 0 chunks)
divided_are_sound chunks items divides =
    subst (AllByRecursion IsSound) (sym divides.same)
    (all_sound divides.other (ops_of 0 (top_range items)) (operations_are_sound 0 items (iri default_graph) None None false refl tt))

pub divisions_are_sound : DivisionsAreSound
divisions_are_sound chunks items divides = (
  divided_are_sound chunks items divides,
  ops_of_all 0 (ops_by_chunk 0 chunks) ∙ chunk_by_chunk 0 chunks,
)

-- The names of parts, joined.
flat-each : {X Y : Type 0} (f : X → List Y) (xs : List X) → flat_map (λ ys. ys) (each f xs) ≡ flat_map f xs
flat-each f [] = refl
flat-each f (x ∷ xs) = ap (λ l. f x ++ l) (flat-each f xs)

pub names_are_those_of_parts : NamesAreThoseOfParts
names_are_those_of_parts parts = ap (used []) (flat-each labels_by parts) ∙ sym (first_uses_are_enough parts)

-- As many labels are issued as there are names.
labels_stay : (names : List Name) (os : List Op) (s : State) → (apply_all names os s).labels ≡ s.labels
labels_stay names [] s = refl
labels_stay names (o ∷ os) s = labels_stay names os (apply names o s) ∙ apply_keeps_labels names o s

issued_by : (os : List Op) → (run os before).state.labels.issued ≡ length (labels_by os)
issued_by os =
    ap (λ (r : Run). r.state.labels.issued) (labels_can_be_numbered_first os)
    ∙ ap (λ l. l.issued) (labels_stay (labels_by os) os (labelled (labels_by os) empty))

same_outcome : (c : Option PlacedConflict) (graphs : Graphs) (issued : ℕ) (s : State) → graphs ≡ s.graphs → option_map (λ (c : PlacedConflict). c.conflict) c ≡ s.conflict → s.labels.issued ≡ issued
    → with_count issued (outcome_of c graphs) ≡ outcome s.conflict s
same_outcome (Some c) graphs issued s same first count = ap (λ o. outcome o s) first
same_outcome None graphs issued s same first count =
    (λ i. Ok (record { graphs = graph_pairs (same i); issued = sym count i }))
    ∙ ap (λ o. outcome o s) first

pub shards_are_generation : ShardsAreGeneration
shards_are_generation shards some chunks items divides few =
    let os = ops_of_chunks 0 chunks in
    let names = labels_by os in
    let parts = ops_by_chunk 0 chunks in
    let flat : flat_map (λ os. os) parts ≡ os = chunk_by_chunk 0 chunks in
    let all = shards_of names shards (placed_chunks 0 parts) in
    let both : (graphs_joined all ≡ (run os before).state.graphs) × (option_map (λ (c : PlacedConflict). c.conflict) (conflict_joined all) ≡ (run os before).state.conflict) =
    subst (λ l. AllByRecursion IsSound l → length (labels_by l) ≤ 2 ^ 64
    → (graphs_joined (shards_of (labels_by l) shards (placed_chunks 0 parts)) ≡ (run l before).state.graphs)
    × (option_map (λ (c : PlacedConflict). c.conflict) (conflict_joined (shards_of (labels_by l) shards (placed_chunks 0 parts))) ≡ (run l before).state.conflict))
    flat (shards_are_the_node_map shards some parts) (divided_are_sound chunks items divides) few in
    same_outcome (conflict_joined all) (graphs_joined all) (length names) (run os before).state both.0 both.1 (issued_by os)
    ∙ ap (λ (s : State). outcome s.conflict s) (divisions_are_generation chunks items divides)

-- Ranges of the document's own array.
all_behind : (a b : List Op) → AllByRecursion IsSound a → AllByRecursion IsSound b → AllByRecursion IsSound (a ++ b)
all_behind [] b first second = second
all_behind (o ∷ a) b first second = (first.0, all_behind a b first.1 second)

ranges_sound : (number : ℕ) (parts : List (List Tree)) → AllByRecursion IsSound (ops_of_chunks number (each top_range parts))
ranges_sound number [] = tt
ranges_sound number (part ∷ parts) =
    all_behind (ops_of number (top_range part)) (ops_of_chunks (number + 1) (each top_range parts))
    (operations_are_sound number part (iri default_graph) None None false refl tt) (ranges_sound (number + 1) parts)

pub ranges_are_sound : RangesAreSound
ranges_are_sound parts = (
  ranges_sound 0 parts,
  ops_of_all 0 (ops_by_chunk 0 (each top_range parts)) ∙ chunk_by_chunk 0 (each top_range parts),
)

pub ranges_are_generation : RangesAreGeneration
ranges_are_generation shards some ranges few =
    let chunks = each top_range ranges in
    let os = ops_of_chunks 0 chunks in
    let names = labels_by os in
    let parts = ops_by_chunk 0 chunks in
    let flat : flat_map (λ os. os) parts ≡ os = chunk_by_chunk 0 chunks in
    let all = shards_of names shards (placed_chunks 0 parts) in
    let both : (graphs_joined all ≡ (run os before).state.graphs) × (option_map (λ (c : PlacedConflict). c.conflict) (conflict_joined all) ≡ (run os before).state.conflict) =
    subst (λ l. AllByRecursion IsSound l → length (labels_by l) ≤ 2 ^ 64
    → (graphs_joined (shards_of (labels_by l) shards (placed_chunks 0 parts)) ≡ (run l before).state.graphs)
    × (option_map (λ (c : PlacedConflict). c.conflict) (conflict_joined (shards_of (labels_by l) shards (placed_chunks 0 parts))) ≡ (run l before).state.conflict))
    flat (shards_are_the_node_map shards some parts) (ranges_sound 0 ranges) few in
    same_outcome (conflict_joined all) (graphs_joined all) (length names) (run os before).state both.0 both.1 (issued_by os)
    ∙ ap (λ (s : State). outcome s.conflict s) (operations_are_generation ranges)
