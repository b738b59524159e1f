-- The first conflict of the shards is the first one that operations make.
use Rattle.std.proofs.Common.{◌≡◌, ◌≤◌, ◌<◌, ◌+◌, ◌^◌, ℕ, zero, suc, List, [], ◌∷◌, ◌++◌, length, Bool, true, false, Option, Some, None, refl, sym, ap, ap₂, ◌∙◌, subst, arith}
use Rattle.std.specs.Prelude.{flat_map, option_map, if◌then◌else◌, map as each}
use Rattle.std.specs.Str.{bytes_eq}
use Rattle.std.specs.List.{fold, range_with_len, AllByRecursion}
use Rattle.std.specs.Option.{option_or}
use Rattle.std.proofs.lemmas.List.{map-append}
use Rattle.node_model.specs.NodeMap.{Node, Conflict}
use Rattle.op_model.specs.Names.{Name}
use Rattle.op_model.specs.Ops.{Op, use_label, ensure_graph, ensure_node, ensure_property, add_entry, append_list, add_type, set_index}
use Rattle.op_model.specs.Running.{label_in, run, before}
use Rattle.op_laws.specs.Own.{OpHasOwn}
use Rattle.op_laws.specs.Sound.{IsSound}
use Rattle.op_laws.specs.Told.{index_conflict, conflict_of, conflict_told}
use Rattle.op_laws.proofs.FirstConflict.{the_first_conflict_is_told}
use Rattle.op_laws.proofs.Owned.{sound_names_have_own_labels}
use Rattle.sum_model.specs.Sums.{Place, Placed, sum}
use Rattle.sum_model.specs.Shards.{in_shard, ops_in}
use Rattle.sum_model.specs.Conflicts.{ConflictAt, is_before, earlier, first_conflict}
use Rattle.sum_laws.specs.Said.{index_set, index_of}
use Rattle.sum_laws.specs.Conflicts.{AreInOrder, differing, new_conflict, conflict_from, first_of_shards}
use Rattle.sum_laws.proofs.Places.{all-append}
use Rattle.sum_laws.proofs.Parts.{the_sum_of_a_shard_is_its_part}
use Rattle.sum_laws.proofs.Read.{indexes_are_said}
use Rattle.sum_laws.proofs.Conflicts.{the_first_conflict_comes_first}
use Rattle.sum_laws.proofs.ShardConflicts.{the_first_conflict_is_that_of_a_shard}
use Rattle.shard_model.specs.Renamed.{PlacedConflict, conflict_renamed, shard_renamed}
use Rattle.shard_model.specs.Joined.{earlier_of, conflict_joined}
use Rattle.shard_laws.specs.Laws.{ops, labels_by, shards_of}
use Rattle.shard_laws.proofs.Step.{mapped_or, node_of_sum}

module _ (names : List Name) where
  -- A conflict by its label, without its place.
  abbrev alone : ConflictAt → Conflict
  alone c = (conflict_renamed names c).conflict

  differing_alone : (place : Place) (n : Name) (i : List ℕ) (xs : List (Place × List ℕ)) → option_map alone (differing place n i xs) ≡ index_conflict (option_map (λ x. x.text) (index_of xs)) (label_in names n) i
  differing_alone place n i [] = refl
  differing_alone place n i (x ∷ xs) = by_test (bytes_eq x.1 i)
    where
      by_test : (b : Bool) → option_map alone (if b then None else Some (record { place = place; node = n; first = x.1; second = i })) ≡ (if b then None else Some (record { node = label_in names n; first = x.1; second = i }))
      by_test true = refl
      by_test false = refl

  earlier_renamed : (a b : Option ConflictAt) → earlier_of (option_map (conflict_renamed names) a) (option_map (conflict_renamed names) b) ≡ option_map (conflict_renamed names) (earlier a b)
  earlier_renamed None b = refl
  earlier_renamed (Some a) None = refl
  earlier_renamed (Some a) (Some b) = by_test (is_before b.place a.place)
    where
      by_test : (t : Bool) → (if t then Some (conflict_renamed names b) else Some (conflict_renamed names a)) ≡ option_map (conflict_renamed names) (if t then Some b else Some a)
      by_test true = refl
      by_test false = refl

  without_place : (c : Option ConflictAt) → option_map (λ (c : PlacedConflict). c.conflict) (option_map (conflict_renamed names) c) ≡ option_map alone c
  without_place None = refl
  without_place (Some c) = refl

  module _ (few : length names ≤ 2 ^ 64) where
    new_told : (done : List Placed) (o : Placed) → AllByRecursion IsSound (ops done) → AllByRecursion (OpHasOwn names) (ops done) → OpHasOwn names o.1 → option_map alone (new_conflict done o) ≡ conflict_of names (ops done) o.1
    new_told done (place, use_label n) sound own has = refl
    new_told done (place, ensure_graph g) sound own has = refl
    new_told done (place, ensure_node g n) sound own has = refl
    new_told done (place, ensure_property g n p) sound own has = refl
    new_told done (place, add_entry g n p e) sound own has = refl
    new_told done (place, append_list g n p es) sound own has = refl
    new_told done (place, add_type g n t) sound own has = refl
    new_told done (place, set_index g n i) sound own has =
        differing_alone place n i (flat_map (index_set (g, n)) done)
        ∙ ap (λ o. index_conflict (option_map (λ x. x.text) o) (label_in names n) i) (sym (indexes_are_said done (g, n)))
        ∙ ap (λ (x : Node). index_conflict x.index (label_in names n) i) (sym (node_of_sum names few (g, n) has.0 has.1 done sound own))

    one_behind : (P : Op → Type 0) (done : List Placed) (o : Placed) → AllByRecursion P (ops done) → P o.1 → AllByRecursion P (ops (done ++ o ∷ []))
    one_behind P done o all is = subst (AllByRecursion P) (sym (map-append (λ (o : Placed). o.1) done (o ∷ []))) (all-append P (ops done) (o.1 ∷ []) all (is, tt))

    conflicts_told : (done os : List Placed) → AllByRecursion IsSound (ops done) → AllByRecursion (OpHasOwn names) (ops done) → AllByRecursion IsSound (ops os) → AllByRecursion (OpHasOwn names) (ops os)
        → option_map alone (conflict_from done os) ≡ conflict_told names (ops done) (ops os)
    conflicts_told done [] sound own rest_sound rest_own = refl
    conflicts_told done (o ∷ os) sound own rest_sound rest_own =
        mapped_or alone (new_conflict done o) (conflict_from (done ++ o ∷ []) os)
        ∙ ap₂ option_or (new_told done o sound own rest_own.0)
        (conflicts_told (done ++ o ∷ []) os (one_behind IsSound done o sound rest_sound.0) (one_behind (OpHasOwn names) done o own rest_own.0) rest_sound.1 rest_own.1
        ∙ ap (λ l. conflict_told names l (ops os)) (map-append (λ (o : Placed). o.1) done (o ∷ [])))

  module _ (shards : ℕ) (os : List Placed) where
    conflicts_from : (k m : ℕ) → fold (λ c s. earlier_of c s.conflict) (option_map (conflict_renamed names) (first_of_shards shards k (sum os))) (each (λ k. shard_renamed names (sum (ops_in (in_shard shards k) os))) (range_with_len k m))
        ≡ option_map (conflict_renamed names) (first_of_shards shards (k + m) (sum os))
    conflicts_from k zero = let same : k ≡ k + 0 = omega arith in ap (λ x. option_map (conflict_renamed names) (first_of_shards shards x (sum os))) same
    conflicts_from k (suc m) =
        let next : suc k ≡ k + 1 = omega arith in
        let same : (k + 1) + m ≡ k + suc m = omega arith in
        ap (λ c. fold (λ c s. earlier_of c s.conflict) c (each (λ k. shard_renamed names (sum (ops_in (in_shard shards k) os))) (range_with_len (k + 1) m)))
        (ap (λ s. earlier_of (option_map (conflict_renamed names) (first_of_shards shards k (sum os))) (option_map (conflict_renamed names) (first_conflict s))) (the_sum_of_a_shard_is_its_part (in_shard shards k) os)
        ∙ earlier_renamed (first_of_shards shards k (sum os)) _
        ∙ ap (λ x. option_map (conflict_renamed names) (first_of_shards shards x (sum os))) next)
        ∙ conflicts_from (k + 1) m
        ∙ ap (λ x. option_map (conflict_renamed names) (first_of_shards shards x (sum os))) same

pub conflict_is_told : (shards : ℕ) → 0 < shards → (os : List Placed) → AreInOrder os → AllByRecursion IsSound (ops os) → length (labels_by (ops os)) ≤ 2 ^ 64
    → option_map (λ c. c.conflict) (conflict_joined (shards_of (labels_by (ops os)) shards os)) ≡ (run (ops os) before).state.conflict
conflict_is_told shards some os order sound few =
    let names = labels_by (ops os) in
    let same : 0 + shards ≡ shards = omega arith in
    ap (option_map (λ (c : PlacedConflict). c.conflict))
    (conflicts_from names shards os 0 shards
    ∙ ap (λ x. option_map (conflict_renamed names) (first_of_shards shards x (sum os))) same
    ∙ ap (option_map (conflict_renamed names)) (the_first_conflict_is_that_of_a_shard shards some os order ∙ the_first_conflict_comes_first os order))
    ∙ without_place names (conflict_from [] os)
    ∙ conflicts_told names few [] os tt tt sound (sound_names_have_own_labels (ops os) sound)
    ∙ sym (the_first_conflict_is_told (ops os))
