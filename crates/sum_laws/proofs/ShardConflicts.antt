-- Of the first conflicts of the shards, the earliest is the first of all.
use Rattle.std.proofs.Common.{◌≡◌, ◌<◌, ◌≤◌, ◌==◌, ℕ, zero, suc, List, [], ◌∷◌, ◌++◌, Bool, true, false, cond, ◌&&◌, ◌||◌, Option, Some, None, refl, sym, ap, ap₂, ◌∙◌, append-nil, eqb-true, lt-ltb, ltb-true, ltb-false, arith}
use Rattle.std.specs.Prelude.{filter, flat_map, nat_lt, ⊤}
use Rattle.std.specs.List.{AllByRecursion}
use Rattle.std.specs.Option.{option_or}
use Rattle.std.specs.Str.{bytes_eq}
use Rattle.std.proofs.lemmas.Bool.{false_from_ne_true, false≢true}
use Rattle.std.proofs.lemmas.Bool.Decides.{Decides-eqb}
use Rattle.std.proofs.lemmas.List.Elements.{filter-append}
use Rattle.op_model.specs.Names.{Name}
use Rattle.op_model.specs.Ops.{Op, use_label, ensure_graph, ensure_node, ensure_property, add_entry, append_list, add_type, set_index}
use Rattle.sum_model.specs.Sums.{Place, Placed, Key, same_key, PartEntry, sum}
use Rattle.sum_model.specs.Shards.{shard_of, in_shard, falls_in, ops_in, part_in}
use Rattle.sum_model.specs.Conflicts.{ConflictAt, is_before, earlier, earliest, first_conflict}
use Rattle.sum_laws.specs.Said.{only, index_set}
use Rattle.sum_laws.specs.Conflicts.{AreInOrder, differing, new_conflict, conflict_from, first_of_shards, TheFirstConflictIsThatOfAShard}
use Rattle.sum_laws.proofs.Lists.{filter_all}
use Rattle.sum_laws.proofs.Same.{same_key-exact}
use Rattle.sum_laws.proofs.Parts.{the_sum_of_a_shard_is_its_part}
use Rattle.sum_laws.proofs.Once.{all-filter}
use Rattle.sum_laws.proofs.Places.{before-asym}
use Rattle.sum_laws.proofs.Uses.{each_name_has_a_shard}
use Rattle.sum_laws.proofs.Conflicts.{IsAt, the_first_conflict_comes_first}

-- Operations among some names.
module _ (here : Name → Bool) where
  in_order-ops_in : (os : List Placed) → AreInOrder os → AreInOrder (ops_in here os)
  in_order-ops_in [] order = tt
  in_order-ops_in (o ∷ os) order = by_test (falls_in here o.1) (in_order-ops_in os order.1)
    where
      by_test : (t : Bool) → AreInOrder (ops_in here os) → AreInOrder (cond t (o ∷ ops_in here os) (ops_in here os))
      by_test true rest = (all-filter (λ p. is_before o.0 p.0 ≡ true) (λ p. falls_in here p.1) os order.0, rest)
      by_test false rest = rest

  -- Where the node is among the names, what sets its index falls among them.
  sets_nothing : (k : Key) (o : Placed) → here k.1 ≡ true → falls_in here o.1 ≡ false → index_set k o ≡ []
  sets_nothing k (at, use_label name) is away = refl
  sets_nothing k (at, ensure_graph g) is away = refl
  sets_nothing k (at, ensure_node g n) is away = refl
  sets_nothing k (at, ensure_property g n p) is away = refl
  sets_nothing k (at, add_entry g n p e) is away = refl
  sets_nothing k (at, append_list g n p es) is away = refl
  sets_nothing k (at, add_type g n t) is away = refl
  sets_nothing k (at, set_index g n i) is away = ap (λ t. only t (at, i)) (false_from_ne_true (same_key k (g, n)) (λ same. false≢true (sym away ∙ ap (λ x. here x.1) (sym (same_key-exact k (g, n) same)) ∙ is)))

  same_indexes : (k : Key) (done : List Placed) → here k.1 ≡ true → flat_map (index_set k) (ops_in here done) ≡ flat_map (index_set k) done
  same_indexes k [] is = refl
  same_indexes k (o ∷ os) is = by_test (falls_in here o.1) refl (same_indexes k os is)
    where
      by_test : (t : Bool) → falls_in here o.1 ≡ t → flat_map (index_set k) (ops_in here os) ≡ flat_map (index_set k) os → flat_map (index_set k) (cond t (o ∷ ops_in here os) (ops_in here os)) ≡ index_set k o ++ flat_map (index_set k) os
      by_test true falls rest = ap (λ l. index_set k o ++ l) rest
      by_test false falls rest = rest ∙ ap (λ l. l ++ flat_map (index_set k) os) (sym (sets_nothing k o is falls))

  same_new : (done : List Placed) (o : Placed) → falls_in here o.1 ≡ true → new_conflict (ops_in here done) o ≡ new_conflict done o
  same_new done (at, use_label name) is = refl
  same_new done (at, ensure_graph g) is = refl
  same_new done (at, ensure_node g n) is = refl
  same_new done (at, ensure_property g n p) is = refl
  same_new done (at, add_entry g n p e) is = refl
  same_new done (at, append_list g n p es) is = refl
  same_new done (at, add_type g n t) is = refl
  same_new done (at, set_index g n i) is = ap (differing at n i) (same_indexes (g, n) done is)

  -- The first conflict that operations among the names make, where all are done.
  conflict_in : List Placed → List Placed → Option ConflictAt
  conflict_in done [] = None
  conflict_in done (o ∷ os) = option_or (cond (falls_in here o.1) (new_conflict done o) None) (conflict_in (done ++ o ∷ []) os)

  done_there : (done : List Placed) (o : Placed) → ops_in here (done ++ o ∷ []) ≡ ops_in here done ++ cond (falls_in here o.1) (o ∷ []) []
  done_there done o = filter-append (λ p. falls_in here p.1) done (o ∷ [])

  conflict_from-in : (done os : List Placed) → conflict_from (ops_in here done) (ops_in here os) ≡ conflict_in done os
  unfolding conflict_in
  conflict_from-in done [] = refl
  conflict_from-in done (o ∷ os) = by_test (falls_in here o.1) refl (conflict_from-in (done ++ o ∷ []) os)
    where
      by_test : (t : Bool) → falls_in here o.1 ≡ t → conflict_from (ops_in here (done ++ o ∷ [])) (ops_in here os) ≡ conflict_in (done ++ o ∷ []) os → conflict_from (ops_in here done) (cond t (o ∷ ops_in here os) (ops_in here os)) ≡ option_or (cond t (new_conflict done o) None) (conflict_in (done ++ o ∷ []) os)
      by_test true is rest =
          ap₂ option_or (same_new done o is)
          (ap (λ l. conflict_from l (ops_in here os)) (sym (done_there done o ∙ ap (λ t. ops_in here done ++ cond t (o ∷ []) []) is)) ∙ rest)
      by_test false is rest =
          ap (λ l. conflict_from l (ops_in here os)) (sym (done_there done o ∙ ap (λ t. ops_in here done ++ cond t (o ∷ []) []) is ∙ append-nil (ops_in here done)))
          ∙ rest

  first_in_part : (os : List Placed) → AreInOrder os → first_conflict (part_in here (sum os)) ≡ conflict_in [] os
  first_in_part os order =
      ap first_conflict (sym (the_sum_of_a_shard_is_its_part here os))
      ∙ the_first_conflict_comes_first (ops_in here os) (in_order-ops_in os order)
      ∙ conflict_from-in [] os

-- The conflict, if there is one, comes after this place.
abbrev IsConflictAfter : Place → Option ConflictAt → Type 0
IsConflictAfter at None = ⊤
IsConflictAfter at (Some c) = is_before at c.place ≡ true

after_place : (at p : Place) (c : Option ConflictAt) → is_before at p ≡ true → IsAt p c → IsConflictAfter at c
after_place at p None is there = tt
after_place at p (Some c) is there = ap (is_before at) there ∙ is

differing_there : (at : Place) (n : Name) (i : List ℕ) (xs : List (Place × List ℕ)) → IsAt at (differing at n i xs)
differing_there at n i [] = tt
differing_there at n i (x ∷ xs) = by_test (bytes_eq x.1 i)
  where
    by_test : (t : Bool) → IsAt at (cond t None (Some (record { place = at; node = n; first = x.1; second = i })))
    by_test true = tt
    by_test false = refl

-- What an operation makes is at its place, so after a place that comes before it.
new_there : (done : List Placed) (o : Placed) → IsAt o.0 (new_conflict done o)
new_there done (at, use_label name) = tt
new_there done (at, ensure_graph g) = tt
new_there done (at, ensure_node g n) = tt
new_there done (at, ensure_property g n p) = tt
new_there done (at, add_entry g n p e) = tt
new_there done (at, append_list g n p es) = tt
new_there done (at, add_type g n t) = tt
new_there done (at, set_index g n i) = differing_there at n i (flat_map (index_set (g, n)) done)

either_after : (at : Place) (t : Bool) (c d : Option ConflictAt) → IsConflictAfter at c → IsConflictAfter at d → IsConflictAfter at (option_or (cond t c None) d)
either_after at false c d p q = q
either_after at true None d p q = q
either_after at true (Some c) d p q = p

conflict_after : (here : Name → Bool) (at : Place) (done os : List Placed) → AllByRecursion (λ p. is_before at p.0 ≡ true) os → IsConflictAfter at (conflict_in here done os)
unfolding conflict_in
conflict_after here at done [] all = tt
conflict_after here at done (o ∷ os) all =
    either_after at (falls_in here o.1) (new_conflict done o) (conflict_in here (done ++ o ∷ []) os)
    (after_place at o.0 (new_conflict done o) all.0 (new_there done o))
    (conflict_after here at (done ++ o ∷ []) os all.1)

-- A conflict, and ones that come after it.
first_stays : (at : Place) (n q : Option ConflictAt) (p whole : Option ConflictAt) → IsAt at n → IsConflictAfter at q → whole ≡ earlier p q → option_or n whole ≡ earlier (option_or n p) q
first_stays at None q p whole there after rest = rest
first_stays at (Some c) None p whole there after rest = refl
first_stays at (Some c) (Some d) p whole there after rest =
    let later : is_before d.place c.place ≡ false = ap (is_before d.place) there ∙ before-asym at d.place after in
    ap (λ t. cond t (Some d) (Some c)) (sym later)

first_comes : (at : Place) (n q : Option ConflictAt) (p whole : Option ConflictAt) → IsAt at n → IsConflictAfter at p → whole ≡ earlier p q → option_or n whole ≡ earlier p (option_or n q)
first_comes at None q p whole there after rest = rest
first_comes at (Some c) q None whole there after rest = refl
first_comes at (Some c) q (Some d) whole there after rest =
    let before : is_before c.place d.place ≡ true = ap (λ x. is_before x d.place) there ∙ after in
    ap (λ t. cond t (Some c) (Some d)) (sym before)

-- Names in two parts that have none in common.
module _ (p q both : Name → Bool) (one : (n : Name) → both n ≡ (p n || q n)) (apart : (n : Name) → (p n && q n) ≡ false) where
  falls_in_one : (o : Op) → falls_in both o ≡ (falls_in p o || falls_in q o)
  falls_in_one (use_label name) = refl
  falls_in_one (ensure_graph g) = one g
  falls_in_one (ensure_node g n) = one n
  falls_in_one (ensure_property g n r) = one n
  falls_in_one (add_entry g n r e) = one n
  falls_in_one (append_list g n r es) = one n
  falls_in_one (add_type g n t) = one n
  falls_in_one (set_index g n i) = one n

  falls_apart : (o : Op) → (falls_in p o && falls_in q o) ≡ false
  falls_apart (use_label name) = refl
  falls_apart (ensure_graph g) = apart g
  falls_apart (ensure_node g n) = apart n
  falls_apart (ensure_property g n r) = apart n
  falls_apart (add_entry g n r e) = apart n
  falls_apart (append_list g n r es) = apart n
  falls_apart (add_type g n t) = apart n
  falls_apart (set_index g n i) = apart n

  one_falls : (at : Place) (s t : Bool) (n a b whole : Option ConflictAt) → (s && t) ≡ false → IsAt at n → IsConflictAfter at a → IsConflictAfter at b → whole ≡ earlier a b → option_or (cond (s || t) n None) whole ≡ earlier (option_or (cond s n None) a) (option_or (cond t n None) b)
  one_falls at true true n a b whole is there after_a after_b rest = absurd (cc)
  one_falls at true false n a b whole is there after_a after_b rest = first_stays at n b a whole there after_b rest
  one_falls at false true n a b whole is there after_a after_b rest = first_comes at n b a whole there after_a rest
  one_falls at false false n a b whole is there after_a after_b rest = rest

  of_two_parts : (done os : List Placed) → AreInOrder os → conflict_in both done os ≡ earlier (conflict_in p done os) (conflict_in q done os)
  unfolding conflict_in
  of_two_parts done [] order = refl
  of_two_parts done (o ∷ os) order =
      ap (λ t. option_or (cond t (new_conflict done o) None) (conflict_in both (done ++ o ∷ []) os)) (falls_in_one o.1)
      ∙ one_falls o.0 (falls_in p o.1) (falls_in q o.1) (new_conflict done o) (conflict_in p (done ++ o ∷ []) os) (conflict_in q (done ++ o ∷ []) os) (conflict_in both (done ++ o ∷ []) os)
      (falls_apart o.1) (new_there done o) (conflict_after p o.0 (done ++ o ∷ []) os order.0) (conflict_after q o.0 (done ++ o ∷ []) os order.0) (of_two_parts (done ++ o ∷ []) os order.1)

  two_parts : (os : List Placed) → AreInOrder os → first_conflict (part_in both (sum os)) ≡ earlier (first_conflict (part_in p (sum os))) (first_conflict (part_in q (sum os)))
  two_parts os order =
      first_in_part both os order ∙ of_two_parts [] os order
      ∙ sym (ap₂ earlier (first_in_part p os order) (first_in_part q os order))

-- Whether a number is below the next one.
below_next : (x k : ℕ) → nat_lt x (suc k) ≡ (nat_lt x k || (x == k))
below_next x k = by_tests (nat_lt x k) (x == k) refl refl
  where
    by_tests : (s t : Bool) → nat_lt x k ≡ s → (x == k) ≡ t → nat_lt x (suc k) ≡ (s || t)
    by_tests true t less is = let below : x < k = ltb-true x k less in lt-ltb x (suc k) (omega arith)
    by_tests false true less is = let equal : x ≡ k = eqb-true x k is in lt-ltb x (suc k) (omega arith)
    by_tests false false less is =
        let above : k ≤ x = ltb-false x k less in
        false_from_ne_true (nat_lt x (suc k)) (λ next. let below : x < suc k = ltb-true x (suc k) next in let equal : x ≡ k = omega arith in false≢true (sym is ∙ (Decides-eqb x k).1 equal))

below_or_at : (x k : ℕ) → (nat_lt x k && (x == k)) ≡ false
below_or_at x k = by_tests (nat_lt x k) (x == k) refl refl
  where
    by_tests : (s t : Bool) → nat_lt x k ≡ s → (x == k) ≡ t → (s && t) ≡ false
    by_tests false t less is = refl
    by_tests true false less is = refl
    by_tests true true less is = let below : x < k = ltb-true x k less in let equal : x ≡ k = eqb-true x k is in absurd (omega arith)

-- The names of the shards before this one.
abbrev in_shards_before : ℕ → ℕ → Name → Bool
in_shards_before shards k name = nat_lt (shard_of shards name) k

in_no_shard : (shards : ℕ) (m : List (Key × PartEntry)) → filter (λ e. in_shards_before shards 0 e.0.1) m ≡ []
in_no_shard shards [] = refl
in_no_shard shards (e ∷ es) = ap (λ t. cond t (e ∷ filter (λ e. in_shards_before shards 0 e.0.1) es) (filter (λ e. in_shards_before shards 0 e.0.1) es)) (none (shard_of shards e.0.1)) ∙ in_no_shard shards es
  where
    none : (x : ℕ) → nat_lt x 0 ≡ false
    none x = false_from_ne_true (nat_lt x 0) (λ less. let below : x < 0 = ltb-true x 0 less in omega arith)

first_before : (shards k : ℕ) (os : List Placed) → AreInOrder os → first_of_shards shards k (sum os) ≡ first_conflict (part_in (in_shards_before shards k) (sum os))
first_before shards zero os order = ap earliest (sym (in_no_shard shards (sum os).nodes))
first_before shards (suc k) os order =
    ap (λ c. earlier c (first_conflict (part_in (in_shard shards k) (sum os)))) (first_before shards k os order)
    ∙ sym (two_parts (in_shards_before shards k) (in_shard shards k) (in_shards_before shards (suc k))
    (λ n. below_next (shard_of shards n) k) (λ n. below_or_at (shard_of shards n) k) os order)

all_nodes : (shards : ℕ) → 0 < shards → (m : List (Key × PartEntry)) → filter (λ e. in_shards_before shards shards e.0.1) m ≡ m
all_nodes shards some m =
    ap (λ p. filter p m) (λ i (e : Key × PartEntry). lt-ltb (shard_of shards e.0.1) shards (each_name_has_a_shard shards some e.0.1) i)
    ∙ filter_all m

pub the_first_conflict_is_that_of_a_shard : TheFirstConflictIsThatOfAShard
the_first_conflict_is_that_of_a_shard shards some os order =
    first_before shards shards os order ∙ ap earliest (all_nodes shards some (sum os).nodes)
