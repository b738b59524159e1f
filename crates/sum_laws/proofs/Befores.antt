-- All that a sum tells of places comes before a place that comes after its operations.
use Rattle.std.proofs.Common.{◌≡◌, ℕ, List, [], ◌∷◌, Bool, true, false, cond, Option, Some, None}
use Rattle.std.specs.Prelude.{⊤}
use Rattle.std.specs.List.{AllByRecursion}
use Rattle.std.specs.Map.{keys_of, lookup}
use Rattle.std.specs.Str.{bytes_eq}
use Rattle.op_model.specs.Names.{Name}
use Rattle.op_model.specs.Ops.{Op, use_label, ensure_graph, ensure_node, ensure_property, add_entry, append_list, add_type, set_index}
use Rattle.sum_model.specs.Joins.{is_new, or_empty, value_at, values_joined, maps_joined}
use Rattle.sum_model.specs.Sums.{Place, Placed, same_key, Index, conflict_with, indexes_joined, bare, part_entries_joined, sum_of_one, sum}
use Rattle.sum_model.specs.Conflicts.{ConflictAt, is_before, conflict_of}
use Rattle.sum_laws.proofs.Once.{all-filter}
use Rattle.sum_laws.proofs.Places.{all-append}

-- What holds of the values of two maps holds of those of the joined one, where joining keeps it.
module _ {K V : Type 0} (same : K → K → Bool) (empty : V) (join : V → V → V) (P : V → Type 0) (of_empty : P empty) (keeps : (v w : V) → P v → P w → P (join v w)) where
  at-all : (k : K) (m : List (K × V)) → AllByRecursion (λ e. P e.1) m → P (value_at same empty k m)
  at-all k [] all = of_empty
  at-all k (e ∷ es) all = by_test (same k e.0) (at-all k es all.1)
    where
      by_test : (t : Bool) → P (or_empty empty (lookup (same k) es)) → P (or_empty empty (cond t (Some e.1) (lookup (same k) es)))
      by_test true rest = all.0
      by_test false rest = rest

  all-values_joined : (a b : List (K × V)) → AllByRecursion (λ e. P e.1) a → AllByRecursion (λ e. P e.1) b → AllByRecursion (λ e. P e.1) (values_joined same empty join a b)
  all-values_joined [] b of_a of_b = tt
  all-values_joined (e ∷ es) b of_a of_b = (keeps e.1 (value_at same empty e.0 b) of_a.0 (at-all e.0 b of_b), all-values_joined es b of_a.1 of_b)

  pub all-maps_joined : (a b : List (K × V)) → AllByRecursion (λ e. P e.1) a → AllByRecursion (λ e. P e.1) b → AllByRecursion (λ e. P e.1) (maps_joined same empty join a b)
  all-maps_joined a b of_a of_b = all-append (λ e. P e.1) (values_joined same empty join a b) _ (all-values_joined a b of_a of_b) (all-filter (λ e. P e.1) (λ e. is_new same (keys_of a) e.0) b of_b)

abbrev IsSecondBefore : Place → Option (Place × List ℕ) → Type 0
IsSecondBefore at None = ⊤
IsSecondBefore at (Some c) = is_before c.0 at ≡ true

-- The index of a node was set before, and so was the one that differs.
abbrev pub IsIndexBefore : Place → Option Index → Type 0
IsIndexBefore at None = ⊤
IsIndexBefore at (Some i) = (is_before i.place at ≡ true) × IsSecondBefore at i.conflict

abbrev pub IsConflictBefore : Place → Option ConflictAt → Type 0
IsConflictBefore at None = ⊤
IsConflictBefore at (Some c) = is_before c.place at ≡ true

pub conflict_before : (at : Place) (n : Name) (j : Option Index) → IsIndexBefore at j → IsConflictBefore at (conflict_of n j)
conflict_before at n None is = tt
conflict_before at n (Some j) is = by_case j.conflict is.1
  where
    by_case : (c : Option (Place × List ℕ)) → IsSecondBefore at c → IsConflictBefore at (conflict_of n (Some (record { place = j.place; text = j.text; conflict = c })))
    by_case None is = tt
    by_case (Some c) is = is

module _ (at : Place) where
  second_joined : (first : List ℕ) (c : Option (Place × List ℕ)) (b : Index) → IsSecondBefore at c → IsIndexBefore at (Some b) → IsSecondBefore at (conflict_with first c b)
  second_joined first (Some c) b of_c of_b = of_c
  second_joined first None b of_c of_b = by_test (bytes_eq first b.text)
    where
      by_test : (t : Bool) → IsSecondBefore at (cond t b.conflict (Some (b.place, b.text)))
      by_test true = of_b.1
      by_test false = of_b.0

  index_joined : (a b : Option Index) → IsIndexBefore at a → IsIndexBefore at b → IsIndexBefore at (indexes_joined a b)
  index_joined None b of_a of_b = of_b
  index_joined (Some a) None of_a of_b = of_a
  index_joined (Some a) (Some b) of_a of_b = (of_a.0, second_joined a.text a.conflict b of_a.1 of_b)

  one_before : (p : Place) (o : Op) → is_before p at ≡ true → AllByRecursion (λ e. IsIndexBefore at e.1.index) (sum_of_one p o).nodes
  one_before p (use_label name) is = tt
  one_before p (ensure_graph g) is = tt
  one_before p (ensure_node g n) is = (tt, tt)
  one_before p (ensure_property g n q) is = (tt, tt)
  one_before p (add_entry g n q e) is = (tt, tt)
  one_before p (append_list g n q es) is = (tt, tt)
  one_before p (add_type g n t) is = (tt, tt)
  one_before p (set_index g n i) is = ((is, tt), tt)

  pub sum_before : (os : List Placed) → AllByRecursion (λ p. is_before p.0 at ≡ true) os → AllByRecursion (λ e. IsIndexBefore at e.1.index) (sum os).nodes
  sum_before [] all = tt
  sum_before (o ∷ os) all =
      all-maps_joined same_key bare part_entries_joined (λ v. IsIndexBefore at v.index) tt (λ v w. index_joined v.index w.index)
      (sum_of_one o.0 o.1).nodes (sum os).nodes (one_before o.0 o.1 all.0) (sum_before os all.1)
