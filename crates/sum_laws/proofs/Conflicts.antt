-- The first conflict in a sum is the first that its operations make.
use Rattle.std.proofs.Common.{◌≡◌, ℕ, List, [], ◌∷◌, ◌++◌, Bool, true, false, cond, Option, Some, None, refl, sym, ap, ap₂, ◌∙◌, subst, append-nil, append_assoc}
use Rattle.std.specs.Prelude.{flat_map, ⊤}
use Rattle.std.specs.List.{AllByRecursion, IsDistinct}
use Rattle.std.specs.Map.{keys_of}
use Rattle.std.specs.Option.{option_or}
use Rattle.std.specs.Str.{bytes_eq}
use Rattle.std.proofs.lemmas.Map.Keys.{IsDistinct-head, IsDistinct-tail}
use Rattle.op_model.specs.Names.{Name}
use Rattle.op_model.specs.Ops.{Op, use_label, ensure_graph, ensure_node, ensure_property, add_entry, append_list, add_type, set_index}
use Rattle.sum_model.specs.Joins.{is_new, value_at, values_joined, maps_joined}
use Rattle.sum_model.specs.Sums.{Place, Placed, Key, same_key, Index, conflict_with, indexes_joined, PartEntry, bare, part_entries_joined, join, sum_of_one, sum}
use Rattle.sum_model.specs.Conflicts.{ConflictAt, is_before, conflict_by, conflict_of, earlier, earliest, first_conflict}
use Rattle.sum_laws.specs.Said.{index_set, index_of, at_key}
use Rattle.sum_laws.specs.Conflicts.{AreInOrder, differing, new_conflict, conflict_from, TheFirstConflictComesFirst}
use Rattle.sum_laws.proofs.Same.{same_key-exact, same_key-sym}
use Rattle.sum_laws.proofs.Sums.{part_entries, nodes, join_is_a_monoid, the_sum_of_both_is_the_join}
use Rattle.sum_laws.proofs.Read.{indexes_are_said}
use Rattle.sum_laws.proofs.Determined.{nothing_stands_twice}
use Rattle.sum_laws.proofs.Befores.{IsIndexBefore, IsConflictBefore, conflict_before, sum_before}
use Rattle.sum_laws.proofs.Places.{before-asym, before_middle}

or_none : {X : Type 0} (o : Option X) → option_or o None ≡ o
or_none None = refl
or_none (Some x) = refl

or_assoc : {X : Type 0} (a b c : Option X) → option_or (option_or a b) c ≡ option_or a (option_or b c)
or_assoc None b c = refl
or_assoc (Some a) b c = refl

-- What is set at a place, if anything is, and the conflict that it makes with what was set before.
abbrev set_there : Place → Option (List ℕ) → Option Index
set_there at None = None
set_there at (Some i) = Some (record { place = at; text = i; conflict = None })

abbrev against : Place → Name → Option (List ℕ) → Option Index → Option ConflictAt
against at n None j = None
against at n (Some i) None = None
against at n (Some i) (Some j) = cond (bytes_eq j.text i) None (Some (record { place = at; node = n; first = j.text; second = i }))

against_none : (at : Place) (n : Name) (x : Option (List ℕ)) → against at n x None ≡ None
against_none at n None = refl
against_none at n (Some i) = refl

against_first : (at : Place) (n : Name) (i : List ℕ) (xs : List (Place × List ℕ)) → against at n (Some i) (index_of xs) ≡ differing at n i xs
against_first at n i [] = refl
against_first at n i (x ∷ xs) = refl

no_conflict_there : (at : Place) (n : Name) (x : Option (List ℕ)) → conflict_of n (set_there at x) ≡ None
no_conflict_there at n None = refl
no_conflict_there at n (Some i) = refl

second_set : (at : Place) (n : Name) (first i : List ℕ) (c : Option (Place × List ℕ)) → conflict_by n first (conflict_with first c (record { place = at; text = i; conflict = None })) ≡ option_or (conflict_by n first c) (cond (bytes_eq first i) None (Some (record { place = at; node = n; first = first; second = i })))
second_set at n first i (Some c) = refl
second_set at n first i None = by_test (bytes_eq first i)
  where
    by_test : (t : Bool) → conflict_by n first (cond t None (Some (at, i))) ≡ cond t None (Some (record { place = at; node = n; first = first; second = i }))
    by_test true = refl
    by_test false = refl

conflict_joined : (at : Place) (n : Name) (j : Option Index) (x : Option (List ℕ)) → conflict_of n (indexes_joined j (set_there at x)) ≡ option_or (conflict_of n j) (against at n x j)
conflict_joined at n None None = refl
conflict_joined at n None (Some i) = refl
conflict_joined at n (Some j) None = sym (or_none (conflict_of n (Some j)))
conflict_joined at n (Some j) (Some i) = second_set at n j.text i j.conflict

-- The conflict, if there is one, is at this place.
abbrev pub IsAt : Place → Option ConflictAt → Type 0
IsAt at None = ⊤
IsAt at (Some c) = c.place ≡ at

against_is_there : (at : Place) (n : Name) (x : Option (List ℕ)) (j : Option Index) → IsAt at (against at n x j)
against_is_there at n None j = tt
against_is_there at n (Some i) None = tt
against_is_there at n (Some i) (Some j) = by_test (bytes_eq j.text i)
  where
    by_test : (t : Bool) → IsAt at (cond t None (Some (record { place = at; node = n; first = j.text; second = i })))
    by_test true = tt
    by_test false = refl

-- A conflict that comes after all others counts where there is no other.
kept : (t : Bool) (a b : ConflictAt) (n : Option ConflictAt) → cond t (Some b) (Some a) ≡ option_or (cond t (Some b) (Some a)) n
kept true a b n = refl
kept false a b n = refl

pub last_of_rest : (at : Place) (c rest n : Option ConflictAt) → IsConflictBefore at c → IsAt at n → earlier c (option_or rest n) ≡ option_or (earlier c rest) n
last_of_rest at None rest n before is = refl
last_of_rest at (Some c) (Some r) n before is = kept (is_before r.place c.place) c r n
last_of_rest at (Some c) None None before is = refl
last_of_rest at (Some c) None (Some n) before is =
    let after : is_before n.place c.place ≡ false = ap (λ p. is_before p c.place) is ∙ before-asym c.place at before in
    ap (λ t. cond t (Some n) (Some c)) after

pub last_of_first : (at : Place) (c rest n : Option ConflictAt) → IsConflictBefore at rest → IsAt at n → earlier (option_or c n) rest ≡ option_or (earlier c rest) n
last_of_first at (Some c) None n before is = refl
last_of_first at (Some c) (Some r) n before is = kept (is_before r.place c.place) c r n
last_of_first at None rest None before is = sym (or_none rest)
last_of_first at None None (Some n) before is = refl
last_of_first at None (Some r) (Some n) before is =
    let first : is_before r.place n.place ≡ true = ap (is_before r.place) is ∙ before in
    ap (λ t. cond t (Some r) (Some n)) first

abbrev AllBefore : Place → List (Key × PartEntry) → Type 0
AllBefore at m = AllByRecursion (λ e. IsIndexBefore at e.1.index) m

earliest_before : (at : Place) (m : List (Key × PartEntry)) → AllBefore at m → IsConflictBefore at (earliest m)
earliest_before at [] all = tt
earliest_before at (e ∷ es) all = of_both (conflict_of e.0.1 e.1.index) (earliest es) (conflict_before at e.0.1 e.1.index all.0) (earliest_before at es all.1)
  where
    by_test : (t : Bool) (a b : ConflictAt) → is_before a.place at ≡ true → is_before b.place at ≡ true → IsConflictBefore at (cond t (Some b) (Some a))
    by_test true a b p q = q
    by_test false a b p q = p

    of_both : (a b : Option ConflictAt) → IsConflictBefore at a → IsConflictBefore at b → IsConflictBefore at (earlier a b)
    of_both None b p q = q
    of_both (Some a) None p q = p
    of_both (Some a) (Some b) p q = by_test (is_before b.place a.place) a b p q

-- A last entry without a conflict, if it is there at all.
quiet_last : (f : Key × PartEntry) (t : Bool) (m : List (Key × PartEntry)) → conflict_of f.0.1 f.1.index ≡ None → earliest (m ++ cond t (f ∷ []) []) ≡ earliest m
quiet_last f true [] quiet = ap (λ c. earlier c None) quiet
quiet_last f false [] quiet = refl
quiet_last f t (e ∷ es) quiet = ap (earlier (conflict_of e.0.1 e.1.index)) (quiet_last f t es quiet)

-- One node is joined, where at most an index is set, and all that was set before was set earlier.
module _ (k : Key) (e : PartEntry) (at : Place) (x : Option (List ℕ)) (sets : e.index ≡ set_there at x) where
  untouched : (m : List (Key × PartEntry)) → AllByRecursion (λ y. same_key k y ≡ false) (keys_of m) → values_joined same_key bare part_entries_joined m ((k, e) ∷ []) ≡ m
  untouched [] differ = refl
  untouched (f ∷ fs) differ =
      let apart : same_key f.0 k ≡ false = same_key-sym f.0 k ∙ differ.0 in
      rw apart (ap₂ (λ v l. (f.0, v) ∷ l) (part_entries.right f.1) (untouched fs differ.1))

  here : (f : Key × PartEntry) → same_key k f.0 ≡ true → conflict_of f.0.1 (part_entries_joined f.1 (value_at same_key bare f.0 ((k, e) ∷ []))).index ≡ option_or (conflict_of f.0.1 f.1.index) (against at k.1 x f.1.index)
  here f is =
      let back : same_key f.0 k ≡ true = same_key-sym f.0 k ∙ is in
      rw back (ap (λ i. conflict_of f.0.1 (indexes_joined f.1.index i)) sets ∙ conflict_joined at f.0.1 f.1.index x ∙ ap (λ n. option_or (conflict_of f.0.1 f.1.index) (against at n.1 x f.1.index)) (sym (same_key-exact k f.0 is)))

  away : (f : Key × PartEntry) → same_key k f.0 ≡ false → conflict_of f.0.1 (part_entries_joined f.1 (value_at same_key bare f.0 ((k, e) ∷ []))).index ≡ conflict_of f.0.1 f.1.index
  away f is =
      let apart : same_key f.0 k ≡ false = same_key-sym f.0 k ∙ is in
      rw apart (ap (λ v. conflict_of f.0.1 v.index) (part_entries.right f.1))

  others : (f : Key × PartEntry) (fs : List (Key × PartEntry)) → same_key k f.0 ≡ true → IsDistinct same_key (keys_of (f ∷ fs)) → AllByRecursion (λ y. same_key k y ≡ false) (keys_of fs)
  others f fs is distinct = subst (λ z. AllByRecursion (λ y. same_key z y ≡ false) (keys_of fs)) (sym (same_key-exact k f.0 is)) (IsDistinct-head same_key f.0 (keys_of fs) distinct)

  in_values : (m : List (Key × PartEntry)) → IsDistinct same_key (keys_of m) → AllBefore at m → earliest (values_joined same_key bare part_entries_joined m ((k, e) ∷ [])) ≡ option_or (earliest m) (against at k.1 x (value_at same_key bare k m).index)
  in_values [] distinct all = sym (against_none at k.1 x)
  in_values (f ∷ fs) distinct all = by_test (same_key k f.0) refl (in_values fs (IsDistinct-tail same_key f.0 (keys_of fs) distinct) all.1)
    where
      by_test : (t : Bool) → same_key k f.0 ≡ t → earliest (values_joined same_key bare part_entries_joined fs ((k, e) ∷ [])) ≡ option_or (earliest fs) (against at k.1 x (value_at same_key bare k fs).index) → earliest (values_joined same_key bare part_entries_joined (f ∷ fs) ((k, e) ∷ [])) ≡ option_or (earliest (f ∷ fs)) (against at k.1 x (value_at same_key bare k (f ∷ fs)).index)
      by_test true is rest =
          ap₂ earlier (here f is) (ap earliest (untouched fs (others f fs is distinct)))
          ∙ last_of_first at (conflict_of f.0.1 f.1.index) (earliest fs) (against at k.1 x f.1.index) (earliest_before at fs all.1) (against_is_there at k.1 x f.1.index)
          ∙ rw is refl
      by_test false is rest =
          ap₂ earlier (away f is) rest
          ∙ last_of_rest at (conflict_of f.0.1 f.1.index) (earliest fs) (against at k.1 x (value_at same_key bare k fs).index) (conflict_before at f.0.1 f.1.index all.0) (against_is_there at k.1 x (value_at same_key bare k fs).index)
          ∙ rw is refl

  one_node : (m : List (Key × PartEntry)) → IsDistinct same_key (keys_of m) → AllBefore at m → earliest (maps_joined same_key bare part_entries_joined m ((k, e) ∷ [])) ≡ option_or (earliest m) (against at k.1 x (value_at same_key bare k m).index)
  one_node m distinct all =
      quiet_last (k, e) (is_new same_key (keys_of m) k) (values_joined same_key bare part_entries_joined m ((k, e) ∷ [])) (ap (conflict_of k.1) sets ∙ no_conflict_there at k.1 x)
      ∙ in_values m distinct all

-- One operation more.
module _ (done : List Placed) (at : Place) (before : AllByRecursion (λ p. is_before p.0 at ≡ true) done) where
  no_node : (o : Op) → (sum_of_one at o).nodes ≡ [] → first_conflict (join (sum done) (sum_of_one at o)) ≡ option_or (first_conflict (sum done)) None
  no_node o none =
      ap (λ m. earliest (maps_joined same_key bare part_entries_joined (sum done).nodes m)) none
      ∙ ap earliest (nodes.right (sum done).nodes)
      ∙ sym (or_none (first_conflict (sum done)))

  a_node : (g n : Name) (e : PartEntry) (x : Option (List ℕ)) → e.index ≡ set_there at x → earliest (maps_joined same_key bare part_entries_joined (sum done).nodes (((g, n), e) ∷ [])) ≡ option_or (first_conflict (sum done)) (against at n x (at_key (g, n) (sum done)).index)
  a_node g n e x sets = one_node (g, n) e at x sets (sum done).nodes (nothing_stands_twice done).nodes (sum_before at done before)

  joined_one : (o : Op) → first_conflict (join (sum done) (sum_of_one at o)) ≡ option_or (first_conflict (sum done)) (new_conflict done (at, o))
  joined_one (use_label name) = no_node (use_label name) refl
  joined_one (ensure_graph g) = no_node (ensure_graph g) refl
  joined_one (ensure_node g n) = a_node g n _ None refl
  joined_one (ensure_property g n p) = a_node g n _ None refl
  joined_one (add_entry g n p e) = a_node g n _ None refl
  joined_one (append_list g n p es) = a_node g n _ None refl
  joined_one (add_type g n t) = a_node g n _ None refl
  joined_one (set_index g n i) =
      a_node g n _ (Some i) refl
      ∙ ap (λ j. option_or (first_conflict (sum done)) (against at n (Some i) j)) (indexes_are_said done (g, n))
      ∙ ap (option_or (first_conflict (sum done))) (against_first at n i (flat_map (index_set (g, n)) done))

one_more : (done : List Placed) (o : Placed) → AllByRecursion (λ p. is_before p.0 o.0 ≡ true) done → first_conflict (sum (done ++ o ∷ [])) ≡ option_or (first_conflict (sum done)) (new_conflict done o)
one_more done o before =
    ap first_conflict (the_sum_of_both_is_the_join done (o ∷ []) ∙ ap (join (sum done)) (join_is_a_monoid.right (sum_of_one o.0 o.1)))
    ∙ joined_one done o.0 before o.1

from_done : (done os : List Placed) → AreInOrder (done ++ os) → first_conflict (sum (done ++ os)) ≡ option_or (first_conflict (sum done)) (conflict_from done os)
from_done done [] order = ap (λ l. first_conflict (sum l)) (append-nil done) ∙ sym (or_none (first_conflict (sum done)))
from_done done (o ∷ os) order =
    let whole : (done ++ o ∷ []) ++ os ≡ done ++ o ∷ os = append_assoc done (o ∷ []) os in
    ap (λ l. first_conflict (sum l)) (sym whole)
    ∙ from_done (done ++ o ∷ []) os (subst AreInOrder (sym whole) order)
    ∙ ap (λ c. option_or c (conflict_from (done ++ o ∷ []) os)) (one_more done o (before_middle done o os order))
    ∙ or_assoc (first_conflict (sum done)) (new_conflict done o) (conflict_from (done ++ o ∷ []) os)

pub the_first_conflict_comes_first : TheFirstConflictComesFirst
the_first_conflict_comes_first os order = from_done [] os order
