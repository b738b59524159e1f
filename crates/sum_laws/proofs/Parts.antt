-- The part of a sum that falls among some names.
use Rattle.std.proofs.Common.{◌≡◌, List, [], ◌∷◌, ◌++◌, Bool, true, false, cond, not, refl, sym, ap, ap₂, ◌∙◌, subst}
use Rattle.std.specs.Prelude.{filter}
use Rattle.std.specs.Map.{keys_of}
use Rattle.std.proofs.lemmas.List.Elements.{filter-append}
use Rattle.std.proofs.lemmas.Map.Entries.{lookup-filter-keys}
use Rattle.std.proofs.lemmas.Map.Views.{any-filter_same}
use Rattle.op_model.specs.Names.{Name, same_name}
use Rattle.op_model.specs.Ops.{Op, use_label, ensure_graph, ensure_node, ensure_property, add_entry, append_list, add_type, set_index}
use Rattle.sum_model.specs.Joins.{is_new, lists_joined, or_empty, value_at, values_joined, maps_joined}
use Rattle.sum_model.specs.Sums.{Place, Placed, Key, same_key, PartEntry, bare, part_entries_joined, Sum, empty_sum, join, at_node, sum_of_one, sum}
use Rattle.sum_model.specs.Shards.{falls_in, ops_in, part_in}
use Rattle.sum_laws.specs.Laws.{TheSumOfAShardIsItsPart}
use Rattle.sum_laws.proofs.Lists.{IsExact}
use Rattle.sum_laws.proofs.Maps.{keys-filter, values_joined-filter}
use Rattle.sum_laws.proofs.Same.{same_name-exact, same_key-exact}
use Rattle.sum_laws.proofs.Sums.{join_is_a_monoid}

-- Two filters in the other order, where the one that comes last now asks the same of what the first one lets through.
swapped : {X : Type 0} (p q r : X → Bool) → ((x : X) → p x ≡ true → r x ≡ q x) → (xs : List X) → filter p (filter q xs) ≡ filter r (filter p xs)
swapped p q r is [] = refl
swapped p q r is (x ∷ xs) = by_tests (p x) (q x) refl refl (swapped p q r is xs)
  where
    by_tests : (s t : Bool) → p x ≡ s → q x ≡ t → filter p (filter q xs) ≡ filter r (filter p xs) → filter p (filter q (x ∷ xs)) ≡ filter r (filter p (x ∷ xs))
    by_tests true true s t rest = let there : r x ≡ true = is x s ∙ t in rw (t, s, there) (ap (λ l. x ∷ l) rest)
    by_tests true false s t rest = let there : r x ≡ false = is x s ∙ t in rw (t, s, there) rest
    by_tests false true s t rest = rw (t, s) rest
    by_tests false false s t rest = rw (t, s) rest

module _ {X : Type 0} (same : X → X → Bool) (exact : IsExact same) (here : X → Bool) where
  -- What is among the names is new to a part exactly where it is new to the whole.
  new_to_part : (a : List X) (x : X) → here x ≡ true → is_new same (filter here a) x ≡ is_new same a x
  new_to_part a x is = ap not (any-filter_same (same x) here true (λ y s. subst (λ z. here z ≡ true) (exact x y s) is) a)

  pub part_of_lists : (a b : List X) → filter here (lists_joined same a b) ≡ lists_joined same (filter here a) (filter here b)
  part_of_lists a b =
      filter-append here a (filter (is_new same a) b)
      ∙ ap (λ l. filter here a ++ l) (swapped here (is_new same a) (is_new same (filter here a)) (new_to_part a) b)

module _ {K V : Type 0} (same : K → K → Bool) (exact : IsExact same) (empty : V) (join : V → V → V) (here : K → Bool) where
  at-part : (k : K) (b : List (K × V)) → here k ≡ true → value_at same empty k (filter (λ e. here e.0) b) ≡ value_at same empty k b
  at-part k b is = ap (or_empty empty) (lookup-filter-keys (same k) here true (λ x s. subst (λ y. here y ≡ true) (exact k x s) is) b)

  values_of_part : (a b : List (K × V)) → values_joined same empty join (filter (λ e. here e.0) a) b ≡ values_joined same empty join (filter (λ e. here e.0) a) (filter (λ e. here e.0) b)
  values_of_part [] b = refl
  values_of_part (e ∷ es) b = by_test (here e.0) refl (values_of_part es b)
    where
      by_test : (t : Bool) → here e.0 ≡ t → values_joined same empty join (filter (λ e. here e.0) es) b ≡ values_joined same empty join (filter (λ e. here e.0) es) (filter (λ e. here e.0) b) → values_joined same empty join (filter (λ e. here e.0) (e ∷ es)) b ≡ values_joined same empty join (filter (λ e. here e.0) (e ∷ es)) (filter (λ e. here e.0) b)
      by_test true is rest = rw is (ap₂ (λ v l. (e.0, join e.1 v) ∷ l) (sym (at-part e.0 b is)) rest)
      by_test false is rest = rw is rest

  new_keys_of_part : (a b : List (K × V)) → filter (λ e. here e.0) (filter (λ e. is_new same (keys_of a) e.0) b) ≡ filter (λ e. is_new same (keys_of (filter (λ e. here e.0) a)) e.0) (filter (λ e. here e.0) b)
  new_keys_of_part a b =
      swapped (λ e. here e.0) (λ e. is_new same (keys_of a) e.0) (λ e. is_new same (keys_of (filter (λ e. here e.0) a)) e.0)
      (λ e is. ap (λ ks. is_new same ks e.0) (keys-filter here a) ∙ new_to_part same exact here (keys_of a) e.0 is) b

  pub part_of_maps : (a b : List (K × V)) → filter (λ e. here e.0) (maps_joined same empty join a b) ≡ maps_joined same empty join (filter (λ e. here e.0) a) (filter (λ e. here e.0) b)
  part_of_maps a b =
      filter-append (λ e. here e.0) (values_joined same empty join a b) (filter (λ e. is_new same (keys_of a) e.0) b)
      ∙ ap₂ ◌++◌ (sym (values_joined-filter same empty join here a b) ∙ values_of_part a b) (new_keys_of_part a b)

module _ (here : Name → Bool) where
  part_of_join : (a b : Sum) → part_in here (join a b) ≡ join (part_in here a) (part_in here b)
  part_of_join a b = λ i. record {
    graphs = part_of_lists same_name same_name-exact here a.graphs b.graphs i;
    nodes = part_of_maps same_key same_key-exact bare part_entries_joined (λ (k : Key). here k.1) a.nodes b.nodes i;
  }

  -- What one operation adds falls there whole or not at all.
  part_of_graph : (g : Name) (t : Bool) → record { graphs = cond t (g ∷ []) []; nodes = [] } ≡ cond t (record { graphs = g ∷ []; nodes = [] }) empty_sum
  part_of_graph g true = refl
  part_of_graph g false = refl

  part_of_node : (g n : Name) (e : PartEntry) (t : Bool) → record { graphs = []; nodes = cond t (((g, n), e) ∷ []) [] } ≡ cond t (at_node g n e) empty_sum
  part_of_node g n e true = refl
  part_of_node g n e false = refl

  part_of_one : (at : Place) (o : Op) → part_in here (sum_of_one at o) ≡ cond (falls_in here o) (sum_of_one at o) empty_sum
  part_of_one at (use_label name) = refl
  part_of_one at (ensure_graph g) = part_of_graph g (here g)
  part_of_one at (ensure_node g n) = part_of_node g n _ (here n)
  part_of_one at (ensure_property g n p) = part_of_node g n _ (here n)
  part_of_one at (add_entry g n p e) = part_of_node g n _ (here n)
  part_of_one at (append_list g n p es) = part_of_node g n _ (here n)
  part_of_one at (add_type g n t) = part_of_node g n _ (here n)
  part_of_one at (set_index g n i) = part_of_node g n _ (here n)

  -- One more operation, which falls there or not.
  one_more : (o : Placed) (os : List Placed) (t : Bool) → sum (ops_in here os) ≡ part_in here (sum os) → sum (cond t (o ∷ ops_in here os) (ops_in here os)) ≡ join (cond t (sum_of_one o.0 o.1) empty_sum) (part_in here (sum os))
  one_more o os true rest = ap (join (sum_of_one o.0 o.1)) rest
  one_more o os false rest = rest ∙ sym (join_is_a_monoid.left (part_in here (sum os)))

  part_of_sum : (os : List Placed) → sum (ops_in here os) ≡ part_in here (sum os)
  part_of_sum [] = refl
  part_of_sum (o ∷ os) =
      one_more o os (falls_in here o.1) (part_of_sum os)
      ∙ ap (λ s. join s (part_in here (sum os))) (sym (part_of_one o.0 o.1))
      ∙ sym (part_of_join (sum_of_one o.0 o.1) (sum os))

pub the_sum_of_a_shard_is_its_part : TheSumOfAShardIsItsPart
the_sum_of_a_shard_is_its_part = part_of_sum
