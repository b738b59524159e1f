-- What was said so far, once something further is said.
use Rattle.std.proofs.Common.{◌≡◌, ℕ, zero, suc, ◌==◌, ◌<◌, length, List, [], ◌∷◌, ◌++◌, Bool, true, false, cond, not, ◌||◌, Option, Some, None, slice_get, slice_index_or, refl, sym, ap, ◌∙◌, eqb-true, true≢false, arith}
use Rattle.std.specs.Prelude.{slice_set, option_map, IfSome}
use Rattle.std.specs.Map.{keys_of}
use Rattle.std.proofs.lemmas.Bool.Decides.{Decides-eqb}
use Rattle.std.proofs.lemmas.Option.{slice_get_read, slice_get_within}
use Rattle.op_model.specs.Names.{Name}
use Rattle.op_model.specs.Ops.{Op}
use Rattle.sum_model.specs.Joins.{or_empty}
use Rattle.sum_model.specs.Shards.{shard_of, in_shard, falls_in, ops_in}
use Rattle.sum_model.specs.Sums.{Place, Placed, Key, PartEntry, bare, part_entries_joined, Sum, empty_sum, join, at_node, sum, sum_of_one}
use Rattle.sum_laws.proofs.Same.{same_key-refl}
use Rattle.sum_laws.proofs.Sums as laws
use Rattle.sum_laws.proofs.Uses.{each_name_has_a_shard}
use Rattle.subtree_summary.specs.declared.part.Part.{Part}
use Rattle.subtree_summary.specs.Parts.{part_view, key_in, all_fall}
use Rattle.subtree_summary.specs.Summing.{part_at, node_in, one_in, nodes_at, key_at, AreInPlace}
use Rattle.subtree_summary.proofs.Parts.{fall_at, no_nodes}

-- What is said of one node, and then something further of it.
same_node : (g n : Name) (a b : PartEntry) → join (at_node g n a) (at_node g n b) ≡ at_node g n (part_entries_joined a b)
same_node g n a b = ap (λ t. record { graphs = []; nodes = ((g, n), part_entries_joined a (or_empty bare (cond t (Some b) None))) ∷ cond (not (t || false)) (((g, n), b) ∷ []) [] }) (same_key-refl (g, n))

node_joined : (shards k : ℕ) (key : Key) (a b : PartEntry) → join (node_in shards k key a) (node_in shards k key b) ≡ node_in shards k key (part_entries_joined a b)
node_joined shards k key a b = by_test (in_shard shards k key.1)
  where
    by_test : (t : Bool) → join (cond t (at_node key.0 key.1 a) empty_sum) (cond t (at_node key.0 key.1 b) empty_sum) ≡ cond t (at_node key.0 key.1 (part_entries_joined a b)) empty_sum
    by_test true = same_node key.0 key.1 a b
    by_test false = refl

-- The first of operations, and then the rest.
pub first_said : (shards k : ℕ) (at : Place) (o : Op) (os : List Placed) → sum (ops_in (in_shard shards k) ((at, o) ∷ os)) ≡ join (one_in shards k at o) (sum (ops_in (in_shard shards k) os))
first_said shards k at o os = by_test (falls_in (in_shard shards k) o)
  where
    by_test : (t : Bool) → sum (cond t ((at, o) ∷ ops_in (in_shard shards k) os) (ops_in (in_shard shards k) os)) ≡ join (cond t (sum_of_one at o) empty_sum) (sum (ops_in (in_shard shards k) os))
    by_test true = refl
    by_test false = sym (laws.join_is_a_monoid.left (sum (ops_in (in_shard shards k) os)))

-- What was said so far and then this operation and the rest.
pub next_said : (shards k : ℕ) (at : Place) (o : Op) (os : List Placed) (old new all : Sum) → new ≡ join old (one_in shards k at o) → join old (sum (ops_in (in_shard shards k) ((at, o) ∷ os))) ≡ all → join new (sum (ops_in (in_shard shards k) os)) ≡ all
next_said shards k at o os old new all said is =
    ap (λ s. join s (sum (ops_in (in_shard shards k) os))) said
    ∙ laws.join_is_a_monoid.assoc old (one_in shards k at o) (sum (ops_in (in_shard shards k) os))
    ∙ ap (join old) (sym (first_said shards k at o os))
    ∙ is

-- One part is changed, and the others stay, whatever is read of them.
module _ {X : Type 0} (read : Part → X) (empty : X) where
  pub changed_here : (parts : List Part) (i : ℕ) (p q : Part) → slice_get parts i ≡ Some p → or_empty empty (option_map read (slice_get (slice_set parts i q) i)) ≡ read q
  changed_here [] i p q at = absurd (cc)
  changed_here (x ∷ xs) zero p q at = refl
  changed_here (x ∷ xs) (suc i) p q at = changed_here xs i p q at

  others_stay : (parts : List Part) (i k : ℕ) (q : Part) → (i ≡ k → ⊥) → or_empty empty (option_map read (slice_get (slice_set parts i q) k)) ≡ or_empty empty (option_map read (slice_get parts k))
  others_stay [] i k q apart = refl
  others_stay (x ∷ xs) zero zero q apart = absurd (apart refl)
  others_stay (x ∷ xs) zero (suc k) q apart = refl
  others_stay (x ∷ xs) (suc i) zero q apart = refl
  others_stay (x ∷ xs) (suc i) (suc k) q apart = others_stay xs i k q (λ same. apart (ap suc same))

differ : (i k : ℕ) → (i == k) ≡ false → i ≡ k → ⊥
differ i k apart same = true≢false (sym ((Decides-eqb i k).1 same) ∙ apart)

part_changed : (parts : List Part) (i k : ℕ) (p q : Part) (one : Sum) → slice_get parts i ≡ Some p → part_view q ≡ join (part_view p) one → part_at (slice_set parts i q) k ≡ join (part_at parts k) (cond (i == k) one empty_sum)
part_changed parts i k p q one at is = by_test (i == k) refl
  where
    by_test : (t : Bool) → (i == k) ≡ t → part_at (slice_set parts i q) k ≡ join (part_at parts k) (cond t one empty_sum)
    by_test true equal =
        let same : i ≡ k = eqb-true i k equal in
        ap (part_at (slice_set parts i q)) (sym same)
        ∙ changed_here part_view empty_sum parts i p q at
        ∙ is
        ∙ ap (λ s. join s one) (ap (λ o. or_empty empty_sum (option_map part_view o)) (sym at) ∙ ap (part_at parts) same)
    by_test false apart =
        others_stay part_view empty_sum parts i k q (differ i k apart)
        ∙ sym (laws.join_is_a_monoid.right (part_at parts k))

-- The part of a name's shard is there.
pub part_there : (parts : List Part) (shards i : ℕ) (name : Name) (p : Part) → 0 < shards → length parts ≡ shards → i ≡ shard_of shards name → p ≡ slice_index_or parts i p → slice_get parts i ≡ Some p
part_there parts shards i name p some long at value =
    let below : shard_of shards name < shards = each_name_has_a_shard shards some name in
    slice_get_read parts (length parts) i p refl (omega (arith, below, at, long)) value

-- Something goes into the part of a name's shard.
pub put_in_shard : (parts : List Part) (shards i k : ℕ) (name : Name) (p q : Part) (one : Sum) → i ≡ shard_of shards name → slice_get parts i ≡ Some p → part_view q ≡ join (part_view p) one → part_at (slice_set parts i q) k ≡ join (part_at parts k) (cond (in_shard shards k name) one empty_sum)
put_in_shard parts shards i k name p q one at there is =
    part_changed parts i k p q one there is
    ∙ ap (λ n. join (part_at parts k) (cond (n == k) one empty_sum)) at

-- Nodes that fall in the shard of a part leave each node in its place.
pub stays_in_place : (parts : List Part) (shards i : ℕ) (p q : Part) → slice_get parts i ≡ Some p → (all_fall (in_shard shards i) (keys_of p.nodes.entries) ≡ true → all_fall (in_shard shards i) (keys_of q.nodes.entries) ≡ true) → AreInPlace shards parts → AreInPlace shards (slice_set parts i q)
stays_in_place parts shards i p q there fall all k = by_test (i == k) refl
  where
    by_test : (t : Bool) → (i == k) ≡ t → all_fall (in_shard shards k) (keys_of (nodes_at (slice_set parts i q) k)) ≡ true
    by_test true equal =
        let same : i ≡ k = eqb-true i k equal in
        ap (λ n. all_fall (in_shard shards n) (keys_of (nodes_at (slice_set parts i q) n))) (sym same)
        ∙ ap (λ es. all_fall (in_shard shards i) (keys_of es)) (changed_here (λ (r : Part). r.nodes.entries) [] parts i p q there)
        ∙ fall (ap (λ o. all_fall (in_shard shards i) (keys_of (or_empty [] (option_map (λ (r : Part). r.nodes.entries) o)))) (sym there) ∙ all i)
    by_test false apart =
        ap (λ es. all_fall (in_shard shards k) (keys_of es)) (others_stay (λ (r : Part). r.nodes.entries) [] parts i k q (differ i k apart))
        ∙ all k

-- Where nothing was said, no node is out of its place.
pub nothing_in_place : (parts : List Part) (shards : ℕ) → ((k : ℕ) → part_at parts k ≡ empty_sum) → AreInPlace shards parts
nothing_in_place parts shards empty k = by_case (slice_get parts k) (ap (λ (s : Sum). s.nodes) (empty k))
  where
    by_case : (o : Option Part) → (or_empty empty_sum (option_map part_view o)).nodes ≡ [] → all_fall (in_shard shards k) (keys_of (or_empty [] (option_map (λ (r : Part). r.nodes.entries) o))) ≡ true
    by_case None is = refl
    by_case (Some p) is = no_nodes (in_shard shards k) p.nodes.entries is

-- A part at which a node stands is there, and is that of the node's shard.
pub shard_within : (parts : List Part) (i j : ℕ) (key : Key) → key_at parts i j ≡ Some key → i < length parts
shard_within parts i j key at = by_case (slice_get parts i) refl at
  where
    by_case : (o : Option Part) → slice_get parts i ≡ o → key_in (or_empty [] (option_map (λ (r : Part). r.nodes.entries) o)) j ≡ Some key → i < length parts
    by_case None is at = absurd (cc)
    by_case (Some p) is at = slice_get_within parts i p is

pub own_shard : (parts : List Part) (shards i j : ℕ) (key : Key) → AreInPlace shards parts → key_at parts i j ≡ Some key → i ≡ shard_of shards key.1
own_shard parts shards i j key all at = sym (eqb-true (shard_of shards key.1) i (fall_at (in_shard shards i) (nodes_at parts i) j key (all i) at))

-- Something is said of a node that was made before.
pub told_of_made : (shards k : ℕ) (key : Key) (made old : Sum) (e : PartEntry) → made ≡ join old (node_in shards k key bare) → join made (node_in shards k key e) ≡ join old (node_in shards k key e)
told_of_made shards k key made old e is =
    ap (λ s. join s (node_in shards k key e)) is
    ∙ laws.join_is_a_monoid.assoc old (node_in shards k key bare) (node_in shards k key e)
    ∙ ap (join old) (node_joined shards k key bare e ∙ ap (node_in shards k key) (laws.part_entries.left e))

-- An empty part behind empty parts.
pub all_empty : (parts : List Part) (p : Part) → part_view p ≡ empty_sum → ((k : ℕ) → part_at parts k ≡ empty_sum) → (k : ℕ) → part_at (parts ++ p ∷ []) k ≡ empty_sum
all_empty [] p is all zero = is
all_empty [] p is all (suc k) = refl
all_empty (x ∷ xs) p is all zero = all zero
all_empty (x ∷ xs) p is all (suc k) = all_empty xs p is (λ m. all (suc m)) k

-- What the part with this number says, where there is one.
pub of_part : (parts : List Part) (k : ℕ) (s : Sum) → part_at parts k ≡ s → IfSome (slice_get parts k) (λ p. part_view p ≡ s)
of_part parts k s = by_case (slice_get parts k)
  where
    by_case : (o : Option Part) → or_empty empty_sum (option_map part_view o) ≡ s → IfSome o (λ p. part_view p ≡ s)
    by_case None is = tt
    by_case (Some p) is = is

-- What a part says is what equals it.
pub seen_as : (o : Option Part) (a b : Sum) → a ≡ b → IfSome o (λ p. part_view p ≡ a) → IfSome o (λ p. part_view p ≡ b)
seen_as None a b is all = tt
seen_as (Some p) a b is all = all ∙ is
