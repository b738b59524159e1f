-- Maps from texts whose keys ascend: what is put at a key, and a map seen through a function of its values.
use Rattle.std.proofs.Common.{◌≡◌, ℕ, List, [], ◌∷◌, ◌++◌, cond, true, false, Option, Some, None, Ordering, Less, Equal, Greater, refl, sym, ap, ◌∙◌, subst}
use Rattle.std.specs.Option.{option_map}
use Rattle.std.specs.Ordering.{match_ordering, is_eq}
use Rattle.std.specs.Str.{bytes_eq}
use Rattle.std.specs.List.{AllByRecursion}
use Rattle.std.specs.List.Sorted.{IsStrictlySortedBy}
use Rattle.std.specs.Map.{keys_of, set_value}
use Rattle.std.specs.BTreeMap.{is_at, insert_entry}
use Rattle.std.proofs.lemmas.Cmp.{nat_list_cmp_total}
use Rattle.std.proofs.lemmas.Map.{lookup-none}
use Rattle.std.proofs.lemmas.Map.Entries.{none_below_head}
use Rattle.std.proofs.lemmas.Map.Lookups.{exact_bytes}
use Rattle.std.proofs.lemmas.Map.Steps.{set_value_same}
use Rattle.std.proofs.lemmas.Map.Text.{is_eq-slice_cmp}
use Rattle.ld_model.specs.Tree.{byte_order, IsBefore}
use Rattle.ld_model.proofs.Puts.{order-refl, flipped}
use Rattle.node_model.specs.Maps.{MapOf, at, with_at}
use Rattle.std.specs.BTreeMap.{BTreeMap}
use Rattle.node_model.specs.NodeMap.{node_in, graph_in, node_or_new, graph_or_new}
use Rattle.node_logs.specs.Log.{node_view}
use Rattle.node_logs.specs.Views.{shown, graph_view, graphs_view}
use Rattle.node_logs.specs.declared.node.Node.{Node}

module _ {V : Type 0} where
  -- What was put at a key is there, and is gone once something else is put there.
  pub at-with_at : (k : List ℕ) (v : V) (m : MapOf V) → at k (with_at k v m) ≡ Some v
  unfolding with_at
  at-with_at k v [] = rw (order-refl k) refl
  at-with_at k v (e ∷ m) = by_order (byte_order k e.0) refl (at-with_at k v m)
    where
      by_order : (o : Ordering) → byte_order k e.0 ≡ o → at k (with_at k v m) ≡ Some v → at k (match_ordering o ((k, v) ∷ e ∷ m) ((e.0, v) ∷ m) (e ∷ with_at k v m)) ≡ Some v
      by_order Less is rest = rw (order-refl k) refl
      by_order Equal is rest = rw is refl
      by_order Greater is rest = rw is rest

  pub with_at-with_at : (k : List ℕ) (v w : V) (m : MapOf V) → with_at k v (with_at k w m) ≡ with_at k v m
  unfolding with_at
  with_at-with_at k v w [] = rw (order-refl k) refl
  with_at-with_at k v w (e ∷ m) = by_order (byte_order k e.0) refl (with_at-with_at k v w m)
    where
      by_order : (o : Ordering) → byte_order k e.0 ≡ o → with_at k v (with_at k w m) ≡ with_at k v m → with_at k v (match_ordering o ((k, w) ∷ e ∷ m) ((e.0, w) ∷ m) (e ∷ with_at k w m)) ≡ match_ordering o ((k, v) ∷ e ∷ m) ((e.0, v) ∷ m) (e ∷ with_at k v m)
      by_order Less is rest = rw (order-refl k) refl
      by_order Equal is rest = rw is refl
      by_order Greater is rest = rw is (ap (λ l. e ∷ l) rest)

  -- Where a key is there, its value set is its value put.
  pub set_value-there : (k : List ℕ) (v old : V) (m : MapOf V) → IsStrictlySortedBy byte_order (keys_of m) → at k m ≡ Some old → set_value (is_at (byte_order k)) m v ≡ with_at k v m
  unfolding IsStrictlySortedBy with_at
  set_value-there k v old [] sorted there = absurd (cc)
  set_value-there k v old (e ∷ m) sorted there = by_order (byte_order k e.0) refl (λ rest. set_value-there k v old m sorted.1 rest)
    where
      by_order : (o : Ordering) → byte_order k e.0 ≡ o → (at k m ≡ Some old → set_value (is_at (byte_order k)) m v ≡ with_at k v m) → set_value (is_at (byte_order k)) (e ∷ m) v ≡ with_at k v (e ∷ m)
      by_order Less is more = absurd (let none = lookup-none (is_at (byte_order k)) (e ∷ m) (none_below_head nat_list_cmp_total k e m sorted is) in cc)
      by_order Equal is more = rw is refl
      by_order Greater is more = let rest : at k m ≡ Some old = (rw is at there) in rw is (ap (λ l. e ∷ l) (more rest))

  -- What stands at a key, put there, changes nothing.
  pub with_at-same : (k : List ℕ) (v : V) (m : MapOf V) → IsStrictlySortedBy byte_order (keys_of m) → at k m ≡ Some v → with_at k v m ≡ m
  with_at-same k v m sorted there = sym (set_value-there k v v m sorted there) ∙ set_value_same (is_at (byte_order k)) m v there

  -- What another key has stays, and what is put at two keys can be put there in either order.
  pub at-apart : (k l : List ℕ) (w : V) (m : MapOf V) → bytes_eq k l ≡ false → at k (with_at l w m) ≡ at k m
  unfolding with_at
  at-apart k l w [] apart = rw (is_eq-slice_cmp k l ∙ apart) refl
  at-apart k l w (e ∷ m) apart = by_order (byte_order l e.0) refl (at-apart k l w m apart)
    where
      by_order : (o : Ordering) → byte_order l e.0 ≡ o → at k (with_at l w m) ≡ at k m → at k (match_ordering o ((l, w) ∷ e ∷ m) ((e.0, w) ∷ m) (e ∷ with_at l w m)) ≡ at k (e ∷ m)
      by_order Less is rest = rw (is_eq-slice_cmp k l ∙ apart) refl
      by_order Equal is rest = let other : is_at (byte_order k) e.0 ≡ false = subst (λ x. is_at (byte_order k) x ≡ false) (exact_bytes l e.0 is) (is_eq-slice_cmp k l ∙ apart) in rw other refl
      by_order Greater is rest = ap (λ o. cond (is_at (byte_order k) e.0) (Some e.1) o) rest

  with_at-before : (k l : List ℕ) (v w : V) (m : MapOf V) → byte_order k l ≡ Less → with_at k v (with_at l w m) ≡ with_at l w (with_at k v m)
  unfolding with_at
  with_at-before k l v w [] less = rw less (rw (flipped k l Less less) refl)
  with_at-before k l v w (e ∷ m) less = by_orders (byte_order k e.0) (byte_order l e.0) refl refl (with_at-before k l v w m less)
    where
      after : byte_order l k ≡ Greater
      after = flipped k l Less less

      by_orders : (o p : Ordering) → byte_order k e.0 ≡ o → byte_order l e.0 ≡ p → with_at k v (with_at l w m) ≡ with_at l w (with_at k v m) → with_at k v (match_ordering p ((l, w) ∷ e ∷ m) ((e.0, w) ∷ m) (e ∷ with_at l w m)) ≡ with_at l w (match_ordering o ((k, v) ∷ e ∷ m) ((e.0, v) ∷ m) (e ∷ with_at k v m))
      by_orders Less Less o p rest = rw less (rw after (rw p refl))
      by_orders Less Equal o p rest = rw o (rw after (rw p refl))
      by_orders Less Greater o p rest = rw o (rw after (rw p refl))
      by_orders Equal Greater o p rest = rw o (rw p refl)
      by_orders Greater Greater o p rest = rw o (rw p (ap (λ l. e ∷ l) rest))
      by_orders Equal Less o p rest = absurd (let less_too = nat_list_cmp_total.trans k l e.0 less p in cc)
      by_orders Greater Less o p rest = absurd (let less_too = nat_list_cmp_total.trans k l e.0 less p in cc)
      by_orders Equal Equal o p rest = absurd (let less_too = subst (λ x. byte_order k x ≡ Less) (exact_bytes l e.0 p) less in cc)
      by_orders Greater Equal o p rest = absurd (let less_too = subst (λ x. byte_order k x ≡ Less) (exact_bytes l e.0 p) less in cc)

  pub with_at-apart : (k l : List ℕ) (v w : V) (m : MapOf V) → bytes_eq k l ≡ false → with_at k v (with_at l w m) ≡ with_at l w (with_at k v m)
  with_at-apart k l v w m apart = by_order (byte_order k l) refl
    where
      by_order : (o : Ordering) → byte_order k l ≡ o → with_at k v (with_at l w m) ≡ with_at l w (with_at k v m)
      by_order Less is = with_at-before k l v w m is
      by_order Equal is = absurd (let same = sym (is_eq-slice_cmp k l) ∙ ap is_eq is in cc)
      by_order Greater is = sym (with_at-before l k w v m (flipped k l Greater is))

  -- A key that comes after all others is not there, and what is put there stands at the end.
  pub behind : (k : List ℕ) (v : V) (m : MapOf V) → AllByRecursion (λ x. IsBefore x k) (keys_of m) → with_at k v m ≡ m ++ (k, v) ∷ []
  unfolding with_at
  behind k v [] all = refl
  behind k v (e ∷ m) all = rw (flipped e.0 k Less all.0) (ap (λ l. e ∷ l) (behind k v m all.1))

  pub none_behind : (k : List ℕ) (m : MapOf V) → AllByRecursion (λ x. IsBefore x k) (keys_of m) → at k m ≡ None
  none_behind k [] all = refl
  none_behind k (e ∷ m) all = rw (flipped e.0 k Less all.0) (none_behind k m all.1)

module _ {V W : Type 0} (f : V → W) where
  pub at-shown : (k : List ℕ) (es : MapOf V) → at k (shown f es) ≡ option_map f (at k es)
  at-shown k [] = refl
  at-shown k (e ∷ es) = elim (is_at (byte_order k) e.0) as (λ b. cond b (Some (f e.1)) (at k (shown f es)) ≡ option_map f (cond b (Some e.1) (at k es))) [ true ↦ refl | false ↦ at-shown k es ]

  pub shown-insert : (k : List ℕ) (v : V) (es : MapOf V) → shown f (insert_entry byte_order es k v) ≡ with_at k (f v) (shown f es)
  unfolding with_at
  shown-insert k v [] = refl
  shown-insert k v (e ∷ es) =
      elim (byte_order k e.0) as (λ o. shown f (match_ordering o ((k, v) ∷ e ∷ es) ((e.0, v) ∷ es) (e ∷ insert_entry byte_order es k v)) ≡ match_ordering o ((k, f v) ∷ shown f (e ∷ es)) ((e.0, f v) ∷ shown f es) ((e.0, f e.1) ∷ insert_entry byte_order (shown f es) k (f v)))
      [ Less ↦ refl | Equal ↦ refl | Greater ↦ ap (λ l. (e.0, f e.1) ∷ l) (shown-insert k v es) ]

  pub shown-set : (k : List ℕ) (v old : V) (es : MapOf V) → IsStrictlySortedBy byte_order (keys_of es) → at k es ≡ Some old → shown f (set_value (is_at (byte_order k)) es v) ≡ with_at k (f v) (shown f es)
  unfolding with_at
  shown-set k v old es sorted there = ap (shown f) (set_value-there k v old es sorted there) ∙ shown-insert k v es

  pub keys_of-shown : (es : MapOf V) → keys_of (shown f es) ≡ keys_of es
  keys_of-shown [] = refl
  keys_of-shown (e ∷ es) = ap (λ l. e.0 ∷ l) (keys_of-shown es)

-- The value at a key, changed: where it is there, and where it is missing. `made` is what the change begins with.
module _ {V W : Type 0} (f : V → W) (made : Option W → W) (change : W → W) (k : List ℕ) (es : MapOf V) where
  pub changed-there : (new old : V) → IsStrictlySortedBy byte_order (keys_of es) → at k es ≡ Some old → made (Some (f old)) ≡ f old → f new ≡ change (f old) → shown f (set_value (is_at (byte_order k)) es new) ≡ with_at k (change (made (at k (shown f es)))) (shown f es)
  changed-there new old sorted there same is =
      shown-set f k new old es sorted there
      ∙ ap (λ w. with_at k w (shown f es)) (is ∙ ap change (sym same ∙ ap made (sym (at-shown f k es ∙ ap (option_map f) there))))

  pub changed-missing : (new : W) → at k es ≡ None → new ≡ change (made None) → with_at k new (shown f es) ≡ with_at k (change (made (at k (shown f es)))) (shown f es)
  changed-missing new missing is =
      ap (λ w. with_at k w (shown f es)) (is ∙ ap (λ o. change (made o)) (sym (at-shown f k es ∙ ap (option_map f) missing)))

-- The index that a node has, looked up.
pub index-of : (g id : List ℕ) (graphs : List (List ℕ × BTreeMap (List ℕ) Node)) (o : Option (BTreeMap (List ℕ) Node)) → at g graphs ≡ o → (node_in id (graph_in g (graphs_view graphs))).index ≡ (node_in id (graph_or_new (option_map (λ m. graph_view m.entries) o))).index
index-of g id graphs o is = ap (λ h. (node_in id (graph_or_new h)).index) (at-shown (λ m. graph_view m.entries) g graphs ∙ ap (option_map (λ m. graph_view m.entries)) is)

pub index-in : (id : List ℕ) (nodes : List (List ℕ × Node)) (o : Option Node) → at id nodes ≡ o → (node_in id (graph_view nodes)).index ≡ (node_or_new (option_map node_view o)).index
index-in id nodes o is = ap (λ n. (node_or_new n).index) (at-shown node_view id nodes ∙ ap (option_map node_view) is)
