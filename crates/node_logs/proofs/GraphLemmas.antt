-- A map from texts to values, each seen as a tree that its key and its value make.
use Rattle.std.proofs.Common.{◌≡◌, ℕ, List, [], ◌∷◌, cond, Bool, true, false, Some, Ordering, Less, Equal, Greater, refl, sym, ap, ◌∙◌, subst}
use Rattle.std.specs.Prelude.{map}
use Rattle.std.specs.Option.{option_map}
use Rattle.std.specs.Ordering.{match_ordering}
use Rattle.std.specs.List.Sorted.{IsStrictlySortedBy}
use Rattle.std.specs.Map.{keys_of, lookup, set_value}
use Rattle.std.specs.BTreeMap.{is_at, insert_entry}
use Rattle.std.proofs.lemmas.Map.Lookups.{exact_bytes}
use Rattle.std.proofs.lemmas.Map.Text.{is_eq-slice_cmp}
use Rattle.ld_model.specs.Tree.{Tree, Pairs, member_at, byte_order, put, AreAscending}
use Rattle.ld_model.proofs.Puts.{bytes_eq-exact}
use Rattle.node_model.specs.Maps.{with_at}
use Rattle.node_logs.proofs.Maps.{set_value-there}

module _ {V : Type 0} (f : List ℕ → V → Tree) where
  abbrev pub shown : List (List ℕ × V) → Pairs
  shown es = map (λ e. (e.0, f e.0 e.1)) es

  pub member_at-shown : (k : List ℕ) (es : List (List ℕ × V)) → member_at k (shown es) ≡ option_map (f k) (lookup (is_at (byte_order k)) es)
  member_at-shown k [] = refl
  member_at-shown k (e ∷ es) = by_key (is_at (byte_order k) e.0) refl (member_at-shown k es)
    where
      by_key : (b : Bool) → is_at (byte_order k) e.0 ≡ b → member_at k (shown es) ≡ option_map (f k) (lookup (is_at (byte_order k)) es) → cond b (Some (f e.0 e.1)) (member_at k (shown es)) ≡ option_map (f k) (cond b (Some e.1) (lookup (is_at (byte_order k)) es))
      by_key true is more = ap (λ q. Some (f q e.1)) (sym (bytes_eq-exact k e.0 (sym (is_eq-slice_cmp k e.0) ∙ is)))
      by_key false is more = more

  pub shown-set : (k : List ℕ) (v : V) (es : List (List ℕ × V)) → shown (set_value (is_at (byte_order k)) es v) ≡ set_value (is_at (byte_order k)) (shown es) (f k v)
  shown-set k v [] = refl
  shown-set k v (e ∷ es) = by_key (is_at (byte_order k) e.0) refl (shown-set k v es)
    where
      by_key : (b : Bool) → is_at (byte_order k) e.0 ≡ b → shown (set_value (is_at (byte_order k)) es v) ≡ set_value (is_at (byte_order k)) (shown es) (f k v) → shown (cond b ((e.0, v) ∷ es) (e ∷ set_value (is_at (byte_order k)) es v)) ≡ cond b ((e.0, f k v) ∷ shown es) ((e.0, f e.0 e.1) ∷ set_value (is_at (byte_order k)) (shown es) (f k v))
      by_key true is more = ap (λ q. (e.0, f q v) ∷ shown es) (sym (bytes_eq-exact k e.0 (sym (is_eq-slice_cmp k e.0) ∙ is)))
      by_key false is more = ap (λ l. (e.0, f e.0 e.1) ∷ l) more

  pub shown-insert : (k : List ℕ) (v : V) (es : List (List ℕ × V)) → shown (insert_entry byte_order es k v) ≡ insert_entry byte_order (shown es) k (f k v)
  shown-insert k v [] = refl
  shown-insert k v (e ∷ es) = by_order (byte_order k e.0) refl (shown-insert k v es)
    where
      by_order : (o : Ordering) → byte_order k e.0 ≡ o → shown (insert_entry byte_order es k v) ≡ insert_entry byte_order (shown es) k (f k v) → shown (match_ordering o ((k, v) ∷ e ∷ es) ((e.0, v) ∷ es) (e ∷ insert_entry byte_order es k v)) ≡ match_ordering o ((k, f k v) ∷ shown (e ∷ es)) ((e.0, f k v) ∷ shown es) ((e.0, f e.0 e.1) ∷ insert_entry byte_order (shown es) k (f k v))
      by_order Less is more = refl
      by_order Equal is more = ap (λ q. (e.0, f q v) ∷ shown es) (sym (exact_bytes k e.0 is))
      by_order Greater is more = ap (λ l. (e.0, f e.0 e.1) ∷ l) more

  keys_of-shown : (es : List (List ℕ × V)) → keys_of (shown es) ≡ keys_of es
  keys_of-shown [] = refl
  keys_of-shown (e ∷ es) = ap (λ l. e.0 ∷ l) (keys_of-shown es)

  pub ascending-shown : (es : List (List ℕ × V)) → IsStrictlySortedBy byte_order (keys_of es) → AreAscending (shown es)
  ascending-shown es sorted = subst (IsStrictlySortedBy byte_order) (sym (keys_of-shown es)) sorted

module _ {V : Type 0} (f : List ℕ → V → Tree) where
  pub shown-put : (k : List ℕ) (v old : V) (es : List (List ℕ × V)) → IsStrictlySortedBy byte_order (keys_of es) → lookup (is_at (byte_order k)) es ≡ Some old → shown f (set_value (is_at (byte_order k)) es v) ≡ put k (f k v) (shown f es)
  unfolding put with_at
  shown-put k v old es sorted there =
      shown-set f k v es ∙ set_value-there k (f k v) (f k old) (shown f es) (ascending-shown f es sorted) (member_at-shown f k es ∙ ap (option_map (f k)) there)

  pub shown-new : (k : List ℕ) (v : V) (es : List (List ℕ × V)) → shown f (insert_entry byte_order es k v) ≡ put k (f k v) (shown f es)
  unfolding put
  shown-new k v es = shown-insert f k v es
