-- What stands at a key, after an entry is put in or taken out. No order of the entries is needed.
use Rattle.std.proofs.Common.{◌≡◌, List, [], ◌∷◌, Bool, true, false, cond, Some, Ordering, Less, Equal, Greater, refl, sym, ap, ◌∙◌, subst}
use Rattle.std.specs.Ordering.{is_eq, match_ordering}
use Rattle.std.specs.Str.{bytes_eq}
use Rattle.std.specs.Map.{lookup, remove_entry}
use Rattle.std.specs.BTreeMap.{is_at, insert_entry}
use Rattle.std.proofs.lemmas.Map.Lookups.{exact_bytes}
use Rattle.std.proofs.lemmas.Map.Text.{is_eq-slice_cmp}
use Rattle.ld_model.specs.Tree.{byte_order}
use Rattle.ld_model.proofs.Puts.{bytes_eq-refl, bytes_eq-exact}
use Rattle.ctx_types.specs.Context.{Text}

pub at-is : (a b : Text) → is_at (byte_order a) b ≡ bytes_eq a b
at-is a b = is_eq-slice_cmp a b

pub at-self : (a : Text) → is_at (byte_order a) a ≡ true
at-self a = at-is a a ∙ bytes_eq-refl a

pub at-exact : (a b : Text) → is_at (byte_order a) b ≡ true → a ≡ b
at-exact a b same = bytes_eq-exact a b (sym (at-is a b) ∙ same)

module _ {X : Type 0} where
  inserted : (k : Text) (v : X) (e : Text × X) (es : List (Text × X)) (o : Ordering) → byte_order k e.0 ≡ o → insert_entry byte_order (e ∷ es) k v ≡ match_ordering o ((k, v) ∷ e ∷ es) ((e.0, v) ∷ es) (e ∷ insert_entry byte_order es k v)
  inserted k v e es o h = ap (λ o. match_ordering o ((k, v) ∷ e ∷ es) ((e.0, v) ∷ es) (e ∷ insert_entry byte_order es k v)) h

  first : (q k : Text) (v : X) (es : List (Text × X)) (b : Bool) → is_at (byte_order q) k ≡ b → lookup (is_at (byte_order q)) ((k, v) ∷ es) ≡ cond b (Some v) (lookup (is_at (byte_order q)) es)
  first q k v es b h = ap (λ b. cond b (Some v) (lookup (is_at (byte_order q)) es)) h

  pub at_inserted : (k : Text) (v : X) (es : List (Text × X)) → lookup (is_at (byte_order k)) (insert_entry byte_order es k v) ≡ Some v
  at_inserted k v [] = first k k v [] true (at-self k)
  at_inserted k v (e ∷ es) = step (byte_order k e.0) refl (at_inserted k v es)
    where
      step : (o : Ordering) → byte_order k e.0 ≡ o → lookup (is_at (byte_order k)) (insert_entry byte_order es k v) ≡ Some v → lookup (is_at (byte_order k)) (insert_entry byte_order (e ∷ es) k v) ≡ Some v
      step Less h rest = ap (lookup (is_at (byte_order k))) (inserted k v e es Less h) ∙ first k k v (e ∷ es) true (at-self k)
      step Equal h rest = ap (lookup (is_at (byte_order k))) (inserted k v e es Equal h) ∙ first k e.0 v es true (ap is_eq h)
      step Greater h rest = ap (lookup (is_at (byte_order k))) (inserted k v e es Greater h) ∙ first k e.0 e.1 (insert_entry byte_order es k v) false (ap is_eq h) ∙ rest

  pub at_other : (q k : Text) (v : X) (es : List (Text × X)) → bytes_eq q k ≡ false → lookup (is_at (byte_order q)) (insert_entry byte_order es k v) ≡ lookup (is_at (byte_order q)) es
  at_other q k v [] apart = first q k v [] false (at-is q k ∙ apart)
  at_other q k v (e ∷ es) apart = step (byte_order k e.0) refl (at_other q k v es apart)
    where
      step : (o : Ordering) → byte_order k e.0 ≡ o → lookup (is_at (byte_order q)) (insert_entry byte_order es k v) ≡ lookup (is_at (byte_order q)) es → lookup (is_at (byte_order q)) (insert_entry byte_order (e ∷ es) k v) ≡ lookup (is_at (byte_order q)) (e ∷ es)
      step Less h rest = ap (lookup (is_at (byte_order q))) (inserted k v e es Less h) ∙ first q k v (e ∷ es) false (at-is q k ∙ apart)
      step Equal h rest =
          let away : is_at (byte_order q) e.0 ≡ false = subst (λ x. is_at (byte_order q) x ≡ false) (exact_bytes k e.0 h) (at-is q k ∙ apart) in
          ap (lookup (is_at (byte_order q))) (inserted k v e es Equal h) ∙ first q e.0 v es false away ∙ sym (first q e.0 e.1 es false away)
      step Greater h rest = ap (lookup (is_at (byte_order q))) (inserted k v e es Greater h) ∙ ap (λ o. cond (is_at (byte_order q) e.0) (Some e.1) o) rest

  pub at_left : (q k : Text) (es : List (Text × X)) → bytes_eq q k ≡ false → lookup (is_at (byte_order q)) (remove_entry (is_at (byte_order k)) es) ≡ lookup (is_at (byte_order q)) es
  at_left q k [] apart = refl
  at_left q k (e ∷ es) apart = step (is_at (byte_order k) e.0) refl (at_left q k es apart)
    where
      step : (b : Bool) → is_at (byte_order k) e.0 ≡ b → lookup (is_at (byte_order q)) (remove_entry (is_at (byte_order k)) es) ≡ lookup (is_at (byte_order q)) es → lookup (is_at (byte_order q)) (cond b es (e ∷ remove_entry (is_at (byte_order k)) es)) ≡ lookup (is_at (byte_order q)) (e ∷ es)
      step true h rest =
          let away : is_at (byte_order q) e.0 ≡ false = subst (λ x. is_at (byte_order q) x ≡ false) (at-exact k e.0 h) (at-is q k ∙ apart) in
          sym (first q e.0 e.1 es false away)
      step false h rest = ap (λ o. cond (is_at (byte_order q) e.0) (Some e.1) o) rest
