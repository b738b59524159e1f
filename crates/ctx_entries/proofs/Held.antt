-- The map of `defined`, seen as its pairs.
use Rattle.std.proofs.Common.{◌≡◌, ℕ, List, [], ◌∷◌, Bool, cond, true, false, Some, String, Global, string_bytes, string_cmp, Less, Equal, Greater, refl, ap}
use Rattle.std.specs.Ordering.{is_eq, match_ordering}
use Rattle.std.specs.Map.{lookup}
use Rattle.std.specs.BTreeMap.{is_at, insert_entry}
use Rattle.ld_model.specs.Tree.{byte_order}
use Rattle.ctx_entries.specs.Marks.{marks_view}

abbrev Entries : Type 0
Entries = List (String Global × Bool)

pub lookup-view : (t : List ℕ) (es : Entries) → lookup (is_at (byte_order t)) (marks_view es) ≡ lookup (λ k. is_eq (byte_order t (string_bytes k))) es
lookup-view t [] = refl
lookup-view t (e ∷ es) =
    elim (is_eq (byte_order t (string_bytes e.0))) as (λ b. cond b (Some e.1) (lookup (is_at (byte_order t)) (marks_view es)) ≡ cond b (Some e.1) (lookup (λ k. is_eq (byte_order t (string_bytes k))) es))
    [ true ↦ refl | false ↦ lookup-view t es ]

pub insert-view : (t : String Global) (b : Bool) (es : Entries) → marks_view (insert_entry string_cmp es t b) ≡ insert_entry byte_order (marks_view es) (string_bytes t) b
insert-view t b [] = refl
insert-view t b (e ∷ es) =
    elim (byte_order (string_bytes t) (string_bytes e.0)) as (λ o. marks_view (match_ordering o ((t, b) ∷ e ∷ es) ((e.0, b) ∷ es) (e ∷ insert_entry string_cmp es t b)) ≡ match_ordering o ((string_bytes t, b) ∷ marks_view (e ∷ es)) ((string_bytes e.0, b) ∷ marks_view es) ((string_bytes e.0, e.1) ∷ insert_entry byte_order (marks_view es) (string_bytes t) b))
    [ Less ↦ refl | Equal ↦ refl | Greater ↦ ap (λ l. (string_bytes e.0, e.1) ∷ l) (insert-view t b es) ]
