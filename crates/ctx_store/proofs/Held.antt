-- The map of a store, seen as its contexts.
use Rattle.std.proofs.Common.{◌≡◌, ℕ, List, [], ◌∷◌, cond, true, false, Some, String, Global, string_bytes, string_cmp, Less, Equal, Greater, refl, ap}
use Rattle.std.specs.Option.{option_map}
use Rattle.std.specs.Ordering.{is_eq, match_ordering}
use Rattle.std.specs.Map.{lookup}
use Rattle.std.specs.BTreeMap.{is_at, insert_entry}
use Rattle.ld_model.specs.Tree.{byte_order}
use Rattle.ctx_store.specs.declared.store.Loaded.{Loaded}
use Rattle.ctx_store.specs.View.{loaded_view, context_view, contexts_view}

abbrev Entries : Type 0
Entries = List (String Global × Loaded)

pub lookup-view : (iri : List ℕ) (es : Entries) → lookup (is_at (byte_order iri)) (contexts_view es) ≡ option_map loaded_view (lookup (λ k. is_eq (byte_order iri (string_bytes k))) es)
lookup-view iri [] = refl
lookup-view iri (e ∷ es) =
    elim (is_eq (byte_order iri (string_bytes e.0))) as (λ b. cond b (Some (loaded_view e.1)) (lookup (is_at (byte_order iri)) (contexts_view es)) ≡ option_map loaded_view (cond b (Some e.1) (lookup (λ k. is_eq (byte_order iri (string_bytes k))) es)))
    [ true ↦ refl | false ↦ lookup-view iri es ]

pub insert-view : (iri : String Global) (file : Loaded) (es : Entries) → contexts_view (insert_entry string_cmp es iri file) ≡ insert_entry byte_order (contexts_view es) (string_bytes iri) (loaded_view file)
insert-view iri file [] = refl
insert-view iri file (e ∷ es) =
    elim (byte_order (string_bytes iri) (string_bytes e.0)) as (λ o. contexts_view (match_ordering o ((iri, file) ∷ e ∷ es) ((e.0, file) ∷ es) (e ∷ insert_entry string_cmp es iri file)) ≡ match_ordering o ((string_bytes iri, loaded_view file) ∷ contexts_view (e ∷ es)) ((string_bytes e.0, loaded_view file) ∷ contexts_view es) (context_view e ∷ insert_entry byte_order (contexts_view es) (string_bytes iri) (loaded_view file)))
    [ Less ↦ refl | Equal ↦ refl | Greater ↦ ap (λ l. context_view e ∷ l) (insert-view iri file es) ]
