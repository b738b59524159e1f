-- What a log comes to once something further is said.
use Rattle.std.proofs.Common.{◌≡◌, List, [], ◌∷◌, ◌++◌, false, cond, not, ◌||◌, Option, Some, None, ℕ, zero, suc, ◌-◌, length, slice_get, refl, arith, sym, ap, ap₂, ◌∙◌}
use Rattle.std.specs.Prelude.{option_map, slice_set}
use Rattle.std.proofs.lemmas.List.{map-append, length-append}
use Rattle.std.proofs.lemmas.Option.{slice_get_within}
use Rattle.op_model.specs.Names.{Name, same_name}
use Rattle.op_model.specs.Ops.{Entry}
use Rattle.sum_model.specs.Joins.{lists_joined, or_empty}
use Rattle.sum_model.specs.Sums.{same_entry, properties_joined}
use Rattle.sum_laws.specs.Said.{once}
use Rattle.sum_laws.proofs.Once.{once-append}
use Rattle.sum_laws.proofs.Same.{same_name-exact, same_name-refl, same_name-sym, same_entry-exact, same_entry-sym}
use Rattle.sum_laws.proofs.Sums.{entries, properties}
use Rattle.op_types.specs.View.{name_view, names_view, entry_view, entries_view}
use Rattle.op_types.specs.declared.name.Name as code_name
use Rattle.op_types.specs.declared.entry.Entry as code_entry
use Rattle.subtree_summary.specs.declared.entry.Told.{Told}
use Rattle.subtree_summary.specs.Log.{told_view, properties_view, last_property}

pub types-append : (a b : List code_name.Name) → once same_name (names_view (a ++ b)) ≡ lists_joined same_name (once same_name (names_view a)) (once same_name (names_view b))
types-append a b = ap (once same_name) (map-append name_view a b) ∙ once-append same_name same_name-exact same_name-sym (names_view a) (names_view b)

entries-append : (a b : List code_entry.Entry) → once same_entry (entries_view (a ++ b)) ≡ lists_joined same_entry (once same_entry (entries_view a)) (once same_entry (entries_view b))
entries-append a b = ap (once same_entry) (map-append entry_view a b) ∙ once-append same_entry same_entry-exact same_entry-sym (entries_view a) (entries_view b)

pub properties-append : (a b : List Told) → properties_view (a ++ b) ≡ properties_joined (properties_view a) (properties_view b)
properties-append [] b = sym (properties.left (properties_view b))
properties-append (t ∷ ts) b =
    ap (properties_joined (told_view t ∷ [])) (properties-append ts b)
    ∙ sym (properties.assoc (told_view t ∷ []) (properties_view ts) (properties_view b))

-- Entries of one property, and then others of it.
same_property : (p : Name) (a b : List Entry) → properties_joined ((p, a) ∷ []) ((p, b) ∷ []) ≡ (p, lists_joined same_entry a b) ∷ []
same_property p a b = ap (λ t. (p, lists_joined same_entry a (or_empty [] (cond t (Some b) None))) ∷ cond (not (t || false)) ((p, b) ∷ []) []) (same_name-refl p)

-- What is told last goes behind the others.
pub last : (ts : List Told) (t : Told) → properties_view (ts ++ t ∷ []) ≡ properties_joined (properties_view ts) (told_view t ∷ [])
last ts t = properties-append ts (t ∷ []) ∙ ap (properties_joined (properties_view ts)) (properties.right (told_view t ∷ []))

-- Further entries of the property with which a log ends.
further : (ts : List Told) (t : Told) (p : Name) (es : List Entry) → name_view t.property ≡ p → properties_joined (properties_view (ts ++ t ∷ [])) ((p, es) ∷ []) ≡ properties_joined (properties_view ts) ((name_view t.property, lists_joined same_entry (once same_entry (entries_view t.entries.items)) es) ∷ [])
further ts t p es is =
    ap (λ q. properties_joined (properties_view (ts ++ t ∷ [])) ((q, es) ∷ [])) (sym is)
    ∙ ap (λ ps. properties_joined ps ((name_view t.property, es) ∷ [])) (last ts t)
    ∙ properties.assoc (properties_view ts) (told_view t ∷ []) ((name_view t.property, es) ∷ [])
    ∙ ap (properties_joined (properties_view ts)) (same_property (name_view t.property) (once same_entry (entries_view t.entries.items)) es)

-- A log that ends with this property already has it.
pub ends_with : (ts : List Told) (t : Told) (p : Name) → name_view t.property ≡ p → properties_view (ts ++ t ∷ []) ≡ properties_joined (properties_view (ts ++ t ∷ [])) ((p, []) ∷ [])
ends_with ts t p is =
    sym (further ts t p [] is
    ∙ ap (λ es. properties_joined (properties_view ts) ((name_view t.property, es) ∷ [])) (entries.right (once same_entry (entries_view t.entries.items)))
    ∙ sym (last ts t))

-- A property of which nothing was told, behind a log.
pub nothing_behind : (ts : List Told) (t : Told) (p : Name) → name_view t.property ≡ p → t.entries.items ≡ [] → properties_view (ts ++ t ∷ []) ≡ properties_joined (properties_view ts) ((p, []) ∷ [])
nothing_behind ts t p is none = last ts t ∙ ap₂ (λ q es. properties_joined (properties_view ts) ((q, once same_entry (entries_view es)) ∷ [])) is none

-- A log, taken apart at what was said last.
apart_at : (ts : List Told) (n : ℕ) (t : Told) → length ts ≡ suc n → slice_get ts n ≡ Some t → (before : List Told) × (ts ≡ before ++ t ∷ []) × ((u : Told) → slice_set ts n u ≡ before ++ u ∷ [])
apart_at [] n t long at = absurd (cc)
apart_at (x ∷ []) zero t long at = ([], ap (λ o. or_empty x o ∷ []) at, λ u. refl)
apart_at (x ∷ []) (suc n) t long at = absurd (cc)
apart_at (x ∷ y ∷ ys) zero t long at = absurd (omega (arith, long))
apart_at (x ∷ y ∷ ys) (suc n) t long at =
    let rest = apart_at (y ∷ ys) n t (omega (arith, long)) at in
    (x ∷ rest.0, ap (λ l. x ∷ l) rest.1, λ u. ap (λ l. x ∷ l) (rest.2 u))

at_end : (ts : List Told) (t : Told) → slice_get ts (length ts - 1) ≡ Some t → (before : List Told) × (ts ≡ before ++ t ∷ []) × ((u : Told) → slice_set ts (length ts - 1) u ≡ before ++ u ∷ [])
at_end ts t at = apart_at ts (length ts - 1) t (omega (arith, slice_get_within ts (length ts - 1) t at)) at

-- The property of which something was said last, in a log that ends with it.
behind : (ts : List Told) (t : Told) → slice_get (ts ++ t ∷ []) (length ts) ≡ Some t
behind [] t = refl
behind (x ∷ xs) t = behind xs t

pub last_of : (ts : List Told) (t : Told) → last_property (ts ++ t ∷ []) ≡ Some (name_view t.property)
last_of ts t =
    let place : length (ts ++ t ∷ []) - 1 ≡ length ts = omega (arith, length-append ts (t ∷ [])) in
    ap (λ n. option_map (λ (u : Told). name_view u.property) (slice_get (ts ++ t ∷ []) n)) place
    ∙ ap (option_map (λ (u : Told). name_view u.property)) (behind ts t)

-- It is there already.
pub has_last : (ts : List Told) (p : Name) → last_property ts ≡ Some p → properties_view ts ≡ properties_joined (properties_view ts) ((p, []) ∷ [])
has_last ts p is = by_case (slice_get ts (length ts - 1)) refl is
  where
    by_case : (o : Option Told) → slice_get ts (length ts - 1) ≡ o → option_map (λ (t : Told). name_view t.property) o ≡ Some p → properties_view ts ≡ properties_joined (properties_view ts) ((p, []) ∷ [])
    by_case None at is = absurd (cc)
    by_case (Some t) at is =
        let split = at_end ts t at in
        ap properties_view split.1
        ∙ ends_with split.0 t p (ap (or_empty (name_view t.property)) is)
        ∙ ap (λ l. properties_joined (properties_view l) ((p, []) ∷ [])) (sym split.1)

-- A further entry of it.
pub added_to_last : (ts : List Told) (t u : Told) (p : Name) (e : code_entry.Entry) → slice_get ts (length ts - 1) ≡ Some t → name_view t.property ≡ p → u.property ≡ t.property → u.entries.items ≡ t.entries.items ++ e ∷ [] → properties_view (slice_set ts (length ts - 1) u) ≡ properties_joined (properties_view ts) ((p, entry_view e ∷ []) ∷ [])
added_to_last ts t u p e at is same more =
    let split = at_end ts t at in
    ap properties_view (split.2 u)
    ∙ last split.0 u
    ∙ ap₂ (λ q es. properties_joined (properties_view split.0) ((name_view q, once same_entry (entries_view es)) ∷ [])) same more
    ∙ ap (λ es. properties_joined (properties_view split.0) ((name_view t.property, es) ∷ [])) (entries-append t.entries.items (e ∷ []))
    ∙ sym (further split.0 t p (entry_view e ∷ []) is)
    ∙ ap (λ l. properties_joined (properties_view l) ((p, entry_view e ∷ []) ∷ [])) (sym split.1)

-- An entry of a property that was told just before.
pub told_then : (old : List (Name × List Entry)) (p : Name) (e : Entry) → properties_joined (properties_joined old ((p, []) ∷ [])) ((p, e ∷ []) ∷ []) ≡ properties_joined old ((p, e ∷ []) ∷ [])
told_then old p e = properties.assoc old ((p, []) ∷ []) ((p, e ∷ []) ∷ []) ∙ ap (properties_joined old) (same_property p [] (e ∷ []))
