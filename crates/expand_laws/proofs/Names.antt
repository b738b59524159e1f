-- Keys: those of properties have a colon, and so are no keywords.
use Rattle.std.proofs.Common.{◌≡◌, [], ◌∷◌, Bool, true, false, Option, Some, None, refl, sym, ap, ◌∙◌, subst, codes, if◌then◌else◌}
use Rattle.std.specs.Option.{unwrap_or}
use Rattle.std.specs.List.{AllByRecursion, list_any}
use Rattle.std.specs.Str.{bytes_eq}
use Rattle.ld_model.specs.Tree.{Tree, null, Pairs, member_at}
use Rattle.ld_model.proofs.Puts.{bytes_eq-exact, at_first, at_later}
use Rattle.iri_ref.specs.Parts.{colon}
use Rattle.case_tables.specs.declared.keyword.Keyword.{Keyword as Word}
use Rattle.ctx_types.specs.Context.{Text, Settings}
use Rattle.ctx_types.specs.Expansion.{expand_iri, keywords}
use Rattle.expand_model.specs.declared.Name.{Name}
use Rattle.expand_model.specs.declared.Name.TheVariants.{Dropped, Keyword, Property}
use Rattle.expand_model.specs.Entries.{word_among, property_named, name_as, name_by, name_of}

abbrev pub HasColon : Text → Type 0
HasColon k = list_any colon k ≡ true

-- A text that passes a test is none that fails it.
pub told_apart : (test : Text → Bool) (k w : Text) → test k ≡ true → test w ≡ false → bytes_eq k w ≡ false
told_apart test k w passes fails = by (bytes_eq k w) refl
  where
    by : (b : Bool) → bytes_eq k w ≡ b → b ≡ false
    by true same = let never : true ≡ false = sym passes ∙ ap test (bytes_eq-exact k w same) ∙ fails in absurd (cc)
    by false same = refl

pub apart : (k w : Text) → HasColon k → list_any colon w ≡ false → bytes_eq k w ≡ false
apart k w has none = told_apart (list_any colon) k w has none

-- The name of a property has a colon.
abbrev pub IsNamed : Name → Type 0
IsNamed (Property i) = HasColon i
IsNamed Dropped = Unit {0}
IsNamed (Keyword w) = Unit {0}

property_is_named : (t : Text) → IsNamed (property_named t)
property_is_named t = by (list_any colon t) refl
  where
    by : (b : Bool) → list_any colon t ≡ b → IsNamed (if b then Property t else Dropped)
    by true has = has
    by false has = tt

named_as : (w : Option Word) (t : Text) → IsNamed (name_as w t)
named_as None t = property_is_named t
named_as (Some w) t = tt

named_by : (o : Option Text) → IsNamed (name_by o)
named_by None = tt
named_by (Some t) = named_as (word_among t keywords) t

pub is_named : (c : Settings) (k : Text) → IsNamed (name_of c k)
unfolding name_of
is_named c k = by (bytes_eq k (codes "@context"))
  where
    by : (b : Bool) → IsNamed (if b then Dropped else name_by (expand_iri c false true k))
    by true = tt
    by false = named_by (expand_iri c false true k)

-- What holds of each entry holds of what stands at a key.
pub held : (P : Text × Tree → Type 0) (k : Text) (t : Tree) (r : Pairs) → AllByRecursion P r → member_at k r ≡ Some t → P (k, t)
held P k t [] all is = absurd (cc)
held P k t (m ∷ ms) all is = by (bytes_eq k m.0) refl (λ later. held P k t ms all.1 later)
  where
    by : (b : Bool) → bytes_eq k m.0 ≡ b → (member_at k ms ≡ Some t → P (k, t)) → P (k, t)
    by true same rest =
        let value : m.1 ≡ t = ap (λ o. unwrap_or o null) (sym (at_first k m ms same) ∙ is) in
        subst (λ k. P (k, t)) (sym (bytes_eq-exact k m.0 same)) (subst (λ t. P (m.0, t)) value all.0)
    by false other rest = rest (sym (at_later k m ms other) ∙ is)
