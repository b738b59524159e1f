-- The names of a plain document are those of no blank node.
use Rattle.std.proofs.Common.{◌≡◌, ℕ, List, [], ◌∷◌, Bool, true, false, cond, ◌==◌, ◌&&◌, Some, is_some, refl, sym, ap, ◌∙◌, subst, eqb-true}
use Rattle.std.specs.Str.{bytes_eq}
use Rattle.ld_model.specs.Tree.{Tree, text, Pairs, member_at}
use Rattle.ld_model.specs.Keys.{id_key}
use Rattle.ld_model.specs.Iri.{has_scheme}
use Rattle.ld_model.specs.Label.{Labels, is_blank, issue}
use Rattle.ld_model.specs.Plain.{is_iri_text, is_plain_array, is_plain_member, are_plain_members}
use Rattle.ld_model.specs.NodeMap.{named}
use Rattle.ld_model.proofs.Puts.{bytes_eq-sym, at_first, at_later}
use Rattle.ld_model.proofs.Truths.{both}

first_byte : (a b : ℕ) (s : List ℕ) (t : Bool) → (a == 95) ≡ t → has_scheme (a ∷ b ∷ s) ≡ true → (t && (b == 58)) ≡ false
first_byte a b s true is scheme = let never : has_scheme (95 ∷ b ∷ s) ≡ true = subst (λ x. has_scheme (x ∷ b ∷ s) ≡ true) (eqb-true a 95 is) scheme in absurd (cc)
first_byte a b s false is scheme = refl

not_blank : (s : List ℕ) → has_scheme s ≡ true → is_blank s ≡ false
not_blank [] scheme = refl
not_blank (a ∷ []) scheme = refl
not_blank (a ∷ b ∷ s) scheme = first_byte a b s (a == 95) refl scheme

-- An IRI stays.
pub named_iri : (s : List ℕ) (l : Labels) → has_scheme s ≡ true → named s l ≡ (s, l)
named_iri s l scheme = ap (λ b. cond b (issue (Some s) l) (s, l)) (not_blank s scheme)

-- The id of a plain node object.
pub record PlainId (ms : Pairs) : Type 0 where
  pub id : List ℕ
  pub stands : member_at id_key ms ≡ Some (text id)
  pub scheme : has_scheme id ≡ true

plain_text : (m : List ℕ × Tree) (ms : Pairs) (t : Tree) → m.1 ≡ t → bytes_eq id_key m.0 ≡ true → is_iri_text t ≡ true → PlainId (m ∷ ms)
plain_text m ms (text s) is same iri = record { id = s; stands = at_first id_key m ms same ∙ ap Some is; scheme = iri }
plain_text m ms _ is same iri = absurd (cc)

pub iri_member : (m : List ℕ × Tree) → bytes_eq m.0 id_key ≡ true → is_plain_member m ≡ true → is_iri_text m.1 ≡ true
iri_member m same plain = sym (ap (λ b. cond b (is_iri_text m.1) (has_scheme m.0 && is_plain_array m.1)) same) ∙ plain

plain_id_by : (m : List ℕ × Tree) (ms : Pairs) (b : Bool) → bytes_eq id_key m.0 ≡ b → is_plain_member m ≡ true → is_some (member_at id_key (m ∷ ms)) ≡ true → (is_some (member_at id_key ms) ≡ true → PlainId ms) → PlainId (m ∷ ms)
plain_id_by m ms true same plain some rest = plain_text m ms m.1 refl same (iri_member m (bytes_eq-sym m.0 id_key ∙ same) plain)
plain_id_by m ms false apart plain some rest =
    let later = rest (sym (ap is_some (at_later id_key m ms apart)) ∙ some) in
    record { id = later.id; stands = at_later id_key m ms apart ∙ later.stands; scheme = later.scheme }

pub plain_id : (ms : Pairs) → are_plain_members ms ≡ true → is_some (member_at id_key ms) ≡ true → PlainId ms
plain_id [] plain some = absurd (cc)
plain_id (m ∷ ms) plain some =
    let parts = both (is_plain_member m) (are_plain_members ms) plain in
    plain_id_by m ms (bytes_eq id_key m.0) refl parts.0 some (plain_id ms parts.1)
