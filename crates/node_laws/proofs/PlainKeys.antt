-- Keys, ids and names of a plain document.
use Rattle.std.proofs.Common.{◌≡◌, ℕ, List, [], ◌∷◌, Bool, true, false, ◌==◌, ◌&&◌, ◌||◌, not, if◌then◌else◌, None, refl, sym, ap, ◌∙◌, subst, eqb-true}
use Rattle.std.specs.Str.{bytes_eq}
use Rattle.std.specs.List.{list_any, list_all}
use Rattle.ld_model.specs.Tree.{Tree, Members, no_members, member, member_list, member_at}
use Rattle.ld_model.specs.Keys.{id_key}
use Rattle.ld_model.specs.Iri.{has_scheme}
use Rattle.ld_model.specs.Label.{is_blank}
use Rattle.ld_model.specs.Plain.{is_plain_member, are_plain_members}
use Rattle.ld_model.proofs.Truths.{both}
use Rattle.ld_model.proofs.Puts.{bytes_eq-exact, bytes_eq-sym, at_later}
use Rattle.flatten_laws.proofs.Gathering.{property_parts}
use Rattle.case_tables.specs.Keyword.{keyword_name}
use Rattle.case_tables.specs.declared.keyword.Keyword.{Keyword}
use Rattle.ctx_types.specs.Expansion.{keywords, is_keyword}
use Rattle.node_model.specs.Keys.{reverse_key}
use Rattle.node_model.specs.Labels.{Labels, label_for, named}
use Rattle.node_model.specs.Walk.{Steps, To, At, walk, walk_at, walk_reverse, walk_reverse_map}

-- A text with a scheme is none without one.
pub scheme_apart : (k w : List ℕ) → has_scheme k ≡ true → has_scheme w ≡ false → bytes_eq k w ≡ false
scheme_apart k w scheme none = by_test (bytes_eq k w) refl
  where
    by_test : (b : Bool) → bytes_eq k w ≡ b → b ≡ false
    by_test true same = sym scheme ∙ ap has_scheme (bytes_eq-exact k w same) ∙ none
    by_test false apart = refl

none_of : (k : List ℕ) (ws : List Keyword) → has_scheme k ≡ true → list_all (λ w. not (has_scheme (keyword_name w))) ws ≡ true → list_any (λ w. bytes_eq k (keyword_name w)) ws ≡ false
none_of k [] scheme none = refl
none_of k (w ∷ ws) scheme none =
    let parts = both (not (has_scheme (keyword_name w))) (list_all (λ w. not (has_scheme (keyword_name w))) ws) none in
    ap (λ b. b || list_any (λ w. bytes_eq k (keyword_name w)) ws) (scheme_apart k (keyword_name w) scheme (turned (has_scheme (keyword_name w)) parts.0)) ∙ none_of k ws scheme parts.1
  where
    turned : (b : Bool) → not b ≡ true → b ≡ false
    turned true is = absurd (cc)
    turned false is = refl

pub no_keyword : (k : List ℕ) → has_scheme k ≡ true → is_keyword k ≡ false
no_keyword k scheme = none_of k keywords scheme refl

-- An IRI is no label, so it stays.
by_first : (a b : ℕ) (s : List ℕ) (c : Bool) → (a == 95) ≡ c → has_scheme (a ∷ b ∷ s) ≡ true → (c && (b == 58)) ≡ false
by_first a b s true is scheme = let never : has_scheme (95 ∷ b ∷ s) ≡ true = subst (λ x. has_scheme (x ∷ b ∷ s) ≡ true) (eqb-true a 95 is) scheme in absurd (cc)
by_first a b s false is scheme = refl

no_label : (s : List ℕ) → has_scheme s ≡ true → is_blank s ≡ false
no_label [] scheme = refl
no_label (a ∷ []) scheme = refl
no_label (a ∷ b ∷ s) scheme = by_first a b s (a == 95) refl scheme

pub named_iri : (s : List ℕ) (l : Labels) → has_scheme s ≡ true → named s l ≡ (s, l)
named_iri s l scheme = ap (λ b. if b then label_for s l else (s, l)) (no_label s scheme)

-- A keyword other than `@id` is no key of a plain node object.
module _ (key : List ℕ) (no_scheme : has_scheme key ≡ false) (no_id : bytes_eq key id_key ≡ false) where
  key_apart : (k : List ℕ) (t : Tree) → is_plain_member (k, t) ≡ true → bytes_eq key k ≡ false
  key_apart k t plain = by_key (bytes_eq k id_key) refl
    where
      by_key : (b : Bool) → bytes_eq k id_key ≡ b → bytes_eq key k ≡ false
      by_key true same = subst (λ x. bytes_eq key x ≡ false) (sym (bytes_eq-exact k id_key same)) no_id
      by_key false apart = bytes_eq-sym key k ∙ scheme_apart k key (property_parts (k, t) apart plain).0 no_scheme

  pub missing : (ms : Members) → are_plain_members (member_list ms) ≡ true → member_at key (member_list ms) ≡ None
  missing no_members plain = refl
  missing (member k t ms) plain =
      let parts = both (is_plain_member (k, t)) (are_plain_members (member_list ms)) plain in
      at_later key (k, t) (member_list ms) (key_apart k t parts.0) ∙ missing ms parts.1

  pub nothing_at : {S N E : Type 0} (p : Steps S N E) (g : N) (to : To N) (ms : Members) (w : At S E) → are_plain_members (member_list ms) ≡ true → walk_at p g to key ms w ≡ w
  nothing_at p g to no_members w plain = refl
  nothing_at p g to (member k t ms) w plain =
      let parts = both (is_plain_member (k, t)) (are_plain_members (member_list ms)) plain in
      ap (λ b. if b then walk p g to t w else walk_at p g to key ms w) (bytes_eq-sym k key ∙ key_apart k t parts.0) ∙ nothing_at p g to ms w parts.1

pub nothing_reversed : {S N E : Type 0} (p : Steps S N E) (g : N) (id : N) (ms : Members) (w : At S E) → are_plain_members (member_list ms) ≡ true → walk_reverse p g id ms w ≡ w
nothing_reversed p g id no_members w plain = refl
nothing_reversed p g id (member k t ms) w plain =
    let parts = both (is_plain_member (k, t)) (are_plain_members (member_list ms)) plain in
    ap (λ b. if b then walk_reverse_map p g id t w else walk_reverse p g id ms w) (bytes_eq-sym k reverse_key ∙ key_apart reverse_key refl refl k t parts.0) ∙ nothing_reversed p g id ms w parts.1
