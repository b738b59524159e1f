-- Term creation with two ways of creating the terms that it needs on the way. Where both come to the same, and keep what
-- is known of the state, so does the creation of a term.
use Rattle.std.proofs.Common.{◌≡◌, [], Bool, true, false, cond, not, ◌||◌, Option, Some, None, Result, Ok, Err, refl, ap, ◌∙◌, codes, IfOk}
use Rattle.std.specs.Str.{bytes_eq}
use Rattle.ld_model.specs.Tree.{Tree, null, truth, whole, one_one, text, array, object, Pairs, member_at}
use Rattle.case_tables.specs.declared.code.Code.{Code}
use Rattle.case_tables.specs.declared.code.Code.TheVariants.{InvalidIriMapping, InvalidKeywordAlias, InvalidReverseProperty, InvalidTermDefinition, InvalidTypeMapping}
use Rattle.ctx_types.specs.Context.{Text, Definition, definition_at}
use Rattle.ctx_types.specs.Expansion.{is_keyword, has_keyword_form, by_definition, colon_parts, is_whole}
use Rattle.ctx_model.specs.Outcome.{◌>>=◌, unless}
use Rattle.ctx_model.specs.Words.{is_iri_or_blank, is_some_keyword, same_text}
use Rattle.ctx_model.specs.State.{State, Local, Create, Scoped, mark_of, is_undone, mark, stored, without_term}
use Rattle.ctx_model.specs.LocalExpansion.{created, prefix_created, expand_rest, expand_text, expand_iri}
use Rattle.ctx_model.specs.Definition.{may_define_type, entries_of, is_definition, is_simple, protected_by, may_be_kind, reverse_container, Mapping, maps, leaves_out, without_colon, reverse_definition, completed, kept, finished}
use Rattle.ctx_model.specs.Creation.{Start, over, goes_on, removed, allowed, started, other_id, is_reverse_alone, is_reserved, is_compared, kind_named, kind_valued, kind_of, reverse_named, reverse_valued, reverse_created, own_agrees, agreeing, id_named, id_mapping, colon_mapping, with_state, parts_mapping, term_mapping, mapping_of, forward_created, directed, defined_by, gone_on, create_new}

-- the state of an outcome
abbrev pub itself : State → State
itself s = s

abbrev pub beside : {X : Type 0} → X × State → State
beside p = p.1

module _ (P : State → Type 0) where
  -- both come to the same, and leave a state of which P holds
  abbrev pub Agree : {A : Type 0} → (A → State) → Result A Code → Result A Code → Type 0
  Agree f r q = (r ≡ q) × IfOk r (λ a. P (f a))

  pub bound : {A B : Type 0} (f : A → State) (g : B → State) (r q : Result A Code) (h k : A → Result B Code) → Agree f r q → ((a : A) → P (f a) → Agree g (h a) (k a)) → Agree g (r >>= h) (q >>= k)
  bound f g (Ok a) q h k same next = ((next a same.1).0 ∙ ap (λ q. q >>= k) same.0, (next a same.1).1)
  bound f g (Err e) q h k same next = (ap (λ q. q >>= k) same.0, tt)

  -- a step that looks at no state
  pub tested : {A B : Type 0} (g : B → State) (r : Result A Code) (h k : A → Result B Code) → ((a : A) → Agree g (h a) (k a)) → Agree g (r >>= h) (r >>= k)
  tested g (Ok a) h k next = next a
  tested g (Err e) h k next = (refl, tt)

  pub chosen : {B : Type 0} (g : B → State) (b : Bool) (r q r′ q′ : Result B Code) → Agree g r q → Agree g r′ q′ → Agree g (elim b [ true ↦ r | false ↦ r′ ]) (elim b [ true ↦ q | false ↦ q′ ])
  chosen g true r q r′ q′ same same′ = same
  chosen g false r q r′ q′ same same′ = same′

  pub chosen_if : {B : Type 0} (g : B → State) (b : Bool) (r q r′ q′ : Result B Code) → Agree g r q → Agree g r′ q′ → Agree g (cond b r r′) (cond b q q′)
  chosen_if g true r q r′ q′ same same′ = same
  chosen_if g false r q r′ q′ same same′ = same′

  -- what a term in creation may do to the state
  pub record Bears (t : Text) : Type 0 where
    pub marks : (b : Bool) (s : State) → P s → P (mark t b s)
    pub drops : (s : State) → P s → P (without_term t s)
    pub stores : (d : Definition) (s : State) → P s → P (stored t d s)

  module _ (f g : Create) (l : Local) (calls : (u : Text) (v : Tree) (s : State) → member_at u l.entries ≡ Some v → P s → Agree itself (f u v s) (g u v s)) where
    -- IRI expansion
    created_agrees : (u : Text) (s : State) → P s → Agree itself (created f l.entries u s) (created g l.entries u s)
    unfolding created
    created_agrees u s p = by (member_at u l.entries) refl
      where
        by : (o : Option Tree) → member_at u l.entries ≡ o → Agree itself (elim o [ None ↦ Ok s | Some v ↦ elim (is_undone (mark_of u s)) [ true ↦ f u v s | false ↦ Ok s ] ]) (elim o [ None ↦ Ok s | Some v ↦ elim (is_undone (mark_of u s)) [ true ↦ g u v s | false ↦ Ok s ] ])
        by None h = (refl, p)
        by (Some v) h = chosen itself (is_undone (mark_of u s)) (f u v s) (g u v s) (Ok s) (Ok s) (calls u v s h p) (refl, p)

    prefix_agrees : (o : Option (Text × Text)) (s : State) → P s → Agree itself (prefix_created f l.entries o s) (prefix_created g l.entries o s)
    unfolding prefix_created
    prefix_agrees None s p = (refl, p)
    prefix_agrees (Some q) s p = chosen itself (is_whole q) _ _ _ _ (refl, p) (created_agrees q.0 s p)

    rest_agrees : (relative vocab : Bool) (t : Text) (o : Option (Option Text)) (s : State) → P s → Agree beside (expand_rest f l.entries relative vocab t o s) (expand_rest g l.entries relative vocab t o s)
    rest_agrees relative vocab t (Some iri) s p = (refl, p)
    rest_agrees relative vocab t None s p = bound itself beside _ _ _ _ (prefix_agrees (colon_parts t) s p) (λ s₁ p₁. (refl, p₁))

    text_agrees : (relative vocab : Bool) (t : Text) (s : State) → P s → Agree beside (expand_text f l.entries relative vocab t s) (expand_text g l.entries relative vocab t s)
    text_agrees relative vocab t s p =
        bound itself beside _ _ _ _ (created_agrees t s p) (λ s₁ p₁. rest_agrees relative vocab t (by_definition vocab (definition_at t s₁.context.current.terms)) s₁ p₁)

    iri_agrees : (relative vocab : Bool) (t : Text) (s : State) → P s → Agree beside (expand_iri f l.entries relative vocab t s) (expand_iri g l.entries relative vocab t s)
    unfolding expand_iri
    iri_agrees relative vocab t s p =
        chosen beside (is_keyword t) _ _ _ _ (refl, p) (chosen beside (has_keyword_form t) _ _ _ _ (refl, p) (text_agrees relative vocab t s p))

    -- the type mapping
    module _ (scoped : Scoped) where
      kind_text : (t : Text) (s : State) → P s → Agree beside (kind_named f scoped l t s) (kind_named g scoped l t s)
      kind_text t s p = bound beside beside _ _ _ _ (iri_agrees false true t s p) (λ q p₁. tested beside (unless (may_be_kind q.0) InvalidTypeMapping) _ _ (λ _. (refl, p₁)))

      kind_value : (v : Tree) (s : State) → P s → Agree beside (kind_valued f scoped l v s) (kind_valued g scoped l v s)
      kind_value (text t) s p = kind_text t s p
      kind_value null s p = (refl, tt)
      kind_value (truth b) s p = (refl, tt)
      kind_value (whole n) s p = (refl, tt)
      kind_value one_one s p = (refl, tt)
      kind_value (array ts) s p = (refl, tt)
      kind_value (object ms) s p = (refl, tt)

      kind_agrees : (o : Option Tree) (s : State) → P s → Agree beside (kind_of f scoped l o s) (kind_of g scoped l o s)
      kind_agrees None s p = (refl, p)
      kind_agrees (Some v) s p = kind_value v s p

      module _ (t : Text) (bears : Bears t) where
        -- a reverse property
        reverse_text : (v : Text) (es : Pairs) (protected : Bool) (kind : Option Text) (s : State) → P s → Agree itself (reverse_named f scoped l t v es protected kind s) (reverse_named g scoped l t v es protected kind s)
        reverse_text v es protected kind s p =
            bound beside itself _ _ _ _ (iri_agrees false true v s p)
            (λ q p₁. tested itself (unless (is_iri_or_blank q.0) InvalidIriMapping) _ _
            (λ _. tested itself (reverse_container (member_at (codes "@container") es)) _ _
            (λ c. (refl, bears.stores (reverse_definition protected kind q.0 c) q.1 p₁))))

        reverse_value : (v : Tree) (es : Pairs) (protected : Bool) (kind : Option Text) (s : State) → P s → Agree itself (reverse_valued f scoped l t v es protected kind s) (reverse_valued g scoped l t v es protected kind s)
        reverse_value (text v) es protected kind s p = chosen itself (has_keyword_form v) _ _ _ _ (refl, bears.marks true s p) (reverse_text v es protected kind s p)
        reverse_value null es protected kind s p = (refl, tt)
        reverse_value (truth b) es protected kind s p = (refl, tt)
        reverse_value (whole n) es protected kind s p = (refl, tt)
        reverse_value one_one es protected kind s p = (refl, tt)
        reverse_value (array ts) es protected kind s p = (refl, tt)
        reverse_value (object ms) es protected kind s p = (refl, tt)

        reverse_agrees : (v : Tree) (es : Pairs) (protected : Bool) (kind : Option Text) (s : State) → P s → Agree itself (reverse_created f scoped l t v es protected kind s) (reverse_created g scoped l t v es protected kind s)
        unfolding reverse_created
        reverse_agrees v es protected kind s p = tested itself (unless (is_reverse_alone es) InvalidReverseProperty) _ _ (λ _. reverse_value v es protected kind s p)

        -- the IRI mapping
        own_agree : (iri : Option Text) (s : State) → P s → Agree itself (own_agrees f scoped l t iri s) (own_agrees g scoped l t iri s)
        own_agree iri s p = bound beside itself _ _ _ _ (iri_agrees false true t s p) (λ q p₁. tested itself (unless (same_text q.0 iri) InvalidIriMapping) _ _ (λ _. (refl, p₁)))

        agreeing_agrees : (iri : Option Text) (s : State) → P s → Agree itself (agreeing f scoped l t iri s) (agreeing g scoped l t iri s)
        unfolding agreeing
        agreeing_agrees iri s p = chosen itself (is_compared t) _ _ _ _ (own_agree iri (mark t true s) (bears.marks true s p)) (refl, p)

        id_text : (simple : Bool) (v : Text) (s : State) → P s → Agree beside (id_named f scoped l t simple v s) (id_named g scoped l t simple v s)
        id_text simple v s p =
            bound beside beside _ _ _ _ (iri_agrees false true v s p)
            (λ q p₁. tested beside (unless (is_some_keyword q.0 || is_iri_or_blank q.0) InvalidIriMapping) _ _
            (λ _. tested beside (unless (not (same_text q.0 (Some (codes "@context")))) InvalidKeywordAlias) _ _
            (λ _. bound itself beside _ _ _ _ (agreeing_agrees q.0 q.1 p₁) (λ s₂ p₂. (refl, p₂)))))

        id_agrees : (simple : Bool) (v : Tree) (s : State) → P s → Agree beside (id_mapping f scoped l t simple v s) (id_mapping g scoped l t simple v s)
        unfolding id_mapping
        id_agrees simple null s p = (refl, p)
        id_agrees simple (text v) s p = chosen beside (is_reserved v) _ _ _ _ (refl, p) (id_text simple v s p)
        id_agrees simple (truth b) s p = (refl, tt)
        id_agrees simple (whole n) s p = (refl, tt)
        id_agrees simple one_one s p = (refl, tt)
        id_agrees simple (array ts) s p = (refl, tt)
        id_agrees simple (object ms) s p = (refl, tt)

        colon_agrees : (q : Text × Text) (s : State) → P s → Agree beside (colon_mapping f scoped l t q s) (colon_mapping g scoped l t q s)
        colon_agrees q s p = chosen beside (is_whole q) _ _ _ _ (refl, p) (bound itself beside _ _ _ _ (created_agrees q.0 s p) (λ s₁ p₁. (refl, p₁)))

        state_agrees : (r : Result Mapping Code) (s : State) → P s → Agree beside (with_state f scoped l r s) (with_state g scoped l r s)
        state_agrees (Ok m) s p = (refl, p)
        state_agrees (Err e) s p = (refl, tt)

        parts_agree : (o : Option (Text × Text)) (s : State) → P s → Agree beside (parts_mapping f scoped l t o s) (parts_mapping g scoped l t o s)
        parts_agree None s p = state_agrees (without_colon s.context.current t) s p
        parts_agree (Some q) s p = colon_agrees q s p

        mapping_agrees : (simple : Bool) (o : Option Tree) (s : State) → P s → Agree beside (mapping_of f scoped l t simple o s) (mapping_of g scoped l t simple o s)
        unfolding mapping_of term_mapping
        mapping_agrees simple (Some v) s p = id_agrees simple v s p
        mapping_agrees simple None s p = parts_agree (colon_parts t) s p

        -- the definition
        finished_agrees : (es : Pairs) (protected : Bool) (kind : Option Text) (previous : Option Definition) (m : Mapping) (s : State) → P s → Agree itself (finished scoped l t es protected kind previous m s) (finished scoped l t es protected kind previous m s)
        unfolding finished
        finished_agrees es protected kind previous leaves_out s p = (refl, bears.marks true s p)
        finished_agrees es protected kind previous (maps mapping flag) s p =
            tested itself (completed scoped l t es protected kind mapping flag s.context) _ _
            (λ d. tested itself (kept l.overrides previous d) _ _ (λ e. (refl, bears.stores e s p)))

        forward_agrees : (v : Tree) (protected : Bool) (kind : Option Text) (previous : Option Definition) (s : State) → P s → Agree itself (forward_created f scoped l t v protected kind previous s) (forward_created g scoped l t v protected kind previous s)
        forward_agrees v protected kind previous s p =
            bound beside itself _ _ _ _ (mapping_agrees (is_simple v) (other_id t (member_at (codes "@id") (entries_of v))) s p)
            (λ q p₁. finished_agrees (entries_of v) protected kind previous q.0 q.1 p₁)

        directed_agrees : (v : Tree) (r : Option Tree) (protected : Bool) (kind : Option Text) (previous : Option Definition) (s : State) → P s → Agree itself (directed f scoped l t v r protected kind previous s) (directed g scoped l t v r protected kind previous s)
        unfolding directed
        directed_agrees v (Some r) protected kind previous s p = reverse_agrees r (entries_of v) protected kind s p
        directed_agrees v None protected kind previous s p = forward_agrees v protected kind previous s p

        defined_agrees : (v : Tree) (previous : Option Definition) (s : State) → P s → Agree itself (defined_by f scoped l t v previous s) (defined_by g scoped l t v previous s)
        unfolding defined_by
        defined_agrees v previous s p =
            tested itself (protected_by l.protected (member_at (codes "@protected") (entries_of v))) _ _
            (λ protected. bound beside itself _ _ _ _ (kind_agrees (member_at (codes "@type") (entries_of v)) s p)
            (λ q p₁. directed_agrees v (member_at (codes "@reverse") (entries_of v)) protected q.0 previous q.1 p₁))

        gone_agrees : (v : Tree) (r : Start × State) → P r.1 → Agree itself (gone_on f scoped l t v r) (gone_on g scoped l t v r)
        gone_agrees v (over, s) p = (refl, p)
        gone_agrees v (goes_on previous, s) p = defined_agrees v previous s p

        removed_agrees : (v : Tree) (s : State) → P s → Agree beside (removed t v s) (removed t v s)
        removed_agrees v s p = tested beside (unless (is_definition v) InvalidTermDefinition) _ _ (λ _. (refl, bears.drops s p))

        allowed_agrees : (v : Tree) (s : State) → P s → Agree beside (allowed t v s) (allowed t v s)
        allowed_agrees v s p =
            chosen_if beside (bytes_eq t (codes "@type")) _ _ _ _ (chosen_if beside (may_define_type v) _ _ _ _ (removed_agrees v s p) (refl, tt))
            (chosen_if beside (is_keyword t) _ _ _ _ (refl, tt) (chosen_if beside (has_keyword_form t) _ _ _ _ (refl, bears.marks true s p) (removed_agrees v s p)))

        started_agrees : (v : Tree) (s : State) → P (mark t false s) → Agree beside (started t v s) (started t v s)
        unfolding started
        started_agrees v s p = chosen_if beside (bytes_eq t []) _ _ _ _ (refl, tt) (allowed_agrees v (mark t false s) p)

        pub create_agrees : (v : Tree) (s : State) → P (mark t false s) → Agree itself (create_new f scoped l t v s) (create_new g scoped l t v s)
        unfolding create_new
        create_agrees v s p = bound beside itself _ _ _ _ (started_agrees v s p) (λ r p₁. gone_agrees v r p₁)
