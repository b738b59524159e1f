-- Protected terms keep their definitions.
use Rattle.std.proofs.Common.{◌≡◌, ℕ, zero, suc, [], ◌∷◌, Bool, true, false, cond, not, ◌||◌, Option, Some, None, is_some, Result, Ok, Err, refl, sym, ap, ◌∙◌, subst, IfOk, codes, if◌then◌else◌}
use Rattle.std.specs.List.{AllByRecursion}
use Rattle.std.specs.Str.{bytes_eq}
use Rattle.std.specs.BTreeMap.{is_at}
use Rattle.ld_model.specs.Tree.{Tree, null, truth, whole, one_one, text, array, object, Pairs, member_at, byte_order}
use Rattle.ld_model.proofs.Puts.{bytes_eq-exact}
use Rattle.case_tables.specs.declared.code.Code.{Code}
use Rattle.case_tables.specs.declared.code.Code.TheVariants.{CyclicIriMapping, InvalidContextNullification, InvalidIriMapping, InvalidKeywordAlias, InvalidTermDefinition, ProtectedTermRedefinition}
use Rattle.ctx_types.specs.Context.{Text, Definition, Terms, Settings, Context, definition_at, has_protected}
use Rattle.ctx_types.specs.Expansion.{is_keyword, has_keyword_form, colon_parts, is_whole, expand_iri}
use Rattle.ctx_types.specs.Same.{same_but_protected}
use Rattle.ctx_store.specs.Stored.{Contexts}
use Rattle.ctx_model.specs.Outcome.{◌>>=◌, unless}
use Rattle.ctx_model.specs.Words.{is_iri, is_iri_or_blank, is_some_keyword, same_text, has_slash}
use Rattle.ctx_model.specs.State.{State, Local, Create, Scoped, mark_of, mark}
use Rattle.ctx_model.specs.LocalExpansion.{created}
use Rattle.ctx_model.specs.Definition.{entries_of, is_definition, is_simple, may_define_type, protected_by, Mapping, maps, leaves_out, mapped_by_prefix, by_vocabulary, without_colon, completed, kept, finished}
use Rattle.ctx_model.specs.Creation.{Start, over, goes_on, removed, allowed, started, other_id, is_reserved, expanded, kind_of, agreeing, id_named, id_mapping, with_state, parts_mapping, term_mapping, mapping_of, mapping_for, forward_created, directed, defined_by, gone_on, create_new, unless_defined, create_within}
use Rattle.ctx_model.specs.Process.{loaded, process_within, process}
use Rattle.ctx_laws.specs.Statements.{is_reserved_id, returns_early, EntryHeeds, AllHave}
use Rattle.ctx_laws.specs.Laws.{ProtectedTermsStay}
use Rattle.ctx_laws.proofs.Lookups.{at_inserted, at_other, at_left, at-exact}
use Rattle.ctx_laws.proofs.Agreement.{Bears, create_agrees}
use Rattle.ctx_laws.proofs.Keeping.{after, after_any, if_cond, Kept, process_keeps}

neither : (a b : Bool) → (a || b) ≡ false → (a ≡ false) × (b ≡ false)
neither true b h = absurd (cc)
neither false b h = (refl, h)

-- an entry that is found is one of the list
found_has : (E : Text × Tree → Type 0) (es : Pairs) (k : Text) (v : Tree) → AllByRecursion E es → member_at k es ≡ Some v → E (k, v)
found_has E [] k v all is = absurd (cc)
found_has E (e ∷ es) k v all is = by (is_at (byte_order k) e.0) refl is (found_has E es k v all.1)
  where
    some_of : Option Tree → Tree
    some_of (Some t) = t
    some_of None = e.1

    by : (b : Bool) → is_at (byte_order k) e.0 ≡ b → cond b (Some e.1) (member_at k es) ≡ Some v → (member_at k es ≡ Some v → E (k, v)) → E (k, v)
    by true h is rest =
        let value : e.1 ≡ v = ap some_of is in
        subst (λ t. E (k, t)) value (subst (λ x. E (x, e.1)) (sym (at-exact k e.0 h)) all.0)
    by false h is rest = rest is

-- a protected definition that is found
found_protected : (t : Text) (d : Definition) (ds : Terms) → definition_at t ds ≡ Some d → d.protected ≡ true → has_protected ds ≡ true
found_protected t d [] is guarded = absurd (cc)
found_protected t d (e ∷ ds) is guarded = by (is_at (byte_order t) e.0) is (λ is. found_protected t d ds is guarded)
  where
    some_of : Option Definition → Definition
    some_of (Some d) = d
    some_of None = e.1

    later : (b : Bool) → has_protected ds ≡ true → (b || has_protected ds) ≡ true
    later true is = refl
    later false is = is

    by : (b : Bool) → cond b (Some e.1) (definition_at t ds) ≡ Some d → (definition_at t ds ≡ Some d → has_protected ds ≡ true) → has_protected (e ∷ ds) ≡ true
    by true is rest = let value : e.1 ≡ d = ap some_of is in ap (λ b. b || has_protected ds) (ap (λ (d : Definition). d.protected) value ∙ guarded)
    by false is rest = later e.1.protected (rest is)

-- The mapping is not left out.
abbrev IsMapped : Mapping → Type 0
IsMapped (maps iri flag) = Unit {0}
IsMapped leaves_out = ⊥

-- a term is mapped, where its `@id` is not in the form of a keyword
module _ (f : Create) (scoped : Scoped) (l : Local) (t : Text) where
  abbrev Maps : Mapping × State → Type 0
  Maps q = IsMapped q.0

  id_text_maps : (simple : Bool) (v : Text) (s : State) → IfOk (id_named f scoped l t simple v s) Maps
  id_text_maps simple v s =
      after_any Maps (expanded f scoped l v s) _
      (λ q. after_any Maps (unless (is_some_keyword q.0 || is_iri_or_blank q.0) InvalidIriMapping) _
      (λ _. after_any Maps (unless (not (same_text q.0 (Some (codes "@context")))) InvalidKeywordAlias) _
      (λ _. after_any Maps (agreeing f scoped l t q.0 q.1) _ (λ s₂. tt))))

  id_maps : (simple : Bool) (v : Tree) (s : State) → is_reserved_id (Some v) ≡ false → IfOk (id_mapping f scoped l t simple v s) Maps
  unfolding id_mapping
  id_maps simple null s plain = tt
  id_maps simple (text v) s plain = by (is_reserved v) plain
    where
      by : (b : Bool) → b ≡ false → IfOk (elim b [ true ↦ Ok (leaves_out, s) | false ↦ id_named f scoped l t simple v s ]) Maps
      by true plain = absurd (cc)
      by false plain = id_text_maps simple v s
  id_maps simple (truth b) s plain = tt
  id_maps simple (whole n) s plain = tt
  id_maps simple one_one s plain = tt
  id_maps simple (array ts) s plain = tt
  id_maps simple (object ms) s plain = tt

  vocabulary_maps : (v : Option Text) → IfOk (by_vocabulary v t) IsMapped
  vocabulary_maps None = tt
  vocabulary_maps (Some v) = tt

  path_maps : (c : Settings) → IfOk (without_colon c t) IsMapped
  unfolding without_colon
  path_maps c =
      if_cond IsMapped (has_slash t) _ _ (after_any IsMapped (unless (is_iri (expand_iri c false true t)) InvalidIriMapping) _ (λ _. tt))
      (if_cond IsMapped (bytes_eq t (codes "@type")) _ _ tt (vocabulary_maps c.vocab))

  state_maps : (r : Result Mapping Code) (s : State) → IfOk r IsMapped → IfOk (with_state f scoped l r s) Maps
  state_maps (Ok m) s h = h
  state_maps (Err e) s h = tt

  parts_maps : (o : Option (Text × Text)) (s : State) → IfOk (parts_mapping f scoped l t o s) Maps
  parts_maps None s = state_maps (without_colon s.context.current t) s (path_maps s.context.current)
  parts_maps (Some q) s = by (is_whole q)
    where
      by : (b : Bool) → IfOk (elim b [ true ↦ Ok (maps (Some t) false, s) | false ↦ created f l.entries q.0 s >>= (λ s₁. Ok (maps (Some (mapped_by_prefix t q.1 (definition_at q.0 s₁.context.current.terms))) false, s₁)) ]) Maps
      by true = tt
      by false = after_any Maps (created f l.entries q.0 s) _ (λ s₁. tt)

  mapping_maps : (simple : Bool) (o : Option Tree) (s : State) → is_reserved_id o ≡ false → IfOk (mapping_of f scoped l t simple o s) Maps
  unfolding mapping_of term_mapping
  mapping_maps simple None s plain = parts_maps (colon_parts t) s
  mapping_maps simple (Some v) s plain = id_maps simple v s plain

  other_plain : (o : Option Tree) → is_reserved_id o ≡ false → is_reserved_id (other_id t o) ≡ false
  other_plain None plain = refl
  other_plain (Some (text v)) plain = by (bytes_eq v t)
    where
      by : (b : Bool) → is_reserved_id (if b then None else Some (text v)) ≡ false
      by true = refl
      by false = plain
  other_plain (Some null) plain = refl
  other_plain (Some (truth b)) plain = refl
  other_plain (Some (whole n)) plain = refl
  other_plain (Some one_one) plain = refl
  other_plain (Some (array ts)) plain = refl
  other_plain (Some (object ms)) plain = refl

module _ (t : Text) (d : Definition) (guarded : d.protected ≡ true) where
  abbrev Has : Context → Type 0
  Has c = definition_at t c.current.terms ≡ Some d

  abbrev StateHas : State → Type 0
  StateHas s = Has s.context

  -- another term
  bears : (u : Text) → bytes_eq t u ≡ false → Bears StateHas u
  bears u apart =
      record {
        marks = λ b s h. h;
        drops = λ s h. at_left t u s.context.current.terms apart ∙ h;
        stores = λ e s h. at_other t u e s.context.current.terms apart ∙ h;
      }

  -- the term itself: what its first steps leave
  abbrev Begins : Start × State → Type 0
  Begins (over, s) = StateHas s
  Begins (goes_on previous, s) = previous ≡ Some d

  removed_begins : (v : Tree) (s : State) → StateHas s → IfOk (removed t v s) Begins
  removed_begins v s h = after_any Begins (unless (is_definition v) InvalidTermDefinition) _ (λ _. h)

  allowed_begins : (v : Tree) (s : State) → StateHas s → IfOk (allowed t v s) Begins
  allowed_begins v s h =
      if_cond Begins (bytes_eq t (codes "@type")) _ _ (if_cond Begins (may_define_type v) _ _ (removed_begins v s h) tt)
      (if_cond Begins (is_keyword t) _ _ tt (if_cond Begins (has_keyword_form t) _ _ h (removed_begins v s h)))

  started_begins : (v : Tree) (s : State) → StateHas s → IfOk (started t v s) Begins
  unfolding started
  started_begins v s h = if_cond Begins (bytes_eq t []) _ _ tt (allowed_begins v (mark t false s) h)

  kept_same : (overrides : Bool) (previous : Option Definition) (e : Definition) → overrides ≡ false → previous ≡ Some d → IfOk (kept overrides previous e) (λ k. k ≡ d)
  kept_same overrides previous e never is =
      subst (λ o. IfOk (kept o previous e) (λ k. k ≡ d)) (sym never)
      (subst (λ p. IfOk (kept false p e) (λ k. k ≡ d)) (sym is) (by d.protected (same_but_protected d e) guarded))
    where
      by : (b same : Bool) → b ≡ true → IfOk (if not b then Ok e else if same then Ok d else Err ProtectedTermRedefinition) (λ k. k ≡ d)
      by true true h = refl
      by true false h = tt
      by false same h = absurd (cc)

  module _ (f : Create) (scoped : Scoped) (l : Local) (never : l.overrides ≡ false) where
    finished_has : (es : Pairs) (protected : Bool) (kind : Option Text) (previous : Option Definition) (m : Mapping) (s : State) → previous ≡ Some d → IsMapped m → IfOk (finished scoped l t es protected kind previous m s) StateHas
    unfolding finished
    finished_has es protected kind previous leaves_out s is mapped = absurd mapped
    finished_has es protected kind previous (maps iri flag) s is mapped =
        after_any StateHas (completed scoped l t es protected kind iri flag s.context) _
        (λ e. after (λ k. k ≡ d) StateHas (kept l.overrides previous e) _ (kept_same l.overrides previous e never is)
        (λ k same. at_inserted t k s.context.current.terms ∙ ap (λ k. Some k) same))

    forward_has : (v : Tree) (protected : Bool) (kind : Option Text) (previous : Option Definition) (s : State) → previous ≡ Some d → is_reserved_id (member_at (codes "@id") (entries_of v)) ≡ false → IfOk (forward_created f scoped l t v protected kind previous s) StateHas
    forward_has v protected kind previous s is plain =
        after (Maps f scoped l t) StateHas (mapping_for f scoped l t v s) _
        (mapping_maps f scoped l t (is_simple v) (other_id t (member_at (codes "@id") (entries_of v))) s (other_plain f scoped l t (member_at (codes "@id") (entries_of v)) plain))
        (λ q mapped. finished_has (entries_of v) protected kind previous q.0 q.1 is mapped)

    directed_has : (v : Tree) (r : Option Tree) (protected : Bool) (kind : Option Text) (previous : Option Definition) (s : State) → previous ≡ Some d → is_some r ≡ false → is_reserved_id (member_at (codes "@id") (entries_of v)) ≡ false → IfOk (directed f scoped l t v r protected kind previous s) StateHas
    unfolding directed
    directed_has v (Some r) protected kind previous s is none plain = absurd (cc)
    directed_has v None protected kind previous s is none plain = forward_has v protected kind previous s is plain

    gone_has : (v : Tree) (r : Start × State) → returns_early v ≡ false → Begins r → IfOk (gone_on f scoped l t v r) StateHas
    unfolding defined_by
    gone_has v (over, s) heeds begins = begins
    gone_has v (goes_on previous, s) heeds begins =
        let parts = neither (is_some (member_at (codes "@reverse") (entries_of v))) (is_reserved_id (member_at (codes "@id") (entries_of v))) heeds in
        after_any StateHas (protected_by l.protected (member_at (codes "@protected") (entries_of v))) _
        (λ protected. after_any StateHas (kind_of f scoped l (member_at (codes "@type") (entries_of v)) s) _
        (λ q. directed_has v (member_at (codes "@reverse") (entries_of v)) protected q.0 previous q.1 begins parts.0 parts.1))

    new_has : (v : Tree) (s : State) → returns_early v ≡ false → StateHas s → IfOk (create_new f scoped l t v s) StateHas
    unfolding create_new
    new_has v s heeds h = after Begins StateHas (started t v s) _ (started_begins v s h) (λ r begins. gone_has v r heeds begins)

  create_has : (scoped : Scoped) (l : Local) (n : ℕ) (u : Text) (v : Tree) (s : State) → l.overrides ≡ false → AllByRecursion (EntryHeeds t) l.entries → EntryHeeds t (u, v) → StateHas s → IfOk (create_within scoped l n u v s) StateHas
  create_has scoped l zero u v s never all heeds h = by (mark_of u s)
    where
      by : (o : Option Bool) → IfOk (unless_defined o s (Err CyclicIriMapping)) StateHas
      by (Some true) = h
      by (Some false) = tt
      by None = tt
  create_has scoped l (suc n) u v s never all heeds h =
      by (mark_of u s) (new (bytes_eq t u) refl (λ w x s is p. create_has scoped l n w x s never all (found_has (EntryHeeds t) l.entries w x all is) p))
    where
      new : (b : Bool) → bytes_eq t u ≡ b → ((w : Text) (x : Tree) (s : State) → member_at w l.entries ≡ Some x → StateHas s → IfOk (create_within scoped l n w x s) StateHas) → IfOk (create_new (λ t v s. create_within scoped l n t v s) scoped l u v s) StateHas
      new true same next =
          subst (λ x. IfOk (create_new (λ t v s. create_within scoped l n t v s) scoped l x v s) StateHas) (bytes_eq-exact t u same)
          (new_has (λ t v s. create_within scoped l n t v s) scoped l never v s (heeds same) h)
      new false apart next =
          (create_agrees StateHas (λ t v s. create_within scoped l n t v s) (λ t v s. create_within scoped l n t v s) l (λ w x s is p. (refl, next w x s is p)) scoped u (bears u apart) v s h).1

      by : (o : Option Bool) → IfOk (create_new (λ t v s. create_within scoped l n t v s) scoped l u v s) StateHas → IfOk (elim o [ Some b ↦ unless_defined (Some b) s (Ok s) | None ↦ create_new (λ t v s. create_within scoped l n t v s) scoped l u v s ]) StateHas
      by (Some true) new = h
      by (Some false) new = tt
      by None new = new

  null_refused : (o b : Bool) (c : Context) → o ≡ false → b ≡ true → IfOk (unless (o || not b) InvalidContextNullification >>= (λ _. Ok c)) Has
  null_refused true b c never has = absurd (cc)
  null_refused false true c never has = tt
  null_refused false false c never has = absurd (cc)

  keeps : (store : Contexts) → ((iri : Text) (context : Tree) → loaded store iri ≡ Ok context → AllHave (EntryHeeds t) context) → Kept store Has (λ o. o ≡ false) (EntryHeeds t)
  keeps store there =
      record {
        same = λ c e h k. ap (definition_at t) h.terms ∙ k;
        nulls = λ propagates ask c o a. null_refused ask.overrides (has_protected ask.active.current.terms) _ o (found_protected t d ask.active.current.terms a guarded);
        creates = λ scoped l n u v s o all e k. create_has scoped l n u v s o all e k;
        never = refl;
        loads = there;
      }

outcome : {A : Type 0} (P : A → Type 0) (r : Result A Code) (a : A) → IfOk r P → r ≡ Ok a → P a
outcome P r a holds is = subst (λ r. IfOk r P) is holds

pub protected_terms_stay : ProtectedTermsStay
unfolding process
protected_terms_stay store ask local t d c has guarded never heed is =
    outcome (λ c. definition_at t c.current.terms ≡ Some d) (process_within store 32 128 ask local) c
    (process_keeps store (λ c. definition_at t c.current.terms ≡ Some d) (λ o. o ≡ false) (EntryHeeds t) (keeps t d guarded store heed.there) 32 128 ask local never has heed.here) is
