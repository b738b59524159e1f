-- What a plain document states is not changed by expansion: the items that it drops state nothing.
use Rattle.std.proofs.Common.{◌≡◌, ◌≢◌, ℕ, List, [], ◌∷◌, ◌++◌, Bool, true, false, ◌&&◌, ◌||◌, Result, Ok, Err, is_some, filter, flat_map, refl, sym, ap, ◌∙◌, if◌then◌else◌}
use Rattle.std.specs.Str.{bytes_eq}
use Rattle.ld_model.specs.Tree.{Tree, text, object, Pairs, member_list, member_at}
use Rattle.ld_model.specs.Keys.{id_key}
use Rattle.ld_model.specs.Plain.{is_iri_text, is_plain_member, are_plain_members, is_plain_item, are_plain_items}
use Rattle.ld_model.proofs.Truths.{both, and-false}
use Rattle.ld_model.proofs.Puts.{bytes_eq-exact, at_later}
use Rattle.flatten_laws.specs.Statements.{entries_in, has_id, member_states, object_states, statements, has_member, gives}
use Rattle.flatten_laws.specs.Statements as states
use Rattle.flatten_laws.specs.Laws.{flattened, IsFlatteningOf}
use Rattle.flatten_laws.proofs.PlainNames.{iri_member}
use Rattle.flatten_laws.proofs.Proved.{outcome_is_determined}
use Rattle.expand_model.specs.Scope.{Fault}
use Rattle.expand_laws.specs.Statements.{are_several, has_more_than_id}
use Rattle.expand_laws.specs.Laws.{PlainDocumentsFlattenAlike}
use Rattle.expand_laws.proofs.PlainItems.{lone_id, a_plain_document_expands_to_itself}

-- an item with just an id
iri_entries : (t : Tree) → is_iri_text t ≡ true → entries_in t ≡ []
iri_entries (text s) iri = refl
iri_entries _ iri = absurd (cc)

lone_states : (p : List ℕ) (e : List ℕ × Tree) → is_plain_member e ≡ true → bytes_eq e.0 id_key ≡ true → member_states p e ≡ []
lone_states p e plain same = by (bytes_eq e.0 p)
  where
    nothing : entries_in e.1 ≡ []
    nothing = iri_entries e.1 (iri_member e same plain)

    by : (b : Bool) → (if b then entries_in e.1 else []) ≡ []
    by true = nothing
    by false = refl

few_state : (p : List ℕ) (ms : Pairs) → is_some (member_at id_key ms) ≡ true → are_plain_members ms ≡ true → are_several ms ≡ false → flat_map (member_states p) ms ≡ []
few_state p [] some plain few = refl
few_state p (e ∷ []) some plain few = ap (λ ts. ts ++ []) (lone_states p e (both (is_plain_member e) true plain).0 (lone_id e some))
few_state p (e ∷ f ∷ ms) some plain few = absurd (cc)

few_have : (p : List ℕ) (ms : Pairs) → p ≢ id_key → is_some (member_at id_key ms) ≡ true → are_several ms ≡ false → is_some (member_at p ms) ≡ false
few_have p [] other some few = refl
few_have p (e ∷ []) other some few = ap is_some (at_later p e [] (apart (bytes_eq p e.0) refl))
  where
    apart : (b : Bool) → bytes_eq p e.0 ≡ b → b ≡ false
    apart true same = absurd (other (bytes_eq-exact p e.0 same ∙ bytes_eq-exact e.0 id_key (lone_id e some)))
    apart false same = refl
few_have p (e ∷ f ∷ ms) other some few = absurd (cc)

item_states : (id p : List ℕ) (t : Tree) → is_plain_item t ≡ true → has_more_than_id t ≡ false → object_states id p t ≡ []
item_states id p (object ms) plain few =
    let parts = both (is_some (member_at id_key (member_list ms))) (are_plain_members (member_list ms)) plain in
    by (has_id id (object ms)) (few_state p (member_list ms) parts.0 parts.1 few)
  where
    by : (b : Bool) → flat_map (member_states p) (member_list ms) ≡ [] → (if b then flat_map (member_states p) (member_list ms) else []) ≡ []
    by true nothing = nothing
    by false nothing = refl
item_states id p _ plain few = absurd (cc)

item_gives : (id p : List ℕ) (t : Tree) → p ≢ id_key → is_plain_item t ≡ true → has_more_than_id t ≡ false → (has_id id t && has_member p t) ≡ false
item_gives id p (object ms) other plain few =
    let parts = both (is_some (member_at id_key (member_list ms))) (are_plain_members (member_list ms)) plain in
    ap (λ b. has_id id (object ms) && b) (few_have p (member_list ms) other parts.0 few) ∙ and-false (has_id id (object ms))
item_gives id p _ other plain few = absurd (cc)

-- the others state all
abbrev kept : List Tree → List Tree
kept ts = filter has_more_than_id ts

kept_state : (id p : List ℕ) (ts : List Tree) → are_plain_items ts ≡ true → statements id p (kept ts) ≡ statements id p ts
kept_state id p [] plain = refl
kept_state id p (t ∷ ts) plain =
    let parts = both (is_plain_item t) (are_plain_items ts) plain in
    by (has_more_than_id t) refl (item_states id p t parts.0) ∙ ap (λ us. object_states id p t ++ us) (kept_state id p ts parts.1)
  where
    by : (b : Bool) → has_more_than_id t ≡ b → (has_more_than_id t ≡ false → object_states id p t ≡ []) → statements id p (if b then t ∷ kept ts else kept ts) ≡ (object_states id p t ++ statements id p (kept ts))
    by true is nothing = refl
    by false is nothing = ap (λ us. us ++ statements id p (kept ts)) (sym (nothing is))

kept_give : (id p : List ℕ) (ts : List Tree) → p ≢ id_key → are_plain_items ts ≡ true → gives id p (kept ts) ≡ gives id p ts
kept_give id p [] other plain = refl
kept_give id p (t ∷ ts) other plain =
    let parts = both (is_plain_item t) (are_plain_items ts) plain in
    by (has_more_than_id t) refl (item_gives id p t other parts.0) ∙ ap (λ b. (has_id id t && has_member p t) || b) (kept_give id p ts other parts.1)
  where
    by : (b : Bool) → has_more_than_id t ≡ b → (has_more_than_id t ≡ false → (has_id id t && has_member p t) ≡ false) → gives id p (if b then t ∷ kept ts else kept ts) ≡ ((has_id id t && has_member p t) || gives id p (kept ts))
    by true is nothing = refl
    by false is nothing = ap (λ b. b || gives id p (kept ts)) (sym (nothing is))

kept_plain : (ts : List Tree) → are_plain_items ts ≡ true → are_plain_items (kept ts) ≡ true
kept_plain [] plain = refl
kept_plain (t ∷ ts) plain =
    let parts = both (is_plain_item t) (are_plain_items ts) plain in
    by (has_more_than_id t) parts.0 (kept_plain ts parts.1)
  where
    by : (b : Bool) → is_plain_item t ≡ true → are_plain_items (kept ts) ≡ true → are_plain_items (if b then t ∷ kept ts else kept ts) ≡ true
    by true first rest = ap (λ b. b && are_plain_items (kept ts)) first ∙ rest
    by false first rest = rest

kept_flatten : (ts : List Tree) → are_plain_items ts ≡ true → flattened ts ≡ flattened (kept ts)
kept_flatten ts plain =
    let is : IsFlatteningOf ts (flattened ts) = (outcome_is_determined ts plain (flattened ts)).1 refl in
    (outcome_is_determined (kept ts) (kept_plain ts plain) (flattened ts)).0
    (record {
      plain = is.plain;
      ascend = is.ascend;
      in_order = is.in_order;
      properties = λ id p other. is.properties id p other ∙ sym (kept_give id p ts other plain);
      entries = λ id p. is.entries id p ∙ ap states.once (sym (kept_state id p ts plain));
    })

abbrev value_of : (r : Result (List Tree) Fault) → List Tree
value_of (Ok ts) = ts
value_of (Err f) = []

pub plain_documents_flatten_alike : PlainDocumentsFlattenAlike
plain_documents_flatten_alike o ts us plain sorted is =
    let same : kept ts ≡ us = ap value_of (sym (a_plain_document_expands_to_itself o ts plain sorted) ∙ is) in
    sym (kept_flatten ts plain ∙ ap flattened same)
