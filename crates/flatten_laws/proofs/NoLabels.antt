-- A plain document leaves the labels as they are.
use Rattle.std.proofs.Common.{◌≡◌, ℕ, List, [], ◌∷◌, Bool, true, false, cond, Some, None, is_some, refl, ap, ◌∙◌}
use Rattle.std.specs.Str.{bytes_eq}
use Rattle.ld_model.specs.Tree.{Tree, text, object, Pairs, no_members, member, member_list, member_at}
use Rattle.ld_model.specs.Keys.{id_key}
use Rattle.ld_model.specs.Label.{Labels}
use Rattle.ld_model.specs.Plain.{is_plain_entry, are_plain_entries, is_plain_member, are_plain_members, is_plain_item, are_plain_items}
use Rattle.ld_model.specs.NodeMap.{State, named, entries_of, entry_by, entry_into, entries_into, property_into, properties_into, name_of, item_into, items_into}
use Rattle.ld_model.proofs.Truths.{both}
use Rattle.flatten_laws.proofs.PlainNames.{named_iri, plain_id}
use Rattle.flatten_laws.proofs.Gathering.{scheme_of, property_parts, plain_entries}

entry_keeps_by : (id p : List ℕ) (k to : List ℕ) (s : State) (b : Bool) → bytes_eq k id_key ≡ b → is_plain_entry (object (member k (text to) no_members)) ≡ true → (entry_by (cond b (Some to) None) id p (object (member k (text to) no_members)) s).labels ≡ s.labels
entry_keeps_by id p k to s true same plain = ap (λ (name : List ℕ × Labels). name.1) (named_iri to s.labels (scheme_of k to same plain))
entry_keeps_by id p k to s false apart plain = refl

entry_keeps : (id p : List ℕ) (e : Tree) (s : State) → is_plain_entry e ≡ true → (entry_into id p e s).labels ≡ s.labels
entry_keeps id p (object (member k (text to) no_members)) s plain = entry_keeps_by id p k to s (bytes_eq k id_key) refl plain
entry_keeps id p _ s plain = absurd (cc)

entries_keep : (id p : List ℕ) (es : List Tree) (s : State) → are_plain_entries es ≡ true → (entries_into id p es s).labels ≡ s.labels
entries_keep id p [] s plain = refl
entries_keep id p (e ∷ es) s plain =
    let parts = both (is_plain_entry e) (are_plain_entries es) plain in
    entries_keep id p es _ parts.1 ∙ entry_keeps id p e s parts.0

member_keeps : (id : List ℕ) (m : List ℕ × Tree) (s : State) (b : Bool) → bytes_eq m.0 id_key ≡ b → is_plain_member m ≡ true → (cond b s (property_into id m s)).labels ≡ s.labels
member_keeps id m s true same plain = refl
member_keeps id m s false apart plain =
    let parts = property_parts m apart plain in
    entries_keep id (named m.0 s.labels).0 (entries_of (Some m.1)) _ (plain_entries m.1 parts.1)
    ∙ ap (λ (name : List ℕ × Labels). name.1) (named_iri m.0 s.labels parts.0)

properties_keep : (id : List ℕ) (ms : Pairs) (s : State) → are_plain_members ms ≡ true → (properties_into id ms s).labels ≡ s.labels
properties_keep id [] s plain = refl
properties_keep id (m ∷ ms) s plain =
    let parts = both (is_plain_member m) (are_plain_members ms) plain in
    properties_keep id ms _ parts.1 ∙ member_keeps id m s (bytes_eq m.0 id_key) refl parts.0

item_keeps : (t : Tree) (s : State) → is_plain_item t ≡ true → (item_into t s).labels ≡ s.labels
item_keeps (object ms) s plain =
    let parts = both (is_some (member_at id_key (member_list ms))) (are_plain_members (member_list ms)) plain in
    let name = plain_id (member_list ms) parts.1 parts.0 in
    properties_keep _ (member_list ms) _ parts.1
    ∙ ap (λ o. (name_of o s.labels).1) name.stands
    ∙ ap (λ (name : List ℕ × Labels). name.1) (named_iri name.id s.labels name.scheme)
item_keeps _ s plain = absurd (cc)

pub items_keep : (ts : List Tree) (s : State) → are_plain_items ts ≡ true → (items_into ts s).labels ≡ s.labels
items_keep [] s plain = refl
items_keep (t ∷ ts) s plain =
    let parts = both (is_plain_item t) (are_plain_items ts) plain in
    items_keep ts _ parts.1 ∙ item_keeps t s parts.0
