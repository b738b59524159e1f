-- What is kept of the result under way, so that it is an object in the end.
use Rattle.std.proofs.Common.{◌≡◌, List, [], ◌∷◌, ◌++◌, Bool, true, false, not, ◌&&◌, ◌||◌, Option, Some, None, Ok, Err, IfOk, IfSome, map, filter_map, option_map, refl, sym, ap, ◌∙◌, subst, codes, if◌then◌else◌}
use Rattle.std.specs.Option.{option_map_or}
use Rattle.std.specs.List.{AllByRecursion, list_all, list_any}
use Rattle.std.specs.Str.{bytes_eq}
use Rattle.ld_model.specs.Tree.{Tree, null, truth, whole, one_one, text, array, object, Pairs, trees_of, tree_list, tree_list-trees_of, members_of, member_list-members_of, member_at, put, AreAscending, member_list}
use Rattle.ld_model.proofs.Puts.{all-put, ascending-put, ascending_nil}
use Rattle.case_tables.specs.Keyword.{keyword_name}
use Rattle.case_tables.specs.declared.code.Code.TheVariants as code
use Rattle.case_tables.specs.declared.keyword.Keyword.{Keyword as Word}
use Rattle.case_tables.specs.declared.keyword.Keyword.TheVariants as word
use Rattle.case_tables.specs.declared.shape.Shape.{Shape}
use Rattle.ctx_types.specs.Context.{Text, Definition, Settings}
use Rattle.ctx_types.specs.Expansion.{expand_iri}
use Rattle.ctx_model.specs.Outcome.{◌>>=◌, unless}
use Rattle.ctx_model.specs.Words.{among}
use Rattle.expand_model.specs.Scope.{container_of, as_items, values_of, values_at, has, is_null, is_text, is_list_object, is_node_object, members_in, list_object, graph_object}
use Rattle.expand_model.specs.Values.{is_kind, add_all}
use Rattle.expand_model.specs.Keywords.{keyword_begun, may_be_told, keyword_entry, id_told, type_in, type_told, value_told, language_told, direction_told, index_told, type_put, keyword_put, keyword_told, included_added, forward_added, each_reversed, reversed_in, reverse_map_added}
use Rattle.expand_model.specs.Properties.{json_literal, language_map, language_value, value_unexpanded, listed, graphed, is_irreversible, reverses_of, reverse_put, reverse_added, is_reverse, value_added, property_added, property_told}
use Rattle.expand_laws.specs.Objects.{has_text, has_items, are_types, IsEntry, a_text, the_types, the_reverse, the_included, the_items, IsReversed, a_reversed, is_reversible, IsItem}
use Rattle.expand_laws.proofs.Steps.{never, after, after_any, after_unless, if_cond, all_append, all_map}
use Rattle.expand_laws.specs.Statements.{IsNodeObject}
use Rattle.expand_laws.proofs.PlainKeys.{all_off}
use Rattle.expand_laws.proofs.Names.{HasColon, held}
use Rattle.expand_laws.proofs.Lookups.{clash, none_passes, all_of, of_all, each_entry, all_filtered}
use Rattle.expand_laws.proofs.ObjectValues.{AreResults, AllItems, item_of, items_from, are_items, items_of, json_result, graph_result, list_result, map_results, IsOutcome}
use Rattle.expand_laws.proofs.TopEntries.{is_under_reverse, begun_forward}

-- an entry of the result under way: one of an object, or what is looked at in the end
pub data IsDraft : Text × Tree → Type 0 where
  an_entry : (m : Text × Tree) → IsEntry m.0 m.1 → IsDraft m
  a_value : (m : Text × Tree) → bytes_eq m.0 (codes "@value") ≡ true → IsDraft m
  a_set : (m : Text × Tree) → bytes_eq m.0 (codes "@set") ≡ true → IsOutcome m.1 → IsDraft m
  a_type : (m : Text × Tree) → bytes_eq m.0 (codes "@type") ≡ true → is_text m.1 ≡ true → IsDraft m

-- such an entry, under this property
pub record Drafted (p : Option Text) (m : Text × Tree) : Type 0 where
  pub draft : IsDraft m
  pub key : is_under_reverse p ≡ true → bytes_eq m.0 (codes "@reverse") ≡ false → HasColon m.0

pub record Draft (p : Option Text) (r : Pairs) : Type 0 where
  pub ascending : AreAscending r
  pub each : AllByRecursion (Drafted p) r

pub put_draft : (p : Option Text) (k : Text) (t : Tree) (r : Pairs) → Drafted p (k, t) → Draft p r → Draft p (put k t r)
put_draft p k t r here d = record { ascending = ascending-put k t r d.ascending; each = all-put (Drafted p) k t r here d.each }

pub drafted_at : (p : Option Text) (k : Text) (t : Tree) (r : Pairs) → Draft p r → member_at k r ≡ Some t → IsDraft (k, t)
drafted_at p k t r d at = (held (Drafted p) k t r d.each at).draft

pub forward_draft : (p : Option Text) (k : Text) (t : Tree) → is_under_reverse p ≡ false → IsDraft (k, t) → Drafted p (k, t)
forward_draft p k t forward draft = record { draft = draft; key = λ under other. never (is_under_reverse p) forward under }

-- the items that stand at a key
property_items : (k : Text) → HasColon k → has_items k ≡ true
property_items k has = ap (λ b. b || among k (codes "@graph" ∷ codes "@list" ∷ [])) has

entry_values : (k : Text) (t : Tree) → IsEntry k t → has_items k ≡ true → AllItems (values_of t)
entry_values _ _ (a_text k t key is_a_text) has = never (has_items k) (none_passes has_items k (codes "@direction" ∷ codes "@id" ∷ codes "@index" ∷ codes "@language" ∷ []) refl key) has
entry_values _ _ (the_types k t same are) has = clash has_items k (codes "@type") same refl has
entry_values _ _ (the_reverse k t r same is sorted looks) has = clash has_items k (codes "@reverse") same refl has
entry_values _ _ (the_included k t ts same is are nodes) has = clash has_items k (codes "@included") same refl has
entry_values _ _ (the_items k t ts key is are) has = subst (λ t. AllItems (values_of t)) (sym is) (subst AllItems (sym (tree_list-trees_of ts)) (items_of ts are))

pub draft_values : (m : Text × Tree) → IsDraft m → has_items m.0 ≡ true → AllItems (values_of m.1)
draft_values _ (an_entry m entry) has = entry_values m.0 m.1 entry has
draft_values _ (a_value m same) has = clash has_items m.0 (codes "@value") same refl has
draft_values _ (a_set m same out) has = clash has_items m.0 (codes "@set") same refl has
draft_values _ (a_type m same is_a_text) has = clash has_items m.0 (codes "@type") same refl has

values_there : (p : Option Text) (k : Text) (r : Pairs) → Draft p r → has_items k ≡ true → AllItems (values_at k r)
values_there p k r d has = by (member_at k r) refl
  where
    by : (o : Option Tree) → member_at k r ≡ o → AllItems (option_map_or values_of o [])
    by None at = tt
    by (Some t) at = draft_values (k, t) (drafted_at p k t r d at) has

-- items that are added at a key
pub with_items : (p : Option Text) (k : Text) (ts : List Tree) (r : Pairs) → (IsEntry k (array (trees_of (values_at k r ++ ts))) → Drafted p (k, array (trees_of (values_at k r ++ ts)))) → has_items k ≡ true → AllItems ts → Draft p r → Draft p (add_all k ts r)
unfolding add_all
with_items p k ts r drafted has all d =
    put_draft p k (array (trees_of (values_at k r ++ ts))) r
    (drafted (the_items k _ (values_at k r ++ ts) has refl (are_items (values_at k r ++ ts) (all_append IsItem (values_at k r) ts (values_there p k r d has) all)))) d

pub property_draft : (p : Option Text) (i : Text) (ts : List Tree) (r : Pairs) → HasColon i → AllItems ts → Draft p r → Draft p (add_all i ts r)
property_draft p i ts r has all d = with_items p i ts r (λ entry. record { draft = an_entry (i, array (trees_of (values_at i r ++ ts))) entry; key = λ under other. has }) (property_items i has) all d

-- the map of reversed properties
abbrev PropertyEntry : Text × Tree → Type 0
PropertyEntry m = IsReversed m.0 m.1

pub record IsReverseMap (q : Pairs) : Type 0 where
  pub ascending : AreAscending q
  pub each : AllByRecursion PropertyEntry q

entry_reverse : (k : Text) (t : Tree) → IsEntry k t → bytes_eq k (codes "@reverse") ≡ true → IsReverseMap (members_in t)
entry_reverse _ _ (a_text k t key is_a_text) same = never (bytes_eq k (codes "@reverse")) (none_passes (λ k. bytes_eq k (codes "@reverse")) k (codes "@direction" ∷ codes "@id" ∷ codes "@index" ∷ codes "@language" ∷ []) refl key) same
entry_reverse _ _ (the_types k t type are) same = clash (λ k. bytes_eq k (codes "@reverse")) k (codes "@type") type refl same
entry_reverse _ _ (the_included k t ts here is are nodes) same = clash (λ k. bytes_eq k (codes "@reverse")) k (codes "@included") here refl same
entry_reverse _ _ (the_items k t ts key is are) same = clash has_items k (codes "@reverse") same refl key
entry_reverse _ _ (the_reverse k t r here is sorted looks) same =
    subst (λ t. IsReverseMap (members_in t)) (sym is) (subst IsReverseMap (sym (member_list-members_of r)) (record { ascending = sorted; each = each_entry PropertyEntry r sorted looks }))

pub draft_reverse : (m : Text × Tree) → IsDraft m → bytes_eq m.0 (codes "@reverse") ≡ true → IsReverseMap (members_in m.1)
draft_reverse _ (an_entry m entry) same = entry_reverse m.0 m.1 entry same
draft_reverse _ (a_value m value) same = clash (λ k. bytes_eq k (codes "@reverse")) m.0 (codes "@value") value refl same
draft_reverse _ (a_set m set out) same = clash (λ k. bytes_eq k (codes "@reverse")) m.0 (codes "@set") set refl same
draft_reverse _ (a_type m type is_a_text) same = clash (λ k. bytes_eq k (codes "@reverse")) m.0 (codes "@type") type refl same

no_reverses : IsReverseMap []
no_reverses = record { ascending = ascending_nil; each = tt }

reverses_there : (p : Option Text) (r : Pairs) → Draft p r → IsReverseMap (reverses_of (member_at (codes "@reverse") r))
reverses_there p r d = by (member_at (codes "@reverse") r) refl
  where
    by : (o : Option Tree) → member_at (codes "@reverse") r ≡ o → IsReverseMap (reverses_of o)
    by None at = no_reverses
    by (Some t) at = draft_reverse (codes "@reverse", t) (drafted_at p (codes "@reverse") t r d at) refl

property_values : (q : Text) (u : Tree) → IsReversed q u → AllItems (values_of u)
property_values _ _ (a_reversed q u ts has is are may) = subst (λ u. AllItems (values_of u)) (sym is) (subst AllItems (sym (tree_list-trees_of ts)) (items_of ts are))

property_colon : (q : Text) (u : Tree) → IsReversed q u → HasColon q
property_colon _ _ (a_reversed q u ts has is are may) = has

abbrev AllReversible : List Tree → Type 0
AllReversible ts = AllByRecursion (λ t. is_reversible t ≡ true) ts

property_reversible : (q : Text) (u : Tree) → IsReversed q u → AllReversible (values_of u)
property_reversible _ _ (a_reversed q u ts has is are may) = subst (λ u. AllReversible (values_of u)) (sym is) (subst AllReversible (sym (tree_list-trees_of ts)) (all_of is_reversible ts may))

with_reverse : (i : Text) (ts : List Tree) (q : Pairs) → HasColon i → AllItems ts → AllReversible ts → IsReverseMap q → IsReverseMap (add_all i ts q)
unfolding add_all
with_reverse i ts q has all may map_is =
    let us : List Tree = values_at i q ++ ts in
    let old = there (member_at i q) refl in
    record {
      ascending = ascending-put i (array (trees_of us)) q map_is.ascending;
      each = all-put PropertyEntry i (array (trees_of us)) q
          (a_reversed i (array (trees_of us)) us has refl (are_items us (all_append IsItem (values_at i q) ts old.0 all)) (of_all is_reversible us (all_append (λ t. is_reversible t ≡ true) (values_at i q) ts old.1 may))) map_is.each;
    }
  where
    there : (o : Option Tree) → member_at i q ≡ o → AllItems (option_map_or values_of o []) × AllReversible (option_map_or values_of o [])
    there None at = (tt, tt)
    there (Some t) at = let is = held PropertyEntry i t q map_is.each at in (property_values i t is, property_reversible i t is)

reverse_entry : (q : Pairs) → IsReverseMap q → IsEntry (codes "@reverse") (object (members_of q))
reverse_entry q is = the_reverse (codes "@reverse") (object (members_of q)) q refl refl is.ascending (λ k u at. held PropertyEntry k u q is.each at)

reverse_put_draft : (p : Option Text) (i : Text) (ts : List Tree) (r : Pairs) → HasColon i → AllItems ts → AllReversible ts → Draft p r → Draft p (reverse_put i ts r)
reverse_put_draft p i [] r has all may d = d
reverse_put_draft p i (t ∷ ts) r has all may d =
    let q : Pairs = add_all i (t ∷ ts) (reverses_of (member_at (codes "@reverse") r)) in
    put_draft p (codes "@reverse") (object (members_of q)) r
    (record { draft = an_entry (codes "@reverse", object (members_of q)) (reverse_entry q (with_reverse i (t ∷ ts) _ has all may (reverses_there p r d))); key = λ under other. absurd (cc) }) d

reversible : (t : Tree) → is_irreversible t ≡ false → is_reversible t ≡ true
reversible (object ms) is = ap not is
reversible null is = refl
reversible (truth b) is = refl
reversible (whole n) is = refl
reversible one_one is = refl
reversible (text s) is = refl
reversible (array ts) is = refl

all_reversible : (ts : List Tree) → not (list_any is_irreversible ts) ≡ true → AllReversible ts
all_reversible [] passes = tt
all_reversible (t ∷ ts) passes = by (is_irreversible t) refl passes (λ later. all_reversible ts later)
  where
    by : (b : Bool) → is_irreversible t ≡ b → not (b || list_any is_irreversible ts) ≡ true → (not (list_any is_irreversible ts) ≡ true → AllReversible ts) → AllReversible (t ∷ ts)
    by true is passes rest = absurd (cc)
    by false is passes rest = (reversible t is, rest passes)

reverse_added_draft : (p : Option Text) (i : Text) (ts : List Tree) (r : Pairs) → HasColon i → AllItems ts → Draft p r → IfOk (reverse_added i ts r) (Draft p)
unfolding reverse_added
reverse_added_draft p i ts r has all d =
    after_unless (Draft p) (not (list_any is_irreversible ts)) code.InvalidReversePropertyValue _ (λ passes. reverse_put_draft p i ts r has all (all_reversible ts passes) d)

-- the value of a property, made a list or graphs
record IsSomething (v : Tree) : Type 0 where
  some : is_null v ≡ false
  items : AllItems (as_items v)

listed_is : (s : Shape) (v : Tree) → IsSomething v → IsSomething (listed s v)
listed_is s v is = by (s.list && not (is_list_object v))
  where
    by : (b : Bool) → IsSomething (if b then list_object (as_items v) else v)
    by true = record { some = refl; items = (item_of (list_object (as_items v)) (list_result (as_items v) is.items), tt) }
    by false = is

all_graphed : (ts : List Tree) → AllItems ts → AllItems (map graph_object ts)
all_graphed [] all = tt
all_graphed (t ∷ ts) all = (item_of (graph_object t) (graph_result t all.0), all_graphed ts all.1)

graphed_is : (s : Shape) (v : Tree) → IsSomething v → IsSomething (graphed s v)
graphed_is s v is = by (s.graph && not (s.id || s.index))
  where
    by : (b : Bool) → IsSomething (if b then array (trees_of (map graph_object (as_items v))) else v)
    by true = record { some = refl; items = subst AllItems (sym (tree_list-trees_of (map graph_object (as_items v)))) (all_graphed (as_items v) is.items) }
    by false = is

something_values : (v : Tree) → is_null v ≡ false → AllItems (as_items v) → AllItems (values_of v)
something_values null some all = absurd (cc)
something_values (array ts) some all = all
something_values (truth b) some all = all
something_values (whole n) some all = all
something_values one_one some all = all
something_values (text s) some all = all
something_values (object ms) some all = all

value_added_draft : (p : Option Text) (d : Option Definition) (i : Text) (v : Tree) (r : Pairs) → HasColon i → IsSomething v → Draft p r → IfOk (value_added d i v r) (Draft p)
value_added_draft p d i v r has is draft =
    let u : Tree = graphed (container_of d) (listed (container_of d) v) in
    let made : IsSomething u = graphed_is (container_of d) (listed (container_of d) v) (listed_is (container_of d) v is) in
    if_cond (Draft p) (is_reverse d) (reverse_added i (as_items u) r) (Ok (add_all i (values_of u) r))
    (reverse_added_draft p i (as_items u) r has made.items draft)
    (property_draft p i (values_of u) r has (something_values u made.some made.items) draft)

pub property_added_draft : (p : Option Text) (d : Option Definition) (i : Text) (v : Tree) (r : Pairs) → HasColon i → AllItems (as_items v) → Draft p r → IfOk (property_added d i v r) (Draft p)
unfolding property_added
property_added_draft p d i v r has all draft = by (is_null v) refl
  where
    by : (b : Bool) → is_null v ≡ b → IfOk (if b then Ok r else value_added d i v r) (Draft p)
    by true is = draft
    by false some = value_added_draft p d i v r has (record { some = some; items = all }) draft

told_items : (c : Settings) (d : Option Definition) (t : Tree) → IfOk (value_unexpanded c d t) (λ v. AllItems (as_items v))
told_items c d t =
    if_cond (λ v. AllItems (as_items v)) (is_kind (codes "@json") d) (Ok (json_literal t)) (language_value c d t)
    (item_of (json_literal t) (json_result t), tt)
    (after AreResults (λ v. AllItems (as_items v)) (language_map c d (members_in t)) _ (map_results c d (members_in t)) (λ ts all. subst AllItems (sym (tree_list-trees_of ts)) (items_from ts all)))

pub property_told_draft : (p : Option Text) (c : Settings) (d : Option Definition) (i : Text) (t : Tree) (r : Pairs) → HasColon i → Draft p r → IfOk (property_told c d i t r) (Draft p)
unfolding property_told
property_told_draft p c d i t r has draft =
    after (λ v. AllItems (as_items v)) (Draft p) (value_unexpanded c d t) _ (told_items c d t) (λ v all. property_added_draft p d i v r has all draft)

-- a keyword whose value isn't expanded
abbrev IsText : Tree → Type 0
IsText t = is_text t ≡ true

abbrev TextIfAny : Option Tree → Type 0
TextIfAny o = IfSome o IsText

iri_text : (o : Option Text) → TextIfAny (option_map (λ t. text t) o)
iri_text None = tt
iri_text (Some t) = refl

id_text : (c : Settings) (t : Tree) → IfOk (id_told c t) TextIfAny
id_text c (text s) = iri_text (expand_iri c true false s)
id_text c _ = tt

language_text : (t : Tree) → IfOk (language_told t) TextIfAny
language_text (text s) = refl
language_text _ = tt

direction_text : (t : Tree) → IfOk (direction_told t) TextIfAny
direction_text (text s) = if_cond TextIfAny (bytes_eq s (codes "ltr") || bytes_eq s (codes "rtl")) (Ok (Some (text s))) (Err code.InvalidBaseDirection) refl tt
direction_text _ = tt

index_text : (t : Tree) → IfOk (index_told t) TextIfAny
index_text (text s) = refl
index_text _ = tt

-- types: a text or an array of texts
abbrev pub AreTexts : Tree → Type 0
AreTexts t = AllByRecursion IsText (values_of t)

type_text : (types : Settings) (t : Tree) → TextIfAny (type_in types t)
type_text types (text s) = iri_text (expand_iri types true true s)
type_text types _ = tt

type_texts : (o : Option Tree) → TextIfAny o → IfSome o AreTexts
type_texts None is = tt
type_texts (Some (text s)) is = (refl, tt)
type_texts (Some _) is = absurd (cc)

types_told : (types : Settings) (t : Tree) → IfOk (type_told types t) (λ o. IfSome o AreTexts)
types_told types (text s) = type_texts (type_in types (text s)) (type_text types (text s))
types_told types (array ts) =
    if_cond (λ o. IfSome o AreTexts) (list_all is_text (tree_list ts)) (Ok (Some (array (trees_of (filter_map (type_in types) (tree_list ts)))))) (Err code.InvalidTypeValue)
    (subst (AllByRecursion IsText) (sym (tree_list-trees_of (filter_map (type_in types) (tree_list ts)))) (all_filtered IsText (type_in types) (tree_list ts) (type_text types))) tt
types_told types _ = tt

array_types : (k : Text) (ts : List Tree) → bytes_eq k (codes "@type") ≡ true → AllByRecursion IsText ts → IsEntry k (array (trees_of ts))
array_types k ts same all = the_types k (array (trees_of ts)) same (ap (list_all is_text) (tree_list-trees_of ts) ∙ of_all is_text ts all)

type_draft : (t : Tree) → AreTexts t → IsDraft (codes "@type", t)
type_draft (array ts) all = an_entry (codes "@type", array ts) (the_types (codes "@type") (array ts) refl (of_all is_text (tree_list ts) all))
type_draft t all = a_type (codes "@type", t) refl all.0

are_texts : (t : Tree) → are_types t ≡ true → AreTexts t
are_texts (array ts) are = all_of is_text (tree_list ts) are
are_texts _ are = absurd (cc)

entry_types : (k : Text) (t : Tree) → IsEntry k t → bytes_eq k (codes "@type") ≡ true → AreTexts t
entry_types _ _ (a_text k t key is_a_text) same = never (bytes_eq k (codes "@type")) (none_passes (λ k. bytes_eq k (codes "@type")) k (codes "@direction" ∷ codes "@id" ∷ codes "@index" ∷ codes "@language" ∷ []) refl key) same
entry_types _ _ (the_types k t here are) same = are_texts t are
entry_types _ _ (the_reverse k t r here is sorted looks) same = clash (λ k. bytes_eq k (codes "@type")) k (codes "@reverse") here refl same
entry_types _ _ (the_included k t ts here is are nodes) same = clash (λ k. bytes_eq k (codes "@type")) k (codes "@included") here refl same
entry_types _ _ (the_items k t ts key is are) same = clash has_items k (codes "@type") same refl key

text_alone : (t : Tree) → is_text t ≡ true → AreTexts t
text_alone (text s) is = (refl, tt)
text_alone _ is = absurd (cc)

pub draft_types : (m : Text × Tree) → IsDraft m → bytes_eq m.0 (codes "@type") ≡ true → AreTexts m.1
draft_types _ (an_entry m entry) same = entry_types m.0 m.1 entry same
draft_types _ (a_value m value) same = clash (λ k. bytes_eq k (codes "@type")) m.0 (codes "@value") value refl same
draft_types _ (a_set m set out) same = clash (λ k. bytes_eq k (codes "@type")) m.0 (codes "@set") set refl same
draft_types _ (a_type m here is_a_text) same = text_alone m.1 is_a_text

types_there : (p : Option Text) (r : Pairs) → Draft p r → AllByRecursion IsText (values_at (codes "@type") r)
types_there p r d = by (member_at (codes "@type") r) refl
  where
    by : (o : Option Tree) → member_at (codes "@type") r ≡ o → AllByRecursion IsText (option_map_or values_of o [])
    by None at = tt
    by (Some t) at = draft_types (codes "@type", t) (drafted_at p (codes "@type") t r d at) refl

type_put_draft : (p : Option Text) (t : Tree) (r : Pairs) → is_under_reverse p ≡ false → AreTexts t → Draft p r → Draft p (type_put t r)
unfolding add_all
type_put_draft p t r forward all d = by (has (codes "@type") r)
  where
    by : (b : Bool) → Draft p (if b then add_all (codes "@type") (values_of t) r else put (codes "@type") t r)
    by true =
        let ts : List Tree = values_at (codes "@type") r ++ values_of t in
        put_draft p (codes "@type") (array (trees_of ts)) r
        (forward_draft p (codes "@type") (array (trees_of ts)) forward
        (an_entry (codes "@type", array (trees_of ts)) (array_types (codes "@type") ts refl (all_append IsText (values_at (codes "@type") r) (values_of t) (types_there p r d) all)))) d
    by false = put_draft p (codes "@type") t r (forward_draft p (codes "@type") t forward (type_draft t all)) d

text_put_draft : (p : Option Text) (w : Word) (o : Option Tree) (r : Pairs) → has_text (keyword_name w) ≡ true → is_under_reverse p ≡ false → TextIfAny o → Draft p r → Draft p (keyword_put w o r)
unfolding keyword_put
text_put_draft p w None r key forward is d = d
text_put_draft p word.TypeWord (Some t) r key forward is d = absurd (cc)
text_put_draft p w (Some t) r key forward is d = put_draft p (keyword_name w) t r (forward_draft p (keyword_name w) t forward (an_entry (keyword_name w, t) (a_text (keyword_name w) t key is))) d

types_put_draft : (p : Option Text) (o : Option Tree) (r : Pairs) → is_under_reverse p ≡ false → IfSome o AreTexts → Draft p r → Draft p (keyword_put word.TypeWord o r)
unfolding keyword_put
types_put_draft p None r forward all d = d
types_put_draft p (Some t) r forward all d = type_put_draft p t r forward all d

value_put_draft : (p : Option Text) (o : Option Tree) (r : Pairs) → is_under_reverse p ≡ false → Draft p r → Draft p (keyword_put word.Value o r)
unfolding keyword_put
value_put_draft p None r forward d = d
value_put_draft p (Some t) r forward d = put_draft p (codes "@value") t r (forward_draft p (codes "@value") t forward (a_value (codes "@value", t) refl)) d

word_told_draft : (p : Option Text) (c types : Settings) (json : Bool) (w : Word) (t : Tree) (r : Pairs) → is_under_reverse p ≡ false → Draft p r → IfOk (keyword_entry c types w t json >>= (λ v. Ok (keyword_put w v r))) (Draft p)
unfolding keyword_entry keyword_put
word_told_draft p c types json word.Id t r forward d = after TextIfAny (Draft p) (id_told c t) _ (id_text c t) (λ v is. text_put_draft p word.Id v r refl forward is d)
word_told_draft p c types json word.TypeWord t r forward d = after (λ o. IfSome o AreTexts) (Draft p) (type_told types t) _ (types_told types t) (λ v all. types_put_draft p v r forward all d)
word_told_draft p c types json word.Value t r forward d = after_any (Draft p) (value_told json t) _ (λ v. value_put_draft p v r forward d)
word_told_draft p c types json word.Language t r forward d = after TextIfAny (Draft p) (language_told t) _ (language_text t) (λ v is. text_put_draft p word.Language v r refl forward is d)
word_told_draft p c types json word.Direction t r forward d = after TextIfAny (Draft p) (direction_told t) _ (direction_text t) (λ v is. text_put_draft p word.Direction v r refl forward is d)
word_told_draft p c types json word.Index t r forward d = after TextIfAny (Draft p) (index_told t) _ (index_text t) (λ v is. text_put_draft p word.Index v r refl forward is d)
word_told_draft p c types json _ t r forward d = d

pub keyword_told_draft : (p : Option Text) (c types : Settings) (json : Bool) (w : Word) (t : Tree) (r : Pairs) → Draft p r → IfOk (keyword_told c types json p w t r) (Draft p)
unfolding keyword_told
keyword_told_draft p c types json w t r d =
    after (λ _. is_under_reverse p ≡ false) (Draft p) (keyword_begun p w r) _ (begun_forward p w r)
    (λ _ forward. after_any (Draft p) (may_be_told w) _ (λ _. word_told_draft p c types json w t r forward d))

-- a keyword whose value is expanded
pub items_put_draft : (p : Option Text) (k : Text) (v : Tree) (r : Pairs) → has_items k ≡ true → is_under_reverse p ≡ false → IsOutcome v → Draft p r → Draft p (put k (array (trees_of (as_items v))) r)
items_put_draft p k v r key forward out d =
    put_draft p k (array (trees_of (as_items v))) r
    (forward_draft p k (array (trees_of (as_items v))) forward (an_entry (k, array (trees_of (as_items v))) (the_items k _ (as_items v) key refl (are_items (as_items v) (items_from (as_items v) out))))) d

node_is : (t : Tree) → is_node_object t ≡ true → IsNodeObject t
node_is (object ms) is =
    let off = all_off (has (codes "@value") (member_list ms)) (has (codes "@list") (member_list ms)) (has (codes "@set") (member_list ms)) is in
    record { map = refl; no_value = off.0; no_list = off.1; no_set = off.2 }
node_is _ is = absurd (cc)

entry_included : (k : Text) (t : Tree) → IsEntry k t → bytes_eq k (codes "@included") ≡ true → AllItems (values_of t) × AllByRecursion IsNodeObject (values_of t)
entry_included _ _ (a_text k t key is_a_text) same = clash has_text k (codes "@included") same refl key
entry_included _ _ (the_types k t here are) same = clash (λ k. bytes_eq k (codes "@included")) k (codes "@type") here refl same
entry_included _ _ (the_reverse k t r here is sorted looks) same = clash (λ k. bytes_eq k (codes "@included")) k (codes "@reverse") here refl same
entry_included _ _ (the_items k t ts key is are) same = clash has_items k (codes "@included") same refl key
entry_included _ _ (the_included k t ts here is are nodes) same = (
  subst (λ t. AllItems (values_of t)) (sym is) (subst AllItems (sym (tree_list-trees_of ts)) (items_of ts are)),
  subst (λ t. AllByRecursion IsNodeObject (values_of t)) (sym is) (subst (AllByRecursion IsNodeObject) (sym (tree_list-trees_of ts)) nodes),
)

draft_included : (m : Text × Tree) → IsDraft m → bytes_eq m.0 (codes "@included") ≡ true → AllItems (values_of m.1) × AllByRecursion IsNodeObject (values_of m.1)
draft_included _ (an_entry m entry) same = entry_included m.0 m.1 entry same
draft_included _ (a_value m here) same = clash (λ k. bytes_eq k (codes "@included")) m.0 (codes "@value") here refl same
draft_included _ (a_set m here out) same = clash (λ k. bytes_eq k (codes "@included")) m.0 (codes "@set") here refl same
draft_included _ (a_type m here is_a_text) same = clash (λ k. bytes_eq k (codes "@included")) m.0 (codes "@type") here refl same

nodes_put : (p : Option Text) (ts : List Tree) (r : Pairs) → is_under_reverse p ≡ false → AllItems ts → AllByRecursion IsNodeObject ts → Draft p r → Draft p (add_all (codes "@included") ts r)
unfolding add_all
nodes_put p ts r forward all nodes d =
    let us : List Tree = values_at (codes "@included") r ++ ts in
    let old = there (member_at (codes "@included") r) refl in
    put_draft p (codes "@included") (array (trees_of us)) r
    (forward_draft p (codes "@included") (array (trees_of us)) forward
    (an_entry (codes "@included", array (trees_of us))
    (the_included (codes "@included") (array (trees_of us)) us refl refl (are_items us (all_append IsItem (values_at (codes "@included") r) ts old.0 all)) (all_append IsNodeObject (values_at (codes "@included") r) ts old.1 nodes)))) d
  where
    there : (o : Option Tree) → member_at (codes "@included") r ≡ o → AllItems (option_map_or values_of o []) × AllByRecursion IsNodeObject (option_map_or values_of o [])
    there None at = (tt, tt)
    there (Some t) at = draft_included (codes "@included", t) (drafted_at p (codes "@included") t r d at) refl

pub included_draft : (p : Option Text) (v : Tree) (r : Pairs) → is_under_reverse p ≡ false → IsOutcome v → Draft p r → IfOk (included_added v r) (Draft p)
included_draft p v r forward out d = by (is_null v) refl
  where
    by : (b : Bool) → is_null v ≡ b → IfOk (unless (not b && list_all is_node_object (values_of v)) code.InvalidIncludedValue >>= (λ _. Ok (add_all (codes "@included") (values_of v) r))) (Draft p)
    by true is = tt
    by false some =
        after_unless (Draft p) (list_all is_node_object (values_of v)) code.InvalidIncludedValue _
        (λ passes. nodes_put p (values_of v) r forward (something_values v some (items_from (as_items v) out)) (all_map (λ t. is_node_object t ≡ true) IsNodeObject (values_of v) node_is (all_of is_node_object (values_of v) passes)) d)

pub set_draft : (p : Option Text) (v : Tree) (r : Pairs) → is_under_reverse p ≡ false → IsOutcome v → Draft p r → Draft p (put (codes "@set") v r)
set_draft p v r forward out d = put_draft p (codes "@set") v r (forward_draft p (codes "@set") v forward (a_set (codes "@set", v) refl out)) d

-- the value of `@reverse`
pub record IsBackward (m : Text × Tree) : Type 0 where
  pub draft : IsDraft m
  pub key : bytes_eq m.0 (codes "@reverse") ≡ false → HasColon m.0

forward_added_draft : (p : Option Text) (ms r : Pairs) → AllByRecursion PropertyEntry ms → Draft p r → Draft p (forward_added ms r)
forward_added_draft p [] r all d = d
forward_added_draft p (m ∷ ms) r all d =
    forward_added_draft p ms (add_all m.0 (values_of m.1) r) all.1 (property_draft p m.0 (values_of m.1) r (property_colon m.0 m.1 all.0) (property_values m.0 m.1 all.0) d)

reversed_there : (ms : Pairs) (o : Option Tree) → AllByRecursion IsBackward ms → member_at (codes "@reverse") ms ≡ o → AllByRecursion PropertyEntry (reverses_of o)
reversed_there ms None all at = tt
reversed_there ms (Some t) all at = (draft_reverse (codes "@reverse", t) (held IsBackward (codes "@reverse") t ms all at).draft refl).each

one_reversed : (p : Option Text) (m : Text × Tree) (r : Pairs) → IsBackward m → Draft p r → IfOk (if bytes_eq m.0 (codes "@reverse") then Ok r else reverse_added m.0 (values_of m.1) r) (Draft p)
one_reversed p m r is d = by (bytes_eq m.0 (codes "@reverse")) refl
  where
    by : (b : Bool) → bytes_eq m.0 (codes "@reverse") ≡ b → IfOk (if b then Ok r else reverse_added m.0 (values_of m.1) r) (Draft p)
    by true same = d
    by false other = reverse_added_draft p m.0 (values_of m.1) r (is.key other) (draft_values m is.draft (property_items m.0 (is.key other))) d

each_reversed_draft : (p : Option Text) (ms r : Pairs) → AllByRecursion IsBackward ms → Draft p r → IfOk (each_reversed ms r) (Draft p)
each_reversed_draft p [] r all d = d
each_reversed_draft p (m ∷ ms) r all d =
    after (Draft p) (Draft p) (if bytes_eq m.0 (codes "@reverse") then Ok r else reverse_added m.0 (values_of m.1) r) _ (one_reversed p m r all.0 d) (λ r₁ d₁. each_reversed_draft p ms r₁ all.1 d₁)

pub reverse_map_draft : (p : Option Text) (v : Tree) (r : Pairs) → AllByRecursion IsBackward (members_in v) → Draft p r → IfOk (reverse_map_added v r) (Draft p)
unfolding reverse_map_added
reverse_map_draft p v r all d =
    each_reversed_draft p (members_in v) _ all
    (forward_added_draft p (reversed_in (members_in v)) r (reversed_there (members_in v) (member_at (codes "@reverse") (members_in v)) all refl) d)
