-- Objects that are made at once: of scalars, of strings in a language map, of JSON literals, of lists and graphs.
use Rattle.std.proofs.Common.{◌≡◌, List, [], ◌∷◌, Bool, true, false, Option, Some, None, IfOk, IfSome, is_some, option_map, refl, ap, ◌∙◌, codes, if◌then◌else◌}
use Rattle.std.specs.List.{AllByRecursion, list_all}
use Rattle.std.specs.Str.{bytes_eq}
use Rattle.ld_model.specs.Tree.{Tree, text, array, object, no_trees, tree, Pairs, trees_of, members_of, member_at, put, AreAscending}
use Rattle.ld_model.proofs.Puts.{all-put, ascending-put, ascending_nil, member_at-put, member_at-put_other}
use Rattle.case_tables.specs.declared.code.Code.TheVariants as code
use Rattle.ctx_types.specs.Context.{Text, Definition, Settings, definition_at}
use Rattle.ctx_types.specs.Expansion.{expand_iri}
use Rattle.ctx_model.specs.Outcome.{unless}
use Rattle.expand_model.specs.Scope.{as_items, values_of, is_null, is_text, one_entry, list_object, graph_object}
use Rattle.expand_model.specs.Values.{put_text, kind_of, is_kind, language_for, direction_for, reference, datatype_of, untyped_value, value_typed, value_object, value_in, expand_value}
use Rattle.expand_model.specs.Properties.{json_literal, is_language_value, language_unless_none, language_string, language_strings, language_map}
use Rattle.expand_laws.specs.Objects.{is_value_key, is_list_key, IsObject, IsEntry, AreItems, IsItem, value_object as is_value_object, list_object as is_list_object, node_object as is_node_object, a_text, the_items, no_items, more_items, an_object}
use Rattle.expand_laws.proofs.Steps.{never, after_any, all_map}
use Rattle.expand_laws.proofs.Names.{held}
use Rattle.expand_laws.proofs.Lookups.{of_all, all_filtered, all_flattened}

-- an object, as one outcome
pub record IsResult (t : Tree) : Type 0 where
  pub entries : Pairs
  pub is : t ≡ object (members_of entries)
  pub kind : IsObject entries

abbrev pub AreResults : List Tree → Type 0
AreResults ts = AllByRecursion IsResult ts

abbrev pub AllItems : List Tree → Type 0
AllItems ts = AllByRecursion IsItem ts

pub item_of : (t : Tree) → IsResult t → IsItem t
item_of t result = an_object t result.entries result.is result.kind

pub items_from : (ts : List Tree) → AreResults ts → AllItems ts
items_from ts results = all_map IsResult IsItem ts item_of results

pub are_items : (ts : List Tree) → AllItems ts → AreItems ts
are_items [] all = no_items
are_items (t ∷ ts) all = more_items t ts all.0 (are_items ts all.1)

pub items_of : (ts : List Tree) → AreItems ts → AllItems ts
items_of _ no_items = tt
items_of _ (more_items t ts first rest) = (first, items_of ts rest)

-- value objects
abbrev ValueEntry : Text × Tree → Type 0
ValueEntry m = (is_value_key m.0 ≡ true) × (bytes_eq m.0 (codes "@value") ≡ false → is_text m.1 ≡ true)

record Valued (v : Tree) (r : Pairs) : Type 0 where
  ascending : AreAscending r
  each : AllByRecursion ValueEntry r
  stands : member_at (codes "@value") r ≡ Some v

value_result : (v : Tree) (r : Pairs) → Valued v r → (is_null v ≡ true → member_at (codes "@type") r ≡ Some (text (codes "@json"))) → IsResult (object (members_of r))
value_result v r is some =
    record {
      entries = r;
      is = refl;
      kind = is_value_object r
          (record {
            ascending = is.ascending;
            keys = of_all (λ m. is_value_key m.0) r (all_map ValueEntry (λ m. is_value_key m.0 ≡ true) r (λ m e. e.0) is.each);
            value = v;
            stands = is.stands;
            some = some;
            texts = λ k t at other. (held ValueEntry k t r is.each at).1 other;
          });
    }

value_alone : (v : Tree) → Valued v (put (codes "@value") v [])
value_alone v =
    record {
      ascending = ascending-put (codes "@value") v [] ascending_nil;
      each = all-put ValueEntry (codes "@value") v [] (refl, λ other. absurd (cc)) tt;
      stands = member_at-put (codes "@value") v [];
    }

value_more : (k s : Text) (v : Tree) (r : Pairs) → is_value_key k ≡ true → bytes_eq (codes "@value") k ≡ false → Valued v r → Valued v (put k (text s) r)
value_more k s v r key other is =
    record {
      ascending = ascending-put k (text s) r is.ascending;
      each = all-put ValueEntry k (text s) r (key, λ _. refl) is.each;
      stands = member_at-put_other (codes "@value") k (text s) r other ∙ is.stands;
    }

value_text : (k : Text) (o : Option Text) (v : Tree) (r : Pairs) → is_value_key k ≡ true → bytes_eq (codes "@value") k ≡ false → Valued v r → Valued v (put_text k o r)
value_text k None v r key other is = is
value_text k (Some s) v r key other is = value_more k s v r key other is

tagged : (side language : Option Text) (s : Text) → IsResult (object (members_of (put_text (codes "@direction") side (put_text (codes "@language") language (put (codes "@value") (text s) [])))))
tagged side language s =
    value_result (text s) _
    (value_text (codes "@direction") side (text s) _ refl refl (value_text (codes "@language") language (text s) _ refl refl (value_alone (text s))))
    (λ is. absurd (cc))

typed : (k : Text) (t : Tree) → (is_null t ≡ true → text k ≡ text (codes "@json")) → IsResult (object (members_of (put (codes "@type") (text k) (put (codes "@value") t []))))
typed k t json =
    value_result t _ (value_more (codes "@type") k t _ refl refl (value_alone t))
    (λ is. member_at-put (codes "@type") (text k) (put (codes "@value") t []) ∙ ap (λ u. Some u) (json is))

pub json_result : (t : Tree) → IsResult (json_literal t)
json_result t = typed (codes "@json") t (λ is. refl)

-- a map with one entry
one_node : (k : Text) (t : Tree) → IsEntry k t → bytes_eq (codes "@value") k ≡ false → bytes_eq (codes "@list") k ≡ false → bytes_eq (codes "@set") k ≡ false → IsResult (one_entry k t)
one_node k t entry value list set =
    record {
      entries = put k t [];
      is = refl;
      kind = is_node_object (put k t [])
          (record {
            ascending = ascending-put k t [] ascending_nil;
            no_value = ap is_some (member_at-put_other (codes "@value") k t [] value);
            no_list = ap is_some (member_at-put_other (codes "@list") k t [] list);
            no_set = ap is_some (member_at-put_other (codes "@set") k t [] set);
          })
          (λ q u at. held (λ m. IsEntry m.0 m.1) q u (put k t []) (all-put (λ m. IsEntry m.0 m.1) k t [] entry tt) at);
    }

pub graph_result : (t : Tree) → IsItem t → IsResult (graph_object t)
graph_result t item = one_node (codes "@graph") (array (tree t no_trees)) (the_items (codes "@graph") (array (tree t no_trees)) (t ∷ []) refl refl (more_items t [] item no_items)) refl refl refl

list_entry : (ts : List Tree) → AllItems ts → IsEntry (codes "@list") (array (trees_of ts))
list_entry ts all = the_items (codes "@list") (array (trees_of ts)) ts refl refl (are_items ts all)

pub list_result : (ts : List Tree) → AllItems ts → IsResult (list_object ts)
list_result ts all =
    let t = array (trees_of ts) in
    let r = put (codes "@list") t [] in
    record {
      entries = r;
      is = refl;
      kind = is_list_object r
          (record {
            ascending = ascending-put (codes "@list") t [] ascending_nil;
            list = ap is_some (member_at-put (codes "@list") t []);
            keys = λ q u at. held (λ m. is_list_key m.0 ≡ true) q u r (all-put (λ m. is_list_key m.0 ≡ true) (codes "@list") t [] refl tt) at;
          })
          (λ q u at. held (λ m. IsEntry m.0 m.1) q u r (all-put (λ m. IsEntry m.0 m.1) (codes "@list") t [] (list_entry ts all) tt) at);
    }

-- value expansion
reference_result : (o : Option Text) → IfSome (option_map (λ iri. one_entry (codes "@id") (text iri)) o) IsResult
reference_result None = tt
reference_result (Some iri) = one_node (codes "@id") (text iri) (a_text (codes "@id") (text iri) refl refl) refl refl refl

untyped_result : (c : Settings) (d : Option Definition) (t : Tree) → is_null t ≡ false → IsResult (untyped_value c d t)
untyped_result c d (text s) some = tagged (direction_for c d) (language_for c d) s
untyped_result c d t some = value_result t (put (codes "@value") t []) (value_alone t) (λ is. never (is_null t) some is)

typed_result : (c : Settings) (d : Option Definition) (k : Option Text) (t : Tree) → is_null t ≡ false → IsResult (value_typed c d k t)
typed_result c d None t some = untyped_result c d t some
typed_result c d (Some k) t some = typed k t (λ is. never (is_null t) some is)

value_is : (c : Settings) (d : Option Definition) (t : Tree) → is_null t ≡ false → IsResult (value_object c d t)
unfolding value_object
value_is c d t some = typed_result c d (datatype_of (kind_of d)) t some

text_is : (c : Settings) (d : Option Definition) (s : Text) → IfSome (value_in c d (text s)) IsResult
text_is c d s = by (is_kind (codes "@id") d) (is_kind (codes "@vocab") d)
  where
    by : (a b : Bool) → IfSome (if a then reference c false s else if b then reference c true s else Some (value_object c d (text s))) IsResult
    by true b = reference_result (expand_iri c true false s)
    by false true = reference_result (expand_iri c true true s)
    by false false = value_is c d (text s) refl

value_in_is : (c : Settings) (d : Option Definition) (t : Tree) → is_null t ≡ false → IfSome (value_in c d t) IsResult
value_in_is c d (text s) some = text_is c d s
value_in_is c d t some = value_is c d t some

pub expanded_result : (c : Settings) (p : Text) (t : Tree) → is_null t ≡ false → IfSome (expand_value c p t) IsResult
unfolding expand_value
expanded_result c p t some = value_in_is c (definition_at p c.terms) t some

-- a value that isn't expanded
string_result : (c : Settings) (d : Option Definition) (l : Text) (t : Tree) → IfSome (language_string c d l t) IsResult
string_result c d l (text s) = tagged (direction_for c d) (language_unless_none c l) s
string_result c d l _ = tt

pub map_results : (c : Settings) (d : Option Definition) (es : Pairs) → IfOk (language_map c d es) AreResults
unfolding language_map
map_results c d es =
    after_any AreResults (unless (list_all (λ e. list_all is_language_value (values_of e.1)) es) code.InvalidLanguageMapValue) _
    (λ _. all_flattened IsResult (language_strings c d) es (λ e. all_filtered IsResult (language_string c d e.0) (values_of e.1) (string_result c d e.0)))

-- what a value comes to: nothing, an object, or an array of objects
abbrev pub IsOutcome : Tree → Type 0
IsOutcome v = AreResults (as_items v)
