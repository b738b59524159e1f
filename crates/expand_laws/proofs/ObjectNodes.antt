-- What a document expands to is made of objects.
use Rattle.std.proofs.Common.{◌≡◌, List, [], ◌∷◌, Bool, true, false, Option, Some, None, Ok, IfOk, IfSome, refl, sym, ap, ◌∙◌, subst, codes, if◌then◌else◌}
use Rattle.std.specs.List.{AllByRecursion}
use Rattle.std.specs.Str.{bytes_eq}
use Rattle.ld_model.specs.Tree.{Tree, null, truth, whole, one_one, text, array, object, Members, no_members, member, Pairs, trees_of, tree_list, tree_list-trees_of, members_of, member_list-members_of, member_at}
use Rattle.ld_model.proofs.Puts.{ascending_nil, at_first, bytes_eq-refl}
use Rattle.ctx_types.specs.Context.{Text}
use Rattle.expand_model.specs.Scope.{Options, Scope, definition_of, as_items, is_top, is_map, is_null, members_in}
use Rattle.expand_model.specs.Values.{expand_value}
use Rattle.expand_model.specs.Contexts.{in_property}
use Rattle.expand_model.specs.Entries.{under}
use Rattle.expand_model.specs.Rules.{At, or_null, scalar_in, scalar_under, scalar, scalar_at, lists_at, spliced, finished, finished_at, start, whole_items}
use Rattle.expand_model.specs.Expand.{element, document}
use Rattle.expand_laws.specs.Objects.{is_value_key, is_list_key, IsObject, value_object, list_object, node_object, IsEntry, a_text, the_types, the_reverse, the_included, the_items}
use Rattle.expand_laws.specs.Laws.{OutcomeIsMadeOfObjects}
use Rattle.expand_laws.proofs.Steps.{never, after, after_any, of_any, of_both, of_case, of_value, of_located, if_cond, all_map, all_append}
use Rattle.expand_laws.proofs.Names.{held}
use Rattle.expand_laws.proofs.Lookups.{clash, none_passes, all_of}
use Rattle.expand_laws.proofs.TopEntries.{is_under_reverse}
use Rattle.expand_laws.proofs.TopFinish.{finished_same}
use Rattle.expand_laws.proofs.Walk.{Rules, element_comes}
use Rattle.expand_laws.proofs.ObjectValues.{IsResult, AreResults, AllItems, items_from, are_items, items_of, expanded_result, IsOutcome}
use Rattle.expand_laws.proofs.ObjectEntries.{Drafted, Draft, property_added_draft, property_told_draft, keyword_told_draft, items_put_draft, included_draft, set_draft, IsBackward, reverse_map_draft}
use Rattle.expand_laws.proofs.ObjectFinish.{finished_object}
use Rattle.expand_laws.proofs.ObjectIndexes.{spliced_results, index_added_items}

-- what a value comes to under this property
record Comes (t : Tree) (p : Option Text) (v : Tree) : Type 0 where
  out : IsOutcome v
  reverse : is_map t ≡ true → is_under_reverse p ≡ true → AllByRecursion IsBackward (members_in v)

-- scalars
result_outcome : (o : Option Tree) → IfSome o IsResult → IsOutcome (or_null o)
result_outcome None is = tt
result_outcome (Some v) is = subst (λ v. IsOutcome v) (sym is.is) (record { entries = is.entries; is = refl; kind = is.kind }, tt)

scalar_out : (o : Options) (p : Option Text) (t : Tree) (a : Scope) → is_null t ≡ false → IfOk (scalar_under o p t a) IsOutcome
scalar_out o None t a some = tt
scalar_out o (Some p) t a some =
    if_cond IsOutcome (is_top (Some p)) (Ok null) (scalar_in o p t a) tt
    (after_any IsOutcome (in_property o (definition_of (Some p) a.context) a.context) _ (λ c. result_outcome (expand_value c.current p t) (expanded_result c.current p t some)))

scalar_comes : (o : Options) (t : Tree) (a : At) → is_null t ≡ false → is_map t ≡ false → IfOk (scalar_at o t a) (Comes t a.scope.property)
unfolding scalar
scalar_comes o t a some none =
    of_located (Comes t a.scope.property) a.place (scalar_under o a.scope.property t a.scope)
    (of_both IsOutcome (λ v. Unit {0}) (Comes t a.scope.property) (scalar_under o a.scope.property t a.scope)
    (scalar_out o a.scope.property t a.scope some) (of_any (λ v. Unit {0}) (scalar_under o a.scope.property t a.scope) (λ v. tt))
    (λ v out _. record { out = out; reverse = λ map under. never (is_map t) none map }))

item_results : (lists : Bool) (v : Tree) → IsOutcome v → AreResults (spliced lists v)
unfolding spliced
item_results lists v out = spliced_results lists v out

-- a map, from what its entries came to
reversed_entries : (p : Option Text) (r : Pairs) → is_under_reverse p ≡ true → Draft p r → AllByRecursion IsBackward r
reversed_entries p r under draft = all_map (Drafted p) IsBackward r (λ m is. record { draft = is.draft; key = is.key under }) draft.each

finished_comes : (ms : Members) (a : At) (r : Pairs) → Draft a.scope.property r → IfOk (finished_at a r) (Comes (object ms) a.scope.property)
finished_comes ms a r draft =
    let p : Option Text = a.scope.property in
    of_located (Comes (object ms) p) a.place (finished r p)
    (of_both IsOutcome (λ v. is_under_reverse p ≡ true → AllByRecursion IsBackward (members_in v)) (Comes (object ms) p) (finished r p)
    (finished_object p r draft)
    (of_case (is_under_reverse p ≡ true) (λ v. AllByRecursion IsBackward (members_in v)) (finished r p) (λ under. finished_same p IsBackward (λ m is. is.key) r (reversed_entries p r under draft)))
    (λ v out reversed. record { out = out; reverse = λ map under. reversed under }))

nothing_drafted : (p : Option Text) → Draft p []
nothing_drafted p = record { ascending = ascending_nil; each = tt }

-- the rules
abbrev AreOut : At → List Tree → Type 0
AreOut a out = AreResults out

rules_of_objects : (o : Options) → Rules o Comes AreOut Draft AllItems
rules_of_objects o =
    record {
      nothing = λ p. record { out = tt; reverse = λ map under. tt };
      scalars = λ t a some none. scalar_comes o t a some none;
      no_items = λ a. tt;
      next_item = λ t a out v come are. all_append IsResult out (spliced (lists_at a) v) are (item_results (lists_at a) v come.out);
      arrays = λ ts a rs are. record { out = subst AreResults (sym (tree_list-trees_of rs)) are; reverse = λ map under. tt };
      maps = λ ms a r draft. finished_comes ms a r draft;
      no_entries = λ p. nothing_drafted p;
      told = λ p c types json w t r draft. keyword_told_draft p c types json w t r draft;
      graphs = λ p t v r forward come draft. items_put_draft p (codes "@graph") v r refl forward come.out draft;
      includes = λ p t v r forward come draft. included_draft p v r forward come.out draft;
      lists = λ p t v r forward come draft. items_put_draft p (codes "@list") v r refl forward come.out draft;
      sets = λ p t v r forward come draft. set_draft p v r forward come.out draft;
      reverses = λ p t v r map come draft. reverse_map_draft p v r (come.reverse map refl) draft;
      properties_told = λ p c d i t r has draft. property_told_draft p c d i t r has draft;
      properties = λ p q d i t v r has come draft. property_added_draft p d i v r has (items_from (as_items v) come.out) draft;
      indexed = λ p d i out r has all draft. property_added_draft p d i (array (trees_of out)) r has (subst AllItems (sym (tree_list-trees_of out)) all) draft;
      no_indexes = tt;
      indexes = λ c d l i q t v out come all. index_added_items c d l i t v out come.out all;
    }

-- the whole document
graph_items : (k : Text) (t : Tree) → bytes_eq k (codes "@graph") ≡ true → IsEntry k t → AllItems (as_items t)
graph_items _ _ same (a_text k t key is_a_text) = never (bytes_eq k (codes "@graph")) (none_passes (λ k. bytes_eq k (codes "@graph")) k (codes "@direction" ∷ codes "@id" ∷ codes "@index" ∷ codes "@language" ∷ []) refl key) same
graph_items _ _ same (the_types k t here are) = clash (λ k. bytes_eq k (codes "@graph")) k (codes "@type") here refl same
graph_items _ _ same (the_reverse k t r here is sorted looks) = clash (λ k. bytes_eq k (codes "@graph")) k (codes "@reverse") here refl same
graph_items _ _ same (the_included k t ts here is are nodes) = clash (λ k. bytes_eq k (codes "@graph")) k (codes "@included") here refl same
graph_items _ _ same (the_items k t ts key is are) = subst (λ t. AllItems (as_items t)) (sym is) (subst AllItems (sym (tree_list-trees_of ts)) (items_of ts are))

graph_in : (r : Pairs) (k : Text) (t : Tree) → IsObject r → member_at k r ≡ Some t → bytes_eq k (codes "@graph") ≡ true → AllItems (as_items t)
graph_in _ k t (value_object r is) at same = clash is_value_key k (codes "@graph") same refl (held (λ m. is_value_key m.0 ≡ true) k t r (all_of (λ m. is_value_key m.0) r is.keys) at)
graph_in _ k t (list_object r keys looks) at same = clash is_list_key k (codes "@graph") same refl (keys.keys k t at)
graph_in _ k t (node_object r keys looks) at same = graph_items k t same (looks k t at)

alone_at : (k : Text) (t : Tree) (r : Pairs) → object (member k t no_members) ≡ object (members_of r) → member_at k r ≡ Some t
alone_at k t r is =
    let same : (k, t) ∷ [] ≡ r = ap members_in is ∙ member_list-members_of r in
    ap (member_at k) (sym same) ∙ at_first k (k, t) [] (bytes_eq-refl k)

whole_all : (v : Tree) → IsOutcome v → AllItems (whole_items v)
whole_all null out = tt
whole_all (truth b) out = items_from (as_items (truth b)) out
whole_all (whole n) out = items_from (as_items (whole n)) out
whole_all one_one out = items_from (as_items one_one) out
whole_all (text s) out = items_from (as_items (text s)) out
whole_all (array ts) out = items_from (tree_list ts) out
whole_all (object no_members) out = items_from (as_items (object no_members)) out
whole_all (object (member k t (member l u ms))) out = items_from (as_items (object (member k t (member l u ms)))) out
whole_all (object (member k t no_members)) out = by (bytes_eq k (codes "@graph")) refl
  where
    by : (b : Bool) → bytes_eq k (codes "@graph") ≡ b → AllItems (if b then as_items t else object (member k t no_members) ∷ [])
    by true same = graph_in out.0.entries k t out.0.kind (alone_at k t out.0.entries out.0.is) same
    by false other = items_from (object (member k t no_members) ∷ []) out

expands_to_items : (o : Options) (t : Tree) → IfOk (document o t) AllItems
unfolding document
expands_to_items o t = after (Comes t None) AllItems (element o t (start o)) _ (element_comes o Comes AreOut Draft AllItems (rules_of_objects o) t (start o)) (λ v come. whole_all v come.out)

pub outcome_is_made_of_objects : OutcomeIsMadeOfObjects
outcome_is_made_of_objects o t ts is = are_items ts (of_value AllItems (document o t) ts (expands_to_items o t) is)
