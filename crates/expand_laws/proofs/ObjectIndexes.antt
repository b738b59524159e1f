-- Items of maps of indexes: objects, each with what its index adds.
use Rattle.std.proofs.Common.{◌≡◌, List, [], ◌∷◌, ◌++◌, Bool, true, false, not, ◌&&◌, Option, Some, None, Result, Ok, IfOk, IfSome, is_some, refl, sym, ap, subst, codes, if◌then◌else◌}
use Rattle.std.specs.Str.{bytes_eq}
use Rattle.ld_model.specs.Tree.{Tree, null, truth, whole, one_one, text, array, object, Pairs, trees_of, tree_list, members_of, member_list-members_of, put}
use Rattle.ld_model.proofs.Puts.{member_at-put}
use Rattle.case_tables.specs.declared.code.Code.{Code}
use Rattle.case_tables.specs.declared.code.Code.TheVariants as code
use Rattle.case_tables.specs.declared.shape.Shape.{Shape}
use Rattle.ctx_types.specs.Context.{Text, Definition, Settings}
use Rattle.ctx_types.specs.Expansion.{expand_iri}
use Rattle.expand_model.specs.Scope.{container_of, expands_to, values_at, has, graph_object}
use Rattle.expand_model.specs.Values.{expand_value, put_text}
use Rattle.expand_model.specs.Indexes.{spliced, index_items, index_key, is_graph_object, in_graph, put_before, has_named, property_indexed, by_property, type_before, by_container, members_indexed, with_index, indexed, each_indexed, index_added}
use Rattle.expand_laws.specs.Objects.{IsObject, IsItem, an_object, an_indexed, IsIndexEntry, by_index, by_id, by_type, by_property as a_property_index}
use Rattle.expand_laws.proofs.Steps.{after, after_unless, if_cond, all_append}
use Rattle.expand_laws.proofs.ObjectValues.{IsResult, AreResults, AllItems, item_of, items_from, expanded_result, graph_result, list_result, IsOutcome}

-- an outcome among the items of an array
pub spliced_results : (lists : Bool) (v : Tree) → IsOutcome v → AreResults (spliced lists v)
spliced_results lists null out = tt
spliced_results true (array ts) out = (list_result (tree_list ts) (items_from (tree_list ts) out), tt)
spliced_results false (array ts) out = out
spliced_results lists (truth b) out = out
spliced_results lists (whole n) out = out
spliced_results lists one_one out = out
spliced_results lists (text s) out = out
spliced_results lists (object ms) out = out

index_results : (lists : Bool) (t v : Tree) → IsOutcome v → AreResults (index_items lists t v)
index_results lists (array ts) v out = out
index_results lists t v out = spliced_results lists v out

graph_item : (s : Shape) (t : Tree) → IsResult t → IsResult (in_graph s t)
graph_item s t is = by (s.graph && not (is_graph_object t))
  where
    by : (b : Bool) → IsResult (if b then graph_object t else t)
    by true = graph_result t (item_of t is)
    by false = is

-- the entries of an item, with what its index adds
abbrev HasItem : Pairs → Type 0
HasItem r = IsItem (object (members_of r))

module _ (r : Pairs) (kind : IsObject r) where
  as_it_is : HasItem r
  as_it_is = an_object (object (members_of r)) r refl kind

  with_entry : (k : Text) (u : Tree) → IsIndexEntry r k u → HasItem (put k u r)
  with_entry k u entry = an_indexed (object (members_of (put k u r))) r k u refl kind entry

  id_item : (o : Option Text) → has (codes "@id") r ≡ false → HasItem (put_text (codes "@id") o r)
  id_item None none = as_it_is
  id_item (Some iri) none = with_entry (codes "@id") (text iri) (by_id r (codes "@id") (text iri) refl none refl)

  type_item : (c : Settings) (i : Text) → HasItem (type_before c i r)
  type_item c i = by (expand_iri c false true i)
    where
      by : (o : Option Text) → HasItem (put_before (Some (codes "@type")) (elim o [ None ↦ None | Some t ↦ Some (text t) ]) r)
      by None = as_it_is
      by (Some s) = with_entry (codes "@type") (array (trees_of (text s ∷ values_at (codes "@type") r))) (by_type r (codes "@type") _ s refl refl)

  property_item : (k : Option Text) (v : Option Tree) → IfSome v IsResult → IfOk (property_indexed (has (codes "@value") r) k (put_before k v r)) HasItem
  property_item None v is = after_unless HasItem (not (has (codes "@value") r && has_named None (put_before None v r))) code.InvalidValueObject _ (λ _. as_it_is)
  property_item (Some k) None is = after_unless HasItem (not (has (codes "@value") r && has_named (Some k) r)) code.InvalidValueObject _ (λ _. as_it_is)
  property_item (Some k) (Some v) is =
      let u : Tree = array (trees_of (v ∷ values_at k r)) in
      after_unless HasItem (not (has (codes "@value") r && has k (put k u r))) code.InvalidValueObject _
      (λ passes. with_entry k u (a_property_index r k u v (no_value (has (codes "@value") r) (has k (put k u r)) (ap is_some (member_at-put k u r)) passes) refl (item_of v is)))
    where
      no_value : (a b : Bool) → b ≡ true → not (a && b) ≡ true → a ≡ false
      no_value true true named passes = absurd (cc)
      no_value true false named passes = absurd (cc)
      no_value false b named passes = refl

  container_item : (c : Settings) (s : Shape) (key i : Text) → IfOk (by_container c s key i r) HasItem
  container_item c s key i =
      if_cond HasItem (s.index && not (bytes_eq key (codes "@index"))) (by_property c key i r) (if s.index && not (has (codes "@index") r) then Ok (put (codes "@index") (text i) r) else third)
      (property_item (expand_iri c false true key) (expand_value c key (text i)) (expanded_result c key (text i) refl))
      (second (has (codes "@index") r) refl)
    where
      fourth : Result Pairs Code
      fourth = if s.types then Ok (type_before c i r) else Ok r

      third : Result Pairs Code
      third = if s.id && not (has (codes "@id") r) then Ok (put_text (codes "@id") (expand_iri c true false i) r) else fourth

      last : IfOk fourth HasItem
      last = if_cond HasItem s.types (Ok (type_before c i r)) (Ok r) (type_item c i) as_it_is

      by_its_id : (b : Bool) → has (codes "@id") r ≡ b → IfOk (if s.id && not b then Ok (put_text (codes "@id") (expand_iri c true false i) r) else fourth) HasItem
      by_its_id true there = and_not s.id
        where
          and_not : (a : Bool) → IfOk (if a && false then Ok (put_text (codes "@id") (expand_iri c true false i) r) else fourth) HasItem
          and_not true = last
          and_not false = last
      by_its_id false none = if_cond HasItem (s.id && true) (Ok (put_text (codes "@id") (expand_iri c true false i) r)) fourth (id_item (expand_iri c true false i) none) last

      second : (b : Bool) → has (codes "@index") r ≡ b → IfOk (if s.index && not b then Ok (put (codes "@index") (text i) r) else third) HasItem
      second true there = and_not s.index
        where
          and_not : (a : Bool) → IfOk (if a && false then Ok (put (codes "@index") (text i) r) else third) HasItem
          and_not true = by_its_id (has (codes "@id") r) refl
          and_not false = by_its_id (has (codes "@id") r) refl
      second false none =
          if_cond HasItem (s.index && true) (Ok (put (codes "@index") (text i) r)) third
          (with_entry (codes "@index") (text i) (by_index r (codes "@index") (text i) refl none refl)) (by_its_id (has (codes "@id") r) refl)

members_item : (c : Settings) (d : Option Definition) (i : Text) (r : Pairs) → IsObject r → IfOk (members_indexed c d i r) IsItem
members_item c d i r kind = after HasItem IsItem (by_container c (container_of d) (index_key d) i r) _ (container_item r kind c (container_of d) (index_key d) i) (λ r₁ is. is)

result_indexed : (c : Settings) (d : Option Definition) (i : Text) (t : Tree) → IsResult t → IfOk (with_index c d i t) IsItem
result_indexed c d i t is =
    subst (λ t. IfOk (with_index c d i t) IsItem) (sym is.is)
    (subst (λ r. IfOk (members_indexed c d i r) IsItem) (sym (member_list-members_of is.entries)) (members_item c d i is.entries is.kind))

item_indexed : (c : Settings) (d : Option Definition) (i : Text) (t : Tree) → IsResult t → IfOk (indexed c d i t) IsItem
unfolding indexed
item_indexed c d i t is =
    let u : Tree = in_graph (container_of d) t in
    let made : IsResult u = graph_item (container_of d) t is in
    if_cond IsItem (expands_to c (codes "@none") i) (Ok u) (with_index c d i u) (item_of u made) (result_indexed c d i u made)

each_item : (c : Settings) (d : Option Definition) (i : Text) (ts out : List Tree) → AreResults ts → AllItems out → IfOk (each_indexed c d i ts out) AllItems
each_item c d i [] out are all = all
each_item c d i (t ∷ ts) out are all =
    after IsItem AllItems (indexed c d i t) _ (item_indexed c d i t are.0) (λ x is. each_item c d i ts (out ++ x ∷ []) are.1 (all_append IsItem out (x ∷ []) all (is, tt)))

pub index_added_items : (c : Settings) (d : Option Definition) (lists : Bool) (i : Text) (t v : Tree) (out : List Tree) → IsOutcome v → AllItems out → IfOk (index_added c d lists i t v out) AllItems
unfolding index_added
index_added_items c d lists i t v out is all = each_item c d i (index_items lists t v) out (index_results lists t v is) all
