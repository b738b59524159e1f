-- A map whose entries were drafted is an object in the end.
use Rattle.std.proofs.Common.{◌≡◌, [], ◌∷◌, Bool, true, false, not, ◌||◌, Option, Some, None, Ok, IfOk, is_some, refl, sym, ap, ◌∙◌, subst, codes, if◌then◌else◌}
use Rattle.std.specs.Option.{option_map_or, unwrap_or}
use Rattle.std.specs.List.{list_all}
use Rattle.std.specs.Str.{bytes_eq}
use Rattle.ld_model.specs.Tree.{Tree, null, text, array, object, no_trees, tree, Pairs, tree_list, members_of, member_at, put}
use Rattle.ld_model.proofs.Truths.{both}
use Rattle.ld_model.proofs.Puts.{member_at-put, member_at-put_other, bytes_eq-exact}
use Rattle.case_tables.specs.declared.code.Code.TheVariants as code
use Rattle.ctx_types.specs.Context.{Text}
use Rattle.ctx_model.specs.Outcome.{unless}
use Rattle.expand_model.specs.Scope.{has, is_null, is_text}
use Rattle.expand_model.specs.Finish.{are_value_entries, is_json_word, is_datatype, literal_tested, literal_finished, value_finished, types_array, is_set_key, is_set_or_list, are_set_entries, set_taken, node_finished, by_value, unless_dropped, finish_map}
use Rattle.expand_model.specs.Rules.{or_null, finished}
use Rattle.expand_laws.specs.Objects.{is_value_key, is_list_key, has_text, has_items, are_types, IsObject, value_object, list_object, node_object, IsEntry, a_text, the_types, the_reverse, the_included, the_items}
use Rattle.expand_laws.proofs.Steps.{never, after, after_any, after_unless}
use Rattle.expand_laws.proofs.Names.{held}
use Rattle.expand_laws.proofs.Lookups.{clash, none_passes, all_of, of_all}
use Rattle.expand_laws.proofs.ObjectValues.{IsOutcome}
use Rattle.expand_laws.proofs.ObjectEntries.{IsDraft, an_entry, a_value, a_set, a_type, Drafted, Draft, put_draft, drafted_at, draft_types}
use Rattle.expand_laws.proofs.TopFinish.{or_dropped, types_either}

-- what is looked up is one thing
same_there : (t u : Tree) (o : Option Tree) → o ≡ Some t → o ≡ Some u → t ≡ u
same_there t u o at there = ap (λ o. unwrap_or o null) (sym at ∙ there)

not_there : {A : Type 0} (t : Tree) (o : Option Tree) → o ≡ None → o ≡ Some t → A
not_there t o none at = let never : None ≡ Some t = sym none ∙ at in absurd (cc)

at_word : (k w : Text) (t : Tree) (r : Pairs) → bytes_eq k w ≡ true → member_at k r ≡ Some t → member_at w r ≡ Some t
at_word k w t r same at = subst (λ k. member_at k r ≡ Some t) (bytes_eq-exact k w same) at

-- entries of a value object
entry_text : (k : Text) (t : Tree) → IsEntry k t → is_value_key k ≡ true → (bytes_eq k (codes "@type") ≡ true → is_text t ≡ true) → is_text t ≡ true
entry_text _ _ (a_text k t key is_a_text) value type = is_a_text
entry_text _ _ (the_types k t same are) value type = type same
entry_text _ _ (the_reverse k t r same is sorted looks) value type = clash is_value_key k (codes "@reverse") same refl value
entry_text _ _ (the_included k t ts same is are nodes) value type = clash is_value_key k (codes "@included") same refl value
entry_text _ _ (the_items k t ts key is are) value type =
    never (has_items k) (none_passes has_items k (codes "@direction" ∷ codes "@index" ∷ codes "@language" ∷ codes "@type" ∷ codes "@value" ∷ []) refl value) key

draft_text : (m : Text × Tree) → IsDraft m → is_value_key m.0 ≡ true → bytes_eq m.0 (codes "@value") ≡ false → (bytes_eq m.0 (codes "@type") ≡ true → is_text m.1 ≡ true) → is_text m.1 ≡ true
draft_text _ (an_entry m entry) value other type = entry_text m.0 m.1 entry value type
draft_text _ (a_value m same) value other type = never (bytes_eq m.0 (codes "@value")) other same
draft_text _ (a_set m same out) value other type = clash is_value_key m.0 (codes "@set") same refl value
draft_text _ (a_type m same is_a_text) value other type = is_a_text

datatype_text : (t : Tree) → is_datatype t ≡ true → is_text t ≡ true
datatype_text (text s) is = refl
datatype_text _ is = absurd (cc)

-- the value of `@set`
entry_set : {A : Type 0} (k : Text) (t : Tree) → IsEntry k t → bytes_eq k (codes "@set") ≡ true → A
entry_set _ _ (a_text k t key is_a_text) same = clash has_text k (codes "@set") same refl key
entry_set _ _ (the_types k t here are) same = clash (λ k. bytes_eq k (codes "@type")) k (codes "@set") same refl here
entry_set _ _ (the_reverse k t r here is sorted looks) same = clash (λ k. bytes_eq k (codes "@reverse")) k (codes "@set") same refl here
entry_set _ _ (the_included k t ts here is are nodes) same = clash (λ k. bytes_eq k (codes "@included")) k (codes "@set") same refl here
entry_set _ _ (the_items k t ts key is are) same = clash has_items k (codes "@set") same refl key

draft_set : (m : Text × Tree) → IsDraft m → bytes_eq m.0 (codes "@set") ≡ true → IsOutcome m.1
draft_set _ (an_entry m entry) same = entry_set m.0 m.1 entry same
draft_set _ (a_value m here) same = clash (λ k. bytes_eq k (codes "@value")) m.0 (codes "@set") same refl here
draft_set _ (a_set m here out) same = out
draft_set _ (a_type m here is_a_text) same = clash (λ k. bytes_eq k (codes "@type")) m.0 (codes "@set") same refl here

-- entries of a list object
draft_list : (m : Text × Tree) → IsDraft m → is_list_key m.0 ≡ true → IsEntry m.0 m.1
draft_list _ (an_entry m entry) key = entry
draft_list _ (a_value m same) key = clash is_list_key m.0 (codes "@value") same refl key
draft_list _ (a_set m same out) key = clash is_list_key m.0 (codes "@set") same refl key
draft_list _ (a_type m same is_a_text) key = clash is_list_key m.0 (codes "@type") same refl key

list_key : (k : Text) → is_set_key (k, null) ≡ true → bytes_eq k (codes "@set") ≡ false → is_list_key k ≡ true
list_key k is other = by (bytes_eq k (codes "@index")) (bytes_eq k (codes "@list")) (bytes_eq k (codes "@set")) is other
  where
    by : (a b c : Bool) → (a || (b || (c || false))) ≡ true → c ≡ false → (a || (b || false)) ≡ true
    by true b c is other = refl
    by false true c is other = refl
    by false false true is other = absurd (cc)
    by false false false is other = absurd (cc)

listed_entries : (a b c : Bool) → b ≡ true → (not (a || b) || c) ≡ true → c ≡ true
listed_entries true b c list is = is
listed_entries false true c list is = is
listed_entries false false c list is = absurd (cc)

module _ (p : Option Text) where
  abbrev Out : Option Tree → Type 0
  Out x = IsOutcome (or_null (unless_dropped p x))

  kept : (r : Pairs) → IsObject r → Out (Some (object (members_of r)))
  kept r kind = or_dropped IsOutcome p (object (members_of r)) tt (λ _. (record { entries = r; is = refl; kind = kind }, tt))

  -- a value object
  module _ (r : Pairs) (d : Draft p r) (v : Tree) (stands : member_at (codes "@value") r ≡ Some v) where
    value_kept : are_value_entries r ≡ true → ((t : Tree) → member_at (codes "@type") r ≡ Some t → is_text t ≡ true) → (is_null v ≡ true → member_at (codes "@type") r ≡ Some (text (codes "@json"))) → Out (Some (object (members_of r)))
    value_kept are type some =
        kept r (value_object r (record { ascending = d.ascending; keys = keys; value = v; stands = stands; some = some; texts = texts }))
      where
        keys : list_all (λ m. is_value_key m.0) r ≡ true
        keys = (both (list_all (λ m. is_value_key m.0) r) _ are).0

        texts : (k : Text) (t : Tree) → member_at k r ≡ Some t → bytes_eq k (codes "@value") ≡ false → is_text t ≡ true
        texts k t at other =
            draft_text (k, t) (drafted_at p k t r d at) (held (λ m. is_value_key m.0 ≡ true) k t r (all_of (λ m. is_value_key m.0) r keys) at) other
            (λ same. type t (at_word k (codes "@type") t r same at))

    literal_out : are_value_entries r ≡ true → IfOk (literal_finished v r) Out
    literal_out are = by (is_null v) refl
      where
        type_of : option_map_or is_datatype (member_at (codes "@type") r) true ≡ true → (t : Tree) → member_at (codes "@type") r ≡ Some t → is_text t ≡ true
        type_of passes t at = datatype_text t (sym (ap (λ o. option_map_or is_datatype o true) at) ∙ passes)

        by : (b : Bool) → is_null v ≡ b → IfOk (if b then Ok None else literal_tested v r) Out
        by true is = tt
        by false some =
            after_any Out (unless (not (has (codes "@language") r) || is_text v) code.InvalidLanguageTaggedValue) _
            (λ _. after_unless Out (option_map_or is_datatype (member_at (codes "@type") r) true) code.InvalidTypedValue _
            (λ passes. value_kept are (type_of passes) (λ is. never (is_null v) some is)))

    value_by : are_value_entries r ≡ true → (o : Option Tree) → member_at (codes "@type") r ≡ o → IfOk (if option_map_or is_json_word o false then Ok (Some (object (members_of r))) else literal_finished v r) Out
    value_by are (Some (text s)) at = by (bytes_eq s (codes "@json")) refl
      where
        by : (b : Bool) → bytes_eq s (codes "@json") ≡ b → IfOk (if b then Ok (Some (object (members_of r))) else literal_finished v r) Out
        by true json =
            value_kept are (λ t there. subst (λ t. is_text t ≡ true) (same_there (text s) t (member_at (codes "@type") r) at there) refl)
            (λ is. at ∙ ap (λ s. Some (text s)) (bytes_eq-exact s (codes "@json") json))
        by false other = literal_out are
    value_by are None at = literal_out are
    value_by are (Some _) at = literal_out are

    value_out : IfOk (value_finished v r) Out
    value_out = after_unless Out (are_value_entries r) code.InvalidValueObject _ (λ are. value_by are (member_at (codes "@type") r) refl)

  -- the types, as an array
  abbrev TypesStand : Pairs → Type 0
  TypesStand r = (t : Tree) → member_at (codes "@type") r ≡ Some t → are_types t ≡ true

  one_type : (t : Tree) → is_text t ≡ true → are_types (array (tree t no_trees)) ≡ true
  one_type t is = of_all is_text (t ∷ []) (is, tt)

  with_type : (r : Pairs) (t : Tree) → Draft p r → member_at (codes "@type") r ≡ Some t → is_text t ≡ true → Draft p (put (codes "@type") (array (tree t no_trees)) r) × TypesStand (put (codes "@type") (array (tree t no_trees)) r)
  with_type r t d at is = (
    put_draft p (codes "@type") (array (tree t no_trees)) r
        (record { draft = an_entry (codes "@type", array (tree t no_trees)) (the_types (codes "@type") (array (tree t no_trees)) refl (one_type t is)); key = (held (Drafted p) (codes "@type") t r d.each at).key }) d,
    λ u there. subst (λ u. are_types u ≡ true) (same_there (array (tree t no_trees)) u _ (member_at-put (codes "@type") (array (tree t no_trees)) r) there) (one_type t is),
  )

  arrayed : (r : Pairs) (o : Option Tree) → Draft p r → member_at (codes "@type") r ≡ o → Draft p (types_array o r) × TypesStand (types_array o r)
  arrayed r None d at = (d, λ t there. not_there t (member_at (codes "@type") r) at there)
  arrayed r (Some (array ts)) d at =
      (d, λ u there. subst (λ u. are_types u ≡ true) (same_there (array ts) u (member_at (codes "@type") r) at there) (of_all is_text (tree_list ts) (draft_types (codes "@type", array ts) (drafted_at p (codes "@type") (array ts) r d at) refl)))
  arrayed r (Some t) d at = with_type r t d at (draft_types (codes "@type", t) (drafted_at p (codes "@type") t r d at) refl).0

  -- a node object, a list object, or a set
  module _ (r : Pairs) (d : Draft p r) (types : TypesStand r) (no_value : member_at (codes "@value") r ≡ None) where
    draft_node : member_at (codes "@set") r ≡ None → (m : Text × Tree) → IsDraft m → member_at m.0 r ≡ Some m.1 → IsEntry m.0 m.1
    draft_node no_set _ (an_entry m entry) at = entry
    draft_node no_set _ (a_value m same) at = not_there m.1 (member_at (codes "@value") r) no_value (at_word m.0 (codes "@value") m.1 r same at)
    draft_node no_set _ (a_set m same out) at = not_there m.1 (member_at (codes "@set") r) no_set (at_word m.0 (codes "@set") m.1 r same at)
    draft_node no_set _ (a_type m same is_a_text) at = the_types m.0 m.1 same (types m.1 (at_word m.0 (codes "@type") m.1 r same at))

    node_kept : member_at (codes "@set") r ≡ None → has (codes "@list") r ≡ false → Out (Some (object (members_of r)))
    node_kept no_set no_list =
        kept r (node_object r (record { ascending = d.ascending; no_value = ap is_some no_value; no_list = no_list; no_set = ap is_some no_set })
        (λ k t at. draft_node no_set (k, t) (drafted_at p k t r d at) at))

    list_kept : member_at (codes "@set") r ≡ None → has (codes "@list") r ≡ true → list_all is_set_key r ≡ true → Out (Some (object (members_of r)))
    list_kept no_set list all =
        kept r (list_object r (record { ascending = d.ascending; list = list; keys = keys }) (λ k t at. draft_list (k, t) (drafted_at p k t r d at) (keys k t at)))
      where
        other : (k : Text) (t : Tree) (b : Bool) → bytes_eq k (codes "@set") ≡ b → member_at k r ≡ Some t → b ≡ false
        other k t true same at = not_there t (member_at (codes "@set") r) no_set (at_word k (codes "@set") t r same at)
        other k t false same at = refl

        keys : (k : Text) (t : Tree) → member_at k r ≡ Some t → is_list_key k ≡ true
        keys k t at = list_key k (held (λ m. is_set_key m ≡ true) k t r (all_of is_set_key r all) at) (other k t (bytes_eq k (codes "@set")) refl at)

    set_out : (not (is_set_or_list r) || are_set_entries r) ≡ true → (o : Option Tree) → member_at (codes "@set") r ≡ o → Out (set_taken o r)
    set_out passes None at = by (has (codes "@list") r) refl
      where
        by : (b : Bool) → has (codes "@list") r ≡ b → Out (Some (object (members_of r)))
        by true list = list_kept at list (both (list_all is_set_key r) _ (listed_entries (has (codes "@set") r) (has (codes "@list") r) (are_set_entries r) list passes)).0
        by false no_list = node_kept at no_list
    set_out passes (Some null) at = tt
    set_out passes (Some t) at = or_dropped IsOutcome p t tt (λ _. draft_set (codes "@set", t) (drafted_at p (codes "@set") t r d at) refl)

    node_out : IfOk (node_finished r) Out
    node_out = after_unless Out (not (is_set_or_list r) || are_set_entries r) code.InvalidSetOrListObject _ (λ passes. set_out passes (member_at (codes "@set") r) refl)

  by_value_out : (r : Pairs) (o : Option Tree) → Draft p r → member_at (codes "@value") r ≡ o → IfOk (by_value o r) Out
  by_value_out r (Some v) d at = value_out r d v at
  by_value_out r None d at =
      let typed = arrayed r (member_at (codes "@type") r) d refl in
      node_out (types_array (member_at (codes "@type") r) r) typed.0 typed.1
      (types_either (λ r. member_at (codes "@value") r ≡ None) (member_at (codes "@type") r) r at (λ t. member_at-put_other (codes "@value") (codes "@type") t r refl ∙ at))

  pub finished_object : (r : Pairs) → Draft p r → IfOk (finished r p) IsOutcome
  unfolding finish_map
  finished_object r d =
      after (λ x. IsOutcome (or_null x)) IsOutcome (finish_map r p) _
      (after Out (λ x. IsOutcome (or_null x)) (by_value (member_at (codes "@value") r) r) _ (by_value_out r (member_at (codes "@value") r) d refl) (λ x holds. holds))
      (λ x holds. holds)
