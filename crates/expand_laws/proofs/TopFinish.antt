-- What a map comes to at the top of a graph, and under `@reverse`.
use Rattle.std.proofs.Common.{◌≡◌, Bool, true, false, not, ◌&&◌, ◌||◌, Option, Some, None, Ok, refl, sym, ap, ◌∙◌, subst, codes, IfOk, is_some, if◌then◌else◌}
use Rattle.std.specs.Option.{option_map_or}
use Rattle.std.specs.List.{AllByRecursion, list_any}
use Rattle.std.specs.Str.{bytes_eq}
use Rattle.ld_model.specs.Tree.{Tree, null, array, object, no_trees, tree, Pairs, members_of, member_list, member_list-members_of, member_at, put, is_empty}
use Rattle.ld_model.proofs.Puts.{all-put, member_at-put_other, bytes_eq-exact}
use Rattle.iri_ref.specs.Parts.{colon}
use Rattle.case_tables.specs.declared.code.Code.TheVariants as code
use Rattle.ctx_types.specs.Context.{Text}
use Rattle.ctx_model.specs.Outcome.{unless}
use Rattle.expand_model.specs.Scope.{as_items, has, is_null, is_text, is_top, members_in}
use Rattle.expand_model.specs.Finish.{are_value_entries, is_json_word, is_datatype, literal_tested, literal_finished, value_finished, types_array, is_set_or_list, are_set_entries, set_taken, node_finished, by_value, is_lone, is_free, is_dropped, unless_dropped, finish_map}
use Rattle.expand_model.specs.Rules.{or_null, finished}
use Rattle.expand_laws.specs.Statements.{IsNodeObject}
use Rattle.expand_laws.proofs.Steps.{never, after, after_any, if_cond, all_map}
use Rattle.expand_laws.proofs.Names.{HasColon, held}
use Rattle.expand_laws.proofs.TopEntries.{GraphFits, IsTopNode, IsReversal, is_under_reverse, Fits, AllFit, word_fits}

-- what is dropped is null
pub or_dropped : (Q : Tree → Type 0) (p : Option Text) (t : Tree) → Q null → (is_dropped p t ≡ false → Q t) → Q (or_null (unless_dropped p (Some t)))
or_dropped Q p t nothing kept = by (is_dropped p t) refl
  where
    by : (b : Bool) → is_dropped p t ≡ b → Q (or_null (if b then None else Some t))
    by true is = nothing
    by false is = kept is

free_when : (lone top empty value list id : Bool) → top ≡ true → (value || list) ≡ true → (lone || (top && (empty || value || list || id))) ≡ true
free_when true top empty value list id is has = refl
free_when false true true value list id is has = refl
free_when false true false true list id is has = refl
free_when false true false false true id is has = refl
free_when false true false false false id is has = absurd (cc)
free_when false false empty value list id is has = absurd (cc)

-- at the top a value object and a list object are dropped
pub dropped_when : (p : Option Text) (r : Pairs) → is_top p ≡ true → (has (codes "@value") r || has (codes "@list") r) ≡ true → is_dropped p (object (members_of r)) ≡ true
dropped_when p r top says =
    ap (λ q. is_lone (codes "@language") q || (is_top p && is_free q)) (member_list-members_of r)
    ∙ free_when (is_lone (codes "@language") r) (is_top p) (is_empty r) (has (codes "@value") r) (has (codes "@list") r) (is_lone (codes "@id") r) top says

either : (a b : Bool) → (a || b) ≡ false → (a ≡ false) × (b ≡ false)
either true b is = absurd (cc)
either false b is = (refl, is)

-- the types, as an array or as they are
pub types_either : (Q : Pairs → Type 0) (o : Option Tree) (r : Pairs) → Q r → ((t : Tree) → Q (put (codes "@type") t r)) → Q (types_array o r)
types_either Q None r same changed = same
types_either Q (Some (array ts)) r same changed = same
types_either Q (Some t) r same changed = changed (array (tree t no_trees))

top_is_forward : (p : Option Text) → is_top p ≡ true → is_under_reverse p ≡ false
top_is_forward None top = refl
top_is_forward (Some p) top = ap (λ p. is_under_reverse (Some p)) (bytes_eq-exact p (codes "@graph") top)

module _ (p : Option Text) where
  abbrev TopOutcome : Option Tree → Type 0
  TopOutcome x = AllByRecursion IsTopNode (as_items (or_null (unless_dropped p x)))

  module _ (top : is_top p ≡ true) where
    value_dropped : (r : Pairs) (v : Tree) → member_at (codes "@value") r ≡ Some v → TopOutcome (Some (object (members_of r)))
    value_dropped r v at =
        or_dropped (λ t. AllByRecursion IsTopNode (as_items t)) p (object (members_of r)) tt
        (λ kept. never (is_dropped p (object (members_of r))) kept (dropped_when p r top (ap (λ o. is_some o || has (codes "@list") r) at)))

    value_top : (r : Pairs) (v : Tree) → member_at (codes "@value") r ≡ Some v → IfOk (value_finished v r) TopOutcome
    value_top r v at =
        after_any TopOutcome (unless (are_value_entries r) code.InvalidValueObject) _
        (λ _. if_cond TopOutcome (option_map_or is_json_word (member_at (codes "@type") r) false) (Ok (Some (object (members_of r)))) (literal_finished v r) (value_dropped r v at)
        (if_cond TopOutcome (is_null v) (Ok None) (literal_tested v r) tt
        (after_any TopOutcome (unless (not (has (codes "@language") r) || is_text v) code.InvalidLanguageTaggedValue) _
        (λ _. after_any TopOutcome (unless (option_map_or is_datatype (member_at (codes "@type") r) true) code.InvalidTypedValue) _
        (λ _. value_dropped r v at)))))

    node_kept : (r : Pairs) → AllFit p r → member_at (codes "@value") r ≡ None → member_at (codes "@set") r ≡ None → TopOutcome (Some (object (members_of r)))
    node_kept r all value set =
        or_dropped (λ t. AllByRecursion IsTopNode (as_items t)) p (object (members_of r)) tt
        (λ kept. (record { node = node kept; graph = graph }, tt))
      where
        no_list_there : (b : Bool) → has (codes "@list") r ≡ b → is_dropped p (object (members_of r)) ≡ false → b ≡ false
        no_list_there true says kept = never (is_dropped p (object (members_of r))) kept (dropped_when p r top (ap (λ o. is_some o || has (codes "@list") r) value ∙ says))
        no_list_there false says kept = refl

        node : is_dropped p (object (members_of r)) ≡ false → IsNodeObject (object (members_of r))
        node kept =
            record {
              map = refl;
              no_value = ap (λ q. has (codes "@value") q) (member_list-members_of r) ∙ ap is_some value;
              no_list = ap (λ q. has (codes "@list") q) (member_list-members_of r) ∙ no_list_there (has (codes "@list") r) refl kept;
              no_set = ap (λ q. has (codes "@set") q) (member_list-members_of r) ∙ ap is_some set;
            }

        graph : AllByRecursion GraphFits (member_list (members_of r))
        graph = subst (AllByRecursion GraphFits) (sym (member_list-members_of r)) (all_map (Fits p) GraphFits r (λ m fits. fits.graph) all)

    set_top : (r : Pairs) (o : Option Tree) → member_at (codes "@set") r ≡ o → AllFit p r → member_at (codes "@value") r ≡ None → TopOutcome (set_taken o r)
    set_top r None at all value = node_kept r all value at
    set_top r (Some null) at all value = tt
    set_top r (Some t) at all value = or_dropped (λ t. AllByRecursion IsTopNode (as_items t)) p t tt (λ kept. (held (Fits p) (codes "@set") t r all at).set refl top)

    node_top : (r : Pairs) → AllFit p r → member_at (codes "@value") r ≡ None → IfOk (node_finished r) TopOutcome
    node_top r all value =
        after_any TopOutcome (unless (not (is_set_or_list r) || are_set_entries r) code.InvalidSetOrListObject) _
        (λ _. set_top r (member_at (codes "@set") r) refl all value)

    by_value_top : (r : Pairs) (o : Option Tree) → member_at (codes "@value") r ≡ o → AllFit p r → IfOk (by_value o r) TopOutcome
    by_value_top r (Some v) at all = value_top r v at
    by_value_top r None at all =
        node_top (types_array (member_at (codes "@type") r) r)
        (types_either (AllFit p) (member_at (codes "@type") r) r all (λ t. all-put (Fits p) (codes "@type") t r (word_fits p (codes "@type") t (top_is_forward p top) refl refl refl) all))
        (types_either (λ r. member_at (codes "@value") r ≡ None) (member_at (codes "@type") r) r at (λ t. member_at-put_other (codes "@value") (codes "@type") t r refl ∙ at))

    pub finished_top : (r : Pairs) → AllFit p r → IfOk (finished r p) (λ v. AllByRecursion IsTopNode (as_items v))
    unfolding finish_map
    finished_top r all =
        after (λ x. AllByRecursion IsTopNode (as_items (or_null x))) (λ v. AllByRecursion IsTopNode (as_items v)) (finish_map r p) _
        (after TopOutcome (λ x. AllByRecursion IsTopNode (as_items (or_null x))) (by_value (member_at (codes "@value") r) r) _ (by_value_top r (member_at (codes "@value") r) refl all) (λ x holds. holds))
        (λ x holds. holds)

-- Where each key is `@reverse` or has a colon, a map stays as it is.
module _ (p : Option Text) (P : Text × Tree → Type 0) (key : (m : Text × Tree) → P m → bytes_eq m.0 (codes "@reverse") ≡ false → HasColon m.0) where
  absent : (w : Text) (r : Pairs) → AllByRecursion P r → bytes_eq w (codes "@reverse") ≡ false → list_any colon w ≡ false → member_at w r ≡ None
  absent w r all other none = by (member_at w r) refl
    where
      by : (o : Option Tree) → member_at w r ≡ o → o ≡ None
      by None at = refl
      by (Some t) at = never (list_any colon w) none (key (w, t) (held P w t r all at) other)

  abbrev SameOutcome : Option Tree → Type 0
  SameOutcome x = AllByRecursion P (members_in (or_null (unless_dropped p x)))

  map_same : (r : Pairs) → AllByRecursion P r → SameOutcome (Some (object (members_of r)))
  map_same r all = or_dropped (λ t. AllByRecursion P (members_in t)) p (object (members_of r)) tt (λ kept. subst (AllByRecursion P) (sym (member_list-members_of r)) all)

  node_same : (r : Pairs) → AllByRecursion P r → IfOk (node_finished r) SameOutcome
  node_same r all =
      after_any SameOutcome (unless (not (is_set_or_list r) || are_set_entries r) code.InvalidSetOrListObject) _
      (λ _. subst (λ o. SameOutcome (set_taken o r)) (sym (absent (codes "@set") r all refl refl)) (map_same r all))

  by_value_same : (r : Pairs) → AllByRecursion P r → IfOk (by_value None r) SameOutcome
  by_value_same r all = subst (λ o. IfOk (node_finished (types_array o r)) SameOutcome) (sym (absent (codes "@type") r all refl refl)) (node_same r all)

  pub finished_same : (r : Pairs) → AllByRecursion P r → IfOk (finished r p) (λ v. AllByRecursion P (members_in v))
  unfolding finish_map
  finished_same r all =
      after (λ x. AllByRecursion P (members_in (or_null x))) (λ v. AllByRecursion P (members_in v)) (finish_map r p) _
      (after SameOutcome (λ x. AllByRecursion P (members_in (or_null x))) (by_value (member_at (codes "@value") r) r) _
      (subst (λ o. IfOk (by_value o r) SameOutcome) (sym (absent (codes "@value") r all refl refl)) (by_value_same r all)) (λ x holds. holds))
      (λ x holds. holds)

pub finished_reversed : (p : Option Text) → is_under_reverse p ≡ true → (r : Pairs) → AllFit p r → IfOk (finished r p) (λ v. AllByRecursion IsReversal (members_in v))
finished_reversed p under r all =
    finished_same p IsReversal (λ m is. is.key) r (all_map (Fits p) IsReversal r (λ m fits. record { reverse = fits.reverse; key = fits.key under }) all)
