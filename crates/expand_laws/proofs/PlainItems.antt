-- A plain document expands to itself.
use Rattle.std.proofs.Common.{◌≡◌, ℕ, suc, List, [], ◌∷◌, ◌++◌, Bool, true, false, not, ◌||◌, Some, None, Ok, refl, sym, ap, ◌∙◌, subst, codes, is_some, filter, if◌then◌else◌}
use Rattle.std.specs.List.{AllByRecursion}
use Rattle.std.specs.Str.{bytes_eq}
use Rattle.std.specs.Map.{keys_of}
use Rattle.std.proofs.lemmas.List.{append_assoc, append-nil}
use Rattle.ld_json.specs.declared.location.Step.{Step}
use Rattle.ld_model.specs.Tree.{Tree, null, text, array, object, Members, no_members, member, Pairs, trees_of, tree_list-trees_of, members_of, member_list, member_at, put, IsBefore, AreBefore, AreAscending}
use Rattle.ld_model.specs.Keys.{id_key}
use Rattle.ld_model.specs.Iri.{has_scheme}
use Rattle.ld_model.specs.Plain.{is_iri_text, is_plain_array, is_plain_member, are_plain_members, is_plain_item, are_plain_items}
use Rattle.ld_model.proofs.Truths.{both}
use Rattle.ld_model.proofs.Puts.{bytes_eq-sym, at_later, ascending_head, ascending_tail}
use Rattle.case_tables.specs.declared.code.Code.TheVariants as code
use Rattle.ctx_types.specs.Context.{Text}
use Rattle.ctx_model.specs.Outcome.{unless}
use Rattle.expand_model.specs.Scope.{Options, has}
use Rattle.expand_model.specs.Finish.{types_array, are_set_entries, set_taken, node_finished, by_value, is_lone, is_free, unless_dropped, finish_map}
use Rattle.expand_model.specs.Rules.{◌>>=◌, or_null, item_at, lists_at, spliced, finished, whole_items}
use Rattle.expand_model.specs.Expand.{entry, element, items, entries, indexes, document}
use Rattle.expand_laws.specs.Statements.{HasKeysInOrder, are_several, has_more_than_id}
use Rattle.expand_laws.specs.Laws.{APlainDocumentExpandsToItself}
use Rattle.expand_laws.proofs.PlainKeys.{absent, member_by, member_keys, not_in_plain}
use Rattle.expand_laws.proofs.PlainMaps.{at, inside, map_is, id_entry, property_entry, put_last, absent_behind}

-- keys behind those of the result under way
pushed : (k : Text) (t : Tree) (r : Pairs) (l : Text) → AreBefore r l → IsBefore k l → AreBefore (r ++ (k, t) ∷ []) l
pushed k t [] l before less = (less, tt)
pushed k t (m ∷ r) l before less = (before.0, pushed k t r l before.1 less)

abbrev AreBehind : Pairs → Pairs → Type 0
AreBehind r ms = AllByRecursion (λ m. AreBefore r m.0) ms

behind : (k : Text) (t : Tree) (r ms : Pairs) → AreBehind r ms → AllByRecursion (IsBefore k) (keys_of ms) → AreBehind (r ++ (k, t) ∷ []) ms
behind k t r [] before less = tt
behind k t r (m ∷ ms) before less = (pushed k t r m.0 before.0 less.0, behind k t r ms before.1 less.1)

behind_none : (ms : Pairs) → AreBehind [] ms
behind_none [] = tt
behind_none (m ∷ ms) = (tt, behind_none ms)

-- the entries of an item
module _ (o : Options) (place : List Step) where
  abbrev Puts : Text → Tree → Pairs → Type 0
  Puts k t r = member_at k r ≡ None → entry o (element o t) (indexes o t k) k t (inside o.base None place) r ≡ Ok (put k t r)

  id_puts : (t : Tree) (r : Pairs) → is_iri_text t ≡ true → Puts id_key t r
  id_puts (text s) r iri = λ none. id_entry o None place s r iri refl none
  id_puts _ r iri = absurd (cc)

  property_puts : (k : Text) (t : Tree) (r : Pairs) → has_scheme k ≡ true → is_plain_array t ≡ true → Puts k t r
  property_puts k (array ts) r has plain = λ none. property_entry o k has None place ts r plain none
  property_puts k _ r has plain = absurd (cc)

  entry_puts : (k : Text) (t : Tree) (r : Pairs) → is_plain_member (k, t) ≡ true → Puts k t r
  entry_puts k t r plain =
      member_by (k, t) plain (λ same iri. subst (λ k. Puts k t r) (sym same) (id_puts t r iri)) (λ has entries. property_puts k t r has entries)

  entries_put : (ms : Members) (r : Pairs) → are_plain_members (member_list ms) ≡ true → AreAscending (member_list ms) → AreBehind r (member_list ms) → entries o ms (inside o.base None place) r ≡ Ok (r ++ member_list ms)
  entries_put no_members r plain sorted before = ap (λ r. Ok r) (sym (append-nil r))
  entries_put (member k t ms) r plain sorted before =
      let parts = both (is_plain_member (k, t)) (are_plain_members (member_list ms)) plain in
      ap (λ x. x >>= (λ r₁. entries o ms (inside o.base None place) r₁)) (entry_puts k t r parts.0 (absent_behind k r before.0))
      ∙ ap (λ r₁. entries o ms (inside o.base None place) r₁) (put_last k t r before.0)
      ∙ entries_put ms (r ++ (k, t) ∷ []) parts.1 (ascending_tail (k, t) (member_list ms) sorted) (behind k t r (member_list ms) before.1 (ascending_head (k, t) (member_list ms) sorted))
      ∙ ap (λ r. Ok r) (append_assoc r ((k, t) ∷ []) (member_list ms))

-- the last tests of an item
not_there : (w : Text) (r : Pairs) → are_plain_members r ≡ true → has_scheme w ≡ false → bytes_eq id_key w ≡ false → member_at w r ≡ None
not_there w r plain none other = absent w r (not_in_plain w r none other plain)

pub lone_id : (e : Text × Tree) → is_some (member_at id_key (e ∷ [])) ≡ true → bytes_eq e.0 id_key ≡ true
lone_id e some = by (bytes_eq id_key e.0) refl
  where
    by : (b : Bool) → bytes_eq id_key e.0 ≡ b → bytes_eq e.0 id_key ≡ true
    by true same = bytes_eq-sym e.0 id_key ∙ same
    by false other = let never : false ≡ true = sym (ap is_some (at_later id_key e [] other)) ∙ some in absurd (cc)

free_is : (r : Pairs) → are_plain_members r ≡ true → is_some (member_at id_key r) ≡ true → (is_lone (codes "@language") r || is_free r) ≡ not (are_several r)
free_is [] plain some = refl
free_is (e ∷ []) plain some =
    let language = not_in_plain (codes "@language") (e ∷ []) refl refl plain in
    ap (λ b. b || (has (codes "@value") (e ∷ []) || has (codes "@list") (e ∷ []) || bytes_eq e.0 (codes "@id"))) language.0
    ∙ ap (λ v. is_some v || has (codes "@list") (e ∷ []) || bytes_eq e.0 (codes "@id")) (not_there (codes "@value") (e ∷ []) plain refl refl)
    ∙ ap (λ v. is_some v || bytes_eq e.0 (codes "@id")) (not_there (codes "@list") (e ∷ []) plain refl refl)
    ∙ lone_id e some
free_is (e ∷ f ∷ r) plain some =
    ap (λ v. is_some v || has (codes "@list") (e ∷ f ∷ r) || false) (not_there (codes "@value") (e ∷ f ∷ r) plain refl refl)
    ∙ ap (λ v. is_some v || false) (not_there (codes "@list") (e ∷ f ∷ r) plain refl refl)

members_back : (ms : Members) → members_of (member_list ms) ≡ ms
members_back no_members = refl
members_back (member k t ms) = ap (member k t) (members_back ms)

item_finished : (ms : Members) → are_plain_members (member_list ms) ≡ true → is_some (member_at id_key (member_list ms)) ≡ true → finished (member_list ms) None ≡ Ok (if are_several (member_list ms) then object ms else null)
unfolding finish_map
item_finished ms plain some =
    let r = member_list ms in
    ap (λ v. by_value v r >>= (λ t. Ok (unless_dropped None t)) >>= (λ t. Ok (or_null t))) (not_there (codes "@value") r plain refl refl)
    ∙ ap (λ ts. node_finished (types_array ts r) >>= (λ t. Ok (unless_dropped None t)) >>= (λ t. Ok (or_null t))) (not_there (codes "@type") r plain refl refl)
    ∙ ap (λ s. unless (not (is_some s || has (codes "@list") r) || are_set_entries r) code.InvalidSetOrListObject >>= (λ _. Ok (set_taken s r)) >>= (λ t. Ok (unless_dropped None t)) >>= (λ t. Ok (or_null t))) (not_there (codes "@set") r plain refl refl)
    ∙ ap (λ l. unless (not (is_some l) || are_set_entries r) code.InvalidSetOrListObject >>= (λ _. Ok (set_taken None r)) >>= (λ t. Ok (unless_dropped None t)) >>= (λ t. Ok (or_null t))) (not_there (codes "@list") r plain refl refl)
    ∙ ap (λ ms. Ok (or_null (unless_dropped None (Some (object ms))))) (members_back ms)
    ∙ ap (λ b. Ok (or_null (if b then None else Some (object ms)))) (free_is r plain some)
    ∙ ap (λ v. Ok v) (by (are_several r))
  where
    by : (b : Bool) → or_null (if not b then None else Some (object ms)) ≡ (if b then object ms else null)
    by true = refl
    by false = refl

-- an item: it stays, or is dropped
module _ (o : Options) where
  item_is : (t : Tree) (place : List Step) → is_plain_item t ≡ true → HasKeysInOrder t → element o t (at o.base None place) ≡ Ok (if has_more_than_id t then t else null)
  item_is (object ms) place plain sorted =
      let parts = both (is_some (member_at id_key (member_list ms))) (are_plain_members (member_list ms)) plain in
      map_is o ms None place (member_list ms) _ (member_keys (member_list ms) parts.1) (entries_put o place ms [] parts.1 sorted (behind_none (member_list ms))) (item_finished ms parts.1 parts.0)
  item_is _ place plain sorted = absurd (cc)

  item_alone : (lists : Bool) (t : Tree) → is_plain_item t ≡ true → spliced lists t ≡ t ∷ []
  unfolding spliced
  item_alone lists (object ms) plain = refl
  item_alone lists _ plain = absurd (cc)

  null_nothing : (lists : Bool) → spliced lists null ≡ []
  unfolding spliced
  null_nothing lists = refl

  among_items : (lists : Bool) (t : Tree) → is_plain_item t ≡ true → spliced lists (if has_more_than_id t then t else null) ≡ (if has_more_than_id t then t ∷ [] else [])
  among_items lists t plain = by (has_more_than_id t)
    where
      by : (b : Bool) → spliced lists (if b then t else null) ≡ (if b then t ∷ [] else [])
      by true = item_alone lists t plain
      by false = null_nothing lists

  items_are : (ts : List Tree) (n : ℕ) (place : List Step) (out : List Tree) → are_plain_items ts ≡ true → AllByRecursion HasKeysInOrder ts → items o (trees_of ts) n (at o.base None place) out ≡ Ok (out ++ filter has_more_than_id ts)
  items_are [] n place out plain sorted = ap (λ ts. Ok ts) (sym (append-nil out))
  items_are (t ∷ ts) n place out plain sorted =
      let parts = both (is_plain_item t) (are_plain_items ts) plain in
      let a = at o.base None place in
      ap (λ r. r >>= (λ v. items o (trees_of ts) (suc n) a (out ++ spliced (lists_at a) v))) (item_is t (item_at n a).place parts.0 sorted.0)
      ∙ ap (λ us. items o (trees_of ts) (suc n) a (out ++ us)) (among_items (lists_at a) t parts.0)
      ∙ items_are ts (suc n) place (out ++ (if has_more_than_id t then t ∷ [] else [])) parts.1 sorted.1
      ∙ ap (λ ts. Ok ts) (append_assoc out (if has_more_than_id t then t ∷ [] else []) (filter has_more_than_id ts))
      ∙ ap (λ ts. Ok ts) (by (has_more_than_id t))
    where
      by : (b : Bool) → (out ++ ((if b then t ∷ [] else []) ++ filter has_more_than_id ts)) ≡ (out ++ (if b then t ∷ filter has_more_than_id ts else filter has_more_than_id ts))
      by true = refl
      by false = refl

pub a_plain_document_expands_to_itself : APlainDocumentExpandsToItself
unfolding document
a_plain_document_expands_to_itself o ts plain sorted =
    ap (λ r. r >>= (λ rs. Ok (array (trees_of rs))) >>= (λ v. Ok (whole_items v))) (items_are o ts 0 [] [] plain sorted)
    ∙ ap (λ ts. Ok ts) (tree_list-trees_of (filter has_more_than_id ts))
