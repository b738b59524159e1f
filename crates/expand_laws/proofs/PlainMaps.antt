-- The maps and entries of a plain document, in the context that a document begins with.
use Rattle.std.proofs.Common.{◌≡◌, ℕ, suc, List, [], ◌∷◌, ◌++◌, Bool, true, false, not, ◌&&◌, ◌||◌, Option, Some, None, Ok, Less, refl, sym, ap, ◌∙◌, subst, codes, is_none, if◌then◌else◌}
use Rattle.std.specs.Ordering.{match_ordering}
use Rattle.std.specs.Option.{option_map, option_map_or, option_and_then}
use Rattle.std.specs.List.{AllByRecursion}
use Rattle.std.specs.Str.{bytes_eq}
use Rattle.std.proofs.lemmas.List.{append_assoc, append-nil}
use Rattle.ld_json.specs.declared.location.Step.{Step}
use Rattle.ld_model.specs.Tree.{Tree, text, array, object, Trees, no_trees, tree, Members, no_members, member, Pairs, trees_of, tree_list, member_list, member_at, put, AreBefore}
use Rattle.ld_model.specs.Keys.{id_key, value_key}
use Rattle.ld_model.specs.Iri.{has_scheme}
use Rattle.ld_model.specs.Plain.{is_plain_entry, are_plain_entries}
use Rattle.ld_model.proofs.Truths.{both}
use Rattle.ld_model.proofs.Puts.{bytes_eq-exact, bytes_eq-sym, flipped, apart_before, at_later}
use Rattle.case_tables.specs.Keyword.{keyword_name}
use Rattle.case_tables.specs.declared.code.Code.TheVariants as code
use Rattle.case_tables.specs.declared.keyword.Keyword.{Keyword as Word}
use Rattle.case_tables.specs.declared.keyword.Keyword.TheVariants as word
use Rattle.ctx_types.specs.Context.{Text, Context, definition_at, initial}
use Rattle.ctx_model.specs.Outcome.{unless}
use Rattle.expand_model.specs.Scope.{Options, located, in_key, definition_of, is_top, values_of}
use Rattle.expand_model.specs.Values.{add_all}
use Rattle.expand_model.specs.Contexts.{in_property, left, embedded, in_map, is_left, typed_by_all, type_terms, typed_by_entry, typed, is_json, last_is_json, entered_with, entered}
use Rattle.expand_model.specs.Entries.{name_of, task_of, under}
use Rattle.expand_model.specs.Keywords.{begun, keyword_begun, may_repeat, may_be_told, keyword_entry, keyword_put, keyword_told}
use Rattle.expand_model.specs.Properties.{property_added}
use Rattle.expand_model.specs.Finish.{is_free, finish_map}
use Rattle.expand_model.specs.Rules.{◌>>=◌, At, Inside, item_at, or_null, lists_at, spliced, entered_within, entered_at, finished, finished_at}
use Rattle.expand_model.specs.Expand.{entry_named, entry, element, items, entries, nests, nested, indexes}
use Rattle.expand_laws.proofs.TopEntries.{is_under_reverse}
use Rattle.expand_laws.proofs.PlainKeys.{bare, expands_to_itself, is_property, scheme_apart, IsPlainKey, of_id, of_value, HasPlainKey, key_apart, expands_to_none, absent}

-- what a value is expanded with, and the entries of a map
abbrev pub at : Option Text → Option Text → List Step → At
at base p place = record { scope = record { context = initial base; property = p; from_map = false }; place = place }

abbrev pub inside : Option Text → Option Text → List Step → Inside
inside base p place = record { scope = record { context = initial base; types = initial base; json = false; property = p }; place = place }

-- nothing is defined
no_definition : (base : Option Text) (p : Option Text) → definition_of p (initial base) ≡ None
no_definition base p = by (is_top p) p
  where
    by : (b : Bool) (p : Option Text) → (if b then None else option_and_then (λ t. definition_at t (bare base).terms) p) ≡ None
    by true p = refl
    by false None = refl
    by false (Some t) = refl

-- the contexts of a map
module _ (o : Options) where
  abbrev start : Context
  start = initial o.base

  map_context : (p : Option Text) (place : List Step) (leaves : Bool) (local : Option Tree) → local ≡ None → in_map o (at o.base p place).scope leaves local ≡ Ok start
  unfolding in_map in_property
  map_context p place leaves local none =
      ap (λ d. in_property o d (left leaves start) >>= (λ c. embedded o local c)) (no_definition o.base p)
      ∙ ap (λ c. embedded o local c) (same leaves)
      ∙ ap (λ t. embedded o t start) none
    where
      same : (b : Bool) → left b start ≡ start
      same true = refl
      same false = refl

  typed_same : (types : Context) (es : Pairs) → AllByRecursion HasPlainKey es → typed o types es start ≡ Ok start
  unfolding typed_by_entry
  typed_same types [] keys = refl
  typed_same types (e ∷ es) keys =
      ap (λ b. (if b then typed_by_all o types (type_terms e.1) start else Ok start) >>= (λ c. typed o types es c)) (expands_to_none o.base (codes "@type") e.0 refl keys.0)
      ∙ typed_same types es keys.1

  no_json : (es : Pairs) → AllByRecursion HasPlainKey es → is_json (bare o.base) es ≡ false
  no_json [] keys = refl
  no_json (e ∷ es) keys =
      ap (λ b. if b then last_is_json (bare o.base) (values_of e.1) else is_json (bare o.base) es) (expands_to_none o.base (codes "@type") e.0 refl keys.0)
      ∙ no_json es keys.1

  keys_apart : (w : Text) (es : Pairs) → AllByRecursion HasPlainKey es → ((k : Text) → IsPlainKey k → bytes_eq k w ≡ false) → AllByRecursion (λ m. bytes_eq m.0 w ≡ false) es
  keys_apart w [] keys each = tt
  keys_apart w (e ∷ es) keys each = (each e.0 keys.0, keys_apart w es keys.1 each)

  map_entered : (p : Option Text) (place : List Step) (es : Pairs) → AllByRecursion HasPlainKey es → entered_at o es (at o.base p place) ≡ Ok (inside o.base p place)
  unfolding entered
  map_entered p place es keys =
      ap (λ r. entered_within place (r >>= (λ types. entered_with o (at o.base p place).scope es types)))
      (map_context p place (is_left es (at o.base p place).scope) (member_at (codes "@context") es) (absent (codes "@context") es (keys_apart (codes "@context") es keys (λ k is. key_apart (codes "@context") k refl is))))
      ∙ ap (λ r. entered_within place (r >>= (λ c. Ok (record { context = c; types = start; json = is_json c.current es; property = p })))) (typed_same start es keys)
      ∙ ap (λ b. Ok (record { scope = record { context = start; types = start; json = b; property = p }; place = place })) (no_json es keys)

  -- nothing is nested
  nothing_nested : (ms : Members) (p : Option Text) (place : List Step) (r : Pairs) → AllByRecursion HasPlainKey (member_list ms) → nests o ms (inside o.base p place) r ≡ Ok r
  nothing_nested no_members p place r keys = refl
  nothing_nested (member k t ms) p place r keys =
      ap (λ b. (if b then nested o t k (inside o.base p place) r else Ok r) >>= (λ r₁. nests o ms (inside o.base p place) r₁)) (expands_to_none o.base (codes "@nest") k refl keys.0)
      ∙ nothing_nested ms p place r keys.1

  -- a map, from what its entries and the last tests come to
  pub map_is : (ms : Members) (p : Option Text) (place : List Step) (r : Pairs) (v : Tree) → AllByRecursion HasPlainKey (member_list ms) → entries o ms (inside o.base p place) [] ≡ Ok r → finished r p ≡ Ok v → element o (object ms) (at o.base p place) ≡ Ok v
  map_is ms p place r v keys entries_are finish_is =
      ap (λ e. e >>= (λ e. entries o ms e [] >>= (λ r₁. nests o ms e r₁ >>= (λ r₂. finished_at (at o.base p place) r₂)))) (map_entered p place (member_list ms) keys)
      ∙ ap (λ r. r >>= (λ r₁. nests o ms (inside o.base p place) r₁ >>= (λ r₂. finished_at (at o.base p place) r₂))) entries_are
      ∙ ap (λ r. r >>= (λ r₂. finished_at (at o.base p place) r₂)) (nothing_nested ms p place r keys)
      ∙ ap (λ r. located place r) finish_is

-- a keyword may be told
may_begin : (p : Option Text) (w : Word) (r : Pairs) → is_under_reverse p ≡ false → member_at (keyword_name w) r ≡ None → keyword_begun p w r ≡ Ok tt
may_begin p w r forward none =
    ap (λ b. unless (not b) code.InvalidReversePropertyMap >>= (λ _. unless (may_repeat w || is_none (member_at (keyword_name w) r)) code.CollidingKeywords)) forward
    ∙ ap (λ o. unless (may_repeat w || is_none o) code.CollidingKeywords) none
    ∙ by (may_repeat w)
  where
    by : (b : Bool) → unless (b || true) code.CollidingKeywords ≡ Ok tt
    by true = refl
    by false = refl

id_told_is : (base : Option Text) (p : Option Text) (s : Text) (r : Pairs) → has_scheme s ≡ true → is_under_reverse p ≡ false → member_at (codes "@id") r ≡ None → keyword_told (bare base) (bare base) false p word.Id (text s) r ≡ Ok (put (codes "@id") (text s) r)
unfolding keyword_told keyword_entry keyword_put
id_told_is base p s r has forward none =
    ap (λ x. x >>= (λ _. may_be_told word.Id >>= (λ _. keyword_entry (bare base) (bare base) word.Id (text s) false >>= (λ v. Ok (keyword_put word.Id v r))))) (may_begin p word.Id r forward none)
    ∙ ap (λ i. Ok (keyword_put word.Id (option_map (λ t. text t) i) r)) (expands_to_itself base true false s has)

value_told_is : (base : Option Text) (p : Option Text) (s : Text) (r : Pairs) → is_under_reverse p ≡ false → member_at (codes "@value") r ≡ None → keyword_told (bare base) (bare base) false p word.Value (text s) r ≡ Ok (put (codes "@value") (text s) r)
unfolding keyword_told keyword_entry keyword_put
value_told_is base p s r forward none =
    ap (λ x. x >>= (λ _. may_be_told word.Value >>= (λ _. keyword_entry (bare base) (bare base) word.Value (text s) false >>= (λ v. Ok (keyword_put word.Value v r))))) (may_begin p word.Value r forward none)

-- the entry of an id, and that of a value
module _ (o : Options) where
  pub id_entry : (p : Option Text) (place : List Step) (s : Text) (r : Pairs) → has_scheme s ≡ true → is_under_reverse p ≡ false → member_at (codes "@id") r ≡ None → entry o (element o (text s)) (indexes o (text s) (codes "@id")) (codes "@id") (text s) (inside o.base p place) r ≡ Ok (put (codes "@id") (text s) r)
  unfolding entry name_of task_of
  id_entry p place s r has forward none = ap (λ x. located (in_key (codes "@id") place) x) (id_told_is o.base p s r has forward none)

  value_entry : (p : Option Text) (place : List Step) (s : Text) (r : Pairs) → is_under_reverse p ≡ false → member_at (codes "@value") r ≡ None → entry o (element o (text s)) (indexes o (text s) (codes "@value")) (codes "@value") (text s) (inside o.base p place) r ≡ Ok (put (codes "@value") (text s) r)
  unfolding entry name_of task_of
  value_entry p place s r forward none = ap (λ x. located (in_key (codes "@value") place) x) (value_told_is o.base p s r forward none)

  -- a value object and a reference under a property
  module _ (q : Text) (has : has_scheme q ≡ true) where
    forward : is_under_reverse (Some q) ≡ false
    forward = scheme_apart q (codes "@reverse") has refl

    one_put : (k : Text) (t : Tree) → put k t [] ≡ (k, t) ∷ []
    unfolding put
    one_put k t = refl

    value_finished_is : (s : Text) → finished ((codes "@value", text s) ∷ []) (Some q) ≡ Ok (object (member (codes "@value") (text s) no_members))
    unfolding finish_map
    value_finished_is s = ap (λ b. Ok (or_null (if b && is_free ((codes "@value", text s) ∷ []) then None else Some (object (member (codes "@value") (text s) no_members))))) (scheme_apart q (codes "@graph") has refl)

    reference_finished_is : (s : Text) → finished ((codes "@id", text s) ∷ []) (Some q) ≡ Ok (object (member (codes "@id") (text s) no_members))
    unfolding finish_map
    reference_finished_is s = ap (λ b. Ok (or_null (if b && is_free ((codes "@id", text s) ∷ []) then None else Some (object (member (codes "@id") (text s) no_members))))) (scheme_apart q (codes "@graph") has refl)

    value_is : (s : Text) (place : List Step) → element o (object (member (codes "@value") (text s) no_members)) (at o.base (Some q) place) ≡ Ok (object (member (codes "@value") (text s) no_members))
    value_is s place =
        map_is o (member (codes "@value") (text s) no_members) (Some q) place ((codes "@value", text s) ∷ []) _ (of_value, tt)
        (ap (λ r. r >>= (λ r₁. entries o no_members (inside o.base (Some q) place) r₁)) (value_entry (Some q) place s [] forward refl) ∙ ap (λ r. Ok r) (one_put (codes "@value") (text s)))
        (value_finished_is s)

    reference_is : (s : Text) (place : List Step) → has_scheme s ≡ true → element o (object (member (codes "@id") (text s) no_members)) (at o.base (Some q) place) ≡ Ok (object (member (codes "@id") (text s) no_members))
    reference_is s place iri =
        map_is o (member (codes "@id") (text s) no_members) (Some q) place ((codes "@id", text s) ∷ []) _ (of_id, tt)
        (ap (λ r. r >>= (λ r₁. entries o no_members (inside o.base (Some q) place) r₁)) (id_entry (Some q) place s [] iri forward refl) ∙ ap (λ r. Ok r) (one_put (codes "@id") (text s)))
        (reference_finished_is s)

    abbrev IsItself : Tree → List Step → Type 0
    IsItself t place = element o t (at o.base (Some q) place) ≡ Ok t

    one_by : (k s : Text) (place : List Step) (b : Bool) → bytes_eq k value_key ≡ b → (b || (bytes_eq k id_key && has_scheme s)) ≡ true → IsItself (object (member k (text s) no_members)) place
    one_by k s place true same plain = subst (λ k. IsItself (object (member k (text s) no_members)) place) (sym (bytes_eq-exact k value_key same)) (value_is s place)
    one_by k s place false other plain =
        let parts = both (bytes_eq k id_key) (has_scheme s) plain in
        subst (λ k. IsItself (object (member k (text s) no_members)) place) (sym (bytes_eq-exact k id_key parts.0)) (reference_is s place parts.1)

    -- such an entry, and what it is among others
    pub record Stays (t : Tree) : Type 0 where
      pub itself : (place : List Step) → element o t (at o.base (Some q) place) ≡ Ok t
      pub alone : (lists : Bool) → spliced lists t ≡ t ∷ []

    entry_stays : (t : Tree) → is_plain_entry t ≡ true → Stays t
    unfolding spliced
    entry_stays (object (member k (text s) no_members)) plain = record { itself = λ place. one_by k s place (bytes_eq k value_key) refl plain; alone = λ lists. refl }
    entry_stays _ plain = absurd (cc)

    entries_stay : (ts : Trees) (n : ℕ) (place : List Step) (out : List Tree) → are_plain_entries (tree_list ts) ≡ true → items o ts n (at o.base (Some q) place) out ≡ Ok (out ++ tree_list ts)
    entries_stay no_trees n place out plain = ap (λ ts. Ok ts) (sym (append-nil out))
    entries_stay (tree t ts) n place out plain =
        let parts = both (is_plain_entry t) (are_plain_entries (tree_list ts)) plain in
        let stays = entry_stays t parts.0 in
        let a = at o.base (Some q) place in
        ap (λ r. r >>= (λ v. items o ts (suc n) a (out ++ spliced (lists_at a) v))) (stays.itself (item_at n a).place)
        ∙ ap (λ ts′. items o ts (suc n) a (out ++ ts′)) (stays.alone (lists_at a))
        ∙ entries_stay ts (suc n) place (out ++ t ∷ []) parts.1
        ∙ ap (λ ts. Ok ts) (append_assoc out (t ∷ []) (tree_list ts))

    trees_back : (ts : Trees) → trees_of (tree_list ts) ≡ ts
    trees_back no_trees = refl
    trees_back (tree t ts) = ap (tree t) (trees_back ts)

    array_stays : (ts : Trees) (place : List Step) → are_plain_entries (tree_list ts) ≡ true → element o (array ts) (at o.base (Some q) place) ≡ Ok (array ts)
    array_stays ts place plain =
        ap (λ r. r >>= (λ rs. Ok (array (trees_of rs)))) (entries_stay ts 0 place [] plain)
        ∙ ap (λ ts. Ok (array ts)) (trees_back ts)

    -- the entry of a property
    added_is : (ts : Trees) (r : Pairs) → member_at q r ≡ None → property_added None q (array ts) r ≡ Ok (put q (array ts) r)
    unfolding property_added add_all
    added_is ts r none =
        ap (λ o. Ok (put q (array (trees_of (option_map_or values_of o [] ++ tree_list ts))) r)) none
        ∙ ap (λ ts. Ok (put q (array ts) r)) (trees_back ts)

    pub property_entry : (p : Option Text) (place : List Step) (ts : Trees) (r : Pairs) → are_plain_entries (tree_list ts) ≡ true → member_at q r ≡ None → entry o (element o (array ts)) (indexes o (array ts) q) q (array ts) (inside o.base p place) r ≡ Ok (put q (array ts) r)
    unfolding entry task_of begun under
    property_entry p place ts r plain none =
        ap (λ n. entry_named o (element o (array ts)) (indexes o (array ts) q) n None q (array ts) (inside o.base p place) r) (is_property o.base q has)
        ∙ ap (λ v. v >>= (λ v. located (in_key q place) (property_added None q v r))) (array_stays ts (in_key q place) plain)
        ∙ ap (λ x. located (in_key q place) x) (added_is ts r none)

-- what is put behind all else
pub put_last : (k : Text) (t : Tree) (r : Pairs) → AreBefore r k → put k t r ≡ r ++ (k, t) ∷ []
unfolding put
put_last k t [] before = refl
put_last k t (m ∷ r) before =
    ap (λ o. match_ordering o ((k, t) ∷ m ∷ r) ((m.0, t) ∷ r) (m ∷ put k t r)) (flipped m.0 k Less before.0)
    ∙ ap (λ r. m ∷ r) (put_last k t r before.1)

pub absent_behind : (k : Text) (r : Pairs) → AreBefore r k → member_at k r ≡ None
absent_behind k [] before = refl
absent_behind k (m ∷ r) before = at_later k m r (bytes_eq-sym k m.0 ∙ apart_before m.0 k before.0) ∙ absent_behind k r before.1
