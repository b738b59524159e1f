-- What entries come to at the top of a graph: what is kept of the result under way.
use Rattle.std.proofs.Common.{◌≡◌, List, [], ◌∷◌, ◌++◌, Bool, true, false, not, ◌&&◌, ◌||◌, Option, Some, None, Ok, refl, sym, subst, codes, IfOk, is_none, if◌then◌else◌}
use Rattle.std.specs.List.{AllByRecursion, list_any, list_all}
use Rattle.std.specs.Str.{bytes_eq}
use Rattle.ld_model.specs.Tree.{Tree, array, object, Pairs, trees_of, tree_list-trees_of, members_of, member_list-members_of, member_at, put}
use Rattle.ld_model.proofs.Puts.{all-put}
use Rattle.case_tables.specs.Keyword.{keyword_name}
use Rattle.case_tables.specs.declared.code.Code.TheVariants as code
use Rattle.case_tables.specs.declared.keyword.Keyword.{Keyword as Word}
use Rattle.case_tables.specs.declared.keyword.Keyword.TheVariants as word
use Rattle.ctx_types.specs.Context.{Text, Definition, Settings}
use Rattle.ctx_model.specs.Outcome.{◌>>=◌, unless}
use Rattle.ctx_model.specs.Words.{same_text}
use Rattle.expand_model.specs.Scope.{container_of, as_items, values_of, values_at, has, is_null, is_node_object, is_top, members_in}
use Rattle.expand_model.specs.Values.{add_all}
use Rattle.expand_model.specs.Keywords.{keyword_begun, may_be_told, keyword_entry, id_told, type_told, value_told, language_told, direction_told, index_told, type_put, keyword_put, keyword_told, included_added, forward_added, each_reversed, reversed_in, reverse_map_added, may_repeat}
use Rattle.expand_model.specs.Properties.{value_unexpanded, listed, graphed, is_irreversible, reverses_of, reverse_put, reverse_added, is_reverse, value_added, property_added, property_told}
use Rattle.expand_laws.specs.Statements.{IsNodeObject}
use Rattle.expand_laws.proofs.Steps.{never, after, after_any, of_any, if_cond}
use Rattle.expand_laws.proofs.Names.{HasColon, apart, held}

-- where an entry is `@graph`, its items are node objects
abbrev pub GraphFits : Text × Tree → Type 0
GraphFits m = bytes_eq m.0 (codes "@graph") ≡ true → AllByRecursion IsNodeObject (as_items m.1)

-- a node object, in which that is so
pub record IsTopNode (t : Tree) : Type 0 where
  pub node : IsNodeObject t
  pub graph : AllByRecursion GraphFits (members_in t)

abbrev pub KeyHasColon : Text × Tree → Type 0
KeyHasColon m = HasColon m.0

abbrev pub ReverseFits : Text × Tree → Type 0
ReverseFits m = bytes_eq m.0 (codes "@reverse") ≡ true → AllByRecursion KeyHasColon (members_in m.1)

-- an entry of what the value of `@reverse` comes to: a property, or `@reverse` with properties
pub record IsReversal (m : Text × Tree) : Type 0 where
  pub reverse : ReverseFits m
  pub key : bytes_eq m.0 (codes "@reverse") ≡ false → HasColon m.0

abbrev pub is_under_reverse : Option Text → Bool
is_under_reverse p = same_text p (Some (codes "@reverse"))

-- an entry of the result under way, under this property
pub record Fits (p : Option Text) (m : Text × Tree) : Type 0 where
  pub graph : GraphFits m
  pub set : bytes_eq m.0 (codes "@set") ≡ true → is_top p ≡ true → AllByRecursion IsTopNode (as_items m.1)
  pub reverse : ReverseFits m
  pub key : is_under_reverse p ≡ true → bytes_eq m.0 (codes "@reverse") ≡ false → HasColon m.0

abbrev pub AllFit : Option Text → Pairs → Type 0
AllFit p r = AllByRecursion (Fits p) r

-- an entry with the key of a property, and one with that of a keyword
pub property_fits : (p : Option Text) (i : Text) (t : Tree) → HasColon i → Fits p (i, t)
property_fits p i t has =
    record {
      graph = λ same. never (bytes_eq i (codes "@graph")) (apart i (codes "@graph") has refl) same;
      set = λ same top. never (bytes_eq i (codes "@set")) (apart i (codes "@set") has refl) same;
      reverse = λ same. never (bytes_eq i (codes "@reverse")) (apart i (codes "@reverse") has refl) same;
      key = λ under other. has;
    }

pub word_fits : (p : Option Text) (k : Text) (t : Tree) → is_under_reverse p ≡ false → bytes_eq k (codes "@graph") ≡ false → bytes_eq k (codes "@set") ≡ false → bytes_eq k (codes "@reverse") ≡ false → Fits p (k, t)
word_fits p k t forward graph set reverse =
    record {
      graph = λ same. never (bytes_eq k (codes "@graph")) graph same;
      set = λ same top. never (bytes_eq k (codes "@set")) set same;
      reverse = λ same. never (bytes_eq k (codes "@reverse")) reverse same;
      key = λ under other. never (is_under_reverse p) forward under;
    }

-- values that are added to an entry
pub all_added : (P : Text × Tree → Type 0) (k : Text) (ts : List Tree) (r : Pairs) → ((t : Tree) → P (k, t)) → AllByRecursion P r → AllByRecursion P (add_all k ts r)
unfolding add_all
all_added P k ts r here all = all-put P k (array (trees_of (values_at k r ++ ts))) r (here (array (trees_of (values_at k r ++ ts)))) all

-- reverse properties
reverses_have : (p : Option Text) (r : Pairs) (o : Option Tree) → AllFit p r → member_at (codes "@reverse") r ≡ o → AllByRecursion KeyHasColon (reverses_of o)
reverses_have p r None all is = tt
reverses_have p r (Some t) all is = (held (Fits p) (codes "@reverse") t r all is).reverse refl

reverse_fits : (p : Option Text) (ms : Pairs) → AllByRecursion KeyHasColon ms → Fits p (codes "@reverse", object (members_of ms))
reverse_fits p ms all =
    record {
      graph = λ same. absurd (cc);
      set = λ same top. absurd (cc);
      reverse = λ same. subst (AllByRecursion KeyHasColon) (sym (member_list-members_of ms)) all;
      key = λ under other. absurd (cc);
    }

reverse_put_fits : (p : Option Text) (i : Text) (ts : List Tree) (r : Pairs) → HasColon i → AllFit p r → AllFit p (reverse_put i ts r)
reverse_put_fits p i [] r has all = all
reverse_put_fits p i (t ∷ ts) r has all =
    let old : AllByRecursion KeyHasColon (reverses_of (member_at (codes "@reverse") r)) = reverses_have p r (member_at (codes "@reverse") r) all refl in
    let new : AllByRecursion KeyHasColon (add_all i (t ∷ ts) (reverses_of (member_at (codes "@reverse") r))) = all_added KeyHasColon i (t ∷ ts) _ (λ _. has) old in
    all-put (Fits p) (codes "@reverse") _ r (reverse_fits p _ new) all

pub reverse_added_fits : (p : Option Text) (i : Text) (ts : List Tree) (r : Pairs) → HasColon i → AllFit p r → IfOk (reverse_added i ts r) (AllFit p)
unfolding reverse_added
reverse_added_fits p i ts r has all = after_any (AllFit p) (unless (not (list_any is_irreversible ts)) code.InvalidReversePropertyValue) _ (λ _. reverse_put_fits p i ts r has all)

-- a property
pub property_added_fits : (p : Option Text) (d : Option Definition) (i : Text) (v : Tree) (r : Pairs) → HasColon i → AllFit p r → IfOk (property_added d i v r) (AllFit p)
unfolding property_added
property_added_fits p d i v r has all =
    let u : Tree = graphed (container_of d) (listed (container_of d) v) in
    if_cond (AllFit p) (is_null v) (Ok r) (value_added d i v r) all
    (if_cond (AllFit p) (is_reverse d) (reverse_added i (as_items u) r) (Ok (add_all i (values_of u) r))
    (reverse_added_fits p i (as_items u) r has all)
    (all_added (Fits p) i (values_of u) r (λ t. property_fits p i t has) all))

pub property_told_fits : (p : Option Text) (c : Settings) (d : Option Definition) (i : Text) (t : Tree) (r : Pairs) → HasColon i → AllFit p r → IfOk (property_told c d i t r) (AllFit p)
unfolding property_told
property_told_fits p c d i t r has all = after_any (AllFit p) (value_unexpanded c d t) _ (λ v. property_added_fits p d i v r has all)

-- a keyword is not begun under `@reverse`
pub begun_forward : (p : Option Text) (w : Word) (r : Pairs) → IfOk (keyword_begun p w r) (λ _. is_under_reverse p ≡ false)
begun_forward p w r = by (is_under_reverse p)
  where
    by : (b : Bool) → IfOk (unless (not b) code.InvalidReversePropertyMap >>= (λ _. unless (may_repeat w || is_none (member_at (keyword_name w) r)) code.CollidingKeywords)) (λ _. b ≡ false)
    by true = tt
    by false = of_any (λ _. false ≡ false) (unless (may_repeat w || is_none (member_at (keyword_name w) r)) code.CollidingKeywords) (λ _. refl)

-- a keyword whose value isn't expanded
type_put_fits : (p : Option Text) (t : Tree) (r : Pairs) → is_under_reverse p ≡ false → AllFit p r → AllFit p (type_put t r)
type_put_fits p t r forward all = by (has (codes "@type") r)
  where
    fits : (t : Tree) → Fits p (codes "@type", t)
    fits t = word_fits p (codes "@type") t forward refl refl refl

    by : (b : Bool) → AllFit p (if b then add_all (codes "@type") (values_of t) r else put (codes "@type") t r)
    by true = all_added (Fits p) (codes "@type") (values_of t) r fits all
    by false = all-put (Fits p) (codes "@type") t r (fits t) all

-- the keywords that get their value so
abbrev tells : Word → Bool
tells w = not (bytes_eq (keyword_name w) (codes "@graph") || bytes_eq (keyword_name w) (codes "@set") || bytes_eq (keyword_name w) (codes "@reverse"))

word_put_fits : (p : Option Text) (w : Word) (v : Option Tree) (r : Pairs) → tells w ≡ true → is_under_reverse p ≡ false → AllFit p r → AllFit p (keyword_put w v r)
unfolding keyword_put
word_put_fits p w None r own forward all = all
word_put_fits p word.TypeWord (Some t) r own forward all = type_put_fits p t r forward all
word_put_fits p word.Graph (Some t) r own forward all = absurd (cc)
word_put_fits p word.Set (Some t) r own forward all = absurd (cc)
word_put_fits p word.Reverse (Some t) r own forward all = absurd (cc)
word_put_fits p w (Some t) r own forward all = all-put (Fits p) (keyword_name w) t r (word_fits p (keyword_name w) t forward refl refl refl) all

word_told_fits : (p : Option Text) (c types : Settings) (json : Bool) (w : Word) (t : Tree) (r : Pairs) → is_under_reverse p ≡ false → AllFit p r → IfOk (keyword_entry c types w t json >>= (λ v. Ok (keyword_put w v r))) (AllFit p)
unfolding keyword_entry keyword_put
word_told_fits p c types json word.Id t r forward all = after_any (AllFit p) (id_told c t) _ (λ v. word_put_fits p word.Id v r refl forward all)
word_told_fits p c types json word.TypeWord t r forward all = after_any (AllFit p) (type_told types t) _ (λ v. word_put_fits p word.TypeWord v r refl forward all)
word_told_fits p c types json word.Value t r forward all = after_any (AllFit p) (value_told json t) _ (λ v. word_put_fits p word.Value v r refl forward all)
word_told_fits p c types json word.Language t r forward all = after_any (AllFit p) (language_told t) _ (λ v. word_put_fits p word.Language v r refl forward all)
word_told_fits p c types json word.Direction t r forward all = after_any (AllFit p) (direction_told t) _ (λ v. word_put_fits p word.Direction v r refl forward all)
word_told_fits p c types json word.Index t r forward all = after_any (AllFit p) (index_told t) _ (λ v. word_put_fits p word.Index v r refl forward all)
word_told_fits p c types json _ t r forward all = all

pub keyword_told_fits : (p : Option Text) (c types : Settings) (json : Bool) (w : Word) (t : Tree) (r : Pairs) → AllFit p r → IfOk (keyword_told c types json p w t r) (AllFit p)
unfolding keyword_told
keyword_told_fits p c types json w t r all =
    after (λ _. is_under_reverse p ≡ false) (AllFit p) (keyword_begun p w r) _ (begun_forward p w r)
    (λ _ forward. after_any (AllFit p) (may_be_told w) _ (λ _. word_told_fits p c types json w t r forward all))

-- the value of `@graph`, `@included`, `@list`, `@set`
pub graph_added_fits : (p : Option Text) (v : Tree) (r : Pairs) → is_under_reverse p ≡ false → AllByRecursion IsNodeObject (as_items v) → AllFit p r → AllFit p (put (codes "@graph") (array (trees_of (as_items v))) r)
graph_added_fits p v r forward nodes all = all-put (Fits p) (codes "@graph") (array (trees_of (as_items v))) r fits all
  where
    fits : Fits p (codes "@graph", array (trees_of (as_items v)))
    fits =
        record {
          graph = λ same. subst (AllByRecursion IsNodeObject) (sym (tree_list-trees_of (as_items v))) nodes;
          set = λ same top. absurd (cc);
          reverse = λ same. absurd (cc);
          key = λ under other. never (is_under_reverse p) forward under;
        }

pub included_added_fits : (p : Option Text) (v : Tree) (r : Pairs) → is_under_reverse p ≡ false → AllFit p r → IfOk (included_added v r) (AllFit p)
included_added_fits p v r forward all =
    after_any (AllFit p) (unless (not (is_null v) && list_all is_node_object (values_of v)) code.InvalidIncludedValue) _
    (λ _. all_added (Fits p) (codes "@included") (values_of v) r (λ t. word_fits p (codes "@included") t forward refl refl refl) all)

pub list_added_fits : (p : Option Text) (v : Tree) (r : Pairs) → is_under_reverse p ≡ false → AllFit p r → AllFit p (put (codes "@list") (array (trees_of (as_items v))) r)
list_added_fits p v r forward all = all-put (Fits p) (codes "@list") (array (trees_of (as_items v))) r (word_fits p (codes "@list") _ forward refl refl refl) all

pub set_added_fits : (p : Option Text) (v : Tree) (r : Pairs) → is_under_reverse p ≡ false → (is_top p ≡ true → AllByRecursion IsTopNode (as_items v)) → AllFit p r → AllFit p (put (codes "@set") v r)
set_added_fits p v r forward nodes all = all-put (Fits p) (codes "@set") v r fits all
  where
    fits : Fits p (codes "@set", v)
    fits =
        record {
          graph = λ same. absurd (cc);
          set = λ same top. nodes top;
          reverse = λ same. absurd (cc);
          key = λ under other. never (is_under_reverse p) forward under;
        }

-- the value of `@reverse`
forward_added_fits : (p : Option Text) (ms : Pairs) (r : Pairs) → AllByRecursion KeyHasColon ms → AllFit p r → AllFit p (forward_added ms r)
forward_added_fits p [] r keys all = all
forward_added_fits p (m ∷ ms) r keys all =
    forward_added_fits p ms (add_all m.0 (values_of m.1) r) keys.1 (all_added (Fits p) m.0 (values_of m.1) r (λ t. property_fits p m.0 t keys.0) all)

reversed_have : (ms : Pairs) (o : Option Tree) → AllByRecursion IsReversal ms → member_at (codes "@reverse") ms ≡ o → AllByRecursion KeyHasColon (reverses_of o)
reversed_have ms None all is = tt
reversed_have ms (Some t) all is = (held IsReversal (codes "@reverse") t ms all is).reverse refl

one_reversed_fits : (p : Option Text) (m : Text × Tree) (r : Pairs) → IsReversal m → AllFit p r → IfOk (if bytes_eq m.0 (codes "@reverse") then Ok r else reverse_added m.0 (values_of m.1) r) (AllFit p)
one_reversed_fits p m r is all = by (bytes_eq m.0 (codes "@reverse")) refl
  where
    by : (b : Bool) → bytes_eq m.0 (codes "@reverse") ≡ b → IfOk (if b then Ok r else reverse_added m.0 (values_of m.1) r) (AllFit p)
    by true same = all
    by false other = reverse_added_fits p m.0 (values_of m.1) r (is.key other) all

each_reversed_fits : (p : Option Text) (ms : Pairs) (r : Pairs) → AllByRecursion IsReversal ms → AllFit p r → IfOk (each_reversed ms r) (AllFit p)
each_reversed_fits p [] r are all = all
each_reversed_fits p (m ∷ ms) r are all =
    after (AllFit p) (AllFit p) (if bytes_eq m.0 (codes "@reverse") then Ok r else reverse_added m.0 (values_of m.1) r) _ (one_reversed_fits p m r are.0 all)
    (λ r₁ all₁. each_reversed_fits p ms r₁ are.1 all₁)

pub reverse_map_added_fits : (p : Option Text) (v : Tree) (r : Pairs) → AllByRecursion IsReversal (members_in v) → AllFit p r → IfOk (reverse_map_added v r) (AllFit p)
unfolding reverse_map_added
reverse_map_added_fits p v r are all =
    each_reversed_fits p (members_in v) _ are
    (forward_added_fits p (reversed_in (members_in v)) r (reversed_have (members_in v) (member_at (codes "@reverse") (members_in v)) are refl) all)
