-- Sums over the nodes of a graph, and what can be read from what is said of a node.
use Rattle.std.proofs.Common.{◌≡◌, ℕ, List, [], ◌∷◌, ◌++◌, Bool, true, false, ◌||◌, if◌then◌else◌, length, nat_lt, Option, Some, None, is_some, Less, Equal, Greater, Ordering, refl, sym, ap, ap₂, ◌∙◌, append_assoc, arith, lt-ltb}
use Rattle.std.specs.Prelude.{map as each}
use Rattle.std.proofs.lemmas.List.{append-nil}
use Rattle.std.specs.Str.{bytes_eq}
use Rattle.std.specs.Ordering.{match_ordering}
use Rattle.std.specs.List.{flat_map, list_any}
use Rattle.std.proofs.lemmas.List.Folds.{list_any-append}
use Rattle.std.proofs.lemmas.Map.Lookups.{exact_bytes}
use Rattle.ld_model.specs.Tree.{Tree, Trees, Pairs, null, truth, whole, one_one, text, array, object, tree_list, members_of, member_list-members_of, member_at, put, byte_order, AreAscending}
use Rattle.ld_model.specs.Keys.{id_key, graph_key}
use Rattle.ld_model.proofs.Puts.{bytes_eq-exact, at_first, at_later, ascending_head, ascending_tail, member_at-put_other}
use Rattle.ld_model.proofs.SameMembers.{missing}
use Rattle.ctx_types.specs.Expansion.{is_keyword}
use Rattle.node_model.specs.Keys.{type_key, index_key}
use Rattle.node_model.specs.Walk.{text_in, texts_of}
use Rattle.node_laws.specs.Stated.{Said, it_is, a_property, an_entry, a_type, an_index, types_said, indexes_said, is_of_property, entries_said, array_in}
use Rattle.node_laws.proofs.Restated.{told, property_said}
use Rattle.node_laws.proofs.RestatedNodes.{index_said, object_said}
use Rattle.node_laws.proofs.SameContents.{kept_if}

abbrev pub if_so : Bool → List Said → List Said
if_so b ds = if b then ds else []

abbrev pub found : (List ℕ × Tree → List Said) → List ℕ → Option Tree → List Said
found f k (Some t) = f (k, t)
found f k None = []

pub flat_to : {X Y : Type 0} (f g : X → List Y) → ((x : X) → f x ≡ g x) → (xs : List X) → flat_map f xs ≡ flat_map g xs
flat_to f g same [] = refl
flat_to f g same (x ∷ xs) = ap₂ (λ a b. a ++ b) (same x) (flat_to f g same xs)

pub flat-append : {X Y : Type 0} (f : X → List Y) (xs ys : List X) → flat_map f (xs ++ ys) ≡ flat_map f xs ++ flat_map f ys
flat-append f [] ys = refl
flat-append f (x ∷ xs) ys = ap (λ l. f x ++ l) (flat-append f xs ys) ∙ sym (append_assoc (f x) (flat_map f xs) (flat_map f ys))

-- Among keys that ascend, one counts at most.
pub sum_at : (f : List ℕ × Tree → List Said) (k : List ℕ) (ms : Pairs) → AreAscending ms → flat_map (λ m. if_so (bytes_eq k m.0) (f m)) ms ≡ found f k (member_at k ms)
sum_at f k [] sorted = refl
sum_at f k (m ∷ ms) sorted = by_test (bytes_eq k m.0) refl (sum_at f k ms (ascending_tail m ms sorted))
  where
    by_test : (b : Bool) → bytes_eq k m.0 ≡ b → flat_map (λ m. if_so (bytes_eq k m.0) (f m)) ms ≡ found f k (member_at k ms) → if_so (bytes_eq k m.0) (f m) ++ flat_map (λ m. if_so (bytes_eq k m.0) (f m)) ms ≡ found f k (member_at k (m ∷ ms))
    by_test true same rest =
        let e : k ≡ m.0 = bytes_eq-exact k m.0 same in
        let none : member_at k ms ≡ None = ap (λ x. member_at x ms) e ∙ missing m.0 ms (ascending_head m ms sorted) in
        ap (λ b. if_so b (f m) ++ flat_map (λ m. if_so (bytes_eq k m.0) (f m)) ms) same
        ∙ ap (λ l. f m ++ l) (rest ∙ ap (found f k) none)
        ∙ append-nil (f m)
        ∙ ap (λ x. f (x, m.1)) (sym e)
        ∙ ap (found f k) (sym (at_first k m ms same))
    by_test false apart rest =
        ap (λ b. if_so b (f m) ++ flat_map (λ m. if_so (bytes_eq k m.0) (f m)) ms) apart ∙ rest ∙ ap (found f k) (sym (at_later k m ms apart))

-- What the members of a node say of it.
abbrev pub said_in : Pairs → List Said
said_in ms = (each a_type (texts_of (member_at type_key ms)) ++ index_said (text_in (member_at index_key ms))) ++ flat_map property_said ms

-- With nothing but an id nothing is said.
bare_said : (k : List ℕ) (ms : Pairs) → member_at id_key ms ≡ Some (text k) → nat_lt 1 (length ms) ≡ false → said_in ms ≡ []
bare_said k [] id_at short = absurd (cc)
bare_said k (m ∷ []) id_at short = by_test (bytes_eq id_key m.0) refl
  where
    by_test : (b : Bool) → bytes_eq id_key m.0 ≡ b → said_in (m ∷ []) ≡ []
    by_test true same =
        let key : m.0 ≡ id_key = sym (bytes_eq-exact id_key m.0 same) in
        let both : Some m.1 ≡ Some (text k) = sym (at_first id_key m [] same) ∙ id_at in
        let value : m.1 ≡ text k = cc in
        ap (λ (x : List ℕ × Tree). said_in (x ∷ [])) (λ i. (key i, value i))
    by_test false apart = absurd (let no_way : None ≡ Some (text k) = sym (at_later id_key m [] apart) ∙ id_at in cc)
bare_said k (m ∷ n ∷ ms) id_at short = absurd (let more : nat_lt 1 (length (m ∷ n ∷ ms)) ≡ true = lt-ltb 1 _ (omega arith) in let no_way : true ≡ false = sym more ∙ short in cc)

pub kept_said : (k : List ℕ) (ms : Pairs) → member_at id_key ms ≡ Some (text k) → found (λ m. object_said m.1) k (kept_if ms) ≡ said_in ms
kept_said k ms id_at = by_test (nat_lt 1 (length ms)) refl
  where
    by_test : (b : Bool) → nat_lt 1 (length ms) ≡ b → found (λ m. object_said m.1) k (if b then Some (object (members_of ms)) else None) ≡ said_in ms
    by_test true more = ap said_in (member_list-members_of ms)
    by_test false short = sym (bare_said k ms id_at short)

-- Two keys make two members.
pub two_members : (ms : Pairs) (t u : Tree) → member_at id_key ms ≡ Some t → member_at graph_key ms ≡ Some u → nat_lt 1 (length ms) ≡ true
two_members [] t u id_at graph_at = absurd (cc)
two_members (m ∷ []) t u id_at graph_at = by_tests (bytes_eq id_key m.0) (bytes_eq graph_key m.0) refl refl
  where
    by_tests : (b c : Bool) → bytes_eq id_key m.0 ≡ b → bytes_eq graph_key m.0 ≡ c → nat_lt 1 (length (m ∷ [])) ≡ true
    by_tests true true same also = absurd (let e : id_key ≡ graph_key = bytes_eq-exact id_key m.0 same ∙ sym (bytes_eq-exact graph_key m.0 also) in let no_way : true ≡ false = ap (bytes_eq id_key) e in cc)
    by_tests false c apart other = absurd (let no_way : None ≡ Some t = sym (at_later id_key m [] apart) ∙ id_at in cc)
    by_tests true false same apart = absurd (let no_way : None ≡ Some u = sym (at_later graph_key m [] apart) ∙ graph_at in cc)
two_members (m ∷ n ∷ ms) t u id_at graph_at = lt-ltb 1 _ (omega arith)

-- A graph that is put into a node says nothing of it.
nothing_at_keyword : (t : Tree) → property_said (graph_key, t) ≡ []
nothing_at_keyword (array ts) = refl
nothing_at_keyword null = refl
nothing_at_keyword (truth b) = refl
nothing_at_keyword (whole n) = refl
nothing_at_keyword one_one = refl
nothing_at_keyword (text s) = refl
nothing_at_keyword (object ms) = refl

properties-put : (t : Tree) (ms : Pairs) → flat_map property_said (put graph_key t ms) ≡ flat_map property_said ms
unfolding put
properties-put t [] = ap (λ l. l ++ []) (nothing_at_keyword t)
properties-put t (m ∷ ms) = by_order (byte_order graph_key m.0) refl (properties-put t ms)
  where
    by_order : (o : Ordering) → byte_order graph_key m.0 ≡ o → flat_map property_said (put graph_key t ms) ≡ flat_map property_said ms
        → flat_map property_said (match_ordering (byte_order graph_key m.0) ((graph_key, t) ∷ m ∷ ms) ((m.0, t) ∷ ms) (m ∷ put graph_key t ms)) ≡ property_said m ++ flat_map property_said ms
    by_order Less is rest =
        ap (λ o. flat_map property_said (match_ordering o ((graph_key, t) ∷ m ∷ ms) ((m.0, t) ∷ ms) (m ∷ put graph_key t ms))) is
        ∙ ap (λ l. l ++ (property_said m ++ flat_map property_said ms)) (nothing_at_keyword t)
    by_order Equal is rest =
        let key : graph_key ≡ m.0 = exact_bytes graph_key m.0 is in
        ap (λ o. flat_map property_said (match_ordering o ((graph_key, t) ∷ m ∷ ms) ((m.0, t) ∷ ms) (m ∷ put graph_key t ms))) is
        ∙ ap (λ l. l ++ flat_map property_said ms) (ap (λ x. property_said (x, t)) (sym key) ∙ nothing_at_keyword t ∙ sym (nothing_at_keyword m.1) ∙ ap (λ x. property_said (x, m.1)) key)
    by_order Greater is rest =
        ap (λ o. flat_map property_said (match_ordering o ((graph_key, t) ∷ m ∷ ms) ((m.0, t) ∷ ms) (m ∷ put graph_key t ms))) is
        ∙ ap (λ l. property_said m ++ l) rest

pub said_in-put : (t : Tree) (ms : Pairs) → said_in (put graph_key t ms) ≡ said_in ms
said_in-put t ms =
    λ i. (each a_type (texts_of (member_at-put_other type_key graph_key t ms refl i)) ++ index_said (text_in (member_at-put_other index_key graph_key t ms refl i))) ++ properties-put t ms i

-- What can be read from what is said.
module _ {X : Type 0} (f : Said → List X) (none : f it_is ≡ []) where
  pub read_told : (ds : List Said) → flat_map f ds ≡ flat_map f (told ds)
  read_told [] = refl
  read_told (it_is ∷ ds) = ap (λ l. l ++ flat_map f ds) none ∙ read_told ds
  read_told (a_property p ∷ ds) = ap (λ l. f (a_property p) ++ l) (read_told ds)
  read_told (an_entry p e ∷ ds) = ap (λ l. f (an_entry p e) ++ l) (read_told ds)
  read_told (a_type t ∷ ds) = ap (λ l. f (a_type t) ++ l) (read_told ds)
  read_told (an_index i ∷ ds) = ap (λ l. f (an_index i) ++ l) (read_told ds)

pub any_told : (p : List ℕ) (ds : List Said) → list_any (is_of_property p) ds ≡ list_any (is_of_property p) (told ds)
any_told p [] = refl
any_told p (it_is ∷ ds) = any_told p ds
any_told p (a_property q ∷ ds) = ap (λ b. bytes_eq p q || b) (any_told p ds)
any_told p (an_entry q e ∷ ds) = ap (λ b. bytes_eq p q || b) (any_told p ds)
any_told p (a_type t ∷ ds) = any_told p ds
any_told p (an_index i ∷ ds) = any_told p ds

-- Each property says of itself alone.
no_types : (q : List ℕ) (es : List Tree) → flat_map types_said (each (an_entry q) es) ≡ []
no_types q [] = refl
no_types q (e ∷ es) = no_types q es

no_indexes : (q : List ℕ) (es : List Tree) → flat_map indexes_said (each (an_entry q) es) ≡ []
no_indexes q [] = refl
no_indexes q (e ∷ es) = no_indexes q es

entries_each : (p q : List ℕ) (es : List Tree) (b : Bool) → bytes_eq p q ≡ b → flat_map (entries_said p) (each (an_entry q) es) ≡ (if b then es else [])
entries_each p q [] true is = refl
entries_each p q [] false is = refl
entries_each p q (e ∷ es) true is = ap (λ b. (if b then (e ∷ []) else []) ++ flat_map (entries_said p) (each (an_entry q) es)) is ∙ ap (λ l. e ∷ l) (entries_each p q es true is)
entries_each p q (e ∷ es) false is = ap (λ b. (if b then (e ∷ []) else []) ++ flat_map (entries_said p) (each (an_entry q) es)) is ∙ entries_each p q es false is

any_each : (p q : List ℕ) (es : List Tree) → bytes_eq p q ≡ false → list_any (is_of_property p) (each (an_entry q) es) ≡ false
any_each p q [] is = refl
any_each p q (e ∷ es) is = ap (λ b. b || list_any (is_of_property p) (each (an_entry q) es)) is ∙ any_each p q es is

-- A member says the same in every reading that properties have no part in.
module _ {X : Type 0} (f : Said → List X) (no_property : (q : List ℕ) → f (a_property q) ≡ []) (no_entries : (q : List ℕ) (es : List Tree) → flat_map f (each (an_entry q) es) ≡ []) where
  property_reads : (m : List ℕ × Tree) → flat_map f (property_said m) ≡ []
  property_reads (q, array ts) = by_word (is_keyword q)
    where
      by_word : (b : Bool) → flat_map f (if b then [] else (a_property q ∷ each (an_entry q) (tree_list ts))) ≡ []
      by_word true = refl
      by_word false = ap (λ l. l ++ flat_map f (each (an_entry q) (tree_list ts))) (no_property q) ∙ no_entries q (tree_list ts)
  property_reads (q, null) = refl
  property_reads (q, truth b) = refl
  property_reads (q, whole n) = refl
  property_reads (q, one_one) = refl
  property_reads (q, text s) = refl
  property_reads (q, object ms) = refl

  pub properties_read : (ms : Pairs) → flat_map f (flat_map property_said ms) ≡ []
  properties_read [] = refl
  properties_read (m ∷ ms) = flat-append f (property_said m) (flat_map property_said ms) ∙ ap₂ (λ a b. a ++ b) (property_reads m) (properties_read ms)

types_each : (ts : List (List ℕ)) → flat_map types_said (each a_type ts) ≡ ts
types_each [] = refl
types_each (t ∷ ts) = ap (λ l. t ∷ l) (types_each ts)

types_index : (o : Option (List ℕ)) → flat_map types_said (index_said o) ≡ []
types_index (Some i) = refl
types_index None = refl

pub types_read : (ms : Pairs) → flat_map types_said (said_in ms) ≡ texts_of (member_at type_key ms)
types_read ms =
    let ts = texts_of (member_at type_key ms) in
    let o = text_in (member_at index_key ms) in
    flat-append types_said (each a_type ts ++ index_said o) (flat_map property_said ms)
    ∙ ap₂ (λ a b. a ++ b) (flat-append types_said (each a_type ts) (index_said o) ∙ ap₂ (λ a b. a ++ b) (types_each ts) (types_index o)) (properties_read types_said (λ q. refl) no_types ms)
    ∙ append-nil (ts ++ [])
    ∙ append-nil ts

indexes_each : (ts : List (List ℕ)) → flat_map indexes_said (each a_type ts) ≡ []
indexes_each [] = refl
indexes_each (t ∷ ts) = indexes_each ts

abbrev pub listed_index : Option (List ℕ) → List (List ℕ)
listed_index (Some i) = i ∷ []
listed_index None = []

index_index : (o : Option (List ℕ)) → flat_map indexes_said (index_said o) ≡ listed_index o
index_index (Some i) = refl
index_index None = refl

pub index_read : (ms : Pairs) → flat_map indexes_said (said_in ms) ≡ listed_index (text_in (member_at index_key ms))
index_read ms =
    let ts = texts_of (member_at type_key ms) in
    let o = text_in (member_at index_key ms) in
    flat-append indexes_said (each a_type ts ++ index_said o) (flat_map property_said ms)
    ∙ ap₂ (λ a b. a ++ b) (flat-append indexes_said (each a_type ts) (index_said o) ∙ ap₂ (λ a b. a ++ b) (indexes_each ts) (index_index o)) (properties_read indexes_said (λ q. refl) no_indexes ms)
    ∙ append-nil (listed_index o)

module _ (p : List ℕ) (apart : is_keyword p ≡ false) where
  heads_entries : (ts : List (List ℕ)) → flat_map (entries_said p) (each a_type ts) ≡ []
  heads_entries [] = refl
  heads_entries (t ∷ ts) = heads_entries ts

  index_entries : (o : Option (List ℕ)) → flat_map (entries_said p) (index_said o) ≡ []
  index_entries (Some i) = refl
  index_entries None = refl

  heads_any : (ts : List (List ℕ)) → list_any (is_of_property p) (each a_type ts) ≡ false
  heads_any [] = refl
  heads_any (t ∷ ts) = heads_any ts

  index_any : (o : Option (List ℕ)) → list_any (is_of_property p) (index_said o) ≡ false
  index_any (Some i) = refl
  index_any None = refl

  -- The property itself, and another key.
  word_of : (q : List ℕ) → bytes_eq p q ≡ true → is_keyword q ≡ false
  word_of q same = ap is_keyword (sym (bytes_eq-exact p q same)) ∙ apart

  own_entries : (q : List ℕ) (t : Tree) → bytes_eq p q ≡ true → flat_map (entries_said p) (property_said (q, t)) ≡ array_in (Some t)
  own_entries q (array ts) same = ap (λ b. flat_map (entries_said p) (if b then [] else (a_property q ∷ each (an_entry q) (tree_list ts)))) (word_of q same) ∙ entries_each p q (tree_list ts) true same
  own_entries q null same = refl
  own_entries q (truth b) same = refl
  own_entries q (whole n) same = refl
  own_entries q one_one same = refl
  own_entries q (text s) same = refl
  own_entries q (object ms) same = refl

  other_entries : (q : List ℕ) (t : Tree) → bytes_eq p q ≡ false → flat_map (entries_said p) (property_said (q, t)) ≡ []
  other_entries q (array ts) other = by_word (is_keyword q)
    where
      by_word : (b : Bool) → flat_map (entries_said p) (if b then [] else (a_property q ∷ each (an_entry q) (tree_list ts))) ≡ []
      by_word true = refl
      by_word false = entries_each p q (tree_list ts) false other
  other_entries q null other = refl
  other_entries q (truth b) other = refl
  other_entries q (whole n) other = refl
  other_entries q one_one other = refl
  other_entries q (text s) other = refl
  other_entries q (object ms) other = refl

  none_later : (ms : Pairs) → member_at p ms ≡ None → flat_map (entries_said p) (flat_map property_said ms) ≡ []
  none_later [] none = refl
  none_later (m ∷ ms) none = by_test (bytes_eq p m.0) refl (none_later ms)
    where
      by_test : (b : Bool) → bytes_eq p m.0 ≡ b → (member_at p ms ≡ None → flat_map (entries_said p) (flat_map property_said ms) ≡ []) → flat_map (entries_said p) (flat_map property_said (m ∷ ms)) ≡ []
      by_test true same rest = absurd (let no_way : Some m.1 ≡ None = sym (at_first p m ms same) ∙ none in cc)
      by_test false other rest = flat-append (entries_said p) (property_said m) (flat_map property_said ms) ∙ ap₂ (λ a b. a ++ b) (other_entries m.0 m.1 other) (rest (sym (at_later p m ms other) ∙ none))

  properties_entries : (ms : Pairs) → AreAscending ms → flat_map (entries_said p) (flat_map property_said ms) ≡ array_in (member_at p ms)
  properties_entries [] sorted = refl
  properties_entries (m ∷ ms) sorted = flat-append (entries_said p) (property_said m) (flat_map property_said ms) ∙ by_test (bytes_eq p m.0) refl (properties_entries ms (ascending_tail m ms sorted))
    where
      by_test : (b : Bool) → bytes_eq p m.0 ≡ b → flat_map (entries_said p) (flat_map property_said ms) ≡ array_in (member_at p ms) → flat_map (entries_said p) (property_said m) ++ flat_map (entries_said p) (flat_map property_said ms) ≡ array_in (member_at p (m ∷ ms))
      by_test true same rest =
          let none : member_at p ms ≡ None = ap (λ x. member_at x ms) (bytes_eq-exact p m.0 same) ∙ missing m.0 ms (ascending_head m ms sorted) in
          ap₂ (λ a b. a ++ b) (own_entries m.0 m.1 same) (none_later ms none) ∙ append-nil (array_in (Some m.1)) ∙ ap array_in (sym (at_first p m ms same))
      by_test false other rest = ap₂ (λ a b. a ++ b) (other_entries m.0 m.1 other) rest ∙ ap array_in (sym (at_later p m ms other))

  pub entries_read : (ms : Pairs) → AreAscending ms → flat_map (entries_said p) (said_in ms) ≡ array_in (member_at p ms)
  entries_read ms sorted =
      let ts = texts_of (member_at type_key ms) in
      let o = text_in (member_at index_key ms) in
      flat-append (entries_said p) (each a_type ts ++ index_said o) (flat_map property_said ms)
      ∙ ap₂ (λ a b. a ++ b) (flat-append (entries_said p) (each a_type ts) (index_said o) ∙ ap₂ (λ a b. a ++ b) (heads_entries ts) (index_entries o)) (properties_entries ms sorted)

  -- That it is there, where each property has an array.
  any-append : (xs ys : List Said) → list_any (is_of_property p) (xs ++ ys) ≡ (list_any (is_of_property p) xs || list_any (is_of_property p) ys)
  any-append xs ys = list_any-append (is_of_property p) xs ys

  own_any : (q : List ℕ) (ts : Trees) → bytes_eq p q ≡ true → list_any (is_of_property p) (property_said (q, array ts)) ≡ true
  own_any q ts same =
      ap (λ b. list_any (is_of_property p) (if b then [] else (a_property q ∷ each (an_entry q) (tree_list ts)))) (word_of q same)
      ∙ ap (λ b. b || list_any (is_of_property p) (each (an_entry q) (tree_list ts))) same

  other_any : (q : List ℕ) (t : Tree) → bytes_eq p q ≡ false → list_any (is_of_property p) (property_said (q, t)) ≡ false
  other_any q (array ts) other = by_word (is_keyword q)
    where
      by_word : (b : Bool) → list_any (is_of_property p) (if b then [] else (a_property q ∷ each (an_entry q) (tree_list ts))) ≡ false
      by_word true = refl
      by_word false = ap (λ b. b || list_any (is_of_property p) (each (an_entry q) (tree_list ts))) other ∙ any_each p q (tree_list ts) other
  other_any q null other = refl
  other_any q (truth b) other = refl
  other_any q (whole n) other = refl
  other_any q one_one other = refl
  other_any q (text s) other = refl
  other_any q (object ms) other = refl

  properties_any : (ms : Pairs) → ((t : Tree) → member_at p ms ≡ Some t → (ts : Trees) × (t ≡ array ts)) → list_any (is_of_property p) (flat_map property_said ms) ≡ is_some (member_at p ms)
  properties_any [] arrays = refl
  properties_any (m ∷ ms) arrays = any-append (property_said m) (flat_map property_said ms) ∙ by_test (bytes_eq p m.0) refl (properties_any ms)
    where
      by_test : (b : Bool) → bytes_eq p m.0 ≡ b → (((t : Tree) → member_at p ms ≡ Some t → (ts : Trees) × (t ≡ array ts)) → list_any (is_of_property p) (flat_map property_said ms) ≡ is_some (member_at p ms))
          → (list_any (is_of_property p) (property_said m) || list_any (is_of_property p) (flat_map property_said ms)) ≡ is_some (member_at p (m ∷ ms))
      by_test true same rest =
          let is = arrays m.1 (at_first p m ms same) in
          ap (λ b. b || list_any (is_of_property p) (flat_map property_said ms)) (ap (λ t. list_any (is_of_property p) (property_said (m.0, t))) is.1 ∙ own_any m.0 is.0 same)
          ∙ ap is_some (sym (at_first p m ms same))
      by_test false other rest =
          ap (λ b. b || list_any (is_of_property p) (flat_map property_said ms)) (other_any m.0 m.1 other)
          ∙ rest (λ t is. arrays t (at_later p m ms other ∙ is))
          ∙ ap is_some (sym (at_later p m ms other))

  pub property_read : (ms : Pairs) → ((t : Tree) → member_at p ms ≡ Some t → (ts : Trees) × (t ≡ array ts)) → list_any (is_of_property p) (said_in ms) ≡ is_some (member_at p ms)
  property_read ms arrays =
      let ts = texts_of (member_at type_key ms) in
      let o = text_in (member_at index_key ms) in
      any-append (each a_type ts ++ index_said o) (flat_map property_said ms)
      ∙ ap (λ b. b || list_any (is_of_property p) (flat_map property_said ms)) (any-append (each a_type ts) (index_said o) ∙ ap₂ (λ a b. a || b) (heads_any ts) (index_any o))
      ∙ properties_any ms arrays
