-- A sum has what its operations say.
use Rattle.std.proofs.Common.{◌≡◌, ℕ, List, [], ◌∷◌, ◌++◌, Bool, true, false, cond, not, ◌&&◌, Option, Some, None, refl, sym, ap, ap₂, ◌∙◌, append-nil}
use Rattle.std.specs.Prelude.{find, flat_map}
use Rattle.std.specs.Map.{keys_of}
use Rattle.std.specs.Option.{option_or}
use Rattle.std.specs.Str.{bytes_eq}
use Rattle.std.proofs.lemmas.List.Folds.{find-append}
use Rattle.ld_model.proofs.Puts.{bytes_eq-exact}
use Rattle.op_model.specs.Names.{Name, same_name}
use Rattle.op_model.specs.Ops.{Entry, list, Op, use_label, ensure_graph, ensure_node, ensure_property, add_entry, append_list, add_type, set_index}
use Rattle.sum_model.specs.Joins.{lists_joined, or_empty, value_at}
use Rattle.sum_model.specs.Sums.{Place, Placed, Key, same_key, same_entry, conflict_with, indexes_joined, PartEntry, bare, part_entries_joined, Sum, empty_sum, join, sum_of_one, sum}
use Rattle.sum_laws.specs.Said.{once, only, graph_named, node_named, type_added, property_named, entry_added, index_set, index_of, at_key, under_property, GraphsAreSaid, NodesAreSaid, TypesAreSaid, PropertiesAreSaid, EntriesAreSaid, IndexesAreSaid, OfEachSum}
use Rattle.sum_laws.proofs.Maps.{keys-joined, at-joined}
use Rattle.sum_laws.proofs.Same.{same_name-exact, same_name-sym, same_key-exact, same_key-sym, same_entry-exact, same_entry-sym}
use Rattle.sum_laws.proofs.Sums.{entries, part_entries}
use Rattle.sum_laws.proofs.Once.{once-append, once-only}

-- What is read off a sum is what its operations say, gathered, where it is so of one operation, and joins as what is gathered does.
read_out : {X V : Type 0} (read : Sum → V) (joined : V → V → V) (gather : List X → V) (by : Placed → List X)
    → ((xs ys : List X) → gather (xs ++ ys) ≡ joined (gather xs) (gather ys))
    → read empty_sum ≡ gather []
    → ((a b : Sum) → read (join a b) ≡ joined (read a) (read b))
    → ((o : Placed) → read (sum_of_one o.0 o.1) ≡ gather (by o))
    → (os : List Placed) → read (sum os) ≡ gather (flat_map by os)
read_out read joined gather by both none of_join of_one [] = none
read_out read joined gather by both none of_join of_one (o ∷ os) =
    of_join (sum_of_one o.0 o.1) (sum os)
    ∙ ap₂ joined (of_one o) (read_out read joined gather by both none of_join of_one os)
    ∙ sym (both (by o) (flat_map by os))

-- Graphs and nodes.
one_graph : (at : Place) (o : Op) → (sum_of_one at o).graphs ≡ once same_name (graph_named o)
one_graph at (use_label name) = refl
one_graph at (ensure_graph g) = refl
one_graph at (ensure_node g n) = refl
one_graph at (ensure_property g n p) = refl
one_graph at (add_entry g n p e) = refl
one_graph at (append_list g n p es) = refl
one_graph at (add_type g n t) = refl
one_graph at (set_index g n i) = refl

pub graphs_are_said : OfEachSum GraphsAreSaid
graphs_are_said = read_out (λ s. s.graphs) (lists_joined same_name) (once same_name) (λ o. graph_named o.1)
    (once-append same_name same_name-exact same_name-sym) refl (λ a b. refl) (λ o. one_graph o.0 o.1)

one_node : (at : Place) (o : Op) → keys_of (sum_of_one at o).nodes ≡ once same_key (node_named o)
one_node at (use_label name) = refl
one_node at (ensure_graph g) = refl
one_node at (ensure_node g n) = refl
one_node at (ensure_property g n p) = refl
one_node at (add_entry g n p e) = refl
one_node at (append_list g n p es) = refl
one_node at (add_type g n t) = refl
one_node at (set_index g n i) = refl

pub nodes_are_said : OfEachSum NodesAreSaid
nodes_are_said = read_out (λ s. keys_of s.nodes) (lists_joined same_key) (once same_key) (λ o. node_named o.1)
    (once-append same_key same_key-exact same_key-sym) refl (λ a b. keys-joined same_key bare part_entries_joined a.nodes b.nodes) (λ o. one_node o.0 o.1)

-- What a sum of one node has at a key: its own where the key is that node's, and else nothing.
abbrev at_own : Bool → PartEntry → PartEntry
at_own own e = or_empty bare (cond own (Some e) None)

nothing_there : {V : Type 0} (f : PartEntry → V) (own : Bool) (e : PartEntry) → f e ≡ f bare → f (at_own own e) ≡ f bare
nothing_there f true e is = is
nothing_there f false e is = refl

at_key-join : (k : Key) (a b : Sum) → at_key k (join a b) ≡ part_entries_joined (at_key k a) (at_key k b)
at_key-join k a b = at-joined same_key same_key-exact bare part_entries_joined part_entries k a.nodes b.nodes

-- Types.
own_type : (own : Bool) (t : Name) → (at_own own (record { types = t ∷ []; index = None; properties = [] })).types ≡ only own t
own_type true t = refl
own_type false t = refl

one_type : (k : Key) (at : Place) (o : Op) → (at_key k (sum_of_one at o)).types ≡ once same_name (type_added k o)
one_type k at (use_label name) = refl
one_type k at (ensure_graph g) = refl
one_type k at (ensure_node g n) = nothing_there (λ e. e.types) (same_key k (g, n)) _ refl
one_type k at (ensure_property g n p) = nothing_there (λ e. e.types) (same_key k (g, n)) _ refl
one_type k at (add_entry g n p e) = nothing_there (λ e. e.types) (same_key k (g, n)) _ refl
one_type k at (append_list g n p es) = nothing_there (λ e. e.types) (same_key k (g, n)) _ refl
one_type k at (add_type g n t) = own_type (same_key k (g, n)) t ∙ sym (once-only same_name (same_key k (g, n)) t)
one_type k at (set_index g n i) = nothing_there (λ e. e.types) (same_key k (g, n)) _ refl

pub types_are_said : OfEachSum TypesAreSaid
types_are_said os k = read_out (λ s. (at_key k s).types) (lists_joined same_name) (once same_name) (λ o. type_added k o.1)
    (once-append same_name same_name-exact same_name-sym) refl (λ a b. ap (λ e. e.types) (at_key-join k a b)) (λ o. one_type k o.0 o.1) os

-- Properties.
own_property : (own : Bool) (p : Name) (es : List Entry) → keys_of (at_own own (record { types = []; index = None; properties = (p, es) ∷ [] })).properties ≡ only own p
own_property true p es = refl
own_property false p es = refl

one_property : (k : Key) (at : Place) (o : Op) → keys_of (at_key k (sum_of_one at o)).properties ≡ once same_name (property_named k o)
one_property k at (use_label name) = refl
one_property k at (ensure_graph g) = refl
one_property k at (ensure_node g n) = nothing_there (λ e. keys_of e.properties) (same_key k (g, n)) _ refl
one_property k at (ensure_property g n p) = own_property (same_key k (g, n)) p _ ∙ sym (once-only same_name (same_key k (g, n)) p)
one_property k at (add_entry g n p e) = own_property (same_key k (g, n)) p _ ∙ sym (once-only same_name (same_key k (g, n)) p)
one_property k at (append_list g n p es) = own_property (same_key k (g, n)) p _ ∙ sym (once-only same_name (same_key k (g, n)) p)
one_property k at (add_type g n t) = nothing_there (λ e. keys_of e.properties) (same_key k (g, n)) _ refl
one_property k at (set_index g n i) = nothing_there (λ e. keys_of e.properties) (same_key k (g, n)) _ refl

properties_joined-keys : (k : Key) (a b : Sum) → keys_of (at_key k (join a b)).properties ≡ lists_joined same_name (keys_of (at_key k a).properties) (keys_of (at_key k b).properties)
properties_joined-keys k a b =
    ap (λ e. keys_of e.properties) (at_key-join k a b)
    ∙ keys-joined same_name [] (lists_joined same_entry) (at_key k a).properties (at_key k b).properties

pub properties_are_said : OfEachSum PropertiesAreSaid
properties_are_said os k = read_out (λ s. keys_of (at_key k s).properties) (lists_joined same_name) (once same_name) (λ o. property_named k o.1)
    (once-append same_name same_name-exact same_name-sym) refl (properties_joined-keys k) (λ o. one_property k o.0 o.1) os

-- Entries.
own_entry : (own here : Bool) (e : Entry) → or_empty [] (cond own (cond here (Some (e ∷ [])) None) None) ≡ only (own && here) e
own_entry true true e = refl
own_entry true false e = refl
own_entry false here e = refl

no_entry : (own here : Bool) → or_empty {V = List Entry} [] (cond own (cond here (Some []) None) None) ≡ []
no_entry true true = refl
no_entry true false = refl
no_entry false here = refl

-- The entries of the one property that a sum of one node has.
own_entries : (q p : Name) (own : Bool) (es : List Entry) → value_at same_name [] q (at_own own (record { types = []; index = None; properties = (p, es) ∷ [] })).properties ≡ or_empty [] (cond own (cond (same_name q p) (Some es) None) None)
own_entries q p true es = refl
own_entries q p false es = refl

one_entry : (k : Key) (q : Name) (at : Place) (o : Op) → under_property k q (sum_of_one at o) ≡ once same_entry (entry_added k q o)
one_entry k q at (use_label name) = refl
one_entry k q at (ensure_graph g) = refl
one_entry k q at (ensure_node g n) = nothing_there (λ e. value_at same_name [] q e.properties) (same_key k (g, n)) _ refl
one_entry k q at (ensure_property g n p) = own_entries q p (same_key k (g, n)) [] ∙ no_entry (same_key k (g, n)) (same_name q p)
one_entry k q at (add_entry g n p e) =
    own_entries q p (same_key k (g, n)) (e ∷ [])
    ∙ own_entry (same_key k (g, n)) (same_name q p) e
    ∙ sym (once-only same_entry (same_key k (g, n) && same_name q p) e)
one_entry k q at (append_list g n p es) =
    own_entries q p (same_key k (g, n)) (list es ∷ [])
    ∙ own_entry (same_key k (g, n)) (same_name q p) (list es)
    ∙ sym (once-only same_entry (same_key k (g, n) && same_name q p) (list es))
one_entry k q at (add_type g n t) = nothing_there (λ e. value_at same_name [] q e.properties) (same_key k (g, n)) _ refl
one_entry k q at (set_index g n i) = nothing_there (λ e. value_at same_name [] q e.properties) (same_key k (g, n)) _ refl

under_property-join : (k : Key) (p : Name) (a b : Sum) → under_property k p (join a b) ≡ lists_joined same_entry (under_property k p a) (under_property k p b)
under_property-join k p a b =
    ap (λ e. value_at same_name [] p e.properties) (at_key-join k a b)
    ∙ at-joined same_name same_name-exact [] (lists_joined same_entry) entries p (at_key k a).properties (at_key k b).properties

pub entries_are_said : OfEachSum EntriesAreSaid
entries_are_said os k p = read_out (under_property k p) (lists_joined same_entry) (once same_entry) (λ o. entry_added k p o.1)
    (once-append same_entry same_entry-exact same_entry-sym) refl (under_property-join k p) (λ o. one_entry k p o.0 o.1) os

-- Indexes.
abbrev differs : List ℕ → Place × List ℕ → Bool
differs text x = not (bytes_eq text x.1)

-- The first different index among some and then others, of which the first is y.
other_behind : (text : List ℕ) (found : Option (Place × List ℕ)) (y : Place × List ℕ) (ys : List (Place × List ℕ)) → option_or found (find (differs text) (y ∷ ys)) ≡ conflict_with text found (record { place = y.0; text = y.1; conflict = find (differs y.1) ys })
other_behind text (Some x) y ys = refl
other_behind text None y ys = by_test (bytes_eq text y.1) refl
  where
    by_test : (t : Bool) → bytes_eq text y.1 ≡ t → find (differs text) (y ∷ ys) ≡ cond (bytes_eq text y.1) (find (differs y.1) ys) (Some (y.0, y.1))
    by_test true is = rw is (ap (λ s. find (differs s) ys) (bytes_eq-exact text y.1 is))
    by_test false is = rw is refl

index_of-append : (xs ys : List (Place × List ℕ)) → index_of (xs ++ ys) ≡ indexes_joined (index_of xs) (index_of ys)
index_of-append [] ys = refl
index_of-append (x ∷ xs) [] = ap (λ l. index_of (x ∷ l)) (append-nil xs)
index_of-append (x ∷ xs) (y ∷ ys) =
    ap (λ o. Some (record { place = x.0; text = x.1; conflict = o }))
    (find-append (differs x.1) xs (y ∷ ys) ∙ other_behind x.1 (find (differs x.1) xs) y ys)

own_index : (own : Bool) (at : Place) (i : List ℕ) → (at_own own (record { types = []; index = Some (record { place = at; text = i; conflict = None }); properties = [] })).index ≡ index_of (only own (at, i))
own_index true at i = refl
own_index false at i = refl

one_index : (k : Key) (at : Place) (o : Op) → (at_key k (sum_of_one at o)).index ≡ index_of (index_set k (at, o))
one_index k at (use_label name) = refl
one_index k at (ensure_graph g) = refl
one_index k at (ensure_node g n) = nothing_there (λ e. e.index) (same_key k (g, n)) _ refl
one_index k at (ensure_property g n p) = nothing_there (λ e. e.index) (same_key k (g, n)) _ refl
one_index k at (add_entry g n p e) = nothing_there (λ e. e.index) (same_key k (g, n)) _ refl
one_index k at (append_list g n p es) = nothing_there (λ e. e.index) (same_key k (g, n)) _ refl
one_index k at (add_type g n t) = nothing_there (λ e. e.index) (same_key k (g, n)) _ refl
one_index k at (set_index g n i) = own_index (same_key k (g, n)) at i

pub indexes_are_said : OfEachSum IndexesAreSaid
indexes_are_said os k = read_out (λ s. (at_key k s).index) indexes_joined index_of (index_set k)
    index_of-append refl (λ a b. ap (λ e. e.index) (at_key-join k a b)) (λ o. one_index k o.0 o.1) os
