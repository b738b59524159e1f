-- What operations make of a node, one after another, is what their sum has of it, renamed.
use Rattle.std.proofs.Common.{◌≡◌, ◌≤◌, ◌^◌, ℕ, List, [], ◌∷◌, ◌++◌, length, Bool, true, false, cond, not, ◌&&◌, ◌||◌, Option, Some, None, is_some, refl, sym, ap, ap₂, ◌∙◌, append-nil}
use Rattle.std.specs.Prelude.{if◌then◌else◌, option_map, map as each, ⊤}
use Rattle.std.specs.Str.{bytes_eq}
use Rattle.std.specs.List.{list_any, AllByRecursion}
use Rattle.std.specs.Map.{keys_of}
use Rattle.std.specs.Option.{option_or}
use Rattle.ld_model.specs.Tree.{Tree}
use Rattle.ld_model.proofs.Puts.{bytes_eq-refl, bytes_eq-exact}
use Rattle.node_model.specs.Maps.{at, with_at}
use Rattle.node_model.specs.NodeMap.{Node, new_node, entries_or_none, entries_in, list_object, told, with_entries, on_entries, with_type}
use Rattle.node_laws.proofs.Maps.{Ascend, ascend_none, ascend-with_at}
use Rattle.op_model.specs.Names.{Name, same_name}
use Rattle.op_model.specs.Ops.{Entry, value, reference, list, same_entry as op_same_entry, Op, use_label, ensure_graph, ensure_node, ensure_property, add_entry, append_list, add_type, set_index}
use Rattle.op_model.specs.Running.{with_name, label_in, entry_in, entries_in as items_in}
use Rattle.op_laws.specs.Words.{with_entry}
use Rattle.op_laws.specs.Own.{HasOwn, EntryHasOwn, OpHasOwn}
use Rattle.op_laws.specs.Sound.{IsSound}
use Rattle.op_laws.specs.Told.{is_node, is_of_node, index_or, node_changed, node_told}
use Rattle.op_laws.proofs.Added.{name_test, adding_is_alike}
use Rattle.op_laws.proofs.Read.{at_after}
use Rattle.sum_model.specs.Joins.{is_new, lists_joined, or_empty, value_at, values_joined}
use Rattle.sum_model.specs.Sums.{Place, Placed, Key, same_key, same_entry, Index, indexes_joined, PartEntry, bare, properties_joined, part_entries_joined, Sum, join, sum_of_one, sum}
use Rattle.sum_laws.specs.Said.{at_key}
use Rattle.sum_laws.proofs.Maps.{at-joined}
use Rattle.sum_laws.proofs.Same.{same_name-exact, same_name-sym, same_key-exact}
use Rattle.sum_laws.proofs.Sums.{names as names_monoid, indexes, entries, properties, part_entries}
use Rattle.shard_model.specs.Renamed.{properties_put, node_renamed}
use Rattle.shard_model.specs.Own.{PropertyHasOwn, PartHasOwn}
use Rattle.shard_laws.specs.Laws.{ops}
use Rattle.shard_laws.proofs.Folds.{or_none, or_assoc, last, some_or, kept, all_of}
use Rattle.shard_laws.proofs.Order.{same_maps}
use Rattle.shard_laws.proofs.Put.{gives_entries, entries_read}
use Rattle.shard_laws.proofs.Owned.{part_joined, bare_own, part_at, one_own}

-- One more name, and one more entry.
with_one : {X : Type 0} (held : List X) (x : X) (t : Bool) → (if t then held else (held ++ x ∷ [])) ≡ held ++ cond (not t) (x ∷ []) []
with_one held x true = sym (append-nil held)
with_one held x false = refl

pub one_name : (held : List Name) (n : Name) → with_name held n ≡ lists_joined same_name held (n ∷ [])
unfolding with_name
one_name held n = with_one held n (list_any (same_name n) held)

same_test : (e f : Entry) → op_same_entry e f ≡ same_entry e f
same_test (value a) (value b) = refl
same_test (value a) (reference b) = refl
same_test (value a) (list b) = refl
same_test (reference a) (value b) = refl
same_test (reference a) (reference b) = refl
same_test (reference a) (list b) = refl
same_test (list a) (value b) = refl
same_test (list a) (reference b) = refl
same_test (list a) (list b) = refl

any_same : (e : Entry) (es : List Entry) → list_any (op_same_entry e) es ≡ list_any (same_entry e) es
any_same e [] = refl
any_same e (f ∷ es) = ap₂ ◌||◌ (same_test e f) (any_same e es)

pub one_entry : (e : Entry) (es : List Entry) → with_entry e es ≡ lists_joined same_entry es (e ∷ [])
one_entry e es = ap (λ t. if t then es else (es ++ e ∷ [])) (any_same e es) ∙ with_one es e (list_any (same_entry e) es)

last-append : {X W : Type 0} (gives : X → Option W) (xs ys : List X) → last gives (xs ++ ys) ≡ option_or (last gives ys) (last gives xs)
last-append gives [] ys = sym (or_none (last gives ys))
last-append gives (x ∷ xs) ys = ap (λ o. option_or o (gives x)) (last-append gives xs ys) ∙ or_assoc (last gives ys) (last gives xs) (gives x)

pub mapped_or : {X Y : Type 0} (f : X → Y) (a b : Option X) → option_map f (option_or a b) ≡ option_or (option_map f a) (option_map f b)
mapped_or f None b = refl
mapped_or f (Some a) b = refl

text_of : Option Index → Option (List ℕ)
text_of o = option_map (λ i. i.text) o

module _ (names : List Name) (few : length names ≤ 2 ^ 64) where
  properties_ascend : (ps : List (Name × List Entry)) → Ascend (properties_put names ps [])
  properties_ascend ps =
      kept (λ m p. with_at (label_in names p.0) (each (entry_in names) p.1) m) Ascend (λ p. ⊤)
      (λ m p ascend is. ascend-with_at (label_in names p.0) (each (entry_in names) p.1) m ascend)
      ps [] (ascend_none (List Tree)) (all_of (λ p. ⊤) (λ p. tt) ps)

  read_alone : (q : List ℕ) (ps : List (Name × List Entry)) → at q (properties_put names ps []) ≡ last (gives_entries names q) ps
  read_alone q ps = entries_read names q ps [] ∙ or_none (last (gives_entries names q) ps)

  -- One more property, or more entries of one.
  module _ (p : Name) (es : List Entry) (change : List Tree → List Tree) (own : HasOwn names p)
      (is : (old : List Entry) → AllByRecursion (EntryHasOwn names) old → change (each (entry_in names) old) ≡ each (entry_in names) (lists_joined same_entry old es)) where
    abbrev more : List (Name × List Entry)
    more = (p, es) ∷ []

    abbrev here : List ℕ
    here = label_in names p

    -- At another label nothing changes.
    away_one : (q : List ℕ) → bytes_eq q here ≡ false → (f : Name × List Entry) → gives_entries names q (f.0, lists_joined same_entry f.1 (value_at same_name [] f.0 more)) ≡ gives_entries names q f
    away_one q apart f = by_tests (bytes_eq q (label_in names f.0)) (same_name f.0 p) refl refl
      where
        by_tests : (s t : Bool) → bytes_eq q (label_in names f.0) ≡ s → same_name f.0 p ≡ t → gives_entries names q (f.0, lists_joined same_entry f.1 (value_at same_name [] f.0 more)) ≡ gives_entries names q f
        by_tests true true at_f same = absurd (let no_way : true ≡ false = sym at_f ∙ ap (λ x. bytes_eq q (label_in names x)) (same_name-exact f.0 p same) ∙ apart in cc)
        by_tests true false at_f same =
            ap (λ t. cond (bytes_eq q (label_in names f.0)) (Some (each (entry_in names) (lists_joined same_entry f.1 (or_empty [] (cond t (Some es) None))))) None) same
            ∙ ap (λ l. cond (bytes_eq q (label_in names f.0)) (Some (each (entry_in names) l)) None) (entries.right f.1)
        by_tests false t at_f same =
            ap (λ s. cond s (Some (each (entry_in names) (lists_joined same_entry f.1 (value_at same_name [] f.0 more)))) None) at_f
            ∙ ap (λ s. cond s (Some (each (entry_in names) f.1)) None) (sym at_f)

    away_values : (q : List ℕ) → bytes_eq q here ≡ false → (ps : List (Name × List Entry)) → last (gives_entries names q) (values_joined same_name [] (lists_joined same_entry) ps more) ≡ last (gives_entries names q) ps
    away_values q apart [] = refl
    away_values q apart (f ∷ ps) = ap₂ option_or (away_values q apart ps) (away_one q apart f)

    away_new : (q : List ℕ) → bytes_eq q here ≡ false → (t : Bool) → last (gives_entries names q) (cond t more []) ≡ None
    away_new q apart true = ap (λ s. cond s (Some (each (entry_in names) es)) None) apart
    away_new q apart false = refl

    away : (q : List ℕ) → bytes_eq q here ≡ false → (ps : List (Name × List Entry)) → last (gives_entries names q) (properties_joined ps more) ≡ last (gives_entries names q) ps
    away q apart ps =
        last-append (gives_entries names q) (values_joined same_name [] (lists_joined same_entry) ps more) (cond (is_new same_name (keys_of ps) p) more [])
        ∙ ap₂ option_or (away_new q apart (is_new same_name (keys_of ps) p)) (away_values q apart ps)

    -- At its own label the entries are changed, or come anew.
    there_one : (f : Name × List Entry) → PropertyHasOwn names f → gives_entries names here (f.0, lists_joined same_entry f.1 (value_at same_name [] f.0 more)) ≡ option_map change (gives_entries names here f)
    there_one f has = by_test (same_name p f.0) refl (name_test names few p f.0 own has.name)
      where
        by_test : (t : Bool) → same_name p f.0 ≡ t → bytes_eq here (label_in names f.0) ≡ same_name p f.0 → gives_entries names here (f.0, lists_joined same_entry f.1 (value_at same_name [] f.0 more)) ≡ option_map change (gives_entries names here f)
        by_test true same alike =
            let at_f : bytes_eq here (label_in names f.0) ≡ true = alike ∙ same in
            let back : same_name f.0 p ≡ true = same_name-sym f.0 p ∙ same in
            ap₂ (λ s t. cond s (Some (each (entry_in names) (lists_joined same_entry f.1 (or_empty [] (cond t (Some es) None))))) None) at_f back
            ∙ ap Some (sym (is f.1 has.entries))
            ∙ ap (λ s. option_map change (cond s (Some (each (entry_in names) f.1)) None)) (sym at_f)
        by_test false same alike =
            let at_f : bytes_eq here (label_in names f.0) ≡ false = alike ∙ same in
            ap (λ s. cond s (Some (each (entry_in names) (lists_joined same_entry f.1 (value_at same_name [] f.0 more)))) None) at_f
            ∙ ap (λ s. option_map change (cond s (Some (each (entry_in names) f.1)) None)) (sym at_f)

    there_values : (ps : List (Name × List Entry)) → AllByRecursion (PropertyHasOwn names) ps → last (gives_entries names here) (values_joined same_name [] (lists_joined same_entry) ps more) ≡ option_map change (last (gives_entries names here) ps)
    there_values [] all = refl
    there_values (f ∷ ps) all =
        ap₂ option_or (there_values ps all.1) (there_one f all.0)
        ∙ sym (mapped_or change (last (gives_entries names here) ps) (gives_entries names here f))

    some_if : {W : Type 0} (b : Bool) (v : W) → is_some (cond b (Some v) None) ≡ b
    some_if true v = refl
    some_if false v = refl

    or_swapped : (a b : Bool) → (a || b) ≡ (b || a)
    or_swapped true true = refl
    or_swapped true false = refl
    or_swapped false true = refl
    or_swapped false false = refl

    is_there : (ps : List (Name × List Entry)) → AllByRecursion (PropertyHasOwn names) ps → is_some (last (gives_entries names here) ps) ≡ list_any (same_name p) (keys_of ps)
    is_there [] all = refl
    is_there (f ∷ ps) all =
        some_or (last (gives_entries names here) ps) (gives_entries names here f)
        ∙ ap₂ ◌||◌ (is_there ps all.1) (some_if (bytes_eq here (label_in names f.0)) (each (entry_in names) f.1) ∙ name_test names few p f.0 own all.0.name)
        ∙ or_swapped (list_any (same_name p) (keys_of ps)) (same_name p f.0)

    there : (ps : List (Name × List Entry)) → AllByRecursion (PropertyHasOwn names) ps → last (gives_entries names here) (properties_joined ps more) ≡ Some (change (entries_or_none (last (gives_entries names here) ps)))
    there ps all =
        last-append (gives_entries names here) (values_joined same_name [] (lists_joined same_entry) ps more) (cond (is_new same_name (keys_of ps) p) more [])
        ∙ ap₂ (λ t o. option_or (last (gives_entries names here) (cond (not t) more [])) o) (sym (is_there ps all)) (there_values ps all)
        ∙ by_found (last (gives_entries names here) ps)
      where
        by_found : (o : Option (List Tree)) → option_or (last (gives_entries names here) (cond (not (is_some o)) more [])) (option_map change o) ≡ Some (change (entries_or_none o))
        by_found (Some x) = refl
        by_found None =
            ap (λ s. option_or (cond s (Some (each (entry_in names) es)) None) None) (bytes_eq-refl here)
            ∙ ap (λ l. Some (each (entry_in names) l)) (sym (entries.left es))
            ∙ ap Some (sym (is [] tt))

    pub property_step : (ps : List (Name × List Entry)) → AllByRecursion (PropertyHasOwn names) ps → with_entries here change (properties_put names ps []) ≡ properties_put names (properties_joined ps more) []
    property_step ps all =
        same_maps (with_entries here change (properties_put names ps [])) (properties_put names (properties_joined ps more) [])
        (ascend-with_at here (change (entries_in here (properties_put names ps []))) (properties_put names ps []) (properties_ascend ps))
        (properties_ascend (properties_joined ps more))
        (λ q. at_after q here (change (entries_in here (properties_put names ps []))) (properties_put names ps []) ∙ by_test q (bytes_eq q here) refl ∙ sym (read_alone q (properties_joined ps more)))
      where
        by_test : (q : List ℕ) (b : Bool) → bytes_eq q here ≡ b → cond b (Some (change (entries_in here (properties_put names ps [])))) (at q (properties_put names ps [])) ≡ last (gives_entries names q) (properties_joined ps more)
        by_test q true at_q =
            ap (λ o. Some (change (entries_or_none o))) (read_alone here ps)
            ∙ sym (there ps all)
            ∙ ap (λ x. last (gives_entries names x) (properties_joined ps more)) (sym (bytes_eq-exact q here at_q))
        by_test q false apart = read_alone q ps ∙ sym (away q apart ps)

  -- An operation that has the node changes what is shown of it.
  abbrev shown : PartEntry → Node
  shown e = node_renamed names e

  property_changed : (e : PartEntry) (p : Name) (es : List Entry) (change : List Tree → List Tree) → HasOwn names p → PartHasOwn names e
      → ((old : List Entry) → AllByRecursion (EntryHasOwn names) old → change (each (entry_in names) old) ≡ each (entry_in names) (lists_joined same_entry old es))
      → on_entries (label_in names p) change (shown e) ≡ shown (part_entries_joined e (record { types = []; index = None; properties = (p, es) ∷ [] }))
  property_changed e p es change own has is = λ i. record {
    types = each (label_in names) (sym (names_monoid.right e.types) i);
    index = option_map (λ x. x.text) (sym (indexes.right e.index) i);
    properties = property_step p es change own is e.properties has.properties i;
  }

  pub entry_added : (x : Entry) → EntryHasOwn names x → (old : List Entry) → AllByRecursion (EntryHasOwn names) old → told (entry_in names x) (each (entry_in names) old) ≡ each (entry_in names) (lists_joined same_entry old (x ∷ []))
  entry_added x own old all = (adding_is_alike names few).1 x old own all ∙ ap (each (entry_in names)) (one_entry x old)

  type_changed : (e : PartEntry) (t : Name) → HasOwn names t → PartHasOwn names e → with_type (label_in names t) (shown e) ≡ shown (part_entries_joined e (record { types = t ∷ []; index = None; properties = [] }))
  type_changed e t own has = λ i. record {
    types = ((adding_is_alike names few).0 t e.types own has.types ∙ ap (each (label_in names)) (one_name e.types t)) i;
    index = option_map (λ x. x.text) (sym (indexes.right e.index) i);
    properties = properties_put names (sym (properties.right e.properties) i) [];
  }

  index_changed : (e : PartEntry) (place : Place) (text : List ℕ) → index_or (shown e).index text (shown e) ≡ shown (part_entries_joined e (record { types = []; index = Some (record { place = place; text = text; conflict = None }); properties = [] }))
  index_changed e place text = by_index e.index refl
    where
      by_index : (o : Option Index) → e.index ≡ o → index_or (shown e).index text (shown e) ≡ shown (part_entries_joined e (record { types = []; index = Some (record { place = place; text = text; conflict = None }); properties = [] }))
      by_index None is =
          ap (λ o. index_or (option_map (λ x. x.text) o) text (shown e)) is
          ∙ (λ i. record {
            types = each (label_in names) (sym (names_monoid.right e.types) i);
            index = ap (λ o. option_map (λ x. x.text) (indexes_joined o (Some (record { place = place; text = text; conflict = None })))) (sym is) i;
            properties = properties_put names (sym (properties.right e.properties) i) [];
          })
      by_index (Some first) is =
          ap (λ o. index_or (option_map (λ x. x.text) o) text (shown e)) is
          ∙ (λ i. record {
            types = each (label_in names) (sym (names_monoid.right e.types) i);
            index = (ap (option_map (λ x. x.text)) is ∙ ap (λ o. option_map (λ x. x.text) (indexes_joined o (Some (record { place = place; text = text; conflict = None })))) (sym is)) i;
            properties = properties_put names (sym (properties.right e.properties) i) [];
          })

  module _ (k : Key) (graph : HasOwn names k.0) (node : HasOwn names k.1) where
    pub node_test : (h n : Name) → HasOwn names h → HasOwn names n → is_node names (label_in names k.0) (label_in names k.1) h n ≡ same_key k (h, n)
    node_test h n first second = ap₂ ◌&&◌ (name_test names few k.0 h graph first) (name_test names few k.1 n node second)

    by_node : (e x : PartEntry) (changed : Node) → changed ≡ shown (part_entries_joined e x) → (b c : Bool) → b ≡ c → (if b then changed else shown e) ≡ shown (part_entries_joined e (or_empty bare (cond c (Some x) None)))
    by_node e x changed is true true same = is
    by_node e x changed is false false same = ap shown (sym (part_entries.right e))
    by_node e x changed is true false same = absurd (cc)
    by_node e x changed is false true same = absurd (cc)

    step : (place : Place) (o : Op) (e : PartEntry) → OpHasOwn names o → PartHasOwn names e
        → (if is_of_node names (label_in names k.0) (label_in names k.1) o then node_changed names o (shown e) else shown e) ≡ shown (part_entries_joined e (at_key k (sum_of_one place o)))
    step place (use_label n) e own has = ap shown (sym (part_entries.right e))
    step place (ensure_graph g) e own has = ap shown (sym (part_entries.right e))
    step place (ensure_node g n) e own has = by_node e bare (shown e) (ap shown (sym (part_entries.right e))) _ _ (node_test g n own.0 own.1)
    step place (ensure_property g n p) e own has = by_node e _ _ (property_changed e p [] (λ es. es) own.2 has (λ old all. ap (each (entry_in names)) (sym (entries.right old)))) _ _ (node_test g n own.0 own.1)
    step place (add_entry g n p x) e own has = by_node e _ _ (property_changed e p (x ∷ []) (told (entry_in names x)) own.2 has (entry_added x own.3)) _ _ (node_test g n own.0 own.1)
    step place (append_list g n p es) e own has = by_node e _ _ (property_changed e p (list es ∷ []) (told (list_object (items_in names es))) own.2 has (entry_added (list es) own.3)) _ _ (node_test g n own.0 own.1)
    step place (add_type g n t) e own has = by_node e _ _ (type_changed e t own.2 has) _ _ (node_test g n own.0 own.1)
    step place (set_index g n i) e own has = by_node e _ _ (index_changed e place i) _ _ (node_test g n own.0 own.1)

    at_key-join : (a b : Sum) → at_key k (join a b) ≡ part_entries_joined (at_key k a) (at_key k b)
    at_key-join a b = at-joined same_key same_key-exact bare part_entries_joined part_entries k a.nodes b.nodes

    told_from : (os : List Placed) (e : PartEntry) → AllByRecursion IsSound (ops os) → AllByRecursion (OpHasOwn names) (ops os) → PartHasOwn names e
        → node_told names (label_in names k.0) (label_in names k.1) (ops os) (shown e) ≡ shown (part_entries_joined e (at_key k (sum os)))
    told_from [] e sound own has = ap shown (sym (part_entries.right e))
    told_from (o ∷ os) e sound own has =
        let x = at_key k (sum_of_one o.0 o.1) in
        ap (node_told names (label_in names k.0) (label_in names k.1) (ops os)) (step o.0 o.1 e own.0 has)
        ∙ told_from os (part_entries_joined e x) sound.1 own.1 (part_joined names e x has (part_at names k (sum_of_one o.0 o.1) (one_own names o.0 o.1 sound.0 own.0)))
        ∙ ap shown (part_entries.assoc e x (at_key k (sum os)) ∙ ap (part_entries_joined e) (sym (at_key-join (sum_of_one o.0 o.1) (sum os))))

    -- The node after all of them.
    pub node_of_sum : (os : List Placed) → AllByRecursion IsSound (ops os) → AllByRecursion (OpHasOwn names) (ops os) → node_told names (label_in names k.0) (label_in names k.1) (ops os) new_node ≡ shown (at_key k (sum os))
    node_of_sum os sound own = told_from os bare sound own (bare_own names) ∙ ap shown (part_entries.left (at_key k (sum os)))
