-- Which labels a document has for its blank nodes makes no difference.
use Rattle.std.proofs.Common.{◌≡◌, ℕ, ◌+◌, List, [], ◌∷◌, Bool, true, false, if◌then◌else◌, Option, Some, None, Ok, Err, refl, sym, ap, ◌∙◌, subst}
use Rattle.std.specs.Prelude.{map as each}
use Rattle.std.specs.Option.{option_map}
use Rattle.std.specs.Str.{bytes_eq}
use Rattle.ld_model.specs.Tree.{Tree, tree, trees_of}
use Rattle.ld_model.specs.Keys.{default_graph}
use Rattle.ld_model.specs.Label.{is_blank, label_of}
use Rattle.ld_model.specs.NodeMap.{reference}
use Rattle.ld_model.proofs.Puts.{bytes_eq-refl, bytes_eq-exact}
use Rattle.node_model.specs.Maps.{MapOf, at, with_at}
use Rattle.node_model.specs.Labels.{Labels, label_by, label_for, named, new_label, id_or_new}
use Rattle.node_model.specs.NodeMap.{Graphs, Conflict, node_in, graph_in, on_graph, on_node, list_object, told, on_entries, with_type, with_index}
use Rattle.node_model.specs.AsTrees.{graph_pairs}
use Rattle.node_model.specs.Generating.{State, generating, or_conflict, index_by, index_set, empty, outcome, walked}
use Rattle.node_model.specs.Walk.{nowhere, At, walk_all}
use Rattle.node_laws.specs.Renamed.{IsRenaming, renamed, renamed_all}
use Rattle.node_laws.specs.Laws.{RenamingLabelsChangesNothing}
use Rattle.node_laws.proofs.Maps.{at-with_at, at-with_at_other}
use Rattle.node_laws.proofs.Likeness.{Likeness, Reach, AnswerAlike, lasts_here}
use Rattle.node_laws.proofs.Alike.{all_beside}
use Rattle.node_laws.proofs.Stated.{same_lists}
use Rattle.node_laws.proofs.RenamedWalk.{renaming, all_is}

module _ (to : List ℕ → List ℕ) (is : IsRenaming to) where
  -- As many labels, and each number is that of the other label.
  record AreRenamed (l k : Labels) : Type 0 where
    count : l.issued ≡ k.issued
    number : (s : List ℕ) → at (to s) l.given ≡ at s k.given

  record NamedAlike (a b : List ℕ × Labels) : Type 0 where
    name : a.0 ≡ b.0
    labels : AreRenamed a.1 b.1

  same_text : (s r : List ℕ) → bytes_eq s r ≡ bytes_eq (to s) (to r)
  same_text s r = by_test (bytes_eq s r) refl (bytes_eq (to s) (to r)) refl
    where
      by_test : (b : Bool) → bytes_eq s r ≡ b → (c : Bool) → bytes_eq (to s) (to r) ≡ c → b ≡ c
      by_test true same true both = refl
      by_test false apart false both = refl
      by_test true same false apart = sym (bytes_eq-refl (to r)) ∙ ap (λ x. bytes_eq (to x) (to r)) (sym (bytes_eq-exact s r same)) ∙ apart
      by_test false apart true same = sym apart ∙ ap (λ x. bytes_eq x r) (is.apart s r (bytes_eq-exact (to s) (to r) same)) ∙ bytes_eq-refl r

  given_alike : (s r : List ℕ) (n m : ℕ) (g h : MapOf ℕ) → n ≡ m → at (to r) g ≡ at r h → at (to r) (with_at (to s) n g) ≡ at r (with_at s m h)
  given_alike s r n m g h number rest = by_test (bytes_eq r s) refl
    where
      by_test : (b : Bool) → bytes_eq r s ≡ b → at (to r) (with_at (to s) n g) ≡ at r (with_at s m h)
      by_test true same =
          let e : r ≡ s = bytes_eq-exact r s same in
          ap (λ x. at (to x) (with_at (to s) n g)) e ∙ at-with_at (to s) n g ∙ ap Some number ∙ sym (at-with_at s m h) ∙ ap (λ x. at x (with_at s m h)) (sym e)
      by_test false apart = at-with_at_other (to r) (to s) n g (sym (same_text r s) ∙ apart) ∙ rest ∙ sym (at-with_at_other r s m h apart)

  new_alike : (l k : Labels) → AreRenamed l k → NamedAlike (new_label l) (new_label k)
  new_alike l k same = record { name = ap label_of same.count; labels = record { count = ap (λ n. n + 1) same.count; number = same.number } }

  label_alike : (s : List ℕ) (l k : Labels) → AreRenamed l k → NamedAlike (label_for (to s) l) (label_for s k)
  label_alike s l k same = by_given (at (to s) l.given) (at s k.given) (same.number s)
    where
      by_given : (o p : Option ℕ) → o ≡ p → NamedAlike (label_by o (to s) l) (label_by p s k)
      by_given (Some n) (Some m) number = record { name = let e : n ≡ m = cc in ap label_of e; labels = same }
      by_given None None number = record { name = ap label_of same.count; labels = record { count = ap (λ n. n + 1) same.count; number = λ r. given_alike s r l.issued k.issued l.given k.given same.count (same.number r) } }
      by_given (Some n) None number = absurd (cc)
      by_given None (Some m) number = absurd (cc)

  name_alike : (s : List ℕ) (l k : Labels) → AreRenamed l k → NamedAlike (named (to s) l) (named s k)
  name_alike s l k same = by_form (is_blank (to s)) (is_blank s) (is.label s) refl
    where
      by_form : (b c : Bool) → b ≡ c → is_blank s ≡ c → NamedAlike (if b then label_for (to s) l else (to s, l)) (if c then label_for s k else (s, k))
      by_form true true both blank = label_alike s l k same
      by_form false false both other = record { name = is.other s other; labels = same }
      by_form true false both other = absurd (cc)
      by_form false true both blank = absurd (cc)

  id_alike : (id : Option (List ℕ)) (l k : Labels) → AreRenamed l k → NamedAlike (id_or_new (option_map to id) l) (id_or_new id k)
  id_alike (Some s) l k same = name_alike s l k same
  id_alike None l k same = new_alike l k same

  -- The same graphs and the same conflict.
  record SameState (s t : State) : Type 0 where
    graphs : s.graphs ≡ t.graphs
    labels : AreRenamed s.labels t.labels
    conflict : s.conflict ≡ t.conflict

  abbrev renamed_alike : Likeness State (List ℕ) Tree State (List ℕ) Tree
  renamed_alike = record { states = SameState; names = λ s n m. n ≡ m; properties = λ s n m. n ≡ m; entries = λ s e f. e ≡ f }

  reach : (s r t : State) → SameState r t → Reach renamed_alike s r t
  reach s r t same = record { states = same; lasts = record { names = λ n m is. is; properties = λ n m is. is; entries = λ e f is. is } }

  -- A step that changes the graphs alone.
  on_both : (s t : State) (graphs others : Graphs) → SameState s t → graphs ≡ others → Reach renamed_alike s (record { graphs = graphs; labels = s.labels; conflict = s.conflict }) (record { graphs = others; labels = t.labels; conflict = t.conflict })
  on_both s t graphs others same is = reach s (record { graphs = graphs; labels = s.labels; conflict = s.conflict }) (record { graphs = others; labels = t.labels; conflict = t.conflict }) (record { graphs = is; labels = same.labels; conflict = same.conflict })

  index_alike : (o : Option (List ℕ)) (g id index : List ℕ) (s t : State) → SameState s t → SameState (index_by o g id index s) (index_by o g id index t)
  index_alike None g id index s t same = record { graphs = ap (on_node g id (with_index index)) same.graphs; labels = same.labels; conflict = same.conflict }
  index_alike (Some first) g id index s t same = by_test (bytes_eq first index) s t _ _ same
      (record { graphs = same.graphs; labels = same.labels; conflict = ap (λ o. or_conflict o (record { node = id; first = first; second = index })) same.conflict })
    where
      by_test : (b : Bool) (r u v w : State) → SameState r u → SameState v w → SameState (if b then r else v) (if b then u else w)
      by_test true r u v w is other = is
      by_test false r u v w is other = other

  index_set_alike : (g h n m index : List ℕ) (s t : State) → g ≡ h → n ≡ m → SameState s t → SameState (index_set g n index s) (index_set h m index t)
  index_set_alike g h n m index s t graph id same =
      subst (λ u. SameState (index_set g n index s) u) (λ i. index_by ((node_in (id i) (graph_in (graph i) (same.graphs i))).index) (graph i) (id i) index t) (index_alike ((node_in n (graph_in g s.graphs)).index) g n index s t same)

  steps_alike : AnswerAlike renamed_alike (renaming to generating) generating
  steps_alike = record {
    named = λ x s t same.
        let name = name_alike x s.labels t.labels same.labels in
        (reach s _ _ (record { graphs = same.graphs; labels = name.labels; conflict = same.conflict }), name.name, λ apart. name.name);
    node = λ g h id s t graph same.
        let name = id_alike id s.labels t.labels same.labels in
        (reach s _ _ (record { graphs = λ i. on_node (graph i) (name.name i) (λ n. n) (same.graphs i); labels = name.labels; conflict = same.conflict }), name.name);
    property = λ g h n m x s t apart graph id same.
        let name = name_alike x s.labels t.labels same.labels in
        (reach s _ _ (record { graphs = λ i. on_node (graph i) (id i) (on_entries (name.name i) (λ es. es)) (same.graphs i); labels = name.labels; conflict = same.conflict }), name.name);
    graph = λ g h s t graph same. on_both s t _ _ same (λ i. on_graph (graph i) (λ nodes. nodes) (same.graphs i));
    value = λ ms s is_value. refl;
    reference = λ n m s id. ap reference id;
    list = λ es fs s entries. ap list_object (same_lists es fs entries);
    add = λ g h n m p q e f s t graph id property entry same. on_both s t _ _ same (λ i. on_node (graph i) (id i) (on_entries (property i) (told (entry i))) (same.graphs i));
    append = λ g h n m p q es fs s t graph id property entries same.
        let lists = same_lists es fs entries in
        on_both s t _ _ same (λ i. on_node (graph i) (id i) (on_entries (property i) (told (list_object (lists i)))) (same.graphs i));
    type_ = λ g h n m x y s t graph id name same. on_both s t _ _ same (λ i. on_node (graph i) (id i) (with_type (name i)) (same.graphs i));
    index = λ g h n m x s t graph id same. reach s _ _ (index_set_alike g h n m x s t graph id same);
  }

  same_outcome : (s t : State) → SameState s t → outcome s.conflict s ≡ outcome t.conflict t
  same_outcome s t same = by_conflict s.conflict t.conflict same.conflict
    where
      by_conflict : (o p : Option Conflict) → o ≡ p → outcome o s ≡ outcome p t
      by_conflict (Some c) (Some d) both = let e : c ≡ d = cc in ap Err e
      by_conflict None None both = λ i. Ok (record { graphs = graph_pairs (same.graphs i); issued = same.labels.count i })
      by_conflict (Some c) None both = absurd (cc)
      by_conflict None (Some d) both = absurd (cc)

  items_renamed : (ts : List Tree) → trees_of (each (renamed to) ts) ≡ renamed_all to (trees_of ts)
  items_renamed [] = refl
  items_renamed (t ∷ ts) = ap (tree (renamed to t)) (items_renamed ts)

  same_graphs : (ts : List Tree) → SameState (walk_all (renaming to generating) default_graph nowhere (trees_of ts) (record { state = empty; items = [] })).state (walked ts)
  same_graphs ts =
      (all_beside renamed_alike (renaming to generating) generating steps_alike default_graph default_graph nowhere nowhere (trees_of ts) empty (record { state = empty; items = [] }) (record { state = empty; items = [] }) refl tt
      (record { states = record { graphs = refl; labels = record { count = refl; number = λ s. refl }; conflict = refl }; gathered = tt; lasts = lasts_here renamed_alike empty })).states

pub renaming_labels_changes_nothing : RenamingLabelsChangesNothing
renaming_labels_changes_nothing to is ts =
    let first : At State Tree = record { state = empty; items = [] } in
    ap (λ us. outcome (walk_all generating default_graph nowhere us first).state.conflict (walk_all generating default_graph nowhere us first).state) (items_renamed to is ts)
    ∙ ap (λ (w : At State Tree). outcome w.state.conflict w.state) (all_is to is generating default_graph nowhere (trees_of ts) first)
    ∙ same_outcome to is (walk_all (renaming to generating) default_graph nowhere (trees_of ts) first).state (walked ts) (same_graphs to is ts)
