-- What a flattened document without labels says again: of which graphs, and of each node.
use Rattle.std.proofs.Common.{◌≡◌, ℕ, List, [], ◌∷◌, Bool, true, false, cond, ◌&&◌, ◌||◌, not, if◌then◌else◌, length, nat_lt, Option, Some, None, is_some, refl, sym, ap, ◌∙◌, subst, arith}
use Rattle.std.specs.Prelude.{map as each, filter}
use Rattle.std.specs.Option.{option_map}
use Rattle.std.specs.Str.{bytes_eq}
use Rattle.std.specs.List.{AllByRecursion, flat_map, list_any, list_all}
use Rattle.ld_model.specs.Tree.{Tree, Trees, Members, Pairs, text, array, object, trees_of, members_of, member_list, member_list-members_of, member_at, put, is_empty, AreAscending}
use Rattle.ld_model.specs.Keys.{id_key, value_key, graph_key, default_graph}
use Rattle.ld_model.specs.Label.{is_blank}
use Rattle.ld_model.specs.NodeMap.{node_or_new, node_at}
use Rattle.ld_model.specs.Flatten.{has_more, nodes_of, graph_of, graph_into, graphs_into, flatten}
use Rattle.ld_model.proofs.Puts.{bytes_eq-refl, bytes_eq-exact, bytes_eq-sym, at_first, at_later, member_at-put, member_at-put_other, all-put, ascending_head, ascending_tail}
use Rattle.ld_model.proofs.SameMembers.{missing}
use Rattle.ld_model.proofs.Truths.{both}
use Rattle.ctx_types.specs.Expansion.{is_keyword}
use Rattle.node_model.specs.Keys.{type_key, list_key, index_key, reverse_key, included_key}
use Rattle.node_model.specs.Labels.{no_labels}
use Rattle.node_model.specs.NodeMap.{Node, Graph, Graphs, node_in, graph_in, entries_in}
use Rattle.node_model.specs.AsTrees.{node_members, node_pair, graph_pairs}
use Rattle.node_model.specs.Walk.{text_in, texts_of}
use Rattle.node_model.specs.DueForm.{is_node_entry, is_graph, are_entries, are_texts}
use Rattle.node_laws.specs.Names.{member_names, entries_names, IsIssued}
use Rattle.node_laws.specs.Stated.{Said, Statement, object_in, stated_in, said_of, is_of_graph, types_said, indexes_said, is_of_property, entries_said, first, once_by, repeats_entry, IsAsSaid}
use Rattle.node_laws.specs.Laws.{IsInForm}
use Rattle.node_laws.proofs.Lists.{all_to}
use Rattle.node_laws.proofs.Shape.{IsNode, IsMap, node_in_is, graph_in_is}
use Rattle.node_laws.proofs.DueForm.{keyword_apart, members_are, all_pass, map_in_form}
use Rattle.node_laws.proofs.ReadOut.{nodes_there, types_there, typed_there, index_there, entries_there}
use Rattle.node_laws.proofs.Determined.{found_is, found_passes, IsArray, an_array, array_at, nothing_there}
use Rattle.node_laws.proofs.Issued.{OfNode, OfGraphs, node_in_of, graph_in_of, members_of_node}
use Rattle.node_laws.proofs.PlainMap.{node_at-shown}
use Rattle.node_laws.proofs.SameContents.{IsObject, kept_if, kept_at, ascend_kept, with_part, part_at, graphs_into_ascend, graphs_into_objects, node_at-graphs_into, nodes_are_objects, IsOrdered, graph_is_ordered, contents}
use Rattle.node_laws.proofs.Restated.{IsOther, told, IsFine, a_keyword, entries_of, of_this, if_this}
use Rattle.node_laws.proofs.RestatedNodes.{IsItem, IsNested, a_node, IsTop, alone, with_part as in_part, object_said, pair_says, top_says, tops_add}
use Rattle.node_laws.proofs.GraphsAgain.{tops_state, any_at}
use Rattle.node_laws.proofs.OnceBy.{once_again}
use Rattle.node_laws.proofs.SaidOfNode.{types_are, entries_are}
use Rattle.node_laws.proofs.Stated.{Holds, node_stated}
use Rattle.node_laws.proofs.SaidAgain.{read_told, any_told, types_read, listed_index, index_read, entries_read, property_read, if_so, found, flat_to, sum_at, said_in, kept_said, two_members, said_in-put}

-- Without a label issued, a name is none.
not_issued : (s : List ℕ) → IsIssued 0 s → IsOther s
not_issued s is = by_form (is_blank s) refl
  where
    by_form : (b : Bool) → is_blank s ≡ b → b ≡ false
    by_form false other = refl
    by_form true blank = absurd (let label = is blank in let below = label.1 in omega arith)

-- A member of a node, by its form and its names.
fine_by : (id q : List ℕ) (t : Tree) → is_node_entry id (q, t) ≡ true → AllByRecursion (IsIssued 0) (member_names (q, t)) → IsFine q t
fine_by id q t entry names = by_word (is_keyword q) refl
  where
    parts_of : (ts : Trees) → is_keyword q ≡ false → t ≡ array ts → IsFine q t
    parts_of ts apart is =
        let no_type = bytes_eq-sym q type_key ∙ keyword_apart type_key q refl apart in
        let form : is_node_entry id (q, array ts) ≡ true = subst (λ t. is_node_entry id (q, t) ≡ true) is entry in
        let entries : (not (is_keyword q) && are_entries ts) ≡ true = sym (ap (λ b. if b then are_texts (array ts) else (not (is_keyword q) && are_entries ts)) no_type) ∙ form in
        let all : AllByRecursion (IsIssued 0) (q ∷ entries_names ts) =
        subst (AllByRecursion (IsIssued 0))
        (ap (λ b. if b then texts_of (Some (array ts)) else (if is_keyword q then [] else (q ∷ entries_names ts))) no_type ∙ ap (λ b. if b then [] else (q ∷ entries_names ts)) apart)
        (subst (λ t. AllByRecursion (IsIssued 0) (member_names (q, t))) is names) in
        entries_of apart (not_issued q all.0) ts is (both (not (is_keyword q)) (are_entries ts) entries).1 (all_to (IsIssued 0) IsOther not_issued (entries_names ts) all.1)

    by_array : is_keyword q ≡ false → IsArray id t → IsFine q t
    by_array apart (an_array ts is) = parts_of ts apart is

    by_word : (b : Bool) → is_keyword q ≡ b → IsFine q t
    by_word true word = a_keyword word
    by_word false apart = by_array apart (array_at id q t apart entry)

fine_all : (id : List ℕ) (ms : Pairs) → AllByRecursion (λ m. is_node_entry id m ≡ true) ms → AllByRecursion (λ m. AllByRecursion (IsIssued 0) (member_names m)) ms → AllByRecursion (λ m. IsFine m.0 m.1) ms
fine_all id [] entries names = tt
fine_all id (m ∷ ms) entries names = (fine_by id m.0 m.1 entries.0 names.0, fine_all id ms entries.1 names.1)

-- The members of a node object, as a list.
record IsItemOf (id : List ℕ) (ms : Pairs) : Type 0 where
  id_at : member_at id_key ms ≡ Some (text id)
  no_value : member_at value_key ms ≡ None
  no_list : member_at list_key ms ≡ None
  no_reverse : member_at reverse_key ms ≡ None
  no_included : member_at included_key ms ≡ None
  types : AllByRecursion IsOther (texts_of (member_at type_key ms))
  fine : AllByRecursion (λ m. IsFine m.0 m.1) ms

item_is : (id : List ℕ) (ms : Members) (l : Pairs) → member_list ms ≡ l → IsOther id → IsItemOf id l → IsItem id ms
item_is id ms l same other is =
    let here = subst (IsItemOf id) (sym same) is in
    record {
      id_at = ap text_in here.id_at;
      id_other = other;
      no_value = ap is_some here.no_value;
      no_list = ap is_some here.no_list;
      no_reverse = here.no_reverse;
      no_included = here.no_included;
      types = here.types;
      fine = here.fine;
    }

item_of_node : (id : List ℕ) (n : Node) → IsNode n → OfNode 0 n → IsItemOf id (node_members id n)
item_of_node id n node named =
    let due = members_are id n node in
    let all = all_pass (is_node_entry id) (node_members id n) due.each in
    let nothing = λ (key : List ℕ) (word : is_keyword key ≡ true) (no_id : bytes_eq key id_key ≡ false) (no_type : bytes_eq key type_key ≡ false) (no_index : bytes_eq key index_key ≡ false). nothing_there id key (node_members id n) all word no_id no_type no_index in
    record {
      id_at = due.id_at;
      no_value = nothing value_key refl refl refl refl;
      no_list = nothing list_key refl refl refl refl;
      no_reverse = nothing reverse_key refl refl refl refl;
      no_included = nothing included_key refl refl refl refl;
      types = subst (AllByRecursion IsOther) (sym (types_there id n node)) (all_to (IsIssued 0) IsOther not_issued n.types named.types);
      fine = fine_all id (node_members id n) due.each (members_of_node 0 id n node named);
    }

item_with_graph : (id : List ℕ) (t : Tree) (ms : Pairs) → IsItemOf id ms → IsItemOf id (put graph_key t ms)
item_with_graph id t ms is = record {
  id_at = member_at-put_other id_key graph_key t ms refl ∙ is.id_at;
  no_value = member_at-put_other value_key graph_key t ms refl ∙ is.no_value;
  no_list = member_at-put_other list_key graph_key t ms refl ∙ is.no_list;
  no_reverse = member_at-put_other reverse_key graph_key t ms refl ∙ is.no_reverse;
  no_included = member_at-put_other included_key graph_key t ms refl ∙ is.no_included;
  types = subst (λ o. AllByRecursion IsOther (texts_of o)) (sym (member_at-put_other type_key graph_key t ms refl)) is.types;
  fine = all-put (λ m. IsFine m.0 m.1) graph_key t ms (a_keyword refl) is.fine;
}

-- What holds of whatever a look-up finds, among keys that ascend.
all_by_lookup : (P : List ℕ × Tree → Type 0) (ms : Pairs) → AreAscending ms → ((k : List ℕ) (t : Tree) → member_at k ms ≡ Some t → P (k, t)) → AllByRecursion P ms
all_by_lookup P [] sorted each = tt
all_by_lookup P (m ∷ ms) sorted each =
    (each m.0 m.1 (at_first m.0 m ms (bytes_eq-refl m.0)), all_by_lookup P ms (ascending_tail m ms sorted) (λ k t is. later k t is (bytes_eq k m.0) refl))
  where
    later : (k : List ℕ) (t : Tree) → member_at k ms ≡ Some t → (b : Bool) → bytes_eq k m.0 ≡ b → P (k, t)
    later k t is true same = absurd (let none : member_at k ms ≡ None = ap (λ x. member_at x ms) (bytes_eq-exact k m.0 same) ∙ missing m.0 ms (ascending_head m ms sorted) in let no_way : None ≡ Some t = sym none ∙ is in cc)
    later k t is false apart = each k t (at_later k m ms apart ∙ is)

all_filtered : (P : List ℕ × Tree → Type 0) (test : List ℕ × Tree → Bool) (ms : Pairs) → AllByRecursion P ms → AllByRecursion P (filter test ms)
all_filtered P test [] all = tt
all_filtered P test (m ∷ ms) all = by_test (test m) (all_filtered P test ms all.1)
  where
    by_test : (b : Bool) → AllByRecursion P (filter test ms) → AllByRecursion P (cond b (m ∷ filter test ms) (filter test ms))
    by_test true rest = (all.0, rest)
    by_test false rest = rest

pub contents_in_map : (graphs : Graphs) (g id : List ℕ) → contents g id (graph_pairs graphs) ≡ node_members id (node_in id (graph_in g graphs))
contents_in_map graphs g id = ap (node_at id) (nodes_there g graphs) ∙ node_at-shown id (graph_in g graphs)

module _ (graphs : Graphs) (map : IsMap graphs) (named : OfGraphs 0 graphs) where
  form : IsInForm (graph_pairs graphs)
  form = map_in_form graphs map

  contents_are : (g id : List ℕ) → contents g id (graph_pairs graphs) ≡ node_members id (node_in id (graph_in g graphs))
  contents_are = contents_in_map graphs

  item_at : (g id : List ℕ) → IsItemOf id (contents g id (graph_pairs graphs))
  item_at g id =
      subst (IsItemOf id) (sym (contents_are g id))
      (item_of_node id (node_in id (graph_in g graphs)) (node_in_is id (graph_in g graphs) (graph_in_is g graphs map)) (node_in_of 0 id (graph_in g graphs) (graph_in_of 0 g graphs named)))

  no_graph_at : (g id : List ℕ) → member_at graph_key (contents g id (graph_pairs graphs)) ≡ None
  no_graph_at g id =
      let n = node_in id (graph_in g graphs) in
      let due = members_are id n (node_in_is id (graph_in g graphs) (graph_in_is g graphs map)) in
      ap (member_at graph_key) (contents_are g id) ∙ nothing_there id graph_key (node_members id n) (all_pass (is_node_entry id) (node_members id n) due.each) refl refl refl refl

  -- The names of graphs and the ids of nodes are no labels.
  graph_names_other : (gs : Graphs) → OfGraphs 0 gs → AllByRecursion (λ m. IsOther m.0) (graph_pairs gs)
  graph_names_other [] all = tt
  graph_names_other (e ∷ gs) all = (not_issued e.0 all.0.0, graph_names_other gs all.1)

  ids_other : (nodes : Graph) → AllByRecursion (λ e. IsIssued 0 e.0 × OfNode 0 e.1) nodes → AllByRecursion (λ m. IsOther m.0) (each node_pair nodes)
  ids_other [] all = tt
  ids_other (e ∷ nodes) all = (not_issued e.0 all.0.0, ids_other nodes all.1)

  node_ids : (g : List ℕ) → AllByRecursion (λ m. IsOther m.0) (object_in (member_at g (graph_pairs graphs)))
  node_ids g = subst (AllByRecursion (λ m. IsOther m.0)) (sym (nodes_there g graphs)) (ids_other (graph_in g graphs) (graph_in_of 0 g graphs named))

  into_other : (ms nodes : Pairs) → AllByRecursion (λ m. IsOther m.0) ms → AllByRecursion (λ m. IsOther m.0) nodes → AllByRecursion (λ m. IsOther m.0) (graphs_into ms nodes)
  into_other [] nodes all nodes_all = nodes_all
  into_other (m ∷ ms) nodes all nodes_all = into_other ms (if bytes_eq m.0 default_graph then nodes else graph_into m nodes) all.1 (by_test (bytes_eq m.0 default_graph))
    where
      by_test : (b : Bool) → AllByRecursion (λ m. IsOther m.0) (if b then nodes else graph_into m nodes)
      by_test true = nodes_all
      by_test false = all-put (λ m. IsOther m.0) m.0 (object (members_of (put graph_key (array (trees_of (nodes_of (graph_of (Some m.1))))) (node_at m.0 nodes)))) nodes all.0 nodes_all

  -- The nodes of a graph that come into an outcome.
  abbrev part : List ℕ → Pairs
  part g = if bytes_eq g default_graph then [] else filter has_more (object_in (member_at g (graph_pairs graphs)))

  abbrev top : Pairs
  top = graphs_into (graph_pairs graphs) (object_in (member_at default_graph (graph_pairs graphs)))

  ordered : (g : List ℕ) → IsOrdered (object_in (member_at g (graph_pairs graphs)))
  ordered g = graph_is_ordered g (graph_pairs graphs) form.each

  objects : (g : List ℕ) → AllByRecursion IsObject (object_in (member_at g (graph_pairs graphs)))
  objects g = nodes_are_objects (object_in (member_at g (graph_pairs graphs))) (ordered g).each

  nested_by : (g id : List ℕ) (t : Tree) → IsObject (id, t) → IsOther id → node_or_new id (Some t) ≡ contents g id (graph_pairs graphs) → IsNested (id, t)
  nested_by g id (object ms) is other same = a_node ms refl (item_is id ms (contents g id (graph_pairs graphs)) same other (item_at g id)) (ap (member_at graph_key) same ∙ no_graph_at g id)
  nested_by g id _ is other same = absurd is

  nested_all : (g : List ℕ) → AllByRecursion IsNested (filter has_more (object_in (member_at g (graph_pairs graphs))))
  nested_all g =
      let nodes = object_in (member_at g (graph_pairs graphs)) in
      all_filtered IsNested has_more nodes (all_by_lookup IsNested nodes (ordered g).ascend
      (λ id t is. nested_by g id t (found_is IsObject id t nodes (objects g) is) (found_is (λ m. IsOther m.0) id t nodes (node_ids g) is) (ap (node_or_new id) (sym is))))

  top_ascends : AreAscending top
  top_ascends = graphs_into_ascend (graph_pairs graphs) _ (ordered default_graph).ascend

  top_objects : AllByRecursion IsObject top
  top_objects = graphs_into_objects (graph_pairs graphs) _ (objects default_graph)

  top_at : (k : List ℕ) → node_at k top ≡ with_part (part_at k (graph_pairs graphs)) (contents default_graph k (graph_pairs graphs))
  top_at k = node_at-graphs_into k (graph_pairs graphs) (object_in (member_at default_graph (graph_pairs graphs))) form.ascend

  -- With a graph or without one.
  part_none : (k : List ℕ) → part_at k (graph_pairs graphs) ≡ None → part k ≡ []
  part_none k none = by_test (bytes_eq k default_graph) refl
    where
      by_test : (b : Bool) → bytes_eq k default_graph ≡ b → (if b then [] else filter has_more (object_in (member_at k (graph_pairs graphs)))) ≡ []
      by_test true same = refl
      by_test false apart = ap (λ o. filter has_more (object_in o)) (sym (ap (λ b. if b then None else member_at k (graph_pairs graphs)) apart) ∙ none)

  record HasPart (k : List ℕ) (u : Tree) : Type 0 where
    apart : bytes_eq k default_graph ≡ false
    stands : member_at k (graph_pairs graphs) ≡ Some u

  part_some : (k : List ℕ) (u : Tree) → part_at k (graph_pairs graphs) ≡ Some u → HasPart k u
  part_some k u is = by_test (bytes_eq k default_graph) refl
    where
      by_test : (b : Bool) → bytes_eq k default_graph ≡ b → HasPart k u
      by_test true same = absurd (let no_way : None ≡ Some u = sym (ap (λ b. if b then None else member_at k (graph_pairs graphs)) same) ∙ is in cc)
      by_test false apart = record { apart = apart; stands = sym (ap (λ b. if b then None else member_at k (graph_pairs graphs)) apart) ∙ is }

  part_is : (k : List ℕ) → bytes_eq k default_graph ≡ false → part k ≡ filter has_more (object_in (member_at k (graph_pairs graphs)))
  part_is k apart = ap (λ b. if b then [] else filter has_more (object_in (member_at k (graph_pairs graphs)))) apart

  top_by : (id : List ℕ) (t : Tree) → IsObject (id, t) → IsOther id → (o : Option Tree) → part_at id (graph_pairs graphs) ≡ o → node_or_new id (Some t) ≡ with_part o (contents default_graph id (graph_pairs graphs)) → IsTop part (id, t)
  top_by id t object_is other None none same = alone (nested_by default_graph id t object_is other same) (part_none id none)
  top_by id (object ms) object_is other (Some u) is same =
      let has = part_some id u is in
      let nodes : part id ≡ filter has_more (object_in (Some u)) = part_is id has.apart ∙ ap (λ o. filter has_more (object_in o)) has.stands in
      in_part ms refl (item_is id ms _ same other (item_with_graph id _ (contents default_graph id (graph_pairs graphs)) (item_at default_graph id)))
      (ap (member_at graph_key) same ∙ member_at-put graph_key _ (contents default_graph id (graph_pairs graphs)) ∙ ap (λ ns. Some (array (trees_of (each (λ m. m.1) ns)))) (sym nodes))
      has.apart (subst (AllByRecursion IsNested) (sym (part_is id has.apart)) (nested_all id))
  top_by id _ object_is other (Some u) is same = absurd object_is

  tops_all : AllByRecursion (IsTop part) (filter has_more top)
  tops_all =
      all_filtered (IsTop part) has_more top (all_by_lookup (IsTop part) top top_ascends
      (λ id t is. top_by id t (found_is IsObject id t top top_objects is)
      (found_is (λ m. IsOther m.0) id t top (into_other (graph_pairs graphs) _ (graph_names_other graphs named) (node_ids default_graph)) is)
      (part_at id (graph_pairs graphs)) refl (ap (node_or_new id) (sym is) ∙ top_at id)))

  id_in_top : (g : List ℕ) → member_at id_key (node_at g top) ≡ Some (text g)
  id_in_top g = ap (member_at id_key) (top_at g) ∙ by_part (part_at g (graph_pairs graphs))
    where
      by_part : (o : Option Tree) → member_at id_key (with_part o (contents default_graph g (graph_pairs graphs))) ≡ Some (text g)
      by_part (Some u) = member_at-put_other id_key graph_key _ (contents default_graph g (graph_pairs graphs)) refl ∙ (item_at default_graph g).id_at
      by_part None = (item_at default_graph g).id_at

  -- What is said again of a node of a graph.
  module _ (h k : List ℕ) where
    summed : of_this h k (stated_in (flatten (graph_pairs graphs))) ≡ flat_map (top_says h k part) (filter has_more top)
    summed = (tops_add h k part (filter has_more top) (record { state = record { labels = no_labels; stated = [] }; items = [] }) tops_all).said

    said_with_part : (o : Option Tree) (ms : Pairs) → said_in (with_part o ms) ≡ said_in ms
    said_with_part (Some u) ms = said_in-put _ ms
    said_with_part None ms = refl

    abbrev inner : Pairs → List Said
    inner nodes = flat_map (λ m. if_so (bytes_eq k m.0) (object_said m.1)) nodes

    inner_is : (g : List ℕ) → inner (filter has_more (object_in (member_at g (graph_pairs graphs)))) ≡ said_in (contents g k (graph_pairs graphs))
    inner_is g =
        let nodes = object_in (member_at g (graph_pairs graphs)) in
        sum_at (λ m. object_said m.1) k (filter has_more nodes) (ascend_kept has_more nodes (ordered g).ascend)
        ∙ ap (found (λ m. object_said m.1) k) (kept_at k nodes (ordered g).ascend (objects g))
        ∙ kept_said k (contents g k (graph_pairs graphs)) (item_at g k).id_at

    pairs_inner : (g : List ℕ) (nodes : Pairs) (b : Bool) → flat_map (λ m. if_this h k (b && bytes_eq k m.0) (object_said m.1)) nodes ≡ if_so b (inner nodes)
    pairs_inner g nodes true = refl
    pairs_inner g [] false = refl
    pairs_inner g (m ∷ nodes) false = pairs_inner g nodes false

    in_default : bytes_eq h default_graph ≡ true → flat_map (top_says h k part) (filter has_more top) ≡ said_in (contents h k (graph_pairs graphs))
    in_default same =
        ap (λ b. flat_map (λ (m : List ℕ × Tree). if b then if_this h k (bytes_eq k m.0) (object_said m.1) else flat_map (pair_says h k m.0) (part m.0)) (filter has_more top)) same
        ∙ sum_at (λ m. object_said m.1) k (filter has_more top) (ascend_kept has_more top top_ascends)
        ∙ ap (found (λ m. object_said m.1) k) (kept_at k top top_ascends top_objects)
        ∙ kept_said k (node_at k top) (id_in_top k)
        ∙ ap said_in (top_at k)
        ∙ said_with_part (part_at k (graph_pairs graphs)) (contents default_graph k (graph_pairs graphs))
        ∙ ap (λ g. said_in (contents g k (graph_pairs graphs))) (sym (bytes_eq-exact h default_graph same))

    -- Another graph stands in one node object, which is kept for it.
    kept_part : bytes_eq h default_graph ≡ false → found (λ m. inner (part m.0)) h (kept_if (node_at h top)) ≡ inner (part h)
    kept_part apart = by_part (member_at h (graph_pairs graphs)) refl
      where
        by_size : (b : Bool) → nat_lt 1 (length (node_at h top)) ≡ b → (b ≡ false → inner (part h) ≡ []) → found (λ m. inner (part m.0)) h (if b then Some (object (members_of (node_at h top))) else None) ≡ inner (part h)
        by_size true more none = refl
        by_size false short none = sym (none refl)

        by_part : (o : Option Tree) → member_at h (graph_pairs graphs) ≡ o → found (λ m. inner (part m.0)) h (kept_if (node_at h top)) ≡ inner (part h)
        by_part None none = by_size (nat_lt 1 (length (node_at h top))) refl (λ short. ap inner (part_is h apart ∙ ap (λ o. filter has_more (object_in o)) none))
        by_part (Some u) is = by_size (nat_lt 1 (length (node_at h top))) refl (λ short.
            let graph_at : member_at graph_key (node_at h top) ≡ Some (array (trees_of (nodes_of (graph_of (Some u))))) =
            ap (member_at graph_key) (top_at h ∙ ap (λ o. with_part o (contents default_graph h (graph_pairs graphs))) (ap (λ b. if b then None else member_at h (graph_pairs graphs)) apart ∙ is))
            ∙ member_at-put graph_key _ (contents default_graph h (graph_pairs graphs)) in
            absurd (let no_way : true ≡ false = sym (two_members (node_at h top) (text h) _ (id_in_top h) graph_at) ∙ short in cc))

    in_other : bytes_eq h default_graph ≡ false → flat_map (top_says h k part) (filter has_more top) ≡ said_in (contents h k (graph_pairs graphs))
    in_other apart =
        ap (λ b. flat_map (λ (m : List ℕ × Tree). if b then if_this h k (bytes_eq k m.0) (object_said m.1) else flat_map (pair_says h k m.0) (part m.0)) (filter has_more top)) apart
        ∙ flat_to (λ m. flat_map (pair_says h k m.0) (part m.0)) (λ m. if_so (bytes_eq h m.0) (inner (part m.0))) (λ m. pairs_inner m.0 (part m.0) (bytes_eq h m.0)) (filter has_more top)
        ∙ sum_at (λ m. inner (part m.0)) h (filter has_more top) (ascend_kept has_more top top_ascends)
        ∙ ap (found (λ m. inner (part m.0)) h) (kept_at h top top_ascends top_objects)
        ∙ kept_part apart
        ∙ ap inner (part_is h apart)
        ∙ inner_is h

    pub said_again : of_this h k (stated_in (flatten (graph_pairs graphs))) ≡ said_in (contents h k (graph_pairs graphs))
    said_again = summed ∙ by_graph (bytes_eq h default_graph) refl
      where
        by_graph : (b : Bool) → bytes_eq h default_graph ≡ b → flat_map (top_says h k part) (filter has_more top) ≡ said_in (contents h k (graph_pairs graphs))
        by_graph true same = in_default same
        by_graph false apart = in_other apart

  -- The graphs of which something is said again.
  part_shown : (g : List ℕ) → is_some (member_at graph_key (object_in (member_at g (filter has_more top)))) ≡ is_some (part_at g (graph_pairs graphs))
  part_shown g = ap (λ o. is_some (member_at graph_key (object_in o))) (kept_at g top top_ascends top_objects) ∙ by_part (part_at g (graph_pairs graphs)) refl
    where
      base : Pairs
      base = contents default_graph g (graph_pairs graphs)

      if_kept : (b : Bool) (ms : Pairs) → member_at graph_key ms ≡ None → is_some (member_at graph_key (object_in (if b then Some (object (members_of ms)) else None))) ≡ false
      if_kept true ms none = ap (λ l. is_some (member_at graph_key l)) (member_list-members_of ms) ∙ ap is_some none
      if_kept false ms none = refl

      kept : (ms : Pairs) (u : Tree) → nat_lt 1 (length ms) ≡ true → member_at graph_key ms ≡ Some u → is_some (member_at graph_key (object_in (kept_if ms))) ≡ true
      kept ms u more is =
          ap (λ b. is_some (member_at graph_key (object_in (if b then Some (object (members_of ms)) else None)))) more ∙ ap (λ l. is_some (member_at graph_key l)) (member_list-members_of ms) ∙ ap is_some is

      by_part : (o : Option Tree) → part_at g (graph_pairs graphs) ≡ o → is_some (member_at graph_key (object_in (kept_if (node_at g top)))) ≡ is_some o
      by_part None none =
          if_kept (nat_lt 1 (length (node_at g top))) (node_at g top) (ap (member_at graph_key) (top_at g ∙ ap (λ o. with_part o (contents default_graph g (graph_pairs graphs))) none) ∙ no_graph_at default_graph g)
      by_part (Some u) is =
          let graph_at : member_at graph_key (node_at g top) ≡ Some (array (trees_of (nodes_of (graph_of (Some u))))) =
          ap (member_at graph_key) (top_at g ∙ ap (λ o. with_part o (contents default_graph g (graph_pairs graphs))) is) ∙ member_at-put graph_key _ (contents default_graph g (graph_pairs graphs)) in
          kept (node_at g top) _ (two_members (node_at g top) (text g) _ (id_in_top g) graph_at) graph_at

  default_stands : is_some (member_at default_graph (graph_pairs graphs)) ≡ true
  default_stands = (both (is_some (member_at default_graph (graph_pairs graphs))) (list_all is_graph (graph_pairs graphs)) form.form).0

  pub graph_again : (g : List ℕ) → (bytes_eq g default_graph || list_any (is_of_graph g) (stated_in (flatten (graph_pairs graphs)))) ≡ is_some (member_at g (graph_pairs graphs))
  graph_again g =
      turned (bytes_eq g default_graph) (list_any (is_of_graph g) (stated_in (flatten (graph_pairs graphs))))
      ∙ tops_state g part (filter has_more top) (record { state = record { labels = no_labels; stated = [] }; items = [] }) tops_all
      ∙ ap (λ b. (false || bytes_eq g default_graph) || b) (any_at g (filter has_more top) (ascend_kept has_more top top_ascends) ∙ part_shown g)
      ∙ by_name (bytes_eq g default_graph) refl
    where
      turned : (a b : Bool) → (a || b) ≡ (b || a)
      turned true true = refl
      turned true false = refl
      turned false true = refl
      turned false false = refl

      by_name : (b : Bool) → bytes_eq g default_graph ≡ b → (b || is_some (if b then None else member_at g (graph_pairs graphs))) ≡ is_some (member_at g (graph_pairs graphs))
      by_name true same = sym (ap (λ x. is_some (member_at x (graph_pairs graphs))) (bytes_eq-exact g default_graph same) ∙ default_stands)
      by_name false apart = refl

  -- A node is what is said of it again.
  module _ (stated : List Statement) (holds : Holds stated graphs) (h k : List ℕ) where
    abbrev node : Node
    node = node_in k (graph_in h graphs)

    node_is : IsNode (node_in k (graph_in h graphs))
    node_is = node_in_is k (graph_in h graphs) (graph_in_is h graphs map)

    abbrev members : Pairs
    members = node_members k (node_in k (graph_in h graphs))

    abbrev said : List Said
    said = said_of h k (stated_in (flatten (graph_pairs graphs)))

    told_is : told said ≡ said_in members
    told_is = said_again h k ∙ ap said_in (contents_are h k)

    types_again : flat_map types_said said ≡ node.types
    types_again = read_told types_said refl said ∙ ap (flat_map types_said) told_is ∙ types_read members ∙ types_there k node node_is

    types_once : once_by bytes_eq node.types ≡ node.types
    types_once =
        let is : node.types ≡ once_by bytes_eq (flat_map types_said (said_of h k stated)) = ap (λ (n : Node). n.types) (node_stated h k stated graphs holds) ∙ types_are (said_of h k stated) in
        ap (once_by bytes_eq) is ∙ once_again bytes_eq (flat_map types_said (said_of h k stated)) ∙ sym is

    index_again : first (flat_map indexes_said said) ≡ node.index
    index_again =
        ap first (read_told indexes_said refl said ∙ ap (flat_map indexes_said) told_is ∙ index_read members ∙ ap (λ o. listed_index (text_in o)) (index_there k node node_is)) ∙ by_index node.index
      where
        by_index : (o : Option (List ℕ)) → first (listed_index (text_in (option_map text o))) ≡ o
        by_index (Some i) = refl
        by_index None = refl

    entries_again : (p : List ℕ) → is_keyword p ≡ false → flat_map (entries_said p) said ≡ entries_in p node.properties
    entries_again p apart = read_told (entries_said p) refl said ∙ ap (flat_map (entries_said p)) told_is ∙ entries_read p apart members (members_are k node node_is).ascend ∙ entries_there k node node_is p apart

    entries_once : (p : List ℕ) → once_by repeats_entry (entries_in p node.properties) ≡ entries_in p node.properties
    entries_once p =
        let is : entries_in p node.properties ≡ once_by repeats_entry (flat_map (entries_said p) (said_of h k stated)) =
        ap (λ (n : Node). entries_in p n.properties) (node_stated h k stated graphs holds) ∙ entries_are p (said_of h k stated) in
        ap (once_by repeats_entry) is ∙ once_again repeats_entry (flat_map (entries_said p) (said_of h k stated)) ∙ sym is

    arrays : (p : List ℕ) → is_keyword p ≡ false → (t : Tree) → member_at p members ≡ Some t → (ts : Trees) × (t ≡ array ts)
    arrays p apart t is = by_array (array_at k p t apart (found_passes (is_node_entry k) p t members (all_pass (is_node_entry k) members (members_are k node node_is).each) is))
      where
        by_array : IsArray k t → (ts : Trees) × (t ≡ array ts)
        by_array (an_array ts is) = (ts, is)

    pub node_again : IsAsSaid said members
    node_again = record {
      types = types_there k node node_is ∙ sym types_once ∙ ap (once_by bytes_eq) (sym types_again);
      typed = typed_there k node node_is ∙ ap (λ ts. not (is_empty ts)) (sym types_again);
      index = index_there k node node_is ∙ ap (option_map text) (sym index_again);
      property = λ p apart. sym (any_told p said ∙ ap (list_any (is_of_property p)) told_is ∙ property_read p apart members (arrays p apart));
      entries = λ p apart. entries_there k node node_is p apart ∙ sym (entries_once p) ∙ ap (once_by repeats_entry) (sym (entries_again p apart));
    }

    -- One index at most is said of it.
    pub one_index : flat_map indexes_said said ≡ listed_index node.index
    one_index = read_told indexes_said refl said ∙ ap (flat_map indexes_said) told_is ∙ index_read members ∙ ap listed_index (ap text_in (index_there k node node_is) ∙ by_index node.index)
      where
        by_index : (o : Option (List ℕ)) → text_in (option_map text o) ≡ o
        by_index (Some i) = refl
        by_index None = refl
