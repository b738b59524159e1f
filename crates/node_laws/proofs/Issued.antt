-- Each name of a blank node is a label that was issued.
use Rattle.std.proofs.Common.{◌≡◌, ℕ, ◌+◌, ◌<◌, ◌≤◌, List, [], ◌∷◌, ◌++◌, Bool, true, false, cond, if◌then◌else◌, Option, Some, None, is_some, refl, sym, ap, ◌∙◌, subst, arith}
use Rattle.std.specs.Prelude.{⊤, map as each}
use Rattle.std.specs.Str.{bytes_eq}
use Rattle.std.specs.List.{AllByRecursion, list_any, flat_map}
use Rattle.ld_model.specs.Tree.{Tree, Members, Pairs, text, array, object, no_members, member, trees_of, member_list-members_of, put, same_tree}
use Rattle.ld_model.specs.Keys.{value_key, default_graph}
use Rattle.ld_model.specs.Label.{is_blank}
use Rattle.ld_model.specs.NodeMap.{added}
use Rattle.ld_model.proofs.Puts.{bytes_eq-exact, bytes_eq-sym, all-put, at_later}
use Rattle.ctx_types.specs.Expansion.{is_keyword}
use Rattle.node_model.specs.Keys.{type_key, index_key}
use Rattle.node_model.specs.Maps.{MapOf, at, with_at}
use Rattle.node_model.specs.Labels.{Labels, new_label, label_by, label_for, named, id_or_new}
use Rattle.node_model.specs.NodeMap.{Node, Graph, Graphs, new_node, node_or_new, graph_or_new, entries_or_none, graph_in, node_in, entries_in, on_graph, with_node, on_node, list_object, is_list_object, told, on_entries, with_type, with_index}
use Rattle.node_model.specs.AsTrees.{index_put, types_put, properties_put, node_members, node_pair, graph_pairs}
use Rattle.node_model.specs.Generating.{State, Generated, generating, index_by, empty, walked}
use Rattle.node_model.specs.Walk.{nowhere, has_key, texts_in}
use Rattle.node_laws.specs.Names.{entry_names, entries_names, member_names, node_names, graph_names, names_in, IsIssued}
use Rattle.node_laws.specs.Laws.{BlankNodesHaveIssuedLabels}
use Rattle.node_laws.proofs.Lists.{all_last, all_both, all_to, all_flat}
use Rattle.node_laws.proofs.Likeness.{Likeness, Pairwise, Reach, AnswerAlike, lasts_here}
use Rattle.node_laws.proofs.Alike.{all_beside}
use Rattle.node_laws.proofs.Idle.{idle}
use Rattle.node_laws.proofs.Maps.{at-with_at, at-with_at_other, all-with_at, all-at}
use Rattle.node_laws.proofs.Shape.{IsProperty, IsNode, IsGraph, walked_is}
use Rattle.node_laws.proofs.DueForm.{given, keyword_apart}

-- All the names are issued, if this many labels are.
module _ (count : ℕ) where
  abbrev pub OfEntry : Tree → Type 0
  OfEntry e = AllByRecursion (IsIssued count) (entry_names e)

  abbrev pub OfProperty : List ℕ × List Tree → Type 0
  OfProperty p = IsIssued count p.0 × AllByRecursion OfEntry p.1

  pub record OfNode (n : Node) : Type 0 where
    pub types : AllByRecursion (IsIssued count) n.types
    pub properties : AllByRecursion OfProperty n.properties

  abbrev pub OfGraph : List ℕ × Graph → Type 0
  OfGraph g = IsIssued count g.0 × AllByRecursion (λ e. IsIssued count e.0 × OfNode e.1) g.1

  abbrev pub OfGraphs : Graphs → Type 0
  OfGraphs graphs = AllByRecursion OfGraph graphs

  new_node_of : OfNode new_node
  new_node_of = record { types = tt; properties = tt }

  entries_in_of : (p : List ℕ) (ps : MapOf (List Tree)) → AllByRecursion OfProperty ps → AllByRecursion OfEntry (entries_in p ps)
  entries_in_of p ps all = by_found (at p ps) refl
    where
      by_found : (o : Option (List Tree)) → at p ps ≡ o → AllByRecursion OfEntry (entries_or_none o)
      by_found (Some es) is = (all-at OfProperty p ps es all is).1
      by_found None is = tt

  pub node_in_of : (id : List ℕ) (nodes : Graph) → AllByRecursion (λ e. IsIssued count e.0 × OfNode e.1) nodes → OfNode (node_in id nodes)
  node_in_of id nodes all = by_found (at id nodes) refl
    where
      by_found : (o : Option Node) → at id nodes ≡ o → OfNode (node_or_new o)
      by_found (Some n) is = (all-at (λ e. IsIssued count e.0 × OfNode e.1) id nodes n all is).1
      by_found None is = new_node_of

  pub graph_in_of : (g : List ℕ) (graphs : Graphs) → OfGraphs graphs → AllByRecursion (λ e. IsIssued count e.0 × OfNode e.1) (graph_in g graphs)
  graph_in_of g graphs all = by_found (at g graphs) refl
    where
      by_found : (o : Option Graph) → at g graphs ≡ o → AllByRecursion (λ e. IsIssued count e.0 × OfNode e.1) (graph_or_new o)
      by_found (Some nodes) is = (all-at OfGraph g graphs nodes all is).1
      by_found None is = tt

  on_graph_of : (g : List ℕ) (graphs : Graphs) → IsIssued count g → OfGraphs graphs → OfGraphs (on_graph g (λ nodes. nodes) graphs)
  on_graph_of g graphs name all = all-with_at OfGraph g (graph_in g graphs) graphs (name, graph_in_of g graphs all) all

  on_node_of : (g id : List ℕ) (change : Node → Node) (graphs : Graphs) → IsIssued count g → IsIssued count id → ((n : Node) → OfNode n → OfNode (change n)) → OfGraphs graphs → OfGraphs (on_node g id change graphs)
  on_node_of g id change graphs name node keeps all =
      let nodes = graph_in_of g graphs all in
      all-with_at OfGraph g (with_node id change (graph_in g graphs)) graphs
      (name, all-with_at (λ e. IsIssued count e.0 × OfNode e.1) id (change (node_in id (graph_in g graphs))) (graph_in g graphs) (node, keeps (node_in id (graph_in g graphs)) (node_in_of id (graph_in g graphs) nodes)) nodes)
      all

  on_entries_of : (p : List ℕ) (change : List Tree → List Tree) → IsIssued count p → ((es : List Tree) → AllByRecursion OfEntry es → AllByRecursion OfEntry (change es)) → (n : Node) → OfNode n → OfNode (on_entries p change n)
  on_entries_of p change name keeps n node = record {
    types = node.types;
    properties = all-with_at OfProperty p (change (entries_in p n.properties)) n.properties (name, keeps (entries_in p n.properties) (entries_in_of p n.properties node.properties)) node.properties;
  }

  told_of : (e : Tree) → OfEntry e → (es : List Tree) → AllByRecursion OfEntry es → AllByRecursion OfEntry (told e es)
  unfolding added
  told_of e is es all = by_tests (is_list_object e) (list_any (same_tree e) es)
    where
      by_tests : (b c : Bool) → AllByRecursion OfEntry (cond b (es ++ e ∷ []) (cond c es (es ++ e ∷ [])))
      by_tests true c = all_last OfEntry es e all is
      by_tests false true = all
      by_tests false false = all_last OfEntry es e all is

  typed_of : (name : List ℕ) → IsIssued count name → (n : Node) → OfNode n → OfNode (with_type name n)
  typed_of name is n node = record { types = by_test (list_any (bytes_eq name) n.types); properties = node.properties }
    where
      by_test : (b : Bool) → AllByRecursion (IsIssued count) (if b then n.types else (n.types ++ name ∷ []))
      by_test true = node.types
      by_test false = all_last (IsIssued count) n.types name node.types is

  entries_of : (es : List Tree) → AllByRecursion OfEntry es → AllByRecursion (IsIssued count) (entries_names (trees_of es))
  entries_of [] all = tt
  entries_of (e ∷ es) all = all_both (IsIssued count) (entry_names e) (entries_names (trees_of es)) all.0 (entries_of es all.1)

  -- As trees.
  abbrev OfMember : List ℕ × Tree → Type 0
  OfMember m = AllByRecursion (IsIssued count) (member_names m)

  texts_of_all : (ts : List (List ℕ)) → AllByRecursion (IsIssued count) ts → AllByRecursion (IsIssued count) (texts_in (trees_of (each text ts)))
  texts_of_all [] all = tt
  texts_of_all (t ∷ ts) all = (all.0, texts_of_all ts all.1)

  index_put_of : (o : Option (List ℕ)) (ms : Pairs) → AllByRecursion OfMember ms → AllByRecursion OfMember (index_put o ms)
  index_put_of (Some i) ms all = all-put OfMember index_key (text i) ms tt all
  index_put_of None ms all = all

  types_put_of : (ts : List (List ℕ)) (ms : Pairs) → AllByRecursion (IsIssued count) ts → AllByRecursion OfMember ms → AllByRecursion OfMember (types_put ts ms)
  types_put_of [] ms types all = all
  types_put_of (t ∷ ts) ms types all = all-put OfMember type_key (array (trees_of (each text (t ∷ ts)))) ms (texts_of_all (t ∷ ts) types) all

  property_of : (p : List ℕ) (es : List Tree) → is_keyword p ≡ false → IsIssued count p → AllByRecursion OfEntry es → OfMember (p, array (trees_of es))
  property_of p es apart name entries =
      let names = entries_names (trees_of es) in
      subst (AllByRecursion (IsIssued count))
      (sym (ap (λ b. if b then texts_in (trees_of es) else (if is_keyword p then [] else (p ∷ names))) (bytes_eq-sym p type_key ∙ keyword_apart type_key p refl apart)
      ∙ ap (λ b. if b then [] else (p ∷ names)) apart))
      (name, entries_of es entries)

  properties_put_of : (ps : MapOf (List Tree)) (ms : Pairs) → AllByRecursion IsProperty ps → AllByRecursion OfProperty ps → AllByRecursion OfMember ms → AllByRecursion OfMember (properties_put ps ms)
  properties_put_of [] ms properties named all = all
  properties_put_of (p ∷ ps) ms properties named all =
      properties_put_of ps (put p.0 (array (trees_of p.1)) ms) properties.1 named.1
      (all-put OfMember p.0 (array (trees_of p.1)) ms (property_of p.0 p.1 properties.0.0 named.0.0 named.0.1) all)

  pub members_of_node : (id : List ℕ) (n : Node) → IsNode n → OfNode n → AllByRecursion OfMember (node_members id n)
  members_of_node id n node named = properties_put_of n.properties _ node.each named.properties (types_put_of n.types _ named.types (index_put_of n.index _ (tt, tt)))

  nodes_of : (nodes : Graph) → AllByRecursion (λ e. IsNode e.1) nodes → AllByRecursion (λ e. IsIssued count e.0 × OfNode e.1) nodes → AllByRecursion (λ m. AllByRecursion (IsIssued count) (node_names m)) (each node_pair nodes)
  nodes_of [] node named = tt
  nodes_of (e ∷ nodes) node named =
      let members = members_of_node e.0 e.1 node.0 named.0.1 in (
        (named.0.0, subst (λ l. AllByRecursion (IsIssued count) (flat_map member_names l)) (sym (member_list-members_of (node_members e.0 e.1))) (all_flat (IsIssued count) member_names (node_members e.0 e.1) members)),
        nodes_of nodes node.1 named.1,
      )

  graphs_of : (graphs : Graphs) → AllByRecursion (λ e. IsGraph e.1) graphs → OfGraphs graphs → AllByRecursion (λ m. AllByRecursion (IsIssued count) (graph_names m)) (graph_pairs graphs)
  graphs_of [] graph named = tt
  graphs_of (e ∷ graphs) graph named = (
    (named.0.0, subst (λ l. AllByRecursion (IsIssued count) (flat_map node_names l)) (sym (member_list-members_of (each node_pair e.1))) (all_flat (IsIssued count) node_names (each node_pair e.1) (nodes_of e.1 graph.0.each named.0.1))),
    graphs_of graphs graph.1 named.1,
  )

-- With more labels issued.
module _ (c d : ℕ) (more : c ≤ d) where
  issued_to : (s : List ℕ) → IsIssued c s → IsIssued d s
  issued_to s is blank = let label = is blank in let below : label.0 < d = let under = label.1 in omega arith in (label.0, below, label.2)

  entry_to : (e : Tree) → OfEntry c e → OfEntry d e
  entry_to e is = all_to (IsIssued c) (IsIssued d) issued_to (entry_names e) is

  node_to : (n : Node) → OfNode c n → OfNode d n
  node_to n node = record {
    types = all_to (IsIssued c) (IsIssued d) issued_to n.types node.types;
    properties = all_to (OfProperty c) (OfProperty d) (λ p is. (issued_to p.0 is.0, all_to (OfEntry c) (OfEntry d) entry_to p.1 is.1)) n.properties node.properties;
  }

  graphs_to : (graphs : Graphs) → OfGraphs c graphs → OfGraphs d graphs
  graphs_to graphs all =
      all_to (OfGraph c) (OfGraph d) (λ g is. (issued_to g.0 is.0, all_to (λ e. IsIssued c e.0 × OfNode c e.1) (λ e. IsIssued d e.0 × OfNode d e.1) (λ e node. (issued_to e.0 node.0, node_to e.1 node.1)) g.1 is.1)) graphs all

-- The numbers that were given are below the count.
abbrev Below : Labels → Type 0
Below l = (s : List ℕ) (n : ℕ) → at s l.given ≡ Some n → n < l.issued

record Issues (l : Labels) (made : List ℕ × Labels) : Type 0 where
  more : l.issued ≤ made.1.issued
  below : Below made.1
  name : IsIssued made.1.issued made.0

new_issues : (l : Labels) → Below l → Issues l (new_label l)
new_issues l below = record {
  more = omega arith;
  below = λ s n is. let under = below s n is in omega arith;
  name = λ blank. (l.issued, omega arith, refl);
}

label_issues : (s : List ℕ) (l : Labels) → Below l → Issues l (label_for s l)
label_issues s l below = by_given (at s l.given) refl
  where
    by_given : (o : Option ℕ) → at s l.given ≡ o → Issues l (label_by o s l)
    by_given (Some n) is = record { more = omega arith; below = below; name = λ blank. (n, below s n is, refl) }
    by_given None is = record { more = omega arith; below = λ r n given. by_label r n (bytes_eq r s) refl given; name = λ blank. (l.issued, omega arith, refl) }
      where
        by_label : (r : List ℕ) (n : ℕ) (b : Bool) → bytes_eq r s ≡ b → at r (with_at s l.issued l.given) ≡ Some n → n < l.issued + 1
        by_label r n true same given =
            let both : Some l.issued ≡ Some n = sym (at-with_at s l.issued l.given) ∙ ap (λ x. at x (with_at s l.issued l.given)) (sym (bytes_eq-exact r s same)) ∙ given in
            let number : l.issued ≡ n = cc in
            omega arith
        by_label r n false apart given = let under = below r n (sym (at-with_at_other r s l.issued l.given apart) ∙ given) in omega arith

name_issues : (s : List ℕ) (l : Labels) → Below l → Issues l (named s l)
name_issues s l below = by_form (is_blank s) refl
  where
    by_form : (b : Bool) → is_blank s ≡ b → Issues l (if b then label_for s l else (s, l))
    by_form true is = label_issues s l below
    by_form false is = record { more = omega arith; below = below; name = λ blank. absurd (let no_way : false ≡ true = sym is ∙ blank in cc) }

id_issues : (id : Option (List ℕ)) (l : Labels) → Below l → Issues l (id_or_new id l)
id_issues (Some s) l below = name_issues s l below
id_issues None l below = new_issues l below

abbrev issued_alike : Likeness State (List ℕ) Tree ⊤ ⊤ ⊤
issued_alike = record {
  states = λ s t. Below s.labels × OfGraphs s.labels.issued s.graphs;
  names = λ s n m. IsIssued s.labels.issued n;
  properties = λ s n m. IsIssued s.labels.issued n;
  entries = λ s e f. OfEntry s.labels.issued e;
}

reach : (s r : State) → s.labels.issued ≤ r.labels.issued → Below r.labels → OfGraphs r.labels.issued r.graphs → Reach issued_alike s r tt
reach s r more below graphs = record {
  states = (below, graphs);
  lasts = record {
    names = λ n m is. issued_to s.labels.issued r.labels.issued more n is;
    properties = λ n m is. issued_to s.labels.issued r.labels.issued more n is;
    entries = λ e f is. entry_to s.labels.issued r.labels.issued more e is;
  };
}

-- A step that issues no label.
same_count : (s : State) (graphs : Graphs) → Below s.labels → OfGraphs s.labels.issued graphs → Reach issued_alike s (record { graphs = graphs; labels = s.labels; conflict = s.conflict }) tt
same_count s graphs below all = reach s (record { graphs = graphs; labels = s.labels; conflict = s.conflict }) (omega arith) below all

index_reach : (o : Option (List ℕ)) (g id index : List ℕ) (s : State) → IsIssued s.labels.issued g → IsIssued s.labels.issued id → Below s.labels → OfGraphs s.labels.issued s.graphs → Reach issued_alike s (index_by o g id index s) tt
index_reach None g id index s name node below all = same_count s _ below (on_node_of s.labels.issued g id (with_index index) s.graphs name node (λ n is. record { types = is.types; properties = is.properties }) all)
index_reach (Some first) g id index s name node below all = by_test (bytes_eq first index) s _ (reach s s (omega arith) below all) (reach s _ (omega arith) below all)
  where
    by_test : (b : Bool) (r u : State) → Reach issued_alike s r tt → Reach issued_alike s u tt → Reach issued_alike s (if b then r else u) tt
    by_test true r u is other = is
    by_test false r u is other = other

gathered_of : (count : ℕ) (es : List Tree) (fs : List ⊤) → Pairwise (λ e f. OfEntry count e) es fs → AllByRecursion (OfEntry count) es
gathered_of count [] [] is = tt
gathered_of count (e ∷ es) (f ∷ fs) is = (is.0, gathered_of count es fs is.1)
gathered_of count [] (f ∷ fs) is = absurd is
gathered_of count (e ∷ es) [] is = absurd is

-- A value object has no name in it.
value_of : (count : ℕ) (ms : Members) → has_key value_key ms ≡ true → OfEntry count (object ms)
value_of count no_members is = absurd (cc)
value_of count (member k t (member l u ms)) is = tt
value_of count (member k t no_members) is = subst (λ x. OfEntry count (object (member x t no_members))) (sym (bytes_eq-exact k value_key (alone (bytes_eq k value_key) refl))) tt
  where
    alone : (b : Bool) → bytes_eq k value_key ≡ b → b ≡ true
    alone true same = refl
    alone false apart = sym (ap is_some (at_later value_key (k, t) [] (bytes_eq-sym value_key k ∙ apart))) ∙ is

steps_issue : AnswerAlike issued_alike generating idle
steps_issue = record {
  named = λ x s t is.
      let name = name_issues x s.labels is.0 in
      (reach s _ name.more name.below (graphs_to s.labels.issued _ name.more s.graphs is.1), name.name, λ apart. name.name);
  node = λ g h id s t graph is.
      let name = id_issues id s.labels is.0 in
      let count = (id_or_new id s.labels).1.issued in
      (reach s _ name.more name.below (on_node_of count g _ (λ n. n) s.graphs (issued_to s.labels.issued count name.more g graph) name.name (λ n node. node) (graphs_to s.labels.issued count name.more s.graphs is.1)), name.name);
  property = λ g h n m x s t apart graph id is.
      let name = name_issues x s.labels is.0 in
      let count = (named x s.labels).1.issued in (
        reach s _ name.more name.below
            (on_node_of count g n _ s.graphs (issued_to s.labels.issued count name.more g graph) (issued_to s.labels.issued count name.more n id) (on_entries_of count _ (λ es. es) name.name (λ es all. all)) (graphs_to s.labels.issued count name.more s.graphs is.1)),
        name.name,
      );
  graph = λ g h s t graph is. same_count s _ is.0 (on_graph_of s.labels.issued g s.graphs graph is.1);
  value = λ ms s is. value_of s.labels.issued ms is;
  reference = λ n m s is. (is, tt);
  list = λ es fs s is. entries_of s.labels.issued es (gathered_of s.labels.issued es fs is);
  add = λ g h n m p q e f s t graph id property entry is.
      same_count s _ is.0 (on_node_of s.labels.issued g n _ s.graphs graph id (on_entries_of s.labels.issued p (told e) property (told_of s.labels.issued e entry)) is.1);
  append = λ g h n m p q es fs s t graph id property entries is.
      same_count s _ is.0
      (on_node_of s.labels.issued g n _ s.graphs graph id (on_entries_of s.labels.issued p (told (list_object es)) property (told_of s.labels.issued (list_object es) (entries_of s.labels.issued es (gathered_of s.labels.issued es fs entries)))) is.1);
  type_ = λ g h n m x y s t graph id name is. same_count s _ is.0 (on_node_of s.labels.issued g n (with_type x) s.graphs graph id (typed_of s.labels.issued x name) is.1);
  index = λ g h n m x s t graph id is. index_reach _ g n x s graph id is.0 is.1;
}

no_blank_default : (count : ℕ) → IsIssued count default_graph
no_blank_default count blank = absurd (cc)

none_given : Below empty.labels
none_given s n is = absurd (cc)

pub walked_issued : (ts : List Tree) → OfGraphs (walked ts).labels.issued (walked ts).graphs
walked_issued ts =
    (all_beside issued_alike generating idle steps_issue default_graph tt nowhere nowhere (trees_of ts) empty (record { state = empty; items = [] }) (record { state = tt; items = [] }) (no_blank_default 0) tt
    (record { states = (none_given, ((no_blank_default 0, tt), tt)); gathered = tt; lasts = lasts_here issued_alike empty })).states.1

pub blank_nodes_have_issued_labels : BlankNodesHaveIssuedLabels
blank_nodes_have_issued_labels ts m is =
    let s = walked ts in
    subst (λ (m : Generated). AllByRecursion (IsIssued m.issued) (names_in m.graphs)) (given s.conflict s m is)
    (all_flat (IsIssued s.labels.issued) graph_names (graph_pairs s.graphs) (graphs_of s.labels.issued s.graphs (walked_is ts).each (walked_issued ts)))
