-- What a look-up finds in the node map as trees.
use Rattle.std.proofs.Common.{◌≡◌, ℕ, List, [], ◌∷◌, Bool, true, false, not, Option, Some, None, is_some, refl, sym, ap, ◌∙◌}
use Rattle.std.specs.Prelude.{map as each}
use Rattle.std.specs.Option.{option_map}
use Rattle.std.specs.Str.{bytes_eq}
use Rattle.ld_model.specs.Tree.{Tree, Pairs, text, array, object, trees_of, tree_list-trees_of, members_of, member_list-members_of, member_at, put, is_empty}
use Rattle.ld_model.specs.Keys.{id_key}
use Rattle.ld_model.proofs.Puts.{bytes_eq-exact, bytes_eq-sym, member_at-put, member_at-put_other, at_later as member_later}
use Rattle.ctx_types.specs.Expansion.{is_keyword}
use Rattle.node_model.specs.Keys.{type_key, index_key}
use Rattle.node_model.specs.Maps.{MapOf, at}
use Rattle.node_model.specs.NodeMap.{Node, Graph, Graphs, graph_or_new, graph_in, entries_or_none, entries_in}
use Rattle.node_model.specs.AsTrees.{index_put, types_put, properties_put, node_members, node_pair, graph_pairs}
use Rattle.node_model.specs.Walk.{texts_in, texts_of}
use Rattle.node_laws.specs.Stated.{object_in, array_in}
use Rattle.node_laws.proofs.Maps.{Ascend, at_first, at_later, all-at, none_before, ascend_head, ascend_tail, member_at-as_members}
use Rattle.node_laws.proofs.Shape.{IsProperty, IsNode}
use Rattle.node_laws.proofs.DueForm.{keyword_apart}

abbrev pub listed : List Tree → Tree
listed es = array (trees_of es)

abbrev pub or_else : Option Tree → Option Tree → Option Tree
or_else (Some t) other = Some t
or_else None other = other

-- The properties, put into the members of a node.
pub member_at-properties_put : (q : List ℕ) (ps : MapOf (List Tree)) (ms : Pairs) → Ascend ps → member_at q (properties_put ps ms) ≡ or_else (option_map listed (at q ps)) (member_at q ms)
member_at-properties_put q [] ms sorted = refl
member_at-properties_put q (p ∷ ps) ms sorted =
    member_at-properties_put q ps (put p.0 (listed p.1) ms) (ascend_tail p ps sorted) ∙ by_test (bytes_eq q p.0) refl
  where
    by_test : (b : Bool) → bytes_eq q p.0 ≡ b → or_else (option_map listed (at q ps)) (member_at q (put p.0 (listed p.1) ms)) ≡ or_else (option_map listed (at q (p ∷ ps))) (member_at q ms)
    by_test true same =
        let e : q ≡ p.0 = bytes_eq-exact q p.0 same in
        ap (λ o. or_else (option_map listed o) (member_at q (put p.0 (listed p.1) ms))) (ap (λ x. at x ps) e ∙ none_before p.0 ps (ascend_head p ps sorted))
        ∙ ap (λ x. member_at x (put p.0 (listed p.1) ms)) e
        ∙ member_at-put p.0 (listed p.1) ms
        ∙ ap (λ o. or_else (option_map listed o) (member_at q ms)) (sym (at_first q p ps same))
    by_test false apart =
        ap (or_else (option_map listed (at q ps))) (member_at-put_other q p.0 (listed p.1) ms apart)
        ∙ ap (λ o. or_else (option_map listed o) (member_at q ms)) (sym (at_later q p ps apart))

-- Members without properties.
abbrev base : List ℕ → Node → Pairs
base id n = types_put n.types (index_put n.index ((id_key, text id) ∷ []))

module _ (id : List ℕ) (n : Node) (node : IsNode n) where
  no_keyword : (k : List ℕ) → is_keyword k ≡ true → at k n.properties ≡ None
  no_keyword k word = by_found (at k n.properties) refl
    where
      by_found : (o : Option (List Tree)) → at k n.properties ≡ o → o ≡ None
      by_found (Some es) is = absurd (let apart = (all-at IsProperty k n.properties es node.each is).0 in let no_way : true ≡ false = sym word ∙ apart in cc)
      by_found None is = refl

  at_keyword : (k : List ℕ) → is_keyword k ≡ true → member_at k (node_members id n) ≡ member_at k (base id n)
  at_keyword k word =
      member_at-properties_put k n.properties (base id n) node.ascend
      ∙ ap (λ o. or_else (option_map listed o) (member_at k (base id n))) (no_keyword k word)

  module _ (p : List ℕ) (apart : is_keyword p ≡ false) where
    other : (k : List ℕ) → is_keyword k ≡ true → bytes_eq p k ≡ false
    other k word = bytes_eq-sym p k ∙ keyword_apart k p word apart

    none_in_index : (o : Option (List ℕ)) → member_at p (index_put o ((id_key, text id) ∷ [])) ≡ None
    none_in_index (Some i) = member_at-put_other p index_key (text i) ((id_key, text id) ∷ []) (other index_key refl) ∙ member_later p (id_key, text id) [] (other id_key refl)
    none_in_index None = member_later p (id_key, text id) [] (other id_key refl)

    none_in_base : (ts : List (List ℕ)) → member_at p (types_put ts (index_put n.index ((id_key, text id) ∷ []))) ≡ None
    none_in_base [] = none_in_index n.index
    none_in_base (t ∷ ts) =
        member_at-put_other p type_key (array (trees_of (each text (t ∷ ts)))) (index_put n.index ((id_key, text id) ∷ [])) (other type_key refl) ∙ none_in_index n.index

    pub member_at-property : member_at p (node_members id n) ≡ option_map listed (at p n.properties)
    member_at-property =
        member_at-properties_put p n.properties (base id n) node.ascend
        ∙ ap (or_else (option_map listed (at p n.properties))) (none_in_base n.types)
        ∙ alone (at p n.properties)
      where
        alone : (o : Option (List Tree)) → or_else (option_map listed o) None ≡ option_map listed o
        alone (Some es) = refl
        alone None = refl

    pub property_there : is_some (member_at p (node_members id n)) ≡ is_some (at p n.properties)
    property_there = ap is_some member_at-property ∙ by_found (at p n.properties)
      where
        by_found : (o : Option (List Tree)) → is_some (option_map listed o) ≡ is_some o
        by_found (Some es) = refl
        by_found None = refl

    pub entries_there : array_in (member_at p (node_members id n)) ≡ entries_in p n.properties
    entries_there = ap array_in member_at-property ∙ by_found (at p n.properties)
      where
        by_found : (o : Option (List Tree)) → array_in (option_map listed o) ≡ entries_or_none o
        by_found (Some es) = tree_list-trees_of es
        by_found None = refl

  texts_back : (ts : List (List ℕ)) → texts_in (trees_of (each text ts)) ≡ ts
  texts_back [] = refl
  texts_back (t ∷ ts) = ap (λ l. t ∷ l) (texts_back ts)

  no_type : (o : Option (List ℕ)) → member_at type_key (index_put o ((id_key, text id) ∷ [])) ≡ None
  no_type (Some i) = member_at-put_other type_key index_key (text i) ((id_key, text id) ∷ []) refl
  no_type None = refl

  types_by : (ts : List (List ℕ)) → texts_of (member_at type_key (types_put ts (index_put n.index ((id_key, text id) ∷ [])))) ≡ ts
  types_by [] = ap texts_of (no_type n.index)
  types_by (t ∷ ts) = ap texts_of (member_at-put type_key (array (trees_of (each text (t ∷ ts)))) (index_put n.index ((id_key, text id) ∷ []))) ∙ texts_back (t ∷ ts)

  pub types_there : texts_of (member_at type_key (node_members id n)) ≡ n.types
  types_there = ap texts_of (at_keyword type_key refl) ∙ types_by n.types

  typed_by : (ts : List (List ℕ)) → is_some (member_at type_key (types_put ts (index_put n.index ((id_key, text id) ∷ [])))) ≡ not (is_empty ts)
  typed_by [] = ap is_some (no_type n.index)
  typed_by (t ∷ ts) = ap is_some (member_at-put type_key (array (trees_of (each text (t ∷ ts)))) (index_put n.index ((id_key, text id) ∷ [])))

  pub typed_there : is_some (member_at type_key (node_members id n)) ≡ not (is_empty n.types)
  typed_there = ap is_some (at_keyword type_key refl) ∙ typed_by n.types

  index_by : (o : Option (List ℕ)) → member_at index_key (index_put o ((id_key, text id) ∷ [])) ≡ option_map text o
  index_by (Some i) = member_at-put index_key (text i) ((id_key, text id) ∷ [])
  index_by None = refl

  index_under : (ts : List (List ℕ)) → member_at index_key (types_put ts (index_put n.index ((id_key, text id) ∷ []))) ≡ option_map text n.index
  index_under [] = index_by n.index
  index_under (t ∷ ts) = member_at-put_other index_key type_key (array (trees_of (each text (t ∷ ts)))) (index_put n.index ((id_key, text id) ∷ [])) refl ∙ index_by n.index

  pub index_there : member_at index_key (node_members id n) ≡ option_map text n.index
  index_there = at_keyword index_key refl ∙ index_under n.types

-- A graph and a node of it.
abbrev pub node_tree : List ℕ → Node → Tree
node_tree id n = object (members_of (node_members id n))

abbrev pub graph_tree : List ℕ → Graph → Tree
graph_tree name nodes = object (members_of (each node_pair nodes))

pub graph_there : (g : List ℕ) (graphs : Graphs) → is_some (member_at g (graph_pairs graphs)) ≡ is_some (at g graphs)
graph_there g graphs = ap is_some (member_at-as_members graph_tree g graphs) ∙ by_found (at g graphs)
  where
    by_found : (o : Option Graph) → is_some (option_map (graph_tree g) o) ≡ is_some o
    by_found (Some nodes) = refl
    by_found None = refl

pub nodes_there : (g : List ℕ) (graphs : Graphs) → object_in (member_at g (graph_pairs graphs)) ≡ each node_pair (graph_in g graphs)
nodes_there g graphs = ap object_in (member_at-as_members graph_tree g graphs) ∙ by_found (at g graphs)
  where
    by_found : (o : Option Graph) → object_in (option_map (graph_tree g) o) ≡ each node_pair (graph_or_new o)
    by_found (Some nodes) = member_list-members_of (each node_pair nodes)
    by_found None = refl

pub node_there : (g id : List ℕ) (graphs : Graphs) → member_at id (object_in (member_at g (graph_pairs graphs))) ≡ option_map (node_tree id) (at id (graph_in g graphs))
node_there g id graphs = ap (member_at id) (nodes_there g graphs) ∙ member_at-as_members node_tree id (graph_in g graphs)
