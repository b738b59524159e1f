-- What a node object of a flattened document states, when no name in it is a label.
use Rattle.std.proofs.Common.{◌≡◌, ℕ, List, [], ◌∷◌, ◌++◌, Bool, true, false, ◌&&◌, ◌||◌, if◌then◌else◌, Some, None, refl, sym, ap, ◌∙◌, subst, append_assoc}
use Rattle.std.specs.Prelude.{map as each}
use Rattle.std.proofs.lemmas.List.{append-nil}
use Rattle.std.specs.Str.{bytes_eq}
use Rattle.std.specs.List.{AllByRecursion, flat_map}
use Rattle.ld_model.specs.Tree.{Tree, Trees, Members, null, truth, whole, one_one, text, array, object, no_trees, tree, no_members, member, trees_of, tree_list, member_list, member_at}
use Rattle.ld_model.specs.Keys.{id_key, value_key, graph_key}
use Rattle.ld_model.specs.Label.{is_blank}
use Rattle.ld_model.specs.NodeMap.{reference}
use Rattle.ld_model.proofs.Puts.{bytes_eq-exact, bytes_eq-sym, at_first, at_later}
use Rattle.ld_model.proofs.Truths.{both}
use Rattle.ctx_types.specs.Expansion.{is_keyword}
use Rattle.node_model.specs.Keys.{list_key, included_key}
use Rattle.node_model.specs.Labels.{Labels, label_for, named}
use Rattle.node_model.specs.NodeMap.{list_object}
use Rattle.node_model.specs.DueForm.{is_entry, is_lone, are_entries}
use Rattle.node_model.specs.Walk.{Steps, To, nowhere, under, in_list, reverse, At, has_key, takes_values, value_into, node_into, list_held, entered, with_graph, held, walk, walk_all, walk_at, walk_reverse, walk_properties}
use Rattle.node_laws.specs.Names.{entry_names, lone_names, entries_names}
use Rattle.node_laws.specs.Stated.{Said, it_is, a_property, an_entry, a_type, an_index, Statement, of_graph, of_node, Stating, stating, said_by, said_of}
use Rattle.node_laws.proofs.Lists.{all_parts}
use Rattle.node_laws.proofs.Stated.{said_of-last}

-- No label.
abbrev pub IsOther : List ℕ → Type 0
IsOther s = is_blank s ≡ false

pub named_other : (s : List ℕ) (l : Labels) → IsOther s → named s l ≡ (s, l)
named_other s l other = ap (λ b. if b then label_for s l else (s, l)) other

-- What is said, but that a node is there.
abbrev pub told : List Said → List Said
told [] = []
told (it_is ∷ ds) = told ds
told (d ∷ ds) = d ∷ told ds

told-append : (ds es : List Said) → told (ds ++ es) ≡ told ds ++ told es
told-append [] es = refl
told-append (it_is ∷ ds) es = told-append ds es
told-append (a_property p ∷ ds) es = ap (λ l. a_property p ∷ l) (told-append ds es)
told-append (an_entry p e ∷ ds) es = ap (λ l. an_entry p e ∷ l) (told-append ds es)
told-append (a_type t ∷ ds) es = ap (λ l. a_type t ∷ l) (told-append ds es)
told-append (an_index i ∷ ds) es = ap (λ l. an_index i ∷ l) (told-append ds es)

-- Entries that stand in a list, as the members of its object.
pub trees_back : (ts : Trees) → trees_of (tree_list ts) ≡ ts
trees_back no_trees = refl
trees_back (tree t ts) = ap (tree t) (trees_back ts)

-- Nothing at a key, or this.
pub walk_none : {S N E : Type 0} (p : Steps S N E) (g : N) (to : To N) (key : List ℕ) (ms : Members) (w : At S E) → member_at key (member_list ms) ≡ None → walk_at p g to key ms w ≡ w
walk_none p g to key no_members w none = refl
walk_none p g to key (member k t ms) w none = by_test (bytes_eq key k) refl (walk_none p g to key ms w)
  where
    by_test : (b : Bool) → bytes_eq key k ≡ b → (member_at key (member_list ms) ≡ None → walk_at p g to key ms w ≡ w) → walk_at p g to key (member k t ms) w ≡ w
    by_test true same rest = absurd (let no_way : Some t ≡ None = sym (at_first key (k, t) (member_list ms) same) ∙ none in cc)
    by_test false apart rest = ap (λ b. if b then walk p g to t w else walk_at p g to key ms w) (bytes_eq-sym k key ∙ apart) ∙ rest (sym (at_later key (k, t) (member_list ms) apart) ∙ none)

pub walk_found : {S N E : Type 0} (p : Steps S N E) (g : N) (to : To N) (key : List ℕ) (ms : Members) (t : Tree) (w : At S E) → member_at key (member_list ms) ≡ Some t → walk_at p g to key ms w ≡ walk p g to t w
walk_found p g to key no_members t w is = absurd (cc)
walk_found p g to key (member k u ms) t w is = by_test (bytes_eq key k) refl (walk_found p g to key ms t w)
  where
    by_test : (b : Bool) → bytes_eq key k ≡ b → (member_at key (member_list ms) ≡ Some t → walk_at p g to key ms w ≡ walk p g to t w) → walk_at p g to key (member k u ms) w ≡ walk p g to t w
    by_test true same rest =
        let both : Some u ≡ Some t = sym (at_first key (k, u) (member_list ms) same) ∙ is in
        let e : u ≡ t = cc in
        ap (λ b. if b then walk p g to u w else walk_at p g to key ms w) (bytes_eq-sym k key ∙ same) ∙ ap (λ t. walk p g to t w) e
    by_test false apart rest = ap (λ b. if b then walk p g to u w else walk_at p g to key ms w) (bytes_eq-sym k key ∙ apart) ∙ rest (sym (at_later key (k, u) (member_list ms) apart) ∙ is)

-- A property with its entries, and all properties of a node.
abbrev pub property_said : List ℕ × Tree → List Said
property_said (q, array ts) = if is_keyword q then [] else (a_property q ∷ each (an_entry q) (tree_list ts))
property_said _ = []

-- A keyword, or a property with its array.
pub data IsFine (q : List ℕ) (t : Tree) : Type 0 where
  a_keyword : is_keyword q ≡ true → IsFine q t
  entries_of : is_keyword q ≡ false → IsOther q → (ts : Trees) → t ≡ array ts → are_entries ts ≡ true → AllByRecursion IsOther (entries_names ts) → IsFine q t

pub value_walked : (g : List ℕ) (ms : Members) (to : To (List ℕ)) (w : At Stating Tree) → has_key value_key ms ≡ true → walk stating g to (object ms) w ≡ value_into stating g to (object ms) w
value_walked g ms to w is = ap (λ b. if b then value_into stating g to (object ms) w else walk_other) is
  where
    walk_other : At Stating Tree
    walk_other = if has_key list_key ms then
        (if takes_values to then list_held stating g to w (walk_at stating g in_list list_key ms (record { state = w.state; items = [] })) else w)
        else
        (let node = entered stating g to ms w in
        let turned = walk_reverse stating g node.0 ms node.1 in
        let inside = walk_at stating node.0 nowhere graph_key ms (with_graph stating node.0 ms turned) in
        let included = walk_at stating g nowhere included_key ms inside in
        walk_properties stating g node.0 ms included)

-- What is no list is a value or a reference.
abbrev pub has_array : Members → Bool
has_array (member k (array es) no_members) = true
has_array ms = false

pub several : (key : List ℕ) (t : Tree) (l : List ℕ) (u : Tree) (ms : Members) → has_array (member key t (member l u ms)) ≡ false
several key (array es) l u ms = refl
several key t l u ms = refl

no_way : (b c : Bool) → ((b && false) || (c && false)) ≡ true → ⊥
no_way true true is = absurd (cc)
no_way true false is = absurd (cc)
no_way false true is = absurd (cc)
no_way false false is = absurd (cc)

pub lone_reference : (ms : Members) → has_array ms ≡ false → is_lone ms ≡ true → (x : List ℕ) × (ms ≡ member id_key (text x) no_members)
lone_reference (member k (text x) no_members) none is = (x, ap (λ k. member k (text x) no_members) (bytes_eq-exact k id_key (by_tests (bytes_eq k id_key) (bytes_eq k list_key) is)))
  where
    by_tests : (b c : Bool) → ((b && true) || (c && false)) ≡ true → b ≡ true
    by_tests true c is = refl
    by_tests false true is = absurd (cc)
    by_tests false false is = absurd (cc)
lone_reference (member k (array es) no_members) none is = absurd (cc)
lone_reference (member k null no_members) none is = absurd (no_way (bytes_eq k id_key) (bytes_eq k list_key) is)
lone_reference (member k (truth b) no_members) none is = absurd (no_way (bytes_eq k id_key) (bytes_eq k list_key) is)
lone_reference (member k (whole n) no_members) none is = absurd (no_way (bytes_eq k id_key) (bytes_eq k list_key) is)
lone_reference (member k one_one no_members) none is = absurd (no_way (bytes_eq k id_key) (bytes_eq k list_key) is)
lone_reference (member k (object os) no_members) none is = absurd (no_way (bytes_eq k id_key) (bytes_eq k list_key) is)
lone_reference no_members none is = absurd (cc)
lone_reference (member k t (member l u ms)) none is = absurd (cc)

-- Of one node in one graph.
module _ (h k : List ℕ) where
  abbrev pub of_this : List Statement → List Said
  of_this stated = told (said_of h k stated)

  abbrev pub is_this : List ℕ → List ℕ → Bool
  is_this g id = bytes_eq h g && bytes_eq k id

  abbrev pub if_this : Bool → List Said → List Said
  if_this b ds = if b then ds else []

  of_this-last : (stated : List Statement) (x : Statement) → of_this (stated ++ x ∷ []) ≡ of_this stated ++ told (said_by h k x)
  of_this-last stated x = ap told (said_of-last h k stated x) ∙ told-append (said_of h k stated) (said_by h k x)

  pub node_made : (g id : List ℕ) (stated : List Statement) → of_this (stated ++ of_node g id it_is ∷ []) ≡ of_this stated
  node_made g id stated = of_this-last stated (of_node g id it_is) ∙ by_test (is_this g id)
    where
      by_test : (b : Bool) → of_this stated ++ told (if b then (it_is ∷ []) else []) ≡ of_this stated
      by_test true = append-nil (of_this stated)
      by_test false = append-nil (of_this stated)

  pub graph_made : (g : List ℕ) (stated : List Statement) → of_this (stated ++ of_graph g ∷ []) ≡ of_this stated
  graph_made g stated = of_this-last stated (of_graph g) ∙ append-nil (of_this stated)

  pub said_one : (g id : List ℕ) (d : Said) (stated : List Statement) → told (d ∷ []) ≡ d ∷ [] → of_this (stated ++ of_node g id d ∷ []) ≡ of_this stated ++ if_this (is_this g id) (d ∷ [])
  said_one g id d stated is = of_this-last stated (of_node g id d) ∙ ap (λ l. of_this stated ++ l) (by_test (is_this g id))
    where
      by_test : (b : Bool) → told (if b then (d ∷ []) else []) ≡ if_this b (d ∷ [])
      by_test true = is
      by_test false = refl

  -- Two walks that say the same of it, and gather the same list.
  record SaysSame (w v : At Stating Tree) : Type 0 where
    said : of_this w.state.stated ≡ of_this v.state.stated
    items : w.items ≡ v.items

  entry_added : (g n q : List ℕ) (e : Tree) (more stated : List Statement) → of_this more ≡ of_this stated → of_this (more ++ of_node g n (an_entry q e) ∷ []) ≡ of_this (stated ++ of_node g n (an_entry q e) ∷ [])
  entry_added g n q e more stated is =
      said_one g n (an_entry q e) more refl ∙ ap (λ l. l ++ if_this (is_this g n) (an_entry q e ∷ [])) is ∙ sym (said_one g n (an_entry q e) stated refl)

  -- A reference: its node is made, and it is added.
  abbrev referred : List ℕ → To (List ℕ) → At Stating Tree → List ℕ × Labels → At Stating Tree
  referred g to w name = node_into stating g to name.0 (record { state = record { labels = name.1; stated = w.state.stated ++ of_node g name.0 it_is ∷ [] }; items = w.items })

  reference_says_same : (g x : List ℕ) (to : To (List ℕ)) (w : At Stating Tree) → takes_values to ≡ true → IsOther x → SaysSame (walk stating g to (reference x) w) (value_into stating g to (reference x) w)
  reference_says_same g x nowhere w takes other = absurd (cc)
  reference_says_same g x (reverse n q) w takes other = absurd (cc)
  reference_says_same g x (under n q) w takes other =
      subst (λ name. SaysSame (referred g (under n q) w name) (value_into stating g (under n q) (reference x) w)) (sym (named_other x w.state.labels other))
      (record { said = entry_added g n q (reference x) (w.state.stated ++ of_node g x it_is ∷ []) w.state.stated (node_made g x w.state.stated); items = refl })
  reference_says_same g x in_list w takes other =
      subst (λ name. SaysSame (referred g in_list w name) (value_into stating g in_list (reference x) w)) (sym (named_other x w.state.labels other)) (record { said = node_made g x w.state.stated; items = refl })

  list_says_same : (g : List ℕ) (es : Trees) (to : To (List ℕ)) (w inner : At Stating Tree) → takes_values to ≡ true → SaysSame inner (record { state = w.state; items = tree_list es })
      → SaysSame (list_held stating g to w inner) (value_into stating g to (object (member list_key (array es) no_members)) w)
  list_says_same g es nowhere w inner takes is = absurd (cc)
  list_says_same g es (reverse n q) w inner takes is = absurd (cc)
  list_says_same g es (under n q) w inner takes is = record {
    said =
        ap (λ l. of_this (inner.state.stated ++ of_node g n (an_entry q (list_object l)) ∷ [])) is.items
        ∙ ap (λ ts. of_this (inner.state.stated ++ of_node g n (an_entry q (object (member list_key (array ts) no_members))) ∷ [])) (trees_back es)
        ∙ entry_added g n q (object (member list_key (array es) no_members)) inner.state.stated w.state.stated is.said;
    items = refl;
  }
  list_says_same g es in_list w inner takes is = record {
    said = is.said;
    items = ap (λ l. w.items ++ list_object l ∷ []) is.items ∙ ap (λ ts. w.items ++ object (member list_key (array ts) no_members) ∷ []) (trees_back es);
  }

  same_walks : (v u : At Stating Tree) → v ≡ u → SaysSame v u
  same_walks v u is = record { said = ap (λ (w : At Stating Tree). of_this w.state.stated) is; items = ap (λ (w : At Stating Tree). w.items) is }

  simple_says_same : (g : List ℕ) (ms : Members) (to : To (List ℕ)) (w : At Stating Tree) → has_array ms ≡ false → is_entry (object ms) ≡ true → AllByRecursion IsOther (lone_names ms) → takes_values to ≡ true
      → SaysSame (walk stating g to (object ms) w) (value_into stating g to (object ms) w)
  simple_says_same g ms to w none is others takes = by_kind (has_key value_key ms) refl
    where
      by_kind : (b : Bool) → has_key value_key ms ≡ b → SaysSame (walk stating g to (object ms) w) (value_into stating g to (object ms) w)
      by_kind true is_value = same_walks _ _ (value_walked g ms to w is_value)
      by_kind false other =
          let lone = lone_reference ms none (sym (ap (λ b. b || is_lone ms) other) ∙ is) in
          subst (λ ms. SaysSame (walk stating g to (object ms) w) (value_into stating g to (object ms) w)) (sym lone.1)
          (reference_says_same g lone.0 to w takes (subst (λ ms. AllByRecursion IsOther (lone_names ms)) lone.1 others).0)

  -- A single member that is an array.
  array_says_same : (g key : List ℕ) (es : Trees) (to : To (List ℕ)) (w : At Stating Tree) → is_entry (object (member key (array es) no_members)) ≡ true → AllByRecursion IsOther (lone_names (member key (array es) no_members)) → takes_values to ≡ true
      → (are_entries es ≡ true → AllByRecursion IsOther (entries_names es) → SaysSame (walk_all stating g in_list es (record { state = w.state; items = [] })) (record { state = w.state; items = tree_list es }))
      → SaysSame (walk stating g to (object (member key (array es) no_members)) w) (value_into stating g to (object (member key (array es) no_members)) w)
  array_says_same g key es to w is others takes inner = by_kind (has_key value_key (member key (array es) no_members)) refl
    where
      list_of : (b c : Bool) → ((b && false) || (c && are_entries es)) ≡ true → (c ≡ true) × (are_entries es ≡ true)
      list_of true true is = (refl, is)
      list_of false true is = (refl, is)
      list_of true false is = absurd (cc)
      list_of false false is = absurd (cc)

      as_list : (x : List ℕ) → x ≡ list_key → AllByRecursion IsOther (lone_names (member x (array es) no_members)) → are_entries es ≡ true → SaysSame (walk stating g to (object (member x (array es) no_members)) w) (value_into stating g to (object (member x (array es) no_members)) w)
      as_list x key_is others entries =
          subst (λ x. AllByRecursion IsOther (lone_names (member x (array es) no_members)) → SaysSame (walk stating g to (object (member x (array es) no_members)) w) (value_into stating g to (object (member x (array es) no_members)) w)) (sym key_is)
          (λ others. subst (λ b. SaysSame (if b then list_held stating g to w (walk_all stating g in_list es (record { state = w.state; items = [] })) else w) (value_into stating g to (object (member list_key (array es) no_members)) w)) (sym takes)
          (list_says_same g es to w (walk_all stating g in_list es (record { state = w.state; items = [] })) takes (inner entries others)))
          others

      by_kind : (b : Bool) → has_key value_key (member key (array es) no_members) ≡ b → SaysSame (walk stating g to (object (member key (array es) no_members)) w) (value_into stating g to (object (member key (array es) no_members)) w)
      by_kind true is_value = same_walks _ _ (value_walked g (member key (array es) no_members) to w is_value)
      by_kind false other =
          let lone : is_lone (member key (array es) no_members) ≡ true = sym (ap (λ b. b || is_lone (member key (array es) no_members)) other) ∙ is in
          let list = list_of (bytes_eq key id_key) (bytes_eq key list_key) lone in
          as_list key (bytes_eq-exact key list_key list.0) others list.1

  -- What is added by the first way, and then by the second, to what is said.
  pub record Adds (w v : At Stating Tree) (ds : List Said) : Type 0 where
    pub said : of_this v.state.stated ≡ of_this w.state.stated ++ ds

  pub adds_nothing : (w v : At Stating Tree) → of_this v.state.stated ≡ of_this w.state.stated → Adds w v []
  adds_nothing w v is = record { said = is ∙ sym (append-nil (of_this w.state.stated)) }

  pub adds_both : (w v u : At Stating Tree) (ds es : List Said) → Adds w v ds → Adds v u es → Adds w u (ds ++ es)
  adds_both w v u ds es first next = record { said = next.said ∙ ap (λ l. l ++ es) first.said ∙ append_assoc (of_this w.state.stated) ds es }

  if_this-append : (b : Bool) (ds es : List Said) → if_this b ds ++ if_this b es ≡ if_this b (ds ++ es)
  if_this-append true ds es = refl
  if_this-append false ds es = refl

  adds_if : (b : Bool) (w v u : At Stating Tree) (ds es : List Said) → Adds w v (if_this b ds) → Adds v u (if_this b es) → Adds w u (if_this b (ds ++ es))
  adds_if b w v u ds es first next = subst (Adds w u) (if_this-append b ds es) (adds_both w v u (if_this b ds) (if_this b es) first next)

  none_if : (b : Bool) → [] ≡ if_this b []
  none_if true = refl
  none_if false = refl

  mutual
    entry_says_same : (g : List ℕ) (t : Tree) (to : To (List ℕ)) (w : At Stating Tree) → is_entry t ≡ true → AllByRecursion IsOther (entry_names t) → takes_values to ≡ true → SaysSame (walk stating g to t w) (value_into stating g to t w)
    entry_says_same g (object ms) to w is others takes = members_says_same g ms to w is others takes
    entry_says_same g null to w is others takes = absurd (cc)
    entry_says_same g (truth b) to w is others takes = absurd (cc)
    entry_says_same g (whole n) to w is others takes = absurd (cc)
    entry_says_same g one_one to w is others takes = absurd (cc)
    entry_says_same g (text s) to w is others takes = absurd (cc)
    entry_says_same g (array ts) to w is others takes = absurd (cc)

    members_says_same : (g : List ℕ) (ms : Members) (to : To (List ℕ)) (w : At Stating Tree) → is_entry (object ms) ≡ true → AllByRecursion IsOther (lone_names ms) → takes_values to ≡ true → SaysSame (walk stating g to (object ms) w) (value_into stating g to (object ms) w)
    members_says_same g (member key (array es) no_members) to w is others takes =
        array_says_same g key es to w is others takes (λ entries names. all_says_same g es (record { state = w.state; items = [] }) entries names)
    members_says_same g no_members to w is others takes = simple_says_same g no_members to w refl is others takes
    members_says_same g (member key null no_members) to w is others takes = simple_says_same g (member key null no_members) to w refl is others takes
    members_says_same g (member key (truth b) no_members) to w is others takes = simple_says_same g (member key (truth b) no_members) to w refl is others takes
    members_says_same g (member key (whole n) no_members) to w is others takes = simple_says_same g (member key (whole n) no_members) to w refl is others takes
    members_says_same g (member key one_one no_members) to w is others takes = simple_says_same g (member key one_one no_members) to w refl is others takes
    members_says_same g (member key (text s) no_members) to w is others takes = simple_says_same g (member key (text s) no_members) to w refl is others takes
    members_says_same g (member key (object os) no_members) to w is others takes = simple_says_same g (member key (object os) no_members) to w refl is others takes
    members_says_same g (member key t (member l u ms)) to w is others takes = simple_says_same g (member key t (member l u ms)) to w (several key t l u ms) is others takes

    all_says_same : (g : List ℕ) (ts : Trees) (w : At Stating Tree) → are_entries ts ≡ true → AllByRecursion IsOther (entries_names ts) → SaysSame (walk_all stating g in_list ts w) (record { state = w.state; items = w.items ++ tree_list ts })
    all_says_same g no_trees w is others = record { said = refl; items = sym (append-nil w.items) }
    all_says_same g (tree t ts) w is others =
        let parts = both (is_entry t) (are_entries ts) is in
        let names = all_parts IsOther (entry_names t) (entries_names ts) others in
        let first = entry_says_same g t in_list w parts.0 names.0 refl in
        let rest = all_says_same g ts (walk stating g in_list t w) parts.1 names.1 in
        record {
          said = rest.said ∙ first.said;
          items = rest.items ∙ ap (λ l. l ++ tree_list ts) first.items ∙ append_assoc w.items (t ∷ []) (tree_list ts);
        }

  -- The entries of a property.
  pub entries_add : (g n q : List ℕ) (ts : Trees) (w : At Stating Tree) → are_entries ts ≡ true → AllByRecursion IsOther (entries_names ts) → Adds w (walk_all stating g (under n q) ts w) (if_this (is_this g n) (each (an_entry q) (tree_list ts)))
  entries_add g n q no_trees w is others = record { said = sym (append-nil (of_this w.state.stated)) ∙ ap (λ l. of_this w.state.stated ++ l) (none_if (is_this g n)) }
  entries_add g n q (tree t ts) w is others =
      let parts = both (is_entry t) (are_entries ts) is in
      let names = all_parts IsOther (entry_names t) (entries_names ts) others in
      let first = entry_says_same g t (under n q) w parts.0 names.0 refl in
      adds_if (is_this g n) w (walk stating g (under n q) t w) (walk_all stating g (under n q) ts (walk stating g (under n q) t w)) (an_entry q t ∷ []) (each (an_entry q) (tree_list ts))
      (record { said = first.said ∙ said_one g n (an_entry q t) w.state.stated refl })
      (entries_add g n q ts (walk stating g (under n q) t w) parts.1 names.1)

  abbrev begun : List ℕ → List ℕ → At Stating Tree → List ℕ × Labels → List ℕ × At Stating Tree
  begun g n w name = held w (name.0, record { labels = name.1; stated = w.state.stated ++ of_node g n (a_property name.0) ∷ [] })

  property_adds : (g n q : List ℕ) (t : Tree) (w : At Stating Tree) → IsFine q t
      → Adds w (if is_keyword q then w else let r = held w (stating.property g n q w.state) in walk stating g (under n r.0) t r.1) (if_this (is_this g n) (property_said (q, t)))
  property_adds g n q t w (a_keyword word) =
      subst (λ b. Adds w (if b then w else let r = held w (stating.property g n q w.state) in walk stating g (under n r.0) t r.1) (if_this (is_this g n) (property_said (q, t)))) (sym word)
      (adds_as w (if_this (is_this g n) (property_said (q, t))) (ap (if_this (is_this g n)) (nothing t)))
    where
      nothing : (t : Tree) → property_said (q, t) ≡ []
      nothing (array ts) = ap (λ b. if b then [] else (a_property q ∷ each (an_entry q) (tree_list ts))) word
      nothing null = refl
      nothing (truth b) = refl
      nothing (whole m) = refl
      nothing one_one = refl
      nothing (text s) = refl
      nothing (object ms) = refl

      adds_as : (w : At Stating Tree) (ds : List Said) → ds ≡ if_this (is_this g n) [] → Adds w w ds
      adds_as w ds is = record { said = sym (append-nil (of_this w.state.stated)) ∙ ap (λ l. of_this w.state.stated ++ l) (none_if (is_this g n) ∙ sym is) }
  property_adds g n q t w (entries_of apart other ts is entries names) =
      subst (λ t. Adds w (if is_keyword q then w else let r = held w (stating.property g n q w.state) in walk stating g (under n r.0) t r.1) (if_this (is_this g n) (property_said (q, t)))) (sym is)
      (subst (λ b. Adds w (if b then w else let r = held w (stating.property g n q w.state) in walk stating g (under n r.0) (array ts) r.1) (if_this (is_this g n) (if b then [] else (a_property q ∷ each (an_entry q) (tree_list ts))))) (sym apart)
      (subst (λ name. Adds w (walk stating g (under n (begun g n w name).0) (array ts) (begun g n w name).1) (if_this (is_this g n) (a_property q ∷ each (an_entry q) (tree_list ts)))) (sym (named_other q w.state.labels other))
      (adds_if (is_this g n) w (begun g n w (q, w.state.labels)).1 (walk_all stating g (under n q) ts (begun g n w (q, w.state.labels)).1) (a_property q ∷ []) (each (an_entry q) (tree_list ts))
      (record { said = said_one g n (a_property q) w.state.stated refl })
      (entries_add g n q ts (begun g n w (q, w.state.labels)).1 entries names))))

  pub properties_add : (g n : List ℕ) (ms : Members) (w : At Stating Tree) → AllByRecursion (λ m. IsFine m.0 m.1) (member_list ms) → Adds w (walk_properties stating g n ms w) (if_this (is_this g n) (flat_map property_said (member_list ms)))
  properties_add g n no_members w fine = record { said = sym (append-nil (of_this w.state.stated)) ∙ ap (λ l. of_this w.state.stated ++ l) (none_if (is_this g n)) }
  properties_add g n (member q t ms) w fine =
      let v = if is_keyword q then w else let r = held w (stating.property g n q w.state) in walk stating g (under n r.0) t r.1 in
      adds_if (is_this g n) w v (walk_properties stating g n ms v) (property_said (q, t)) (flat_map property_said (member_list ms)) (property_adds g n q t w fine.0) (properties_add g n ms v fine.1)
