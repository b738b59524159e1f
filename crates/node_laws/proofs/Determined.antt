-- A node map in the due form is determined by what is stated in it.
use Rattle.std.proofs.Common.{◌≡◌, ℕ, List, [], ◌∷◌, Bool, true, false, ◌&&◌, ◌||◌, not, if◌then◌else◌, Option, Some, None, is_some, refl, sym, ap, ◌∙◌, subst}
use Rattle.std.specs.Str.{bytes_eq}
use Rattle.std.specs.List.{AllByRecursion, list_all}
use Rattle.ld_model.specs.Tree.{Tree, Trees, Members, Pairs, null, truth, whole, one_one, text, array, object, no_trees, tree, no_members, member, trees_of, tree_list, members_of, member_list, member_at, AreAscending}
use Rattle.ld_model.specs.Keys.{id_key, default_graph}
use Rattle.ld_model.proofs.Puts.{bytes_eq-exact, bytes_eq-sym, at_first, at_later}
use Rattle.ld_model.proofs.SameMembers.{same_members}
use Rattle.ld_model.proofs.Truths.{both}
use Rattle.ctx_types.specs.Expansion.{is_keyword}
use Rattle.node_model.specs.Keys.{type_key, index_key}
use Rattle.node_model.specs.Walk.{texts_in, texts_of}
use Rattle.node_model.specs.DueForm.{is_text, are_texts, are_entries, is_node_entry, is_node, is_graph}
use Rattle.node_laws.specs.Stated.{Said, Statement, stated_in, said_of, object_in, array_in, IsAsSaid, IsAsStated}
use Rattle.node_laws.specs.Laws.{IsNodeInOrder, IsGraphInOrder, IsInForm, OutcomeIsDetermined}
use Rattle.node_laws.proofs.DueForm.{keyword_apart, node_maps_have_the_due_form}
use Rattle.node_laws.proofs.Stated.{node_maps_are_as_stated}

-- What is found at a key passes each test that all pass.
pub found_passes : (test : List ℕ × Tree → Bool) (k : List ℕ) (t : Tree) (ms : Pairs) → list_all test ms ≡ true → member_at k ms ≡ Some t → test (k, t) ≡ true
found_passes test k t [] all is = absurd (cc)
found_passes test k t (m ∷ ms) all is = by_test (bytes_eq k m.0) refl (found_passes test k t ms (both (test m) (list_all test ms) all).1)
  where
    by_test : (b : Bool) → bytes_eq k m.0 ≡ b → (member_at k ms ≡ Some t → test (k, t) ≡ true) → test (k, t) ≡ true
    by_test true same rest =
        let value : Some m.1 ≡ Some t = sym (at_first k m ms same) ∙ is in
        let e : m.1 ≡ t = cc in
        subst (λ (x : List ℕ × Tree). test x ≡ true) (λ i. (sym (bytes_eq-exact k m.0 same) i, e i)) (both (test m) (list_all test ms) all).0
    by_test false apart rest = rest (sym (at_later k m ms apart) ∙ is)

pub found_is : (P : List ℕ × Tree → Type 0) (k : List ℕ) (t : Tree) (ms : Pairs) → AllByRecursion P ms → member_at k ms ≡ Some t → P (k, t)
found_is P k t [] all is = absurd (cc)
found_is P k t (m ∷ ms) all is = by_test (bytes_eq k m.0) refl (found_is P k t ms all.1)
  where
    by_test : (b : Bool) → bytes_eq k m.0 ≡ b → (member_at k ms ≡ Some t → P (k, t)) → P (k, t)
    by_test true same rest =
        let value : Some m.1 ≡ Some t = sym (at_first k m ms same) ∙ is in
        let e : m.1 ≡ t = cc in
        subst P (λ i. (sym (bytes_eq-exact k m.0 same) i, e i)) all.0
    by_test false apart rest = rest (sym (at_later k m ms apart) ∙ is)

-- Equal lists of the elements of two arrays, and of texts.
same_trees : (xs ys : Trees) → tree_list xs ≡ tree_list ys → xs ≡ ys
same_trees xs ys is = sym (trees_of-tree_list xs) ∙ ap trees_of is ∙ trees_of-tree_list ys
  where
    trees_of-tree_list : (ts : Trees) → trees_of (tree_list ts) ≡ ts
    trees_of-tree_list no_trees = refl
    trees_of-tree_list (tree t ts) = ap (tree t) (trees_of-tree_list ts)

same_text_arrays : (xs ys : Trees) → list_all is_text (tree_list xs) ≡ true → list_all is_text (tree_list ys) ≡ true → texts_in xs ≡ texts_in ys → xs ≡ ys
same_text_arrays no_trees no_trees xs_are ys_are is = refl
same_text_arrays no_trees (tree (text t) ys) xs_are ys_are is = absurd (cc)
same_text_arrays (tree (text t) xs) no_trees xs_are ys_are is = absurd (cc)
same_text_arrays (tree (text s) xs) (tree (text t) ys) xs_are ys_are is =
    let first : s ≡ t = cc in
    let rest : texts_in xs ≡ texts_in ys = cc in
    λ i. tree (text (first i)) (same_text_arrays xs ys xs_are ys_are rest i)
same_text_arrays _ _ xs_are ys_are is = absurd (cc)

same_pairs : (xs ys : Members) → member_list xs ≡ member_list ys → xs ≡ ys
same_pairs xs ys is = sym (members_of-member_list xs) ∙ ap members_of is ∙ members_of-member_list ys
  where
    members_of-member_list : (ms : Members) → members_of (member_list ms) ≡ ms
    members_of-member_list no_members = refl
    members_of-member_list (member k t ms) = ap (member k t) (members_of-member_list ms)

-- One thing or nothing on both sides, and the same thing where there is one.
same_found : (o p : Option Tree) → is_some o ≡ is_some p → ((t u : Tree) → o ≡ Some t → p ≡ Some u → t ≡ u) → o ≡ p
same_found None None there same = refl
same_found None (Some u) there same = absurd (cc)
same_found (Some t) None there same = absurd (cc)
same_found (Some t) (Some u) there same = ap Some (same t u refl refl)

-- What stands in a node: types, an array under a property, and nothing at other keywords.
module _ (id : List ℕ) where
  data AreTypes (t : Tree) : Type 0 where
    types : (ts : Trees) → t ≡ array ts → list_all is_text (tree_list ts) ≡ true → AreTypes t

  types_of : (t : Tree) → is_node_entry id (type_key, t) ≡ true → AreTypes t
  types_of (array ts) is = types ts refl is
  types_of _ is = absurd (cc)

  same_types : (t u : Tree) → AreTypes t → AreTypes u → texts_of (Some t) ≡ texts_of (Some u) → t ≡ u
  same_types t u (types xs t_is xs_are) (types ys u_is ys_are) is =
      t_is ∙ ap array (same_text_arrays xs ys xs_are ys_are (sym (ap (λ t. texts_of (Some t)) t_is) ∙ is ∙ ap (λ t. texts_of (Some t)) u_is)) ∙ sym u_is

  no_text : (k s : List ℕ) → bytes_eq k id_key ≡ false → bytes_eq k index_key ≡ false → is_node_entry id (k, text s) ≡ false
  no_text k s no_id no_index = ap (λ b. (b && bytes_eq s id) || bytes_eq k index_key) no_id ∙ no_index

  pub data IsArray (t : Tree) : Type 0 where
    an_array : (ts : Trees) → t ≡ array ts → IsArray t

  pub array_at : (p : List ℕ) (t : Tree) → is_keyword p ≡ false → is_node_entry id (p, t) ≡ true → IsArray t
  array_at p (array ts) apart is = an_array ts refl
  array_at p (text s) apart is =
      absurd (let none = no_text p s (bytes_eq-sym p id_key ∙ keyword_apart id_key p refl apart) (bytes_eq-sym p index_key ∙ keyword_apart index_key p refl apart) in let no_way : false ≡ true = sym none ∙ is in cc)
  array_at p null apart is = absurd (let no_way : false ≡ true = is in cc)
  array_at p (truth b) apart is = absurd (let no_way : false ≡ true = is in cc)
  array_at p (whole n) apart is = absurd (let no_way : false ≡ true = is in cc)
  array_at p one_one apart is = absurd (let no_way : false ≡ true = is in cc)
  array_at p (object ms) apart is = absurd (let no_way : false ≡ true = is in cc)

  same_arrays : (t u : Tree) → IsArray t → IsArray u → array_in (Some t) ≡ array_in (Some u) → t ≡ u
  same_arrays t u (an_array xs t_is) (an_array ys u_is) is =
      t_is ∙ ap array (same_trees xs ys (sym (ap (λ t. array_in (Some t)) t_is) ∙ is ∙ ap (λ t. array_in (Some t)) u_is)) ∙ sym u_is

  no_entry : (k : List ℕ) (t : Tree) → is_keyword k ≡ true → bytes_eq k id_key ≡ false → bytes_eq k type_key ≡ false → bytes_eq k index_key ≡ false → is_node_entry id (k, t) ≡ false
  no_entry k (text s) word no_id no_type no_index = no_text k s no_id no_index
  no_entry k (array ts) word no_id no_type no_index = ap (λ b. if b then are_texts (array ts) else (not (is_keyword k) && are_entries ts)) no_type ∙ ap (λ b. not b && are_entries ts) word
  no_entry k null word no_id no_type no_index = refl
  no_entry k (truth b) word no_id no_type no_index = refl
  no_entry k (whole n) word no_id no_type no_index = refl
  no_entry k one_one word no_id no_type no_index = refl
  no_entry k (object ms) word no_id no_type no_index = refl

  pub nothing_there : (k : List ℕ) (ms : Pairs) → list_all (is_node_entry id) ms ≡ true → is_keyword k ≡ true → bytes_eq k id_key ≡ false → bytes_eq k type_key ≡ false → bytes_eq k index_key ≡ false → member_at k ms ≡ None
  nothing_there k ms all word no_id no_type no_index = by_found (member_at k ms) refl
    where
      by_found : (o : Option Tree) → member_at k ms ≡ o → o ≡ None
      by_found None is = refl
      by_found (Some t) is = absurd (let passes = found_passes (is_node_entry id) k t ms all is in let no_way : true ≡ false = sym passes ∙ no_entry k t word no_id no_type no_index in cc)

  -- Two nodes of which the same is said.
  module _ (ds : List Said) (ms ns : Pairs) (ms_are : list_all (is_node_entry id) ms ≡ true) (ns_are : list_all (is_node_entry id) ns ≡ true) (ms_say : IsAsSaid ds ms) (ns_say : IsAsSaid ds ns) where
    at_type : member_at type_key ms ≡ member_at type_key ns
    at_type = same_found (member_at type_key ms) (member_at type_key ns) (ms_say.typed ∙ sym ns_say.typed) (λ t u t_is u_is.
        same_types t u (types_of t (found_passes (is_node_entry id) type_key t ms ms_are t_is)) (types_of u (found_passes (is_node_entry id) type_key u ns ns_are u_is))
        (sym (ap texts_of t_is) ∙ ms_say.types ∙ sym ns_say.types ∙ ap texts_of u_is))

    at_property : (p : List ℕ) → is_keyword p ≡ false → member_at p ms ≡ member_at p ns
    at_property p apart = same_found (member_at p ms) (member_at p ns) (ms_say.property p apart ∙ sym (ns_say.property p apart)) (λ t u t_is u_is.
        same_arrays t u (array_at p t apart (found_passes (is_node_entry id) p t ms ms_are t_is)) (array_at p u apart (found_passes (is_node_entry id) p u ns ns_are u_is))
        (sym (ap array_in t_is) ∙ ms_say.entries p apart ∙ sym (ns_say.entries p apart) ∙ ap array_in u_is))

    pub at_each : (k : List ℕ) → member_at id_key ms ≡ member_at id_key ns → member_at k ms ≡ member_at k ns
    at_each k ids = by_id (bytes_eq k id_key) refl
      where
        by_word : (b : Bool) → is_keyword k ≡ b → bytes_eq k id_key ≡ false → bytes_eq k type_key ≡ false → bytes_eq k index_key ≡ false → member_at k ms ≡ member_at k ns
        by_word true word no_id no_type no_index = nothing_there k ms ms_are word no_id no_type no_index ∙ sym (nothing_there k ns ns_are word no_id no_type no_index)
        by_word false apart no_id no_type no_index = at_property k apart

        by_index : (b : Bool) → bytes_eq k index_key ≡ b → bytes_eq k id_key ≡ false → bytes_eq k type_key ≡ false → member_at k ms ≡ member_at k ns
        by_index true same no_id no_type = subst (λ x. member_at x ms ≡ member_at x ns) (sym (bytes_eq-exact k index_key same)) (ms_say.index ∙ sym ns_say.index)
        by_index false no_index no_id no_type = by_word (is_keyword k) refl no_id no_type no_index

        by_type : (b : Bool) → bytes_eq k type_key ≡ b → bytes_eq k id_key ≡ false → member_at k ms ≡ member_at k ns
        by_type true same no_id = subst (λ x. member_at x ms ≡ member_at x ns) (sym (bytes_eq-exact k type_key same)) at_type
        by_type false no_type no_id = by_index (bytes_eq k index_key) refl no_id no_type

        by_id : (b : Bool) → bytes_eq k id_key ≡ b → member_at k ms ≡ member_at k ns
        by_id true same = subst (λ x. member_at x ms ≡ member_at x ns) (sym (bytes_eq-exact k id_key same)) ids
        by_id false no_id = by_type (bytes_eq k type_key) refl no_id

  same_node : (ds : List Said) (t u : Tree) → IsNodeInOrder (id, t) → IsNodeInOrder (id, u) → is_node (id, t) ≡ true → is_node (id, u) ≡ true → IsAsSaid ds (object_in (Some t)) → IsAsSaid ds (object_in (Some u)) → t ≡ u
  same_node ds (object ms) (object ns) t_order u_order t_is u_is t_says u_says =
      let ms_are = (both (is_some (member_at id_key (member_list ms))) (list_all (is_node_entry id) (member_list ms)) t_is).1 in
      let ns_are = (both (is_some (member_at id_key (member_list ns))) (list_all (is_node_entry id) (member_list ns)) u_is).1 in
      ap object (same_pairs ms ns (same_members (member_list ms) (member_list ns) t_order.0 u_order.0
      (λ k. at_each ds (member_list ms) (member_list ns) ms_are ns_are t_says u_says k (t_order.1 ∙ sym u_order.1))))
  same_node ds (object ms) _ t_order u_order t_is u_is t_says u_says = absurd u_order
  same_node ds _ u t_order u_order t_is u_is t_says u_says = absurd t_order

-- Two graphs in which the same is stated.
module _ (g : List ℕ) (said : List ℕ → List Said) where
  same_nodes : (ms ns : Pairs) → AreAscending ms → AreAscending ns → AllByRecursion IsNodeInOrder ms → AllByRecursion IsNodeInOrder ns → list_all is_node ms ≡ true → list_all is_node ns ≡ true
      → ((id : List ℕ) → is_some (member_at id ms) ≡ is_some (member_at id ns)) → ((id : List ℕ) → IsAsSaid (said id) (object_in (member_at id ms))) → ((id : List ℕ) → IsAsSaid (said id) (object_in (member_at id ns))) → ms ≡ ns
  same_nodes ms ns ms_ascend ns_ascend ms_order ns_order ms_are ns_are there ms_say ns_say =
      same_members ms ns ms_ascend ns_ascend (λ id. same_found (member_at id ms) (member_at id ns) (there id) (λ t u t_is u_is.
      same_node id (said id) t u (found_is IsNodeInOrder id t ms ms_order t_is) (found_is IsNodeInOrder id u ns ns_order u_is) (found_passes is_node id t ms ms_are t_is) (found_passes is_node id u ns ns_are u_is)
      (subst (λ o. IsAsSaid (said id) (object_in o)) t_is (ms_say id)) (subst (λ o. IsAsSaid (said id) (object_in o)) u_is (ns_say id))))

  same_graph : (t u : Tree) → IsGraphInOrder (g, t) → IsGraphInOrder (g, u) → is_graph (g, t) ≡ true → is_graph (g, u) ≡ true
      → ((id : List ℕ) → is_some (member_at id (object_in (Some t))) ≡ is_some (member_at id (object_in (Some u)))) → ((id : List ℕ) → IsAsSaid (said id) (object_in (member_at id (object_in (Some t))))) → ((id : List ℕ) → IsAsSaid (said id) (object_in (member_at id (object_in (Some u))))) → t ≡ u
  same_graph (object ms) (object ns) t_order u_order t_is u_is there t_says u_says =
      ap object (same_pairs ms ns (same_nodes (member_list ms) (member_list ns) t_order.0 u_order.0 t_order.1 u_order.1 t_is u_is there t_says u_says))
  same_graph (object ms) _ t_order u_order t_is u_is there t_says u_says = absurd u_order
  same_graph _ u t_order u_order t_is u_is there t_says u_says = absurd t_order

pub same_graphs : (stated : List Statement) (graphs others : Pairs) → IsInForm graphs → IsInForm others → IsAsStated stated graphs → IsAsStated stated others → graphs ≡ others
same_graphs stated graphs others form other_form is other_is =
    let graphs_are = (both (is_some (member_at default_graph graphs)) (list_all is_graph graphs) form.form).1 in
    let others_are = (both (is_some (member_at default_graph others)) (list_all is_graph others) other_form.form).1 in
    same_members graphs others form.ascend other_form.ascend (λ g. same_found (member_at g graphs) (member_at g others) (is.graph g ∙ sym (other_is.graph g)) (λ t u t_is u_is.
    same_graph g (λ id. said_of g id stated) t u (found_is IsGraphInOrder g t graphs form.each t_is) (found_is IsGraphInOrder g u others other_form.each u_is) (found_passes is_graph g t graphs graphs_are t_is) (found_passes is_graph g u others others_are u_is)
    (λ id. sym (ap (λ o. is_some (member_at id (object_in o))) t_is) ∙ is.node g id ∙ sym (other_is.node g id) ∙ ap (λ o. is_some (member_at id (object_in o))) u_is)
    (λ id. subst (λ o. IsAsSaid (said_of g id stated) (object_in (member_at id (object_in o)))) t_is (is.said g id))
    (λ id. subst (λ o. IsAsSaid (said_of g id stated) (object_in (member_at id (object_in o)))) u_is (other_is.said g id))))

pub outcome_is_determined : OutcomeIsDetermined
outcome_is_determined ts m is graphs form stated = same_graphs (stated_in ts) graphs m.graphs form (node_maps_have_the_due_form ts m is) stated (node_maps_are_as_stated ts m is)
