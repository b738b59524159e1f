-- A walk over a renamed document is one over the document itself, by steps that rename what they are handed.
use Rattle.std.proofs.Common.{◌≡◌, ℕ, List, [], ◌∷◌, Bool, true, false, ◌==◌, ◌&&◌, if◌then◌else◌, Option, Some, None, is_some, refl, sym, ap, ◌∙◌, subst, eqb-true}
use Rattle.std.specs.Prelude.{map as each}
use Rattle.std.specs.Option.{option_map}
use Rattle.std.specs.Str.{bytes_eq}
use Rattle.ld_model.specs.Tree.{Tree, Trees, Members, null, truth, whole, one_one, text, array, object, no_trees, tree, no_members, member, member_list, member_at}
use Rattle.ld_model.specs.Keys.{id_key, value_key, graph_key}
use Rattle.ld_model.specs.Label.{is_blank}
use Rattle.ld_model.proofs.Puts.{bytes_eq-exact, bytes_eq-sym, at_first, at_later}
use Rattle.ctx_types.specs.Expansion.{is_keyword}
use Rattle.node_model.specs.Keys.{type_key, list_key, index_key, reverse_key, included_key}
use Rattle.node_model.specs.Walk.{Steps, To, nowhere, under, in_list, reverse, At, has_key, text_in, texts_in, texts_of, text_at, types_in, takes_values, value_into, node_into, types_into, index_into, names, entered, with_graph, held, list_held, walk, walk_all, walk_at, walk_reverse, walk_reverse_map, walk_reverse_properties, walk_properties}
use Rattle.node_laws.specs.Renamed.{IsRenaming, renamed_text, renamed_texts, renamed_types, renamed, renamed_all, renamed_members, renamed_reverse}
use Rattle.node_laws.proofs.DueForm.{keyword_apart}

-- What stands at a key, renamed.
abbrev pub renamed_at : (List ℕ → List ℕ) → List ℕ → Tree → Tree
renamed_at to k t = if bytes_eq k id_key then renamed_text to t else if bytes_eq k type_key then renamed_types to t else if bytes_eq k reverse_key then renamed_reverse to t else renamed to t

-- The steps, handed other names.
abbrev pub renaming : {S N E : Type 0} → (List ℕ → List ℕ) → Steps S N E → Steps S N E
renaming to p = record {
  named = λ x. p.named (to x);
  node = λ g id. p.node g (option_map to id);
  property = λ g n x. p.property g n (to x);
  graph = p.graph;
  value = p.value;
  reference = p.reference;
  list = p.list;
  add = p.add;
  append = p.append;
  type_ = p.type_;
  index = p.index;
}

-- A label is no keyword.
by_first : (a b : ℕ) (s : List ℕ) (c : Bool) → (a == 95) ≡ c → (c && (b == 58)) ≡ true → is_keyword (a ∷ b ∷ s) ≡ false
by_first a b s true is blank = subst (λ x. is_keyword (x ∷ b ∷ s) ≡ false) (sym (eqb-true a 95 is)) refl
by_first a b s false is blank = absurd (cc)

label_apart : (s : List ℕ) → is_blank s ≡ true → is_keyword s ≡ false
label_apart [] blank = absurd (cc)
label_apart (a ∷ []) blank = absurd (cc)
label_apart (a ∷ b ∷ s) blank = by_first a b s (a == 95) refl blank

module _ (to : List ℕ → List ℕ) (is : IsRenaming to) where
  word_stays : (s : List ℕ) → is_keyword (to s) ≡ is_keyword s
  word_stays s = by_form (is_blank s) refl
    where
      by_form : (b : Bool) → is_blank s ≡ b → is_keyword (to s) ≡ is_keyword s
      by_form true blank = label_apart (to s) (is.label s ∙ blank) ∙ sym (label_apart s blank)
      by_form false other = ap is_keyword (is.other s other)

  -- A key that is no label is the same one before and after.
  same_key : (key k : List ℕ) → is_blank key ≡ false → bytes_eq key (to k) ≡ bytes_eq key k
  same_key key k other = by_form (is_blank k) refl
    where
      no_label : (s : List ℕ) → is_blank s ≡ true → bytes_eq key s ≡ false
      no_label s blank = by_test (bytes_eq key s) refl
        where
          by_test : (b : Bool) → bytes_eq key s ≡ b → b ≡ false
          by_test true same = sym blank ∙ ap is_blank (sym (bytes_eq-exact key s same)) ∙ other
          by_test false apart = refl

      by_form : (b : Bool) → is_blank k ≡ b → bytes_eq key (to k) ≡ bytes_eq key k
      by_form true blank = no_label (to k) (is.label k ∙ blank) ∙ sym (no_label k blank)
      by_form false stays = ap (bytes_eq key) (is.other k stays)

  member_renamed : (key : List ℕ) (ms : Members) → is_blank key ≡ false → member_at key (member_list (renamed_members to ms)) ≡ option_map (renamed_at to key) (member_at key (member_list ms))
  member_renamed key no_members other = refl
  member_renamed key (member k t ms) other = by_test (bytes_eq key k) refl (member_renamed key ms other)
    where
      by_test : (b : Bool) → bytes_eq key k ≡ b → member_at key (member_list (renamed_members to ms)) ≡ option_map (renamed_at to key) (member_at key (member_list ms))
          → member_at key (member_list (renamed_members to (member k t ms))) ≡ option_map (renamed_at to key) (member_at key (member_list (member k t ms)))
      by_test true same rest =
          at_first key (to k, renamed_at to k t) (member_list (renamed_members to ms)) (same_key key k other ∙ same)
          ∙ ap (λ x. Some (renamed_at to x t)) (sym (bytes_eq-exact key k same))
          ∙ ap (option_map (renamed_at to key)) (sym (at_first key (k, t) (member_list ms) same))
      by_test false apart rest =
          at_later key (to k, renamed_at to k t) (member_list (renamed_members to ms)) (same_key key k other ∙ apart)
          ∙ rest
          ∙ ap (option_map (renamed_at to key)) (sym (at_later key (k, t) (member_list ms) apart))

  has_renamed : (key : List ℕ) (ms : Members) → is_blank key ≡ false → has_key key (renamed_members to ms) ≡ has_key key ms
  has_renamed key ms other = ap is_some (member_renamed key ms other) ∙ by_found (member_at key (member_list ms))
    where
      by_found : (o : Option Tree) → is_some (option_map (renamed_at to key) o) ≡ is_some o
      by_found (Some t) = refl
      by_found None = refl

  id_renamed : (ms : Members) → text_at id_key (renamed_members to ms) ≡ option_map to (text_at id_key ms)
  id_renamed ms = ap text_in (member_renamed id_key ms refl) ∙ by_found (member_at id_key (member_list ms))
    where
      by_found : (o : Option Tree) → text_in (option_map (renamed_at to id_key) o) ≡ option_map to (text_in o)
      by_found (Some (text s)) = refl
      by_found (Some t) = refl
      by_found None = refl

  texts_renamed : (ts : Trees) → texts_in (renamed_texts to ts) ≡ each to (texts_in ts)
  texts_renamed no_trees = refl
  texts_renamed (tree (text s) ts) = ap (λ l. to s ∷ l) (texts_renamed ts)
  texts_renamed (tree null ts) = texts_renamed ts
  texts_renamed (tree (truth b) ts) = texts_renamed ts
  texts_renamed (tree (whole n) ts) = texts_renamed ts
  texts_renamed (tree one_one ts) = texts_renamed ts
  texts_renamed (tree (array t) ts) = texts_renamed ts
  texts_renamed (tree (object t) ts) = texts_renamed ts

  types_renamed : (ms : Members) → types_in (renamed_members to ms) ≡ each to (types_in ms)
  types_renamed ms = ap texts_of (member_renamed type_key ms refl) ∙ by_found (member_at type_key (member_list ms))
    where
      by_found : (o : Option Tree) → texts_of (option_map (renamed_at to type_key) o) ≡ each to (texts_of o)
      by_found (Some (array ts)) = texts_renamed ts
      by_found (Some (text s)) = refl
      by_found (Some t) = refl
      by_found None = refl

  index_renamed : (ms : Members) → text_at index_key (renamed_members to ms) ≡ text_at index_key ms
  index_renamed ms = ap text_in (member_renamed index_key ms refl) ∙ by_found (member_at index_key (member_list ms))
    where
      either : (b : Bool) (ms ns : Members) → text_in (Some (if b then object ms else object ns)) ≡ None
      either true ms ns = refl
      either false ms ns = refl

      by_found : (o : Option Tree) → text_in (option_map (renamed_at to index_key) o) ≡ text_in o
      by_found (Some (object ts)) = either (has_key value_key ts) ts (renamed_members to ts)
      by_found (Some t) = refl
      by_found None = refl

  -- Under a property, and at `@graph`, `@included` and `@list`, stands what is renamed as a whole.
  as_whole : (k : List ℕ) (t : Tree) → bytes_eq k id_key ≡ false → bytes_eq k type_key ≡ false → bytes_eq k reverse_key ≡ false → renamed_at to k t ≡ renamed to t
  as_whole k t no_id no_type no_reverse =
      ap (λ b. if b then renamed_text to t else if bytes_eq k type_key then renamed_types to t else if bytes_eq k reverse_key then renamed_reverse to t else renamed to t) no_id
      ∙ ap (λ b. if b then renamed_types to t else if bytes_eq k reverse_key then renamed_reverse to t else renamed to t) no_type
      ∙ ap (λ b. if b then renamed_reverse to t else renamed to t) no_reverse

  property_as_whole : (k : List ℕ) (t : Tree) → is_keyword k ≡ false → renamed_at to k t ≡ renamed to t
  property_as_whole k t apart = as_whole k t (other id_key refl) (other type_key refl) (other reverse_key refl)
    where
      other : (key : List ℕ) → is_keyword key ≡ true → bytes_eq k key ≡ false
      other key word = bytes_eq-sym k key ∙ keyword_apart key k word apart

  module _ {S N E : Type 0} (p : Steps S N E) where
    abbrev q : Steps S N E
    q = renaming to p

    value_is : (g : N) (i : To N) (e : E) (w : At S E) → value_into p g i e w ≡ value_into q g i e w
    value_is g nowhere e w = refl
    value_is g (under n r) e w = refl
    value_is g in_list e w = refl
    value_is g (reverse n r) e w = refl

    list_is : (g : N) (i : To N) (w x : At S E) → list_held p g i w x ≡ list_held q g i w x
    list_is g nowhere w x = refl
    list_is g (under n r) w x = refl
    list_is g in_list w x = refl
    list_is g (reverse n r) w x = refl

    node_is : (g : N) (i : To N) (n : N) (w : At S E) → node_into p g i n w ≡ node_into q g i n w
    node_is g nowhere n w = refl
    node_is g (under x r) n w = refl
    node_is g in_list n w = refl
    node_is g (reverse x r) n w = refl

    names_are : (xs : List (List ℕ)) (s : S) → names p (each to xs) s ≡ names q xs s
    names_are [] s = refl
    names_are (x ∷ xs) s = ap (λ (rest : List N × S). ((p.named (to x) s).0 ∷ rest.0, rest.1)) (names_are xs (p.named (to x) s).1)

    types_are : (g n : N) (xs : List N) (s : S) → types_into p g n xs s ≡ types_into q g n xs s
    types_are g n [] s = refl
    types_are g n (x ∷ xs) s = types_are g n xs (p.type_ g n x s)

    index_is : (g n : N) (o : Option (List ℕ)) (s : S) → index_into p g n o s ≡ index_into q g n o s
    index_is g n (Some x) s = refl
    index_is g n None s = refl

    -- A node object, up to what stands in it, by its types' texts, its id and its index.
    abbrev entered_by : N → To N → At S E → List (List ℕ) → Option (List ℕ) → Option (List ℕ) → N × At S E
    entered_by g i w type_texts id_text index_text =
        let types = names p type_texts w.state in
        let id = p.node g id_text types.1 in
        let there = node_into p g i id.0 (record { state = id.1; items = w.items }) in
        let typed = types_into p g id.0 types.0 there.state in
        (id.0, record { state = index_into p g id.0 index_text typed; items = there.items })

    abbrev after_names : N → To N → At S E → Option (List ℕ) → Option (List ℕ) → List N × S → N × At S E
    after_names g i w id_text index_text types =
        let id = p.node g id_text types.1 in
        let there = node_into p g i id.0 (record { state = id.1; items = w.items }) in
        let typed = types_into p g id.0 types.0 there.state in
        (id.0, record { state = index_into p g id.0 index_text typed; items = there.items })

    entered_is : (g : N) (i : To N) (ms : Members) (w : At S E) → entered p g i (renamed_members to ms) w ≡ entered q g i ms w
    entered_is g i ms w =
        let types = names q (types_in ms) w.state in
        let id = q.node g (text_at id_key ms) types.1 in
        (λ j. entered_by g i w (types_renamed ms j) (id_renamed ms j) (index_renamed ms j))
        ∙ ap (after_names g i w (option_map to (text_at id_key ms)) (text_at index_key ms)) (names_are (types_in ms) w.state)
        ∙ ap (λ (there : At S E). (id.0, record { state = index_into p g id.0 (text_at index_key ms) (types_into p g id.0 types.0 there.state); items = there.items })) (node_is g i id.0 (record { state = id.1; items = w.items }))
        ∙ ap (λ (s : S). (id.0, record { state = index_into p g id.0 (text_at index_key ms) s; items = (node_into q g i id.0 (record { state = id.1; items = w.items })).items })) (types_are g id.0 types.0 (node_into q g i id.0 (record { state = id.1; items = w.items })).state)
        ∙ ap (λ (s : S). (id.0, record { state = s; items = (node_into q g i id.0 (record { state = id.1; items = w.items })).items }))
        (index_is g id.0 (text_at index_key ms) (types_into q g id.0 types.0 (node_into q g i id.0 (record { state = id.1; items = w.items })).state))

    -- An object, by what its members come to.
    module _ (ms : Members)
        (at_is : (g : N) (i : To N) (key : List ℕ) (w : At S E) → is_blank key ≡ false → bytes_eq key id_key ≡ false → bytes_eq key type_key ≡ false → bytes_eq key reverse_key ≡ false → walk_at p g i key (renamed_members to ms) w ≡ walk_at q g i key ms w)
        (reverse_is : (g n : N) (w : At S E) → walk_reverse p g n (renamed_members to ms) w ≡ walk_reverse q g n ms w)
        (properties_are : (g n : N) (w : At S E) → walk_properties p g n (renamed_members to ms) w ≡ walk_properties q g n ms w) where
      graph_is : (n : N) (w : At S E) → with_graph p n (renamed_members to ms) w ≡ with_graph q n ms w
      graph_is n w = ap (λ b. record { state = if b then p.graph n w.state else w.state; items = w.items }) (has_renamed graph_key ms refl)

      abbrev contents : Steps S N E → N → Members → N × At S E → At S E
      contents r g rs node =
          let turned = walk_reverse r g node.0 rs node.1 in
          let inside = walk_at r node.0 nowhere graph_key rs (with_graph r node.0 rs turned) in
          let included = walk_at r g nowhere included_key rs inside in
          walk_properties r g node.0 rs included

      contents_are : (g : N) (node : N × At S E) → contents p g (renamed_members to ms) node ≡ contents q g ms node
      contents_are g node =
          let turned = walk_reverse q g node.0 ms node.1 in
          let inside = walk_at q node.0 nowhere graph_key ms (with_graph q node.0 ms turned) in
          ap (λ w. walk_properties p g node.0 (renamed_members to ms) (walk_at p g nowhere included_key (renamed_members to ms) (walk_at p node.0 nowhere graph_key (renamed_members to ms) (with_graph p node.0 (renamed_members to ms) w)))) (reverse_is g node.0 node.1)
          ∙ ap (λ w. walk_properties p g node.0 (renamed_members to ms) (walk_at p g nowhere included_key (renamed_members to ms) (walk_at p node.0 nowhere graph_key (renamed_members to ms) w))) (graph_is node.0 turned)
          ∙ ap (λ w. walk_properties p g node.0 (renamed_members to ms) (walk_at p g nowhere included_key (renamed_members to ms) w)) (at_is node.0 nowhere graph_key (with_graph q node.0 ms turned) refl refl refl refl)
          ∙ ap (λ w. walk_properties p g node.0 (renamed_members to ms) w) (at_is g nowhere included_key inside refl refl refl refl)
          ∙ properties_are g node.0 (walk_at q g nowhere included_key ms inside)

      abbrev list_or_node : Steps S N E → N → To N → Members → At S E → At S E
      list_or_node r g i rs w =
          if has_key list_key rs then (if takes_values i then list_held r g i w (walk_at r g in_list list_key rs (record { state = w.state; items = [] })) else w)
          else contents r g rs (entered r g i rs w)

      inner_is : (g : N) (i : To N) (w : At S E) → list_held p g i w (walk_at p g in_list list_key (renamed_members to ms) (record { state = w.state; items = [] })) ≡ list_held q g i w (walk_at q g in_list list_key ms (record { state = w.state; items = [] }))
      inner_is g i w =
          ap (list_held p g i w) (at_is g in_list list_key (record { state = w.state; items = [] }) refl refl refl refl)
          ∙ list_is g i w (walk_at q g in_list list_key ms (record { state = w.state; items = [] }))

      list_or_node_is : (g : N) (i : To N) (w : At S E) → list_or_node p g i (renamed_members to ms) w ≡ list_or_node q g i ms w
      list_or_node_is g i w =
          ap (λ b. if b then (if takes_values i then list_held p g i w (walk_at p g in_list list_key (renamed_members to ms) (record { state = w.state; items = [] })) else w) else contents p g (renamed_members to ms) (entered p g i (renamed_members to ms) w)) (has_renamed list_key ms refl)
          ∙ ap (λ v. if has_key list_key ms then (if takes_values i then v else w) else contents p g (renamed_members to ms) (entered p g i (renamed_members to ms) w)) (inner_is g i w)
          ∙ ap (λ v. if has_key list_key ms then (if takes_values i then list_held q g i w (walk_at q g in_list list_key ms (record { state = w.state; items = [] })) else w) else v)
          (ap (contents p g (renamed_members to ms)) (entered_is g i ms w) ∙ contents_are g (entered q g i ms w))

      object_is : (g : N) (i : To N) (w : At S E) → walk p g i (renamed to (object ms)) w ≡ walk q g i (object ms) w
      object_is g i w = by_kind (has_key value_key ms) refl
        where
          by_kind : (b : Bool) → has_key value_key ms ≡ b → walk p g i (if b then object ms else object (renamed_members to ms)) w ≡ walk q g i (object ms) w
          by_kind true is_value =
              ap (λ b. if b then value_into p g i (p.value (object ms)) w else list_or_node p g i ms w) is_value
              ∙ value_is g i (p.value (object ms)) w
              ∙ ap (λ b. if b then value_into q g i (p.value (object ms)) w else list_or_node q g i ms w) (sym is_value)
          by_kind false other =
              ap (λ b. if b then value_into p g i (p.value (object (renamed_members to ms))) w else list_or_node p g i (renamed_members to ms) w) (has_renamed value_key ms refl ∙ other)
              ∙ list_or_node_is g i w
              ∙ ap (λ b. if b then value_into q g i (p.value (object ms)) w else list_or_node q g i ms w) (sym other)

    -- A member, by what its value comes to.
    member_by : (key k : List ℕ) → is_blank key ≡ false → (here later here_q later_q : At S E) → (bytes_eq k key ≡ true → here ≡ here_q) → later ≡ later_q → (if bytes_eq (to k) key then here else later) ≡ (if bytes_eq k key then here_q else later_q)
    member_by key k other here later here_q later_q same rest =
        ap (λ b. if b then here else later) (bytes_eq-sym (to k) key ∙ same_key key k other ∙ bytes_eq-sym key k) ∙ by_test (bytes_eq k key) refl
      where
        by_test : (b : Bool) → bytes_eq k key ≡ b → (if b then here else later) ≡ (if b then here_q else later_q)
        by_test true test = same test
        by_test false test = rest

    property_by : (k : List ℕ) (w v v_q : At S E) → (is_keyword k ≡ false → v ≡ v_q) → (if is_keyword (to k) then w else v) ≡ (if is_keyword k then w else v_q)
    property_by k w v v_q same = ap (λ b. if b then w else v) (word_stays k) ∙ by_word (is_keyword k) refl
      where
        by_word : (b : Bool) → is_keyword k ≡ b → (if b then w else v) ≡ (if b then w else v_q)
        by_word true word = refl
        by_word false apart = same apart

    key_as : (key k : List ℕ) (t : Tree) → bytes_eq key id_key ≡ false → bytes_eq key type_key ≡ false → bytes_eq key reverse_key ≡ false → bytes_eq k key ≡ true → renamed_at to k t ≡ renamed to t
    key_as key k t no_id no_type no_reverse same = subst (λ x. renamed_at to x t ≡ renamed to t) (sym (bytes_eq-exact k key same)) (as_whole key t no_id no_type no_reverse)

    reverse_as : (k : List ℕ) (t : Tree) → bytes_eq k reverse_key ≡ true → renamed_at to k t ≡ renamed_reverse to t
    reverse_as k t same = subst (λ x. renamed_at to x t ≡ renamed_reverse to t) (sym (bytes_eq-exact k reverse_key same)) refl

    mutual
      pub walk_is : (g : N) (i : To N) (t : Tree) (w : At S E) → walk p g i (renamed to t) w ≡ walk q g i t w
      walk_is g i (array ts) w = all_is g i ts w
      walk_is g i (object ms) w = object_is ms (λ g i key w other no_id no_type no_reverse. at_is g i key ms w other no_id no_type no_reverse) (λ g n w. reverse_is g n ms w) (λ g n w. properties_are g n ms w) g i w
      walk_is g i null w = refl
      walk_is g i (truth b) w = refl
      walk_is g i (whole n) w = refl
      walk_is g i one_one w = refl
      walk_is g i (text s) w = refl

      pub all_is : (g : N) (i : To N) (ts : Trees) (w : At S E) → walk_all p g i (renamed_all to ts) w ≡ walk_all q g i ts w
      all_is g i no_trees w = refl
      all_is g i (tree t ts) w = ap (walk_all p g i (renamed_all to ts)) (walk_is g i t w) ∙ all_is g i ts (walk q g i t w)

      at_is : (g : N) (i : To N) (key : List ℕ) (ms : Members) (w : At S E) → is_blank key ≡ false → bytes_eq key id_key ≡ false → bytes_eq key type_key ≡ false → bytes_eq key reverse_key ≡ false → walk_at p g i key (renamed_members to ms) w ≡ walk_at q g i key ms w
      at_is g i key no_members w other no_id no_type no_reverse = refl
      at_is g i key (member k t ms) w other no_id no_type no_reverse =
          member_by key k other _ _ _ _ (λ same. ap (λ t. walk p g i t w) (key_as key k t no_id no_type no_reverse same) ∙ walk_is g i t w) (at_is g i key ms w other no_id no_type no_reverse)

      reverse_is : (g n : N) (ms : Members) (w : At S E) → walk_reverse p g n (renamed_members to ms) w ≡ walk_reverse q g n ms w
      reverse_is g n no_members w = refl
      reverse_is g n (member k t ms) w = member_by reverse_key k refl _ _ _ _ (λ same. ap (λ t. walk_reverse_map p g n t w) (reverse_as k t same) ∙ reverse_map_is g n t w) (reverse_is g n ms w)

      reverse_map_is : (g n : N) (t : Tree) (w : At S E) → walk_reverse_map p g n (renamed_reverse to t) w ≡ walk_reverse_map q g n t w
      reverse_map_is g n (object ms) w = reverse_properties_are g n ms w
      reverse_map_is g n null w = refl
      reverse_map_is g n (truth b) w = refl
      reverse_map_is g n (whole x) w = refl
      reverse_map_is g n one_one w = refl
      reverse_map_is g n (text s) w = refl
      reverse_map_is g n (array ts) w = refl

      reverse_properties_are : (g n : N) (ms : Members) (w : At S E) → walk_reverse_properties p g n (renamed_members to ms) w ≡ walk_reverse_properties q g n ms w
      reverse_properties_are g n no_members w = refl
      reverse_properties_are g n (member k t ms) w =
          let r = held w (p.named (to k) w.state) in
          ap (walk_reverse_properties p g n (renamed_members to ms))
          (property_by k w (walk p g (reverse n r.0) (renamed_at to k t) r.1) (walk q g (reverse n r.0) t r.1) (λ apart. ap (λ t. walk p g (reverse n r.0) t r.1) (property_as_whole k t apart) ∙ walk_is g (reverse n r.0) t r.1))
          ∙ reverse_properties_are g n ms (if is_keyword k then w else walk q g (reverse n r.0) t r.1)

      properties_are : (g n : N) (ms : Members) (w : At S E) → walk_properties p g n (renamed_members to ms) w ≡ walk_properties q g n ms w
      properties_are g n no_members w = refl
      properties_are g n (member k t ms) w =
          let r = held w (p.property g n (to k) w.state) in
          ap (walk_properties p g n (renamed_members to ms))
          (property_by k w (walk p g (under n r.0) (renamed_at to k t) r.1) (walk q g (under n r.0) t r.1) (λ apart. ap (λ t. walk p g (under n r.0) t r.1) (property_as_whole k t apart) ∙ walk_is g (under n r.0) t r.1))
          ∙ properties_are g n ms (if is_keyword k then w else walk q g (under n r.0) t r.1)
