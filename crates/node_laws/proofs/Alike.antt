-- Steps that answer alike make walks that end alike: one induction over the document for whatever is said of a walk. An invariant
-- is the case where one of the two does nothing (`Idle.antt`).
use Rattle.std.proofs.Common.{refl, ℕ, List, [], ◌∷◌, Bool, true, false, Option, Some, None, if◌then◌else◌}
use Rattle.std.specs.Str.{bytes_eq}
use Rattle.ld_model.specs.Tree.{Tree, Trees, Members, null, truth, whole, one_one, text, array, object, no_trees, tree, no_members, member}
use Rattle.ld_model.specs.Keys.{id_key, value_key, graph_key}
use Rattle.ctx_types.specs.Expansion.{is_keyword}
use Rattle.node_model.specs.Keys.{list_key, index_key, reverse_key, included_key}
use Rattle.node_model.specs.Walk.{Steps, To, nowhere, under, in_list, reverse, At, has_key, text_at, types_in, value_into, node_into, types_into, index_into, names, entered, with_graph, list_held, walk, walk_all, walk_at, walk_reverse, walk_reverse_map, walk_reverse_properties, walk_properties}
use Rattle.node_laws.proofs.Likeness.{Likeness, Pairwise, pairwise_to, Reach, Beside, Toward, AnswerAlike, lasts_here, reach_on, toward_on, beside_from, beside_now, beside_step, beside_entry, beside_empty, beside_by, beside_taken}

module _ {S N E T M F : Type 0} (R : Likeness S N E T M F) (a : Steps S N E) (b : Steps T M F) (alike : AnswerAlike R a b) where
  value_beside : (g : N) (h : M) (i : To N) (j : To M) (e : E) (f : F) (s : S) (w : At S E) (v : At T F) → R.names s g h → Toward R s i j → R.entries w.state e f → Beside R s w v → Beside R s (value_into a g i e w) (value_into b h j f v)
  value_beside g h nowhere nowhere e f s w v graph to entry is = is
  value_beside g h (under n p) (under m q) e f s w v graph to entry is =
      let now = is.lasts in
      beside_step R s w v _ _ is (alike.add g h n m p q e f w.state v.state (now.names g h graph) (now.names n m to.0) (now.properties p q to.1) entry is.states)
  value_beside g h in_list in_list e f s w v graph to entry is = beside_entry R s w v e f is entry
  value_beside g h (reverse n p) (reverse m q) e f s w v graph to entry is = is
  value_beside g h _ _ e f s w v graph to entry is = absurd to

  list_beside : (g : N) (h : M) (i : To N) (j : To M) (s : S) (w x : At S E) (v y : At T F) → R.names s g h → Toward R s i j → Beside R s w v → Beside R w.state x y → Beside R s (list_held a g i w x) (list_held b h j v y)
  list_beside g h i j s w x v y graph to is inner = by_place i j to
    where
      -- What was gathered before the list, at the state after it.
      outer : Beside R s (record { state = x.state; items = w.items }) (record { state = y.state; items = v.items })
      outer = beside_step R s w v x.state y.state is (record { states = inner.states; lasts = inner.lasts })

      by_place : (i : To N) (j : To M) → Toward R s i j → Beside R s (list_held a g i w x) (list_held b h j v y)
      by_place nowhere nowhere to = outer
      by_place (under n p) (under m q) to =
          let now = outer.lasts in
          beside_step R s (record { state = x.state; items = w.items }) (record { state = y.state; items = v.items }) _ _ outer
          (alike.append g h n m p q x.items y.items x.state y.state (now.names g h graph) (now.names n m to.0) (now.properties p q to.1) inner.gathered inner.states)
      by_place in_list in_list to =
          beside_entry R s (record { state = x.state; items = w.items }) (record { state = y.state; items = v.items }) (a.list x.items) (b.list y.items) outer (alike.list x.items y.items x.state inner.gathered)
      by_place (reverse n p) (reverse m q) to = outer
      by_place _ _ to = absurd to

  node_beside : (g : N) (h : M) (i : To N) (j : To M) (n : N) (m : M) (s : S) (w : At S E) (v : At T F) → R.names s g h → Toward R s i j → R.names w.state n m → Beside R s w v → Beside R s (node_into a g i n w) (node_into b h j m v)
  node_beside g h nowhere nowhere n m s w v graph to id is = is
  node_beside g h (under x p) (under y q) n m s w v graph to id is =
      let now = is.lasts in
      beside_step R s w v _ _ is
      (alike.add g h x y p q (a.reference n) (b.reference m) w.state v.state (now.names g h graph) (now.names x y to.0) (now.properties p q to.1) (alike.reference n m w.state id) is.states)
  node_beside g h in_list in_list n m s w v graph to id is = beside_entry R s w v (a.reference n) (b.reference m) is (alike.reference n m w.state id)
  node_beside g h (reverse x p) (reverse y q) n m s w v graph to id is =
      let now = is.lasts in
      beside_step R s w v _ _ is
      (alike.add g h n m p q (a.reference x) (b.reference y) w.state v.state (now.names g h graph) id (now.properties p q to.1) (alike.reference x y w.state (now.names x y to.0)) is.states)
  node_beside g h _ _ n m s w v graph to id is = absurd to

  names_reach : (xs : List (List ℕ)) (s : S) (t : T) → R.states s t → Reach R s (names a xs s).1 (names b xs t).1 × Pairwise (R.names (names a xs s).1) (names a xs s).0 (names b xs t).0
  names_reach [] s t is = (record { states = is; lasts = lasts_here R s }, tt)
  names_reach (x ∷ xs) s t is =
      let first = alike.named x s t is in
      let rest = names_reach xs (a.named x s).1 (b.named x t).1 first.0.states in
      (reach_on R s (a.named x s).1 _ (b.named x t).1 _ first.0 rest.0, (rest.0.lasts.names (a.named x s).0 (b.named x t).0 first.1, rest.1))

  types_reach : (g : N) (h : M) (n : N) (m : M) (xs : List N) (ys : List M) (s : S) (t : T) → R.names s g h → R.names s n m → Pairwise (R.names s) xs ys → R.states s t → Reach R s (types_into a g n xs s) (types_into b h m ys t)
  types_reach g h n m [] [] s t graph id types is = record { states = is; lasts = lasts_here R s }
  types_reach g h n m (x ∷ xs) (y ∷ ys) s t graph id types is =
      let first = alike.type_ g h n m x y s t graph id types.0 is in
      let now = first.lasts.names in
      reach_on R s (a.type_ g n x s) _ (b.type_ h m y t) _ first
      (types_reach g h n m xs ys (a.type_ g n x s) (b.type_ h m y t) (now g h graph) (now n m id) (pairwise_to (R.names s) (R.names (a.type_ g n x s)) now xs ys types.1) first.states)
  types_reach g h n m [] (y ∷ ys) s t graph id types is = absurd types
  types_reach g h n m (x ∷ xs) [] s t graph id types is = absurd types

  index_reach : (g : N) (h : M) (n : N) (m : M) (o : Option (List ℕ)) (s : S) (t : T) → R.names s g h → R.names s n m → R.states s t → Reach R s (index_into a g n o s) (index_into b h m o t)
  index_reach g h n m (Some x) s t graph id is = alike.index g h n m x s t graph id is
  index_reach g h n m None s t graph id is = record { states = is; lasts = lasts_here R s }

  -- A node object, up to what stands in it.
  pub entered_beside : (g : N) (h : M) (i : To N) (j : To M) (ms : Members) (s : S) (w : At S E) (v : At T F) → R.names s g h → Toward R s i j → Beside R s w v
      → Beside R s (entered a g i ms w).1 (entered b h j ms v).1 × R.names (entered a g i ms w).1.state (entered a g i ms w).0 (entered b h j ms v).0
  entered_beside g h i j ms s w v graph to is =
      -- the names of the types
      let types = names_reach (types_in ms) w.state v.state is.states in
      let s1 = (names a (types_in ms) w.state).1 in
      let t1 = (names b (types_in ms) v.state).1 in
      let typed = beside_step R s w v s1 t1 is types.0 in
      -- the node
      let node = alike.node g h (text_at id_key ms) s1 t1 (typed.lasts.names g h graph) typed.states in
      let n = (a.node g (text_at id_key ms) s1).0 in
      let m = (b.node h (text_at id_key ms) t1).0 in
      let s2 = (a.node g (text_at id_key ms) s1).1 in
      let t2 = (b.node h (text_at id_key ms) t1).1 in
      let made = beside_step R s (record { state = s1; items = w.items }) (record { state = t1; items = v.items }) s2 t2 typed node.0 in
      let graph2 = made.lasts.names g h graph in
      -- where it goes
      let w2 : At S E = record { state = s2; items = w.items } in
      let v2 : At T F = record { state = t2; items = v.items } in
      let placed = node_beside g h i j n m s2 w2 v2 graph2 (toward_on R s s2 i j made.lasts to) node.1 (beside_now R s w2 v2 made) in
      let w3 = node_into a g i n w2 in
      let v3 = node_into b h j m v2 in
      let last3 = placed.lasts.names in
      let graph3 = last3 g h graph2 in
      let id3 = last3 n m node.1 in
      -- its types and its index
      let types3 = pairwise_to (R.names s1) (R.names w3.state) (λ x y is. last3 x y (node.0.lasts.names x y is)) (names a (types_in ms) w.state).0 (names b (types_in ms) v.state).0 types.1 in
      let stated = types_reach g h n m (names a (types_in ms) w.state).0 (names b (types_in ms) v.state).0 w3.state v3.state graph3 id3 types3 placed.states in
      let s4 = types_into a g n (names a (types_in ms) w.state).0 w3.state in
      let t4 = types_into b h m (names b (types_in ms) v.state).0 v3.state in
      let indexed = index_reach g h n m (text_at index_key ms) s4 t4 (stated.lasts.names g h graph3) (stated.lasts.names n m id3) stated.states in
      let told = reach_on R w3.state s4 _ t4 _ stated indexed in
      (beside_step R s w3 v3 _ _ (beside_from R s s2 w3 v3 made.lasts placed) told, told.lasts.names n m id3)

  pub graph_beside : (n : N) (m : M) (ms : Members) (s : S) (w : At S E) (v : At T F) → R.names s n m → Beside R s w v → Beside R s (with_graph a n ms w) (with_graph b m ms v)
  graph_beside n m ms s w v id is = by_key (has_key graph_key ms)
    where
      by_key : (c : Bool) → Beside R s (record { state = if c then a.graph n w.state else w.state; items = w.items }) (record { state = if c then b.graph m v.state else v.state; items = v.items })
      by_key true = beside_step R s w v _ _ is (alike.graph n m w.state v.state (is.lasts.names n m id) is.states)
      by_key false = is

  mutual
    pub walk_beside : (g : N) (h : M) (i : To N) (j : To M) (t : Tree) (s : S) (w : At S E) (v : At T F) → R.names s g h → Toward R s i j → Beside R s w v → Beside R s (walk a g i t w) (walk b h j t v)
    walk_beside g h i j (array ts) s w v graph to is = all_beside g h i j ts s w v graph to is
    walk_beside g h i j (object ms) s w v graph to is =
        let inner = at_beside g h in_list in_list list_key ms w.state _ _ (is.lasts.names g h graph) tt (beside_empty R s w v is) in
        let begun = entered_beside g h i j ms s w v graph to is in
        let e = entered a g i ms w in
        let f = entered b h j ms v in
        let r = e.1.state in
        let graph_r = begun.0.lasts.names g h graph in
        let id = begun.1 in
        let whole =
        properties_beside g h e.0 f.0 ms r _ _ graph_r id
        (at_beside g h nowhere nowhere included_key ms r _ _ graph_r tt
        (at_beside e.0 f.0 nowhere nowhere graph_key ms r _ _ id tt
        (graph_beside e.0 f.0 ms r _ _ id
        (reverse_beside g h e.0 f.0 ms r e.1 f.1 graph_r id (beside_now R s e.1 f.1 begun.0))))) in
        beside_by R (has_key value_key ms) (has_key value_key ms) refl s _ _ _ _
        (λ is_value. value_beside g h i j (a.value (object ms)) (b.value (object ms)) s w v graph to (alike.value ms w.state is_value) is)
        (λ other. beside_by R (has_key list_key ms) (has_key list_key ms) refl s _ _ _ _
        (λ is_list. beside_taken R s i j _ _ _ _ to (list_beside g h i j s w _ v _ graph to is inner) is)
        (λ is_node. beside_from R s r _ _ begun.0.lasts whole))
    walk_beside g h i j null s w v graph to is = is
    walk_beside g h i j (truth x) s w v graph to is = is
    walk_beside g h i j (whole x) s w v graph to is = is
    walk_beside g h i j one_one s w v graph to is = is
    walk_beside g h i j (text x) s w v graph to is = is

    pub all_beside : (g : N) (h : M) (i : To N) (j : To M) (ts : Trees) (s : S) (w : At S E) (v : At T F) → R.names s g h → Toward R s i j → Beside R s w v → Beside R s (walk_all a g i ts w) (walk_all b h j ts v)
    all_beside g h i j no_trees s w v graph to is = is
    all_beside g h i j (tree t ts) s w v graph to is = all_beside g h i j ts s _ _ graph to (walk_beside g h i j t s w v graph to is)

    at_beside : (g : N) (h : M) (i : To N) (j : To M) (key : List ℕ) (ms : Members) (s : S) (w : At S E) (v : At T F) → R.names s g h → Toward R s i j → Beside R s w v → Beside R s (walk_at a g i key ms w) (walk_at b h j key ms v)
    at_beside g h i j key no_members s w v graph to is = is
    at_beside g h i j key (member x t ms) s w v graph to is =
        beside_by R (bytes_eq x key) (bytes_eq x key) refl s _ _ _ _ (λ here. walk_beside g h i j t s w v graph to is) (λ later. at_beside g h i j key ms s w v graph to is)

    reverse_beside : (g : N) (h : M) (n : N) (m : M) (ms : Members) (s : S) (w : At S E) (v : At T F) → R.names s g h → R.names s n m → Beside R s w v → Beside R s (walk_reverse a g n ms w) (walk_reverse b h m ms v)
    reverse_beside g h n m no_members s w v graph id is = is
    reverse_beside g h n m (member x t ms) s w v graph id is =
        beside_by R (bytes_eq x reverse_key) (bytes_eq x reverse_key) refl s _ _ _ _ (λ here. reverse_map_beside g h n m t s w v graph id is) (λ later. reverse_beside g h n m ms s w v graph id is)

    reverse_map_beside : (g : N) (h : M) (n : N) (m : M) (t : Tree) (s : S) (w : At S E) (v : At T F) → R.names s g h → R.names s n m → Beside R s w v → Beside R s (walk_reverse_map a g n t w) (walk_reverse_map b h m t v)
    reverse_map_beside g h n m (object ms) s w v graph id is = reverse_properties_beside g h n m ms s w v graph id is
    reverse_map_beside g h n m null s w v graph id is = is
    reverse_map_beside g h n m (truth x) s w v graph id is = is
    reverse_map_beside g h n m (whole x) s w v graph id is = is
    reverse_map_beside g h n m one_one s w v graph id is = is
    reverse_map_beside g h n m (text x) s w v graph id is = is
    reverse_map_beside g h n m (array x) s w v graph id is = is

    reverse_properties_beside : (g : N) (h : M) (n : N) (m : M) (ms : Members) (s : S) (w : At S E) (v : At T F) → R.names s g h → R.names s n m → Beside R s w v → Beside R s (walk_reverse_properties a g n ms w) (walk_reverse_properties b h m ms v)
    reverse_properties_beside g h n m no_members s w v graph id is = is
    reverse_properties_beside g h n m (member x t ms) s w v graph id is =
        let q = alike.named x w.state v.state is.states in
        let r = (a.named x w.state).1 in
        let begun = beside_step R s w v r (b.named x v.state).1 is q.0 in
        let now = begun.lasts.names in
        reverse_properties_beside g h n m ms s _ _ graph id (beside_by R (is_keyword x) (is_keyword x) refl s _ _ _ _ (λ word. is) (λ property.
        beside_from R s r _ _ begun.lasts
        (walk_beside g h (reverse n (a.named x w.state).0) (reverse m (b.named x v.state).0) t r _ _ (now g h graph) (now n m id, q.2 property) (beside_now R s _ _ begun))))

    properties_beside : (g : N) (h : M) (n : N) (m : M) (ms : Members) (s : S) (w : At S E) (v : At T F) → R.names s g h → R.names s n m → Beside R s w v → Beside R s (walk_properties a g n ms w) (walk_properties b h m ms v)
    properties_beside g h n m no_members s w v graph id is = is
    properties_beside g h n m (member x t ms) s w v graph id is =
        properties_beside g h n m ms s _ _ graph id (beside_by R (is_keyword x) (is_keyword x) refl s _ _ _ _ (λ word. is) (λ property.
        let q = alike.property g h n m x w.state v.state property (is.lasts.names g h graph) (is.lasts.names n m id) is.states in
        let r = (a.property g n x w.state).1 in
        let begun = beside_step R s w v r (b.property h m x v.state).1 is q.0 in
        let now = begun.lasts.names in
        beside_from R s r _ _ begun.lasts
        (walk_beside g h (under n (a.property g n x w.state).0) (under m (b.property h m x v.state).0) t r _ _ (now g h graph) (now n m id, q.1) (beside_now R s _ _ begun))))
