-- The traversal that divides, beside that of the whole document: one induction over the document, for any plan.
use Rattle.std.proofs.Common.{◌≡◌, ℕ, ◌+◌, List, [], ◌∷◌, ◌++◌, Bool, true, false, ◌||◌, if◌then◌else◌, refl, subst}
use Rattle.std.specs.Str.{bytes_eq}
use Rattle.ld_model.specs.Tree.{Tree, Trees, Members, null, truth, whole, one_one, text, array, object, no_trees, tree, no_members, member, trees_of}
use Rattle.ld_model.specs.Keys.{value_key, graph_key}
use Rattle.ctx_types.specs.Expansion.{is_keyword}
use Rattle.node_model.specs.Keys.{list_key, reverse_key, included_key}
use Rattle.node_model.specs.Walk.{To, nowhere, under, in_list, reverse, At, has_key, entered, walk, walk_all, walk_at, walk_reverse, walk_reverse_map, walk_reverse_properties, walk_properties}
use Rattle.node_laws.proofs.Likeness.{Beside, Toward, beside_from, beside_now, beside_step}
use Rattle.node_laws.proofs.Alike.{entered_beside, graph_beside, walk_beside}
use Rattle.node_laws.proofs.Conflicts.{walk_all-append}
use Rattle.op_model.specs.Names.{Name}
use Rattle.op_model.specs.Ops.{Entry}
use Rattle.op_model.specs.Noting.{Notes, noting}
use Rattle.op_laws.proofs.Gathered.{is_outside, walk_holds}
use Rattle.division_model.specs.Dividing.{to_key, to_item, Mark, opened, begins, continues, Plan, plan_inside, Division, spine_noting, outside_lists, divide, divide_items, divide_at, divide_reverse, divide_reverse_map, divide_reverse_properties, divide_properties, range_ended}
use Rattle.division_laws.proofs.Stands.{standing, steps_alike}
use Rattle.division_laws.proofs.Ranges.{outside_beside, range_ended_beside}

-- A division stands beside a walk of the whole document, seen from an earlier division.
abbrev pub IsBeside : Division → Division → At Notes Entry → Type 0
IsBeside s d v = Beside standing s (outside_lists d) v

-- One and the same test on both sides, and the tests for values and lists.
by_test : (test c : Bool) → test ≡ c → (s d e : Division) (v y : At Notes Entry) → (test ≡ true → IsBeside s d v) → (test ≡ false → IsBeside s e y) → IsBeside s (if c then d else e) (if c then v else y)
by_test test true same s d e v y first second = first same
by_test test false same s d e v y first second = second same

by_tests : (a b : Bool) (s d e : Division) (v x y : At Notes Entry) → IsBeside s d (if a then v else if b then x else y) → IsBeside s e y → IsBeside s (if a || b then d else e) (if a then v else if b then x else y)
by_tests true b s d e v x y plain node = plain
by_tests false true s d e v x y plain node = plain
by_tests false false s d e v x y plain node = node

-- Outside a list a node object gathers nothing.
none_gathered : (g : Name) (to : To Name) (ms : Members) (d : Division) → is_outside to ≡ true → (entered spine_noting g to ms (outside_lists d)).1.items ≡ []
none_gathered g nowhere ms d out = refl
none_gathered g (under n p) ms d out = refl
none_gathered g in_list ms d out = absurd (cc)
none_gathered g (reverse n p) ms d out = refl

-- The first item of some more goes behind a range so far.
one_more : (h : Name) (j : To Name) (taken : List Tree) (t : Tree) (v : At Notes Entry) → walk_all noting h j (trees_of (taken ++ t ∷ [])) v ≡ walk noting h j t (walk_all noting h j (trees_of taken) v)
one_more h j taken t v = walk_all-append noting h j taken (t ∷ []) v

mutual
  pub divide_beside : (plan : Plan) (g h : Name) (i j : To Name) (t : Tree) (s d : Division) (v : At Notes Entry) → standing.names s g h → Toward standing s i j → is_outside i ≡ true → IsBeside s d v
      → IsBeside s (divide plan g i t d) (walk noting h j t v)
  divide_beside plan g h i j (array ts) s d v graph to out is = items_beside plan g h i j (plan [] ts) 0 [] ts s d v graph to out is
  divide_beside plan g h i j (object ms) s d v graph to out is =
      let plain = outside_beside s (walk spine_noting g i (object ms) (outside_lists d)) (walk noting h j (object ms) v) (walk_holds spine_noting [] g i (object ms) (outside_lists d) out refl)
      (walk_beside standing spine_noting noting steps_alike g h i j (object ms) s (outside_lists d) v graph to is) in
      let begun = entered_beside standing spine_noting noting steps_alike g h i j ms s (outside_lists d) v graph to is in
      let e = entered spine_noting g i ms (outside_lists d) in
      let f = entered noting h j ms v in
      let r = e.1.state in
      let first = outside_beside s e.1 f.1 (none_gathered g i ms d out) begun.0 in
      let graph_r = first.lasts.names g h graph in
      let id = begun.1 in
      let turned = reverse_beside plan g h e.0 f.0 ms r r f.1 graph_r id (beside_now standing s (outside_lists r) f.1 first) in
      let made = graph_beside standing spine_noting noting steps_alike e.0 f.0 ms r (outside_lists (divide_reverse plan g e.0 ms r)) (walk_reverse noting h f.0 ms f.1) id turned in
      let inside = at_beside plan e.0 f.0 graph_key ms r _ _ id made in
      let included = at_beside plan g h included_key ms r _ _ graph_r inside in
      let all = properties_beside plan g h e.0 f.0 ms r _ _ graph_r id included in
      by_tests (has_key value_key ms) (has_key list_key ms) s _ _ _ _ _ plain (beside_from standing s r _ _ first.lasts all)
  divide_beside plan g h i j null s d v graph to out is = is
  divide_beside plan g h i j (truth x) s d v graph to out is = is
  divide_beside plan g h i j (whole x) s d v graph to out is = is
  divide_beside plan g h i j one_one s d v graph to out is = is
  divide_beside plan g h i j (text x) s d v graph to out is = is

  items_beside : (plan : Plan) (g h : Name) (i j : To Name) (marks : List Mark) (number : ℕ) (taken : List Tree) (ts : Trees) (s d : Division) (v : At Notes Entry)
      → standing.names s g h → Toward standing s i j → is_outside i ≡ true → IsBeside s d v
      → IsBeside s (divide_items plan g i marks number taken ts d) (walk_all noting h j ts (walk_all noting h j (trees_of taken) v))
  items_beside plan g h i j marks number taken no_trees s d v graph to out is = range_ended_beside g h i j taken s d v graph to out is
  items_beside plan g h i j (begins ∷ marks) number taken (tree t ts) s d v graph to out is =
      items_beside plan g h i j marks (number + 1) (t ∷ []) ts s (range_ended g i taken d) (walk_all noting h j (trees_of taken) v) graph to out (range_ended_beside g h i j taken s d v graph to out is)
  items_beside plan g h i j (continues ∷ marks) number taken (tree t ts) s d v graph to out is =
      subst (λ x. IsBeside s (divide_items plan g i marks (number + 1) (taken ++ t ∷ []) ts d) (walk_all noting h j ts x)) (one_more h j taken t v)
      (items_beside plan g h i j marks (number + 1) (taken ++ t ∷ []) ts s d v graph to out is)
  items_beside plan g h i j (opened ∷ marks) number taken (tree t ts) s d v graph to out is =
      items_beside plan g h i j marks (number + 1) [] ts s _ _ graph to out
      (divide_beside (plan_inside (to_item number) plan) g h i j t s (range_ended g i taken d) (walk_all noting h j (trees_of taken) v) graph to out (range_ended_beside g h i j taken s d v graph to out is))
  items_beside plan g h i j [] number taken (tree t ts) s d v graph to out is =
      items_beside plan g h i j [] (number + 1) [] ts s _ _ graph to out
      (divide_beside (plan_inside (to_item number) plan) g h i j t s (range_ended g i taken d) (walk_all noting h j (trees_of taken) v) graph to out (range_ended_beside g h i j taken s d v graph to out is))

  at_beside : (plan : Plan) (g h : Name) (key : List ℕ) (ms : Members) (s d : Division) (v : At Notes Entry) → standing.names s g h → IsBeside s d v
      → IsBeside s (divide_at plan g key ms d) (walk_at noting h nowhere key ms v)
  at_beside plan g h key no_members s d v graph is = is
  at_beside plan g h key (member k t ms) s d v graph is =
      by_test (bytes_eq k key) (bytes_eq k key) refl s _ _ _ _ (λ here. divide_beside (plan_inside (to_key k) plan) g h nowhere nowhere t s d v graph tt refl is) (λ later. at_beside plan g h key ms s d v graph is)

  reverse_beside : (plan : Plan) (g h n m : Name) (ms : Members) (s d : Division) (v : At Notes Entry) → standing.names s g h → standing.names s n m → IsBeside s d v
      → IsBeside s (divide_reverse plan g n ms d) (walk_reverse noting h m ms v)
  reverse_beside plan g h n m no_members s d v graph id is = is
  reverse_beside plan g h n m (member k t ms) s d v graph id is =
      by_test (bytes_eq k reverse_key) (bytes_eq k reverse_key) refl s _ _ _ _ (λ here. reverse_map_beside (plan_inside (to_key k) plan) g h n m t s d v graph id is) (λ later. reverse_beside plan g h n m ms s d v graph id is)

  reverse_map_beside : (plan : Plan) (g h n m : Name) (t : Tree) (s d : Division) (v : At Notes Entry) → standing.names s g h → standing.names s n m → IsBeside s d v
      → IsBeside s (divide_reverse_map plan g n t d) (walk_reverse_map noting h m t v)
  reverse_map_beside plan g h n m (object ms) s d v graph id is = reverse_properties_beside plan g h n m ms s d v graph id is
  reverse_map_beside plan g h n m null s d v graph id is = is
  reverse_map_beside plan g h n m (truth x) s d v graph id is = is
  reverse_map_beside plan g h n m (whole x) s d v graph id is = is
  reverse_map_beside plan g h n m one_one s d v graph id is = is
  reverse_map_beside plan g h n m (text x) s d v graph id is = is
  reverse_map_beside plan g h n m (array x) s d v graph id is = is

  reverse_properties_beside : (plan : Plan) (g h n m : Name) (ms : Members) (s d : Division) (v : At Notes Entry) → standing.names s g h → standing.names s n m → IsBeside s d v
      → IsBeside s (divide_reverse_properties plan g n ms d) (walk_reverse_properties noting h m ms v)
  reverse_properties_beside plan g h n m no_members s d v graph id is = is
  reverse_properties_beside plan g h n m (member k t ms) s d v graph id is =
      let q = steps_alike.named k d v.state is.states in
      let r = (spine_noting.named k d).1 in
      let begun = beside_step standing s (outside_lists d) v r (noting.named k v.state).1 is q.0 in
      let now = begun.lasts.names in
      reverse_properties_beside plan g h n m ms s _ _ graph id (by_test (is_keyword k) (is_keyword k) refl s _ _ _ _ (λ word. is) (λ property.
      beside_from standing s r _ _ begun.lasts
      (divide_beside (plan_inside (to_key k) plan) g h (reverse n (spine_noting.named k d).0) (reverse m (noting.named k v.state).0) t r r _ (now g h graph) (now n m id, q.2 property) refl (beside_now standing s (outside_lists r) _ begun))))

  properties_beside : (plan : Plan) (g h n m : Name) (ms : Members) (s d : Division) (v : At Notes Entry) → standing.names s g h → standing.names s n m → IsBeside s d v
      → IsBeside s (divide_properties plan g n ms d) (walk_properties noting h m ms v)
  properties_beside plan g h n m no_members s d v graph id is = is
  properties_beside plan g h n m (member k t ms) s d v graph id is =
      properties_beside plan g h n m ms s _ _ graph id (by_test (is_keyword k) (is_keyword k) refl s _ _ _ _ (λ word. is) (λ property.
      let q = steps_alike.property g h n m k d v.state property (is.lasts.names g h graph) (is.lasts.names n m id) is.states in
      let r = (spine_noting.property g n k d).1 in
      let begun = beside_step standing s (outside_lists d) v r (noting.property h m k v.state).1 is q.0 in
      let now = begun.lasts.names in
      beside_from standing s r _ _ begun.lasts
      (divide_beside (plan_inside (to_key k) plan) g h (under n (spine_noting.property g n k d).0) (under m (noting.property h m k v.state).0) t r r _ (now g h graph) (now n m id, q.1) refl (beside_now standing s (outside_lists r) _ begun))))
