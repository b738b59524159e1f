-- What a division keeps: one induction over the document for whatever holds of a division under way, if steps of a spine keep it, and ranges
-- do. Which lists of items may be a range is said by the marks.
use Rattle.std.proofs.Common.{◌≡◌, ℕ, ◌+◌, List, [], ◌∷◌, ◌++◌, Bool, true, false, ◌||◌, if◌then◌else◌, refl}
use Rattle.std.specs.Str.{bytes_eq}
use Rattle.ld_model.specs.Tree.{Tree, Trees, Members, null, truth, whole, one_one, text, array, object, no_trees, tree, no_members, member}
use Rattle.ld_model.specs.Keys.{value_key, graph_key}
use Rattle.ctx_types.specs.Expansion.{is_keyword}
use Rattle.node_model.specs.Keys.{list_key, reverse_key, included_key}
use Rattle.node_model.specs.Walk.{To, nowhere, under, reverse, has_key, entered, with_graph}
use Rattle.op_model.specs.Names.{Name}
use Rattle.op_laws.proofs.Gathered.{is_outside}
use Rattle.division_model.specs.Dividing.{Step, to_key, to_item, Mark, opened, begins, continues, Plan, plan_inside, Division, spine_noting, outside_lists, divide, divide_items, divide_at, divide_reverse, divide_reverse_map, divide_reverse_properties, divide_properties, range_ended}
use Rattle.division_laws.proofs.Spines.{items_in_spine, entered_in_spine}

-- `P` holds of the divisions under way, `Good` of the marks that are left of an array, and `Taken` of the items in the range under way.
pub record Keeps (P : Division → Type 0) (Good : List Mark → Type 0) (Taken : List Tree → Type 0) : Type 0 where
  -- chunks alone count, so steps of a spine keep it
  pub spined : (d e : Division) → e.chunks ≡ d.chunks → P d → P e
  -- a range of such items keeps it
  pub range : (g : Name) (to : To Name) (ts : List Tree) (d : Division) → is_outside to ≡ true → Taken ts → P d → P (range_ended g to ts d)
  -- which items a range has
  pub none : Taken []
  pub rest : (m : Mark) (marks : List Mark) → Good (m ∷ marks) → Good marks
  pub begun : (marks : List Mark) (t : Tree) → Good (begins ∷ marks) → Taken (t ∷ [])
  pub on : (marks : List Mark) (taken : List Tree) (t : Tree) → Good (continues ∷ marks) → Taken taken → Taken (taken ++ t ∷ [])

module _ (P : Division → Type 0) (Good : List Mark → Type 0) (Taken : List Tree → Type 0) (keeps : Keeps P Good Taken) where
  -- The marks of a plan are good.
  abbrev IsGood : Plan → Type 0
  IsGood plan = (place : List Step) (ts : Trees) → Good (plan place ts)

  either : (c : Bool) (d e : Division) → P d → P e → P (if c then d else e)
  either true d e first second = first
  either false d e first second = second

  graph_keeps : (id : Name) (ms : Members) (d : Division) → P d → P (with_graph spine_noting id ms (outside_lists d)).state
  graph_keeps id ms d is = either (has_key graph_key ms) (spine_noting.graph id d) d (keeps.spined d (spine_noting.graph id d) refl is) is

  mutual
    pub divide_keeps : (plan : Plan) (all : IsGood plan) (g : Name) (to : To Name) (t : Tree) (d : Division) → is_outside to ≡ true → P d → P (divide plan g to t d)
    divide_keeps plan all g to (array ts) d out is = items_keep plan all g to (plan [] ts) 0 [] ts d out (all [] ts) keeps.none is
    divide_keeps plan all g to (object ms) d out is =
        let node = entered spine_noting g to ms (outside_lists d) in
        either (has_key value_key ms || has_key list_key ms) _ _
        (keeps.spined d _ (items_in_spine g to (tree (object ms) no_trees) d).0 is)
        (properties_keep plan all g node.0 ms _
        (at_keeps plan all g included_key ms _
        (at_keeps plan all node.0 graph_key ms _
        (graph_keeps node.0 ms _
        (reverse_keeps plan all g node.0 ms _
        (keeps.spined d node.1.state (entered_in_spine g to ms d) is))))))
    divide_keeps plan all g to null d out is = is
    divide_keeps plan all g to (truth x) d out is = is
    divide_keeps plan all g to (whole x) d out is = is
    divide_keeps plan all g to one_one d out is = is
    divide_keeps plan all g to (text x) d out is = is

    pub items_keep : (plan : Plan) (all : IsGood plan) (g : Name) (to : To Name) (marks : List Mark) (number : ℕ) (taken : List Tree) (ts : Trees) (d : Division) → is_outside to ≡ true → Good marks → Taken taken → P d
        → P (divide_items plan g to marks number taken ts d)
    items_keep plan all g to marks number taken no_trees d out good are is = keeps.range g to taken d out are is
    items_keep plan all g to (begins ∷ marks) number taken (tree t ts) d out good are is =
        items_keep plan all g to marks (number + 1) (t ∷ []) ts _ out (keeps.rest begins marks good) (keeps.begun marks t good) (keeps.range g to taken d out are is)
    items_keep plan all g to (continues ∷ marks) number taken (tree t ts) d out good are is =
        items_keep plan all g to marks (number + 1) (taken ++ t ∷ []) ts d out (keeps.rest continues marks good) (keeps.on marks taken t good are) is
    items_keep plan all g to (opened ∷ marks) number taken (tree t ts) d out good are is =
        items_keep plan all g to marks (number + 1) [] ts _ out (keeps.rest opened marks good) keeps.none (divide_keeps (plan_inside (to_item number) plan) (λ place. all (to_item number ∷ place)) g to t _ out (keeps.range g to taken d out are is))
    items_keep plan all g to [] number taken (tree t ts) d out good are is =
        items_keep plan all g to [] (number + 1) [] ts _ out good keeps.none (divide_keeps (plan_inside (to_item number) plan) (λ place. all (to_item number ∷ place)) g to t _ out (keeps.range g to taken d out are is))

    at_keeps : (plan : Plan) (all : IsGood plan) (g : Name) (key : List ℕ) (ms : Members) (d : Division) → P d → P (divide_at plan g key ms d)
    at_keeps plan all g key no_members d is = is
    at_keeps plan all g key (member k t ms) d is = either (bytes_eq k key) _ _ (divide_keeps (plan_inside (to_key k) plan) (λ place. all (to_key k ∷ place)) g nowhere t d refl is) (at_keeps plan all g key ms d is)

    reverse_keeps : (plan : Plan) (all : IsGood plan) (g id : Name) (ms : Members) (d : Division) → P d → P (divide_reverse plan g id ms d)
    reverse_keeps plan all g id no_members d is = is
    reverse_keeps plan all g id (member k t ms) d is = either (bytes_eq k reverse_key) _ _ (reverse_map_keeps (plan_inside (to_key k) plan) (λ place. all (to_key k ∷ place)) g id t d is) (reverse_keeps plan all g id ms d is)

    reverse_map_keeps : (plan : Plan) (all : IsGood plan) (g id : Name) (t : Tree) (d : Division) → P d → P (divide_reverse_map plan g id t d)
    reverse_map_keeps plan all g id (object ms) d is = reverse_properties_keep plan all g id ms d is
    reverse_map_keeps plan all g id null d is = is
    reverse_map_keeps plan all g id (truth x) d is = is
    reverse_map_keeps plan all g id (whole x) d is = is
    reverse_map_keeps plan all g id one_one d is = is
    reverse_map_keeps plan all g id (text x) d is = is
    reverse_map_keeps plan all g id (array x) d is = is

    reverse_properties_keep : (plan : Plan) (all : IsGood plan) (g id : Name) (ms : Members) (d : Division) → P d → P (divide_reverse_properties plan g id ms d)
    reverse_properties_keep plan all g id no_members d is = is
    reverse_properties_keep plan all g id (member k t ms) d is =
        let q = spine_noting.named k d in
        reverse_properties_keep plan all g id ms _ (either (is_keyword k) _ _ is (divide_keeps (plan_inside (to_key k) plan) (λ place. all (to_key k ∷ place)) g (reverse id q.0) t q.1 refl (keeps.spined d q.1 refl is)))

    properties_keep : (plan : Plan) (all : IsGood plan) (g id : Name) (ms : Members) (d : Division) → P d → P (divide_properties plan g id ms d)
    properties_keep plan all g id no_members d is = is
    properties_keep plan all g id (member k t ms) d is =
        let q = spine_noting.property g id k d in
        properties_keep plan all g id ms _ (either (is_keyword k) _ _ is (divide_keeps (plan_inside (to_key k) plan) (λ place. all (to_key k ∷ place)) g (under id q.0) t q.1 refl (keeps.spined d q.1 refl is)))
