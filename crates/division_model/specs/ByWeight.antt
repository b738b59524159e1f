-- The division of an expanded document by weight. [Ours]
use Rattle.std.specs.Prelude.{ℕ, zero, suc, ◌+◌, ◌*◌, ◌^◌, ◌-◌, min, List, [], ◌∷◌, length, Bool, true, false, ◌&&◌, ◌||◌, not, if◌then◌else◌, Option, Some, None, nat_le, nat_lt}
use Rattle.std.specs.Str.{bytes_eq}
use Rattle.ld_model.specs.Tree.{Tree, Trees, Members, array, object, no_trees, tree, no_members, member, weight, trees_weight}
use Rattle.ld_model.specs.Keys.{value_key, graph_key}
use Rattle.ctx_types.specs.Expansion.{is_keyword}
use Rattle.node_model.specs.Keys.{list_key, reverse_key, included_key}
use Rattle.node_model.specs.Walk.{has_key}
use Rattle.op_model.specs.Noting.{Chunk}
use Rattle.division_model.specs.Dividing.{Mark, opened, begins, continues, Plan, chunks_by}

-- No limit, no weight and no sum of weights counts for more than this.
abbrev pub highest : ℕ
highest = 2 ^ 64 - 1

abbrev pub capped : ℕ → ℕ
capped n = min n highest

-- What weighs so much weighs more than the limit.
abbrev pub is_above : ℕ → ℕ → Bool
is_above limit n = nat_lt limit (capped n)

abbrev pub has_two : Trees → Bool
has_two (tree t (tree u ts)) = true
has_two _ = false

-- An array is cut where it has at least two items and weighs more than the limit. It counts as a value beside its items.
abbrev pub is_cut : ℕ → Trees → Bool
is_cut limit ts = has_two ts && is_above limit (1 + trees_weight ts)

-- What is at this key of a node object is an element: a property, or what stands in its graph or is included.
abbrev pub is_element_key : List ℕ → Bool
is_element_key k = not (is_keyword k) || (bytes_eq k graph_key || bytes_eq k included_key)

abbrev mutual
  -- There is an array to be cut in an element. None is in a value object or a list.
  pub holds_cut : ℕ → Tree → Bool
  holds_cut limit (array ts) = is_cut limit ts || items_hold_cut limit ts
  holds_cut limit (object ms) = if has_key value_key ms || has_key list_key ms then false else entries_hold_cut limit ms
  holds_cut limit t = false

  -- There is one in the items of an array.
  pub items_hold_cut : ℕ → Trees → Bool
  items_hold_cut limit no_trees = false
  items_hold_cut limit (tree t ts) = holds_cut limit t || items_hold_cut limit ts

  -- There is one in the entries of a node object.
  pub entries_hold_cut : ℕ → Members → Bool
  entries_hold_cut limit no_members = false
  entries_hold_cut limit (member k t ms) =
      (if bytes_eq k reverse_key then reverse_holds_cut limit t else (is_element_key k && holds_cut limit t))
      || entries_hold_cut limit ms

  -- There is one in the reverse properties of a node object.
  pub reverse_holds_cut : ℕ → Tree → Bool
  reverse_holds_cut limit (object ms) = reverse_entries_hold_cut limit ms
  reverse_holds_cut limit t = false

  pub reverse_entries_hold_cut : ℕ → Members → Bool
  reverse_entries_hold_cut limit no_members = false
  reverse_entries_hold_cut limit (member k t ms) =
      (not (is_keyword k) && holds_cut limit t) || reverse_entries_hold_cut limit ms

-- An item of an array that is cut is opened where it weighs more than the limit and holds an array to be cut.
abbrev pub is_opened : ℕ → Tree → Bool
is_opened limit t = is_above limit (weight t) && holds_cut limit t

-- What the range under way weighs with one more item, if there is a range and this is at most the limit.
abbrev pub with_item : ℕ → Option ℕ → ℕ → Option ℕ
with_item limit (Some sum) own = if nat_le (capped (sum + own)) limit then Some (capped (sum + own)) else None
with_item limit None own = None

-- The mark of an item in a range, and what the range weighs then: an item stays with those before it where it can.
abbrev pub mark_in_range : Option ℕ → ℕ → Mark × Option ℕ
mark_in_range (Some sum) own = (continues, Some sum)
mark_in_range None own = (begins, Some own)

-- The mark of an item, and what the range under way weighs behind it. Behind an opened item none is under way.
abbrev pub mark_of : ℕ → Option ℕ → Tree → Mark × Option ℕ
mark_of limit sum t =
    if is_opened limit t then (opened, None)
    else mark_in_range (with_item limit sum (capped (weight t))) (capped (weight t))

-- The marks of an array that is cut: each longest row of items that aren't opened is divided from the left, into ranges that weigh at most the
-- limit or have one item.
abbrev pub marks : ℕ → Option ℕ → Trees → List Mark
marks limit sum no_trees = []
marks limit sum (tree t ts) = let m = mark_of limit sum t in m.0 ∷ marks limit m.1 ts

-- The plan by weight, which is the same at each place. An array that isn't cut stays in its spine, but for the arrays inside its items.
abbrev pub by_weight : ℕ → Plan
by_weight limit = λ place ts. if is_cut limit ts then marks limit None ts else []

-- The chunks of a document for this limit.
abbrev pub chunks_at : ℕ → List Tree → List Chunk
chunks_at limit items = chunks_by (by_weight limit) items

-- A document has at most so many chunks.
abbrev pub most_chunks : ℕ
most_chunks = 4096

abbrev pub are_few : List Chunk → Bool
are_few chunks = nat_le (length chunks) most_chunks

-- The limit is doubled, at most so many times, until there are few chunks.
abbrev pub chunks_from : ℕ → ℕ → List Tree → List Chunk
chunks_from zero limit items = chunks_at limit items
chunks_from (suc times) limit items =
    if are_few (chunks_at limit items) then chunks_at limit items
    else chunks_from times (capped (2 * limit)) items

-- The division of a document by weight. From 1 on, 64 doublings come to the highest limit, at which nothing is cut.
abbrev pub cut_expanded : List Tree → ℕ → List Chunk
cut_expanded items weight = chunks_from 64 (capped weight) items
