-- How an expanded document is divided into chunks: node map generation's traversal (JSON-LD 1.1 API, section 7.2), in which neighbouring
-- items of an array may be set apart as a range, and the steps between ranges are spines. The arrays are the document's own, and the values
-- of `@graph`, of `@included`, of properties and of reverse properties. Nothing inside a list or a value object is set apart. [Ours]
use Rattle.std.specs.Prelude.{ℕ, ◌+◌, ◌≡◌, List, [], ◌∷◌, ◌++◌, false, true, ◌||◌, if◌then◌else◌, Some, None}
use Rattle.std.specs.Str.{bytes_eq}
use Rattle.ld_model.specs.Tree.{Tree, Trees, Members, array, object, no_trees, tree, no_members, member, trees_of}
use Rattle.ld_model.specs.Keys.{value_key, graph_key, default_graph}
use Rattle.ctx_types.specs.Expansion.{is_keyword}
use Rattle.node_model.specs.Keys.{list_key, reverse_key, included_key}
use Rattle.node_model.specs.Walk.{Steps, To, nowhere, under, reverse, At, has_key, entered, with_graph, walk}
use Rattle.op_model.specs.Names.{Name, iri}
use Rattle.op_model.specs.Ops.{Entry, Op}
use Rattle.op_model.specs.Noting.{Notes, noting, no_notes, Chunk, spine, range}

-- A step from a value to one inside it: to that of a key, or to an item of an array. A place is a list of such steps.
pub data Step : Type 0 where
  to_key : List ℕ → Step
  to_item : ℕ → Step

-- What becomes of an item of an array.
pub data Mark : Type 0 where
  -- it is in no range, and arrays inside it may be divided
  opened : Mark
  -- it is the first item of a range
  begins : Mark
  -- it is in the range of the item before it; behind an opened item it is the first of a range
  continues : Mark

-- A way to divide a document: the marks of an array's items, by the place of the array and by its items. An item without a mark is opened.
abbrev pub Plan : Type 0
Plan = List Step → Trees → List Mark

-- The plan for what is inside a value, where places begin at the value that this step leads to.
abbrev pub plan_inside : Step → Plan → Plan
plan_inside step plan = λ place items. plan (step ∷ place) items

-- A document that is divided up to some step of its traversal: the chunks so far, and what has been noted of the spine under way.
pub record Division : Type 0 where
  pub chunks : List Chunk
  pub notes : Notes

-- What a step notes goes to the spine under way.
abbrev pub on_notes : (Notes → Notes) → Division → Division
on_notes change d = record { chunks = d.chunks; notes = change d.notes }

-- So it does where a step gives a name too.
abbrev pub with_name_noted : Division → Name × Notes → Name × Division
with_name_noted d noted = (noted.0, record { chunks = d.chunks; notes = noted.1 })

-- The steps of a traversal that notes all its operations in the spine under way.
abbrev pub spine_noting : Steps Division Name Entry
spine_noting = record {
  named = λ s d. with_name_noted d (noting.named s d.notes);
  node = λ g id d. with_name_noted d (noting.node g id d.notes);
  property = λ g id s d. with_name_noted d (noting.property g id s d.notes);
  graph = λ g. on_notes (noting.graph g);
  value = noting.value;
  reference = noting.reference;
  list = noting.list;
  add = λ g id p e. on_notes (noting.add g id p e);
  append = λ g id p es. on_notes (noting.append g id p es);
  type_ = λ g id t. on_notes (noting.type_ g id t);
  index = λ g id i. on_notes (noting.index g id i);
}

-- These operations are a spine, and the next chunk begins. A spine without operations is left out.
abbrev pub with_spine : List Op → Division → Division
with_spine [] d = record { chunks = d.chunks; notes = no_notes d.notes.chunk }
with_spine (o ∷ os) d = record { chunks = d.chunks ++ spine (o ∷ os) ∷ []; notes = no_notes (d.notes.chunk + 1) }

-- The spine under way ends.
abbrev pub spine_ended : Division → Division
spine_ended d = with_spine d.notes.ops d

-- Items of an array that stands in this graph, there.
abbrev pub range_of : Name → To Name → List Tree → Chunk
range_of g (under n p) ts = range ts g (Some n) (Some p) false
range_of g (reverse n p) ts = range ts g (Some n) (Some p) true
range_of g _ ts = range ts g None None false

-- These items are a range, and the next chunk begins.
abbrev pub with_range : Name → To Name → List Tree → Division → Division
with_range g to ts d = record { chunks = d.chunks ++ range_of g to ts ∷ []; notes = no_notes (d.notes.chunk + 1) }

-- The range of these items ends, and so does the spine before it. No range is without items.
abbrev pub range_ended : Name → To Name → List Tree → Division → Division
range_ended g to [] d = d
range_ended g to (t ∷ ts) d = with_range g to (t ∷ ts) (spine_ended d)

-- Outside lists, where documents are divided, a traversal gathers no items.
abbrev pub outside_lists : Division → At Division Entry
outside_lists d = record { state = d; items = [] }

abbrev mutual
  -- An element of the active graph (steps 1 to 6): an array is divided, and so is what stands in a node object, in the order of generation.
  pub divide : Plan → Name → To Name → Tree → Division → Division
  divide plan g to (array ts) d = divide_items plan g to (plan [] ts) 0 [] ts d
  divide plan g to (object ms) d =
      if has_key value_key ms || has_key list_key ms then (walk spine_noting g to (object ms) (outside_lists d)).state
      else
      let node = entered spine_noting g to ms (outside_lists d) in
      let turned = divide_reverse plan g node.0 ms node.1.state in
      let inside = divide_at plan node.0 graph_key ms (with_graph spine_noting node.0 ms (outside_lists turned)).state in
      let included = divide_at plan g included_key ms inside in
      divide_properties plan g node.0 ms included
  divide plan g to t d = d

  -- The items of an array from this number on, by their marks (step 1). The items before them that are in the range under way are given.
  pub divide_items : Plan → Name → To Name → List Mark → ℕ → List Tree → Trees → Division → Division
  divide_items plan g to marks number taken no_trees d = range_ended g to taken d
  divide_items plan g to (begins ∷ marks) number taken (tree t ts) d =
      divide_items plan g to marks (number + 1) (t ∷ []) ts (range_ended g to taken d)
  divide_items plan g to (continues ∷ marks) number taken (tree t ts) d =
      divide_items plan g to marks (number + 1) (taken ++ t ∷ []) ts d
  divide_items plan g to (opened ∷ marks) number taken (tree t ts) d =
      divide_items plan g to marks (number + 1) [] ts
      (divide (plan_inside (to_item number) plan) g to t (range_ended g to taken d))
  divide_items plan g to [] number taken (tree t ts) d =
      divide_items plan g to [] (number + 1) [] ts
      (divide (plan_inside (to_item number) plan) g to t (range_ended g to taken d))

  -- What is at this key (steps 6.10 and 6.11).
  pub divide_at : Plan → Name → List ℕ → Members → Division → Division
  divide_at plan g key no_members d = d
  divide_at plan g key (member k t ms) d =
      if bytes_eq k key then divide (plan_inside (to_key k) plan) g nowhere t d else divide_at plan g key ms d

  -- The reverse properties of a node (step 6.9).
  pub divide_reverse : Plan → Name → Name → Members → Division → Division
  divide_reverse plan g id no_members d = d
  divide_reverse plan g id (member k t ms) d =
      if bytes_eq k reverse_key then divide_reverse_map (plan_inside (to_key k) plan) g id t d
      else divide_reverse plan g id ms d

  pub divide_reverse_map : Plan → Name → Name → Tree → Division → Division
  divide_reverse_map plan g id (object ms) d = divide_reverse_properties plan g id ms d
  divide_reverse_map plan g id t d = d

  pub divide_reverse_properties : Plan → Name → Name → Members → Division → Division
  divide_reverse_properties plan g id no_members d = d
  divide_reverse_properties plan g id (member k t ms) d =
      divide_reverse_properties plan g id ms
      (if is_keyword k then d
      else let q = spine_noting.named k d in divide (plan_inside (to_key k) plan) g (reverse id q.0) t q.1)

  -- The properties of a node (step 6.12).
  pub divide_properties : Plan → Name → Name → Members → Division → Division
  divide_properties plan g id no_members d = d
  divide_properties plan g id (member k t ms) d =
      divide_properties plan g id ms
      (if is_keyword k then d
      else let q = spine_noting.property g id k d in divide (plan_inside (to_key k) plan) g (under id q.0) t q.1)

-- Before the first step of a document.
abbrev pub undivided : Division
undivided = record { chunks = []; notes = no_notes 0 }

-- A document after all steps, the last spine with them.
abbrev pub divided_by : Plan → List Tree → Division
divided_by plan items = spine_ended (divide plan (iri default_graph) nowhere (array (trees_of items)) undivided)

-- The chunks of a document under a plan.
abbrev pub chunks_by : Plan → List Tree → List Chunk
chunks_by plan items = (divided_by plan items).chunks

-- Chunks are a division of a document where some plan gives them: in their order they are its whole traversal, and each is a range of items
-- of one array, or the steps between two ranges.
pub record IsDivision (chunks : List Chunk) (items : List Tree) : Type 0 where
  pub plan : Plan
  pub same : chunks ≡ chunks_by plan items
