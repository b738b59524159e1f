-- Expansion (JSON-LD 1.1 API, section 5.1.2): the recursion over a value, and the whole document (section 9.1.2, expand). Entries are
-- taken in ascending order of their keys. [Ours: always, as with the flag `ordered`.]
use Rattle.std.specs.Prelude.{ℕ, suc, Bool, true, false, List, [], ◌∷◌, ◌++◌, Option, None, Some, Result, Ok, Err, codes, if◌then◌else◌}
use Rattle.ld_json.specs.declared.location.Step.{Step}
use Rattle.ld_model.specs.Tree.{Tree, Trees, Members, Pairs, null, truth, whole, one_one, text, array, object, no_trees, tree, no_members, member, trees_of, member_list}
use Rattle.ctx_types.specs.Context.{Text, Definition, Context}
use Rattle.expand_model.specs.declared.Name.{Name}
use Rattle.expand_model.specs.declared.Task.{Task}
use Rattle.expand_model.specs.declared.Task.TheVariants.{Tells, Expands, Indexes}
use Rattle.expand_model.specs.Scope.{Options, Fault, located, in_key}
use Rattle.expand_model.specs.Entries.{name_of, task_of}
use Rattle.expand_model.specs.Rules.{At, Inside, ◌>>=◌, item_at, entered_at, finished_at, scalar_at, lists_at, spliced, definition_in, value_at, index_at, told_at, begun_at, added_at, indexed_at, is_nest, not_nestable, nestable, nest_in, nest_item_in, start, whole_items}

module _ (o : Options) where
  -- An entry whose value is expanded.
  abbrev pub value_taken : (At → Result Tree Fault) → Name → Option Definition → Text → Inside → Pairs → Result Pairs Fault
  value_taken expand n d k e r = do
    _ ← begun_at n k e r
    v ← expand (value_at n k e)
    added_at n d k v e r

  -- A map of indexes: the items that its values come to are added as one value.
  abbrev pub indexes_taken : (Inside → List Tree → Result (List Tree) Fault) → Name → Option Definition → Text → Inside → Pairs → Result Pairs Fault
  indexes_taken indexes n d k e r = do
    out ← indexes e []
    added_at n d k (array (trees_of out)) e r

  -- One entry, given how its value is expanded, and the values inside that as those of a map of indexes.
  abbrev pub taken : (At → Result Tree Fault) → (Inside → List Tree → Result (List Tree) Fault) → Task → Name → Option Definition → Text → Tree → Inside → Pairs → Result Pairs Fault
  taken expand indexes Tells n d k t e r = told_at n d k t e r
  taken expand indexes Expands n d k t e r = value_taken expand n d k e r
  taken expand indexes Indexes n d k t e r = indexes_taken indexes n d k e r

  abbrev pub entry_named : (At → Result Tree Fault) → (Inside → List Tree → Result (List Tree) Fault) → Name → Option Definition → Text → Tree → Inside → Pairs → Result Pairs Fault
  entry_named expand indexes n d k t e r = taken expand indexes (task_of e.scope.property d n t) n d k t e r

  unfoldable pub entry : (At → Result Tree Fault) → (Inside → List Tree → Result (List Tree) Fault) → Text → Tree → Inside → Pairs → Result Pairs Fault
  entry expand indexes k t e r = entry_named expand indexes (name_of e.scope.context.current k) (definition_in k e) k t e r

  -- One value of a map of indexes.
  abbrev pub index_entry : (At → Result Tree Fault) → Text → Text → Tree → Inside → List Tree → Result (List Tree) Fault
  index_entry expand i k t e out = do
    a ← index_at o i k e
    v ← expand a
    indexed_at i k t v a e out

  abbrev mutual
    pub element : Tree → At → Result Tree Fault
    element null a = Ok null
    element (truth b) a = scalar_at o (truth b) a
    element (whole n) a = scalar_at o (whole n) a
    element one_one a = scalar_at o one_one a
    element (text t) a = scalar_at o (text t) a
    element (array ts) a = do
      rs ← items ts 0 a []
      Ok (array (trees_of rs))
    element (object ms) a = do
      e ← entered_at o (member_list ms) a
      r₁ ← entries ms e []
      r₂ ← nests ms e r₁
      finished_at a r₂

    -- Step 5: the items of an array, the first of which has this number, behind those that came out before.
    pub items : Trees → ℕ → At → List Tree → Result (List Tree) Fault
    items no_trees n a out = Ok out
    items (tree t ts) n a out = do
      v ← element t (item_at n a)
      items ts (suc n) a (out ++ spliced (lists_at a) v)

    -- Step 13: the entries of a map, into a result.
    pub entries : Members → Inside → Pairs → Result Pairs Fault
    entries no_members e r = Ok r
    entries (member k t ms) e r = do
      r′ ← entry (element t) (indexes t k) k t e r
      entries ms e r′

    -- Step 14: then its nests.
    pub nests : Members → Inside → Pairs → Result Pairs Fault
    nests no_members e r = Ok r
    nests (member k t ms) e r = do
      r′ ← if is_nest k e then nested t k e r else Ok r
      nests ms e r′

    -- The value of a nest: a map, or an array of maps.
    pub nested : Tree → Text → Inside → Pairs → Result Pairs Fault
    nested null k e r = Ok r
    nested (array ts) k e r = nest_items ts 0 k e r
    nested (object ms) k e r = do
      _ ← nestable (member_list ms) k e
      r₁ ← entries ms (nest_in k e) r
      nests ms (nest_in k e) r₁
    nested _ k e r = Err (not_nestable k e)

    pub nest_items : Trees → ℕ → Text → Inside → Pairs → Result Pairs Fault
    nest_items no_trees n k e r = Ok r
    nest_items (tree t ts) n k e r = do
      r′ ← nest_item t n k e r
      nest_items ts (suc n) k e r′

    pub nest_item : Tree → ℕ → Text → Inside → Pairs → Result Pairs Fault
    nest_item (object ms) n k e r = do
      _ ← nestable (member_list ms) k e
      r₁ ← entries ms (nest_item_in n k e) r
      nests ms (nest_item_in n k e) r₁
    nest_item _ n k e r = Err (not_nestable k e)

    -- Step 13.8: the values of a map of indexes.
    pub indexes : Tree → Text → Inside → List Tree → Result (List Tree) Fault
    indexes (object ms) k e out = index_entries ms k e out
    indexes _ k e out = Ok out

    pub index_entries : Members → Text → Inside → List Tree → Result (List Tree) Fault
    index_entries no_members k e out = Ok out
    index_entries (member i t ms) k e out = do
      out′ ← index_entry (element t) i k t e out
      index_entries ms k e out′

  -- The whole document.
  unfoldable pub document : Tree → Result (List Tree) Fault
  document t = do
    v ← element t (start o)
    Ok (whole_items v)
