-- The same recursion, where ranges of an array's items may be answered from elsewhere, and where what was asked leaves a state. A trial
-- of an item may be kept or dropped.
use Rattle.std.specs.Prelude.{ℕ, zero, suc, Bool, true, false, List, [], ◌∷◌, ◌++◌, Option, None, Some, Result, Ok, Err, codes, if◌then◌else◌}
use Rattle.ld_model.specs.Tree.{Tree, Trees, Members, Pairs, null, truth, whole, one_one, text, array, object, no_trees, tree, no_members, member, trees_of, members_of, tree_list, member_list}
use Rattle.ctx_types.specs.Context.{Text, Definition}
use Rattle.expand_model.specs.declared.Name.{Name}
use Rattle.expand_model.specs.declared.Task.{Task}
use Rattle.expand_model.specs.declared.Task.TheVariants.{Tells, Expands, Indexes}
use Rattle.expand_model.specs.Scope.{Options, Fault}
use Rattle.expand_model.specs.Entries.{name_of, task_of}
use Rattle.expand_model.specs.Rules.{At, Inside, ◌>>=◌, item_at, entered_at, finished_at, scalar_at, lists_at, spliced, definition_in, value_at, index_at, told_at, begun_at, added_at, indexed_at, is_nest, not_nestable, nestable, nest_in, nest_item_in, start, whole_items}

-- What is done with an item that is asked for: it is expanded; or it is tried, and the trial is settled with the mark that it has;
-- or a range is answered that begins with it and has so many items more.
pub data Answer : Type 0 where
  expands : Answer
  tries : ℕ → Answer
  answers : ℕ → Result (List Tree) Fault → Answer

-- That, and the state that asking leaves.
pub record Asked (S : Type 0) : Type 0 where
  pub answer : Answer
  pub state : S

abbrev pub Outcome : Type 0 → Type 0 → Type 0
Outcome S X = Result (X × S) (Fault × S)

abbrev pub state_of : {S X : Type 0} → Outcome S X → S
state_of (Ok v) = v.1
state_of (Err e) = e.1

-- What needs no state leaves it.
abbrev pub here : {S X : Type 0} → S → Result X Fault → Outcome S X
here s (Ok x) = Ok (x, s)
here s (Err f) = Err (f, s)

-- An item is expanded, and its outcome comes behind the items so far.
abbrev pub one : {S : Type 0} → (S → Outcome S Tree) → Bool → List Tree → S → Outcome S (List Tree)
one expand lists out s = expand s >>= (λ v. Ok (out ++ spliced lists v.0, v.1))

-- A trial is settled by the state that it leaves alone: it is kept, or what it came to is dropped and another state left.
abbrev pub settled_by : {S : Type 0} → Option S → Bool → List Tree → Outcome S Tree → Outcome S (List Tree × ℕ)
settled_by None lists out m = m >>= (λ v. Ok ((out ++ spliced lists v.0, 0), v.1))
settled_by (Some s) lists out m = Ok ((out, 0), s)

abbrev pub settled : {S : Type 0} → (S → Option S) → Bool → List Tree → Outcome S Tree → Outcome S (List Tree × ℕ)
settled settle lists out m = settled_by (settle (state_of m)) lists out m

abbrev pub given : {S : Type 0} → (S → Outcome S Tree) → (ℕ → S → Option S) → Bool → List Tree → Answer → S → Outcome S (List Tree × ℕ)
given expand settle lists out expands s = one expand lists out s >>= (λ v. Ok ((v.0, 0), v.1))
given expand settle lists out (tries mark) s = settled (settle mark) lists out (expand s)
given expand settle lists out (answers more d) s = here s d >>= (λ rs. Ok ((out ++ rs.0, more), rs.1))

-- The items so far with one more, and how many items behind it are answered with it.
abbrev pub turn : {S : Type 0} → (S → Outcome S Tree) → (ℕ → S → Option S) → Bool → ℕ → List Tree → Asked S → S → Outcome S (List Tree × ℕ)
turn expand settle lists (suc k) out asked s = Ok ((out, k), s)
turn expand settle lists zero out asked s = given expand settle lists out asked.answer asked.state

module _ (o : Options) where
  -- An entry whose value is expanded.
  abbrev pub value_over : {S : Type 0} → (At → S → Outcome S Tree) → Name → Option Definition → Text → Inside → Pairs → S → Outcome S Pairs
  value_over expand n d k e r s = do
    (_, s₁) ← here s (begun_at n k e r)
    (v, s₂) ← expand (value_at n k e) s₁
    here s₂ (added_at n d k v e r)

  abbrev pub indexes_added : {S : Type 0} → (Inside → List Tree → S → Outcome S (List Tree)) → Name → Option Definition → Text → Inside → Pairs → S → Outcome S Pairs
  indexes_added indexes n d k e r s = do
    (out, s₁) ← indexes e [] s
    here s₁ (added_at n d k (array (trees_of out)) e r)

  abbrev pub taken_over : {S : Type 0} → (At → S → Outcome S Tree) → (Inside → List Tree → S → Outcome S (List Tree)) → Task → Name → Option Definition → Text → Tree → Inside → Pairs → S → Outcome S Pairs
  taken_over expand indexes Tells n d k t e r s = here s (told_at n d k t e r)
  taken_over expand indexes Expands n d k t e r s = value_over expand n d k e r s
  taken_over expand indexes Indexes n d k t e r s = indexes_added indexes n d k e r s

  abbrev pub entry_named_over : {S : Type 0} → (At → S → Outcome S Tree) → (Inside → List Tree → S → Outcome S (List Tree)) → Name → Option Definition → Text → Tree → Inside → Pairs → S → Outcome S Pairs
  entry_named_over expand indexes n d k t e r s = taken_over expand indexes (task_of e.scope.property d n t) n d k t e r s

  unfoldable pub entry_over : {S : Type 0} → (At → S → Outcome S Tree) → (Inside → List Tree → S → Outcome S (List Tree)) → Text → Tree → Inside → Pairs → S → Outcome S Pairs
  entry_over expand indexes k t e r s = entry_named_over expand indexes (name_of e.scope.context.current k) (definition_in k e) k t e r s

  -- A value of a map of indexes.
  abbrev pub index_entry : {S : Type 0} → (At → S → Outcome S Tree) → Text → Text → Tree → Inside → List Tree → S → Outcome S (List Tree)
  index_entry expand i k t e out s = do
    (a, s₁) ← here s (index_at o i k e)
    (v, s₂) ← expand a s₁
    here s₂ (indexed_at i k t v a e out)

  -- The entries of a map, and then its nests.
  abbrev pub walk : {S : Type 0} → (Inside → Pairs → S → Outcome S Pairs) → (Inside → Pairs → S → Outcome S Pairs) → Pairs → Inside → S → Outcome S Pairs
  walk entries nests r e s = do
    (r₁, s₁) ← entries e r s
    nests e r₁ s₁

  -- A map under a nest.
  abbrev pub nest_walked : {S : Type 0} → (Inside → S → Outcome S Pairs) → Pairs → Text → Inside → Inside → S → Outcome S Pairs
  nest_walked walked ms k e below s = do
    (_, s₁) ← here s (nestable ms k e)
    walked below s₁

  -- A map.
  unfoldable pub node : {S : Type 0} → (Inside → S → Outcome S Pairs) → Pairs → At → S → Outcome S Tree
  node walked es a s = do
    (e, s₀) ← here s (entered_at o es a)
    (r, s₁) ← walked e s₀
    here s₁ (finished_at a r)

  module _ {S : Type 0} (ask : Trees → ℕ → At → S → Asked S) (settle : Trees → ℕ → At → ℕ → S → Option S) where
    abbrev mutual
      pub element_over : Tree → At → S → Outcome S Tree
      element_over null a s = Ok (null, s)
      element_over (truth b) a s = here s (scalar_at o (truth b) a)
      element_over (whole n) a s = here s (scalar_at o (whole n) a)
      element_over one_one a s = here s (scalar_at o one_one a)
      element_over (text t) a s = here s (scalar_at o (text t) a)
      element_over (array ts) a s = do
        (rs, s₁) ← items_over ts 0 0 a [] s
        Ok (array (trees_of rs), s₁)
      element_over (object ms) a s = node (walk (entries_over ms) (nests_over ms) []) (member_list ms) a s

      -- the items of an array, the first of which has this number, and the first so many are answered
      pub items_over : Trees → ℕ → ℕ → At → List Tree → S → Outcome S (List Tree)
      items_over no_trees k n a out s = Ok (out, s)
      items_over (tree t ts) k n a out s = do
        ((out′, k′), s′) ← turn (element_over t (item_at n a)) (settle (tree t ts) n a) (lists_at a) k out (ask (tree t ts) n a s) s
        items_over ts k′ (suc n) a out′ s′

      pub entries_over : Members → Inside → Pairs → S → Outcome S Pairs
      entries_over no_members e r s = Ok (r, s)
      entries_over (member k t ms) e r s = do
        (r′, s′) ← entry_over (element_over t) (indexes_over t k) k t e r s
        entries_over ms e r′ s′

      pub nests_over : Members → Inside → Pairs → S → Outcome S Pairs
      nests_over no_members e r s = Ok (r, s)
      nests_over (member k t ms) e r s = do
        (r′, s′) ← if is_nest k e then nested_over t k e r s else Ok (r, s)
        nests_over ms e r′ s′

      pub nested_over : Tree → Text → Inside → Pairs → S → Outcome S Pairs
      nested_over null k e r s = Ok (r, s)
      nested_over (array ts) k e r s = nest_items_over ts 0 k e r s
      nested_over (object ms) k e r s = nest_walked (walk (entries_over ms) (nests_over ms) r) (member_list ms) k e (nest_in k e) s
      nested_over _ k e r s = Err (not_nestable k e, s)

      pub nest_items_over : Trees → ℕ → Text → Inside → Pairs → S → Outcome S Pairs
      nest_items_over no_trees n k e r s = Ok (r, s)
      nest_items_over (tree t ts) n k e r s = do
        (r′, s′) ← nest_item_over t n k e r s
        nest_items_over ts (suc n) k e r′ s′

      pub nest_item_over : Tree → ℕ → Text → Inside → Pairs → S → Outcome S Pairs
      nest_item_over (object ms) n k e r s = nest_walked (walk (entries_over ms) (nests_over ms) r) (member_list ms) k e (nest_item_in n k e) s
      nest_item_over _ n k e r s = Err (not_nestable k e, s)

      pub indexes_over : Tree → Text → Inside → List Tree → S → Outcome S (List Tree)
      indexes_over (object ms) k e out s = index_entries_over ms k e out s
      indexes_over _ k e out s = Ok (out, s)

      pub index_entries_over : Members → Text → Inside → List Tree → S → Outcome S (List Tree)
      index_entries_over no_members k e out s = Ok (out, s)
      index_entries_over (member i t ms) k e out s = do
        (out′, s′) ← index_entry (element_over t) i k t e out s
        index_entries_over ms k e out′ s′

    abbrev pub walk_over : Members → Pairs → Inside → S → Outcome S Pairs
    walk_over ms r e s = walk (entries_over ms) (nests_over ms) r e s

    -- one item, one nest and one value of a map of indexes
    abbrev pub one_over : Tree → ℕ → At → List Tree → S → Outcome S (List Tree)
    one_over t n a out s = one (element_over t (item_at n a)) (lists_at a) out s

    abbrev pub tried_over : Trees → Tree → ℕ → ℕ → At → List Tree → S → Outcome S (List Tree × ℕ)
    tried_over rest t mark n a out s = settled (settle rest n a mark) (lists_at a) out (element_over t (item_at n a) s)

    abbrev pub turn_over : Trees → Tree → ℕ → ℕ → At → List Tree → S → Outcome S (List Tree × ℕ)
    turn_over rest t k n a out s = turn (element_over t (item_at n a)) (settle rest n a) (lists_at a) k out (ask rest n a s) s

    abbrev pub nest_over : Text → Tree → Inside → Pairs → S → Outcome S Pairs
    nest_over k t e r s = if is_nest k e then nested_over t k e r s else Ok (r, s)

    abbrev pub index_entry_over : Tree → Text → Text → Inside → List Tree → S → Outcome S (List Tree)
    index_entry_over t i k e out s = index_entry (element_over t) i k t e out s

    unfoldable pub document_over : Tree → S → Outcome S (List Tree)
    document_over t s = do
      (v, s₁) ← element_over t (start o) s
      Ok (whole_items v, s₁)
