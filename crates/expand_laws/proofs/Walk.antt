-- One induction over the value that is expanded, for whatever is kept of the results under way: the rules say how each step keeps it.
use Rattle.std.proofs.Common.{◌≡◌, ℕ, suc, List, [], ◌++◌, Bool, true, false, Option, Some, None, Result, Ok, Err, IfOk, refl, subst, codes, if◌then◌else◌}
use Rattle.ld_json.specs.declared.location.Step.{Step}
use Rattle.ld_model.specs.Tree.{Tree, null, truth, whole, one_one, text, array, object, Trees, no_trees, tree, Members, no_members, member, Pairs, trees_of, member_list, put}
use Rattle.case_tables.specs.declared.code.Code.{Code}
use Rattle.case_tables.specs.declared.keyword.Keyword.{Keyword as Word}
use Rattle.case_tables.specs.declared.keyword.Keyword.TheVariants as word
use Rattle.ctx_types.specs.Context.{Text, Definition, Settings}
use Rattle.expand_model.specs.declared.Name.{Name}
use Rattle.expand_model.specs.declared.Name.TheVariants.{Dropped, Keyword, Property}
use Rattle.expand_model.specs.declared.Task.{Task}
use Rattle.expand_model.specs.declared.Task.TheVariants.{Tells, Expands, Indexes}
use Rattle.expand_model.specs.Scope.{Options, Scope, MapScope, Fault, in_key, as_items, is_top, is_map, is_null}
use Rattle.expand_model.specs.Contexts.{in_map, is_left, typed, entered}
use Rattle.expand_model.specs.Entries.{name_of, keyword_task, property_task, task_of, under}
use Rattle.expand_model.specs.Keywords.{begun, keyword_begun, keyword_told, keyword_added, included_added, reverse_map_added}
use Rattle.expand_model.specs.Properties.{property_told, property_added}
use Rattle.expand_model.specs.Indexes.{has_lists, index_added}
use Rattle.expand_model.specs.Rules.{At, Inside, item_at, scalar_at, lists_at, spliced, entered_within, entered_at, finished_at, definition_in, value_at, index_at, begun_at, is_nest, nestable, nest_in, nest_item_in}
use Rattle.expand_model.specs.Expand.{taken, entry_named, entry, index_entry, element, items, entries, nests, nested, nest_items, nest_item, indexes, index_entries}
use Rattle.expand_laws.proofs.Steps.{after, after_any, of_located, if_cond}
use Rattle.expand_laws.proofs.Names.{HasColon, IsNamed, is_named}
use Rattle.expand_laws.proofs.TopEntries.{is_under_reverse, begun_forward}

-- the contexts leave the property as it is
abbrev SameProperty : Option Text → Inside → Type 0
SameProperty p e = e.scope.property ≡ p

scope_property : (o : Options) (es : Pairs) (a : Scope) → IfOk (entered o es a) (λ m. m.property ≡ a.property)
unfolding entered
scope_property o es a =
    after_any (λ m. m.property ≡ a.property) (in_map o a (is_left es a) _) _
    (λ types. after_any (λ m. m.property ≡ a.property) (typed o types es types) _ (λ c. refl))

within_property : (p : Option Text) (at : List Step) (r : Result MapScope Code) → IfOk r (λ m. m.property ≡ p) → IfOk (entered_within at r) (SameProperty p)
within_property p at (Ok m) same = same
within_property p at (Err c) same = tt

-- `Comes t p v`: the value t comes to v under p. `Out a out`: such are the items so far. `Draft p r`: such is the result of a map
-- so far. `Items out`: such are the items of a map of indexes so far.
module _ (o : Options) (Comes : Tree → Option Text → Tree → Type 0) (Out : At → List Tree → Type 0) (Draft : Option Text → Pairs → Type 0) (Items : List Tree → Type 0) where
  pub record Rules : Type 0 where
    -- values
    pub nothing : (p : Option Text) → Comes null p null
    pub scalars : (t : Tree) (a : At) → is_null t ≡ false → is_map t ≡ false → IfOk (scalar_at o t a) (Comes t a.scope.property)
    pub no_items : (a : At) → Out a []
    pub next_item : (t : Tree) (a : At) (out : List Tree) (v : Tree) → Comes t a.scope.property v → Out a out → Out a (out ++ spliced (lists_at a) v)
    pub arrays : (ts : Trees) (a : At) (rs : List Tree) → Out a rs → Comes (array ts) a.scope.property (array (trees_of rs))
    pub maps : (ms : Members) (a : At) (r : Pairs) → Draft a.scope.property r → IfOk (finished_at a r) (Comes (object ms) a.scope.property)
    -- entries
    pub no_entries : (p : Option Text) → Draft p []
    pub told : (p : Option Text) (c types : Settings) (json : Bool) (w : Word) (t : Tree) (r : Pairs) → Draft p r → IfOk (keyword_told c types json p w t r) (Draft p)
    pub graphs : (p : Option Text) (t v : Tree) (r : Pairs) → is_under_reverse p ≡ false → Comes t (Some (codes "@graph")) v → Draft p r → Draft p (put (codes "@graph") (array (trees_of (as_items v))) r)
    pub includes : (p : Option Text) (t v : Tree) (r : Pairs) → is_under_reverse p ≡ false → Comes t None v → Draft p r → IfOk (included_added v r) (Draft p)
    pub lists : (p : Option Text) (t v : Tree) (r : Pairs) → is_under_reverse p ≡ false → Comes t p v → Draft p r → Draft p (put (codes "@list") (array (trees_of (as_items v))) r)
    pub sets : (p : Option Text) (t v : Tree) (r : Pairs) → is_under_reverse p ≡ false → Comes t p v → Draft p r → Draft p (put (codes "@set") v r)
    pub reverses : (p : Option Text) (t v : Tree) (r : Pairs) → is_map t ≡ true → Comes t (Some (codes "@reverse")) v → Draft p r → IfOk (reverse_map_added v r) (Draft p)
    pub properties_told : (p : Option Text) (c : Settings) (d : Option Definition) (i : Text) (t : Tree) (r : Pairs) → HasColon i → Draft p r → IfOk (property_told c d i t r) (Draft p)
    pub properties : (p q : Option Text) (d : Option Definition) (i : Text) (t v : Tree) (r : Pairs) → HasColon i → Comes t q v → Draft p r → IfOk (property_added d i v r) (Draft p)
    pub indexed : (p : Option Text) (d : Option Definition) (i : Text) (out : List Tree) (r : Pairs) → HasColon i → Items out → Draft p r → IfOk (property_added d i (array (trees_of out)) r) (Draft p)
    -- maps of indexes
    pub no_indexes : Items []
    pub indexes : (c : Settings) (d : Option Definition) (l : Bool) (i : Text) (q : Option Text) (t v : Tree) (out : List Tree) → Comes t q v → Items out → IfOk (index_added c d l i t v out) Items

  module _ (rules_are : Rules) where
    abbrev Keeps : Inside → Result Pairs Fault → Type 0
    Keeps e r = IfOk r (Draft e.scope.property)

    module _ (t : Tree) (expand : At → Result Tree Fault) (values : Inside → List Tree → Result (List Tree) Fault) (comes : (a : At) → IfOk (expand a) (Comes t a.scope.property)) (items_come : (e : Inside) → IfOk (values e []) Items) where
      keyword_told_keeps : (w : Word) (d : Option Definition) (k : Text) (e : Inside) (r : Pairs) → Draft e.scope.property r → Keeps e (taken o expand values Tells (Keyword w) d k t e r)
      keyword_told_keeps w d k e r draft =
          of_located (Draft e.scope.property) (in_key k e.place) (keyword_told e.scope.context.current e.scope.types.current e.scope.json e.scope.property w t r)
          (rules_are.told e.scope.property e.scope.context.current e.scope.types.current e.scope.json w t r draft)

      -- a keyword whose value is expanded
      abbrev Adds : Word → Text → Inside → Pairs → Type 0
      Adds w k e r = is_under_reverse e.scope.property ≡ false → (v : Tree) → Comes t (value_at (Keyword w) k e).scope.property v → IfOk (keyword_added w v r) (Draft e.scope.property)

      keyword_value_keeps : (w : Word) (d : Option Definition) (k : Text) (e : Inside) (r : Pairs) → Adds w k e r → Keeps e (taken o expand values Expands (Keyword w) d k t e r)
      unfolding begun
      keyword_value_keeps w d k e r adds =
          after (λ _. is_under_reverse e.scope.property ≡ false) (Draft e.scope.property) (begun_at (Keyword w) k e r) _
          (of_located (λ _. is_under_reverse e.scope.property ≡ false) (in_key k e.place) (keyword_begun e.scope.property w r) (begun_forward e.scope.property w r))
          (λ _ forward. after (Comes t (value_at (Keyword w) k e).scope.property) (Draft e.scope.property) (expand (value_at (Keyword w) k e)) _ (comes (value_at (Keyword w) k e))
          (λ v come. of_located (Draft e.scope.property) (in_key k e.place) (keyword_added w v r) (adds forward v come)))

      graph_keeps : (k : Text) (e : Inside) (r : Pairs) → Draft e.scope.property r → Adds word.Graph k e r
      unfolding keyword_added under
      graph_keeps k e r draft forward v come = rules_are.graphs e.scope.property t v r forward come draft

      included_keeps : (k : Text) (e : Inside) (r : Pairs) → Draft e.scope.property r → Adds word.Included k e r
      unfolding keyword_added under
      included_keeps k e r draft forward v come = rules_are.includes e.scope.property t v r forward come draft

      list_keeps : (k : Text) (e : Inside) (r : Pairs) → Draft e.scope.property r → Adds word.List k e r
      unfolding keyword_added under
      list_keeps k e r draft forward v come = rules_are.lists e.scope.property t v r forward come draft

      set_keeps : (k : Text) (e : Inside) (r : Pairs) → Draft e.scope.property r → Adds word.Set k e r
      unfolding keyword_added under
      set_keeps k e r draft forward v come = rules_are.sets e.scope.property t v r forward come draft

      reverse_keeps : (k : Text) (e : Inside) (r : Pairs) → is_map t ≡ true → Draft e.scope.property r → Adds word.Reverse k e r
      unfolding keyword_added under
      reverse_keeps k e r map draft forward v come = rules_are.reverses e.scope.property t v r map come draft

      keyword_keeps : (w : Word) (d : Option Definition) (k : Text) (e : Inside) (r : Pairs) → Draft e.scope.property r → Keeps e (taken o expand values (keyword_task e.scope.property w t) (Keyword w) d k t e r)
      keyword_keeps word.Graph d k e r draft = keyword_value_keeps word.Graph d k e r (graph_keeps k e r draft)
      keyword_keeps word.Included d k e r draft = keyword_value_keeps word.Included d k e r (included_keeps k e r draft)
      keyword_keeps word.Set d k e r draft = keyword_value_keeps word.Set d k e r (set_keeps k e r draft)
      keyword_keeps word.List d k e r draft = by (is_top e.scope.property)
        where
          by : (b : Bool) → Keeps e (taken o expand values (if b then Tells else Expands) (Keyword word.List) d k t e r)
          by true = keyword_told_keeps word.List d k e r draft
          by false = keyword_value_keeps word.List d k e r (list_keeps k e r draft)
      keyword_keeps word.Reverse d k e r draft = by (is_map t) refl
        where
          by : (b : Bool) → is_map t ≡ b → Keeps e (taken o expand values (if b then Expands else Tells) (Keyword word.Reverse) d k t e r)
          by true map = keyword_value_keeps word.Reverse d k e r (reverse_keeps k e r map draft)
          by false none = keyword_told_keeps word.Reverse d k e r draft
      keyword_keeps w d k e r draft = keyword_told_keeps w d k e r draft

      property_keeps : (task : Task) (i : Text) (d : Option Definition) (k : Text) (e : Inside) (r : Pairs) → HasColon i → Draft e.scope.property r → Keeps e (taken o expand values task (Property i) d k t e r)
      property_keeps Tells i d k e r has draft =
          of_located (Draft e.scope.property) (in_key k e.place) (property_told e.scope.context.current d i t r) (rules_are.properties_told e.scope.property e.scope.context.current d i t r has draft)
      property_keeps Expands i d k e r has draft =
          let a : At = value_at (Property i) k e in
          after_any (Draft e.scope.property) (begun_at (Property i) k e r) _
          (λ _. after (Comes t a.scope.property) (Draft e.scope.property) (expand a) _ (comes a)
          (λ v come. of_located (Draft e.scope.property) (in_key k e.place) (property_added d i v r) (rules_are.properties e.scope.property a.scope.property d i t v r has come draft)))
      property_keeps Indexes i d k e r has draft =
          after Items (Draft e.scope.property) (values e []) _ (items_come e)
          (λ out all. of_located (Draft e.scope.property) (in_key k e.place) (property_added d i (array (trees_of out)) r) (rules_are.indexed e.scope.property d i out r has all draft))

      named_keeps : (n : Name) (d : Option Definition) (k : Text) (e : Inside) (r : Pairs) → IsNamed n → Draft e.scope.property r → Keeps e (entry_named o expand values n d k t e r)
      unfolding task_of
      named_keeps Dropped d k e r is draft = draft
      named_keeps (Keyword w) d k e r is draft = keyword_keeps w d k e r draft
      named_keeps (Property i) d k e r is draft = property_keeps (property_task d t) i d k e r is draft

      entry_keeps : (k : Text) (e : Inside) (r : Pairs) → Draft e.scope.property r → Keeps e (entry o expand values k t e r)
      unfolding entry
      entry_keeps k e r draft = named_keeps (name_of e.scope.context.current k) (definition_in k e) k e r (is_named e.scope.context.current k) draft

      -- a value of a map of indexes
      index_keeps : (i k : Text) (e : Inside) (out : List Tree) → Items out → IfOk (index_entry o expand i k t e out) Items
      index_keeps i k e out all =
          after_any Items (index_at o i k e) _
          (λ a. after (Comes t a.scope.property) Items (expand a) _ (comes a)
          (λ v come. of_located Items (in_key k e.place) (index_added e.scope.context.current (definition_in k e) (has_lists a.scope) i t v out)
          (rules_are.indexes e.scope.context.current (definition_in k e) (has_lists a.scope) i a.scope.property t v out come all)))

    mutual
      pub element_comes : (t : Tree) (a : At) → IfOk (element o t a) (Comes t a.scope.property)
      element_comes null a = rules_are.nothing a.scope.property
      element_comes (truth b) a = rules_are.scalars (truth b) a refl refl
      element_comes (whole n) a = rules_are.scalars (whole n) a refl refl
      element_comes one_one a = rules_are.scalars one_one a refl refl
      element_comes (text s) a = rules_are.scalars (text s) a refl refl
      element_comes (array ts) a =
          after (Out a) (Comes (array ts) a.scope.property) (items o ts 0 a []) _ (items_come ts 0 a [] (rules_are.no_items a)) (λ rs out. rules_are.arrays ts a rs out)
      element_comes (object ms) a =
          after (SameProperty a.scope.property) (Comes (object ms) a.scope.property) (entered_at o (member_list ms) a) _
          (within_property a.scope.property a.place (entered o (member_list ms) a.scope) (scope_property o (member_list ms) a.scope))
          (λ e same. after (Draft e.scope.property) (Comes (object ms) a.scope.property) (entries o ms e []) _ (entries_keep ms e [] (rules_are.no_entries e.scope.property))
          (λ r₁ d₁. after (Draft e.scope.property) (Comes (object ms) a.scope.property) (nests o ms e r₁) _ (nests_keep ms e r₁ d₁)
          (λ r₂ d₂. rules_are.maps ms a r₂ (subst (λ p. Draft p r₂) same d₂))))

      items_come : (ts : Trees) (n : ℕ) (a : At) (out : List Tree) → Out a out → IfOk (items o ts n a out) (Out a)
      items_come no_trees n a out are = are
      items_come (tree t ts) n a out are =
          after (Comes t a.scope.property) (Out a) (element o t (item_at n a)) _ (element_comes t (item_at n a))
          (λ v come. items_come ts (suc n) a (out ++ spliced (lists_at a) v) (rules_are.next_item t a out v come are))

      entries_keep : (ms : Members) (e : Inside) (r : Pairs) → Draft e.scope.property r → Keeps e (entries o ms e r)
      entries_keep no_members e r draft = draft
      entries_keep (member k t ms) e r draft =
          after (Draft e.scope.property) (Draft e.scope.property) (entry o (element o t) (indexes o t k) k t e r) _
          (entry_keeps t (element o t) (indexes o t k) (λ a. element_comes t a) (λ e. indexes_come t k e [] rules_are.no_indexes) k e r draft)
          (λ r₁ d₁. entries_keep ms e r₁ d₁)

      nests_keep : (ms : Members) (e : Inside) (r : Pairs) → Draft e.scope.property r → Keeps e (nests o ms e r)
      nests_keep no_members e r draft = draft
      nests_keep (member k t ms) e r draft =
          after (Draft e.scope.property) (Draft e.scope.property) (if is_nest k e then nested o t k e r else Ok r) _
          (if_cond (Draft e.scope.property) (is_nest k e) (nested o t k e r) (Ok r) (nested_keeps t k e r draft) draft)
          (λ r₁ d₁. nests_keep ms e r₁ d₁)

      nested_keeps : (t : Tree) (k : Text) (e : Inside) (r : Pairs) → Draft e.scope.property r → Keeps e (nested o t k e r)
      nested_keeps null k e r draft = draft
      nested_keeps (array ts) k e r draft = nest_items_keep ts 0 k e r draft
      nested_keeps (object ms) k e r draft =
          after_any (Draft e.scope.property) (nestable (member_list ms) k e) _
          (λ _. after (Draft e.scope.property) (Draft e.scope.property) (entries o ms (nest_in k e) r) _ (entries_keep ms (nest_in k e) r draft)
          (λ r₁ d₁. nests_keep ms (nest_in k e) r₁ d₁))
      nested_keeps (truth b) k e r draft = tt
      nested_keeps (whole n) k e r draft = tt
      nested_keeps one_one k e r draft = tt
      nested_keeps (text s) k e r draft = tt

      nest_items_keep : (ts : Trees) (n : ℕ) (k : Text) (e : Inside) (r : Pairs) → Draft e.scope.property r → Keeps e (nest_items o ts n k e r)
      nest_items_keep no_trees n k e r draft = draft
      nest_items_keep (tree t ts) n k e r draft =
          after (Draft e.scope.property) (Draft e.scope.property) (nest_item o t n k e r) _ (nest_item_keeps t n k e r draft)
          (λ r₁ d₁. nest_items_keep ts (suc n) k e r₁ d₁)

      nest_item_keeps : (t : Tree) (n : ℕ) (k : Text) (e : Inside) (r : Pairs) → Draft e.scope.property r → Keeps e (nest_item o t n k e r)
      nest_item_keeps (object ms) n k e r draft =
          after_any (Draft e.scope.property) (nestable (member_list ms) k e) _
          (λ _. after (Draft e.scope.property) (Draft e.scope.property) (entries o ms (nest_item_in n k e) r) _ (entries_keep ms (nest_item_in n k e) r draft)
          (λ r₁ d₁. nests_keep ms (nest_item_in n k e) r₁ d₁))
      nest_item_keeps null n k e r draft = tt
      nest_item_keeps (array ts) n k e r draft = tt
      nest_item_keeps (truth b) n k e r draft = tt
      nest_item_keeps (whole m) n k e r draft = tt
      nest_item_keeps one_one n k e r draft = tt
      nest_item_keeps (text s) n k e r draft = tt

      indexes_come : (t : Tree) (k : Text) (e : Inside) (out : List Tree) → Items out → IfOk (indexes o t k e out) Items
      indexes_come (object ms) k e out all = index_entries_come ms k e out all
      indexes_come null k e out all = all
      indexes_come (array ts) k e out all = all
      indexes_come (truth b) k e out all = all
      indexes_come (whole n) k e out all = all
      indexes_come one_one k e out all = all
      indexes_come (text s) k e out all = all

      index_entries_come : (ms : Members) (k : Text) (e : Inside) (out : List Tree) → Items out → IfOk (index_entries o ms k e out) Items
      index_entries_come no_members k e out all = all
      index_entries_come (member i t ms) k e out all =
          after Items Items (index_entry o (element o t) i k t e out) _
          (index_keeps t (element o t) (indexes o t k) (λ a. element_comes t a) (λ e. indexes_come t k e [] rules_are.no_indexes) i k e out all)
          (λ out₁ all₁. index_entries_come ms k e out₁ all₁)
