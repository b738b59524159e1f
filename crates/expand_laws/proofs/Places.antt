-- Where a value stands says where its error is, and nothing else: an induction over the value that is expanded.
use Rattle.std.proofs.Common.{◌≡◌, ℕ, suc, List, [], ◌∷◌, ◌++◌, Bool, true, false, not, Option, Result, Ok, Err, refl, ap, ◌∙◌, codes, if◌then◌else◌}
use Rattle.std.proofs.lemmas.List.{append_assoc}
use Rattle.ld_json.specs.declared.location.Step.{Step}
use Rattle.ld_json.specs.declared.location.Step.TheVariants.{Key, Item}
use Rattle.ld_model.specs.Tree.{Tree, null, truth, whole, one_one, text, array, object, Trees, no_trees, tree, Members, no_members, member, Pairs, trees_of, member_list}
use Rattle.case_tables.specs.declared.code.Code.{Code}
use Rattle.case_tables.specs.declared.code.Code.TheVariants as code
use Rattle.ctx_types.specs.Context.{Text, Definition, Context}
use Rattle.ctx_model.specs.Outcome.{unless}
use Rattle.expand_model.specs.declared.Name.{Name}
use Rattle.expand_model.specs.declared.Task.{Task}
use Rattle.expand_model.specs.declared.Task.TheVariants.{Tells, Expands, Indexes}
use Rattle.expand_model.specs.Scope.{Options, Scope, MapScope, Fault, located, in_key, has_key}
use Rattle.expand_model.specs.Contexts.{entered}
use Rattle.expand_model.specs.Entries.{name_of, task_of}
use Rattle.expand_model.specs.Keywords.{begun}
use Rattle.expand_model.specs.Indexes.{index_context, index_under, has_lists, index_added}
use Rattle.expand_model.specs.Rules.{◌>>=◌, At, Inside, item_at, scalar, scalar_at, lists_at, spliced, entered_within, finished, definition_in, value_at, told, begun_at, added, index_within, indexed_at, is_nest, not_nestable, nestable, nest_in, nest_item_in}
use Rattle.expand_model.specs.Expand.{taken, entry, index_entry, element, items, entries, nests, nested, nest_items, nest_item, indexes, index_entries}

module _ (p : List Step) where
  -- an error, at a place within this one
  abbrev pub within : {X : Type 0} → Result X Fault → Result X Fault
  within (Ok x) = Ok x
  within (Err f) = Err (record { code = f.code; place = p ++ f.place })

  abbrev pub moved : At → At
  moved a = record { scope = a.scope; place = p ++ a.place }

  abbrev pub moved_in : Inside → Inside
  moved_in e = record { scope = e.scope; place = p ++ e.place }

  located_within : {X : Type 0} (q : List Step) (r : Result X Code) → located (p ++ q) r ≡ within (located q r)
  located_within q (Ok x) = refl
  located_within q (Err c) = refl

  key_within : {X : Type 0} (k : Text) (q : List Step) (r : Result X Code) → located (in_key k (p ++ q)) r ≡ within (located (in_key k q) r)
  key_within k q r = ap (λ q. located q r) (append_assoc p q (Key k ∷ [])) ∙ located_within (in_key k q) r

  bind_within : {A B : Type 0} (r₁ r : Result A Fault) (h₁ h : A → Result B Fault) → r₁ ≡ within r → ((a : A) → h₁ a ≡ within (h a)) → (r₁ >>= h₁) ≡ within (r >>= h)
  bind_within {A = A} r₁ r h₁ h same next = ap (λ r. r >>= h₁) same ∙ by r
    where
      by : (r : Result A Fault) → (within r >>= h₁) ≡ within (r >>= h)
      by (Ok a) = next a
      by (Err f) = refl

  if_within : {X : Type 0} (b : Bool) (x₁ x : Result X Fault) (y : X) → x₁ ≡ within x → (if b then x₁ else Ok y) ≡ within (if b then x else Ok y)
  if_within true x₁ x y same = same
  if_within false x₁ x y same = refl

  -- the contexts of a map
  entered_moved : {B : Type 0} (q : List Step) (r : Result MapScope Code) (h₁ h : Inside → Result B Fault) → ((e : Inside) → h₁ (moved_in e) ≡ within (h e)) → (entered_within (p ++ q) r >>= h₁) ≡ within (entered_within q r >>= h)
  entered_moved q (Ok m) h₁ h next = next (record { scope = m; place = q })
  entered_moved q (Err c) h₁ h next = refl

  module _ (o : Options) where
    -- a value is expanded at another place
    abbrev Moves : (At → Result Tree Fault) → Type 0
    Moves expand = (a : At) → expand (moved a) ≡ within (expand a)

    abbrev MovesAll : (Inside → List Tree → Result (List Tree) Fault) → Type 0
    MovesAll values = (e : Inside) (out : List Tree) → values (moved_in e) out ≡ within (values e out)

    module _ (expand : At → Result Tree Fault) (moves : Moves expand) where
      expand_moved : (s : Scope) (q₁ q : List Step) → q₁ ≡ p ++ q → expand (record { scope = s; place = q₁ }) ≡ within (expand (record { scope = s; place = q }))
      expand_moved s q₁ q same = ap (λ q. expand (record { scope = s; place = q })) same ∙ moves (record { scope = s; place = q })

      taken_moved : (values : Inside → List Tree → Result (List Tree) Fault) → MovesAll values → (task : Task) (n : Name) (d : Option Definition) (k : Text) (t : Tree) (e : Inside) (r : Pairs) → taken o expand values task n d k t (moved_in e) r ≡ within (taken o expand values task n d k t e r)
      taken_moved values all Tells n d k t e r = key_within k e.place (told n d t e.scope r)
      taken_moved values all Expands n d k t e r =
          bind_within _ (begun_at n k e r) _ _ (key_within k e.place (begun e.scope.property n r))
          (λ _. bind_within _ (expand (value_at n k e)) _ _ (expand_moved (value_at n k e).scope (in_key k (p ++ e.place)) (in_key k e.place) (append_assoc p e.place (Key k ∷ [])))
          (λ v. key_within k e.place (added n d v r)))
      taken_moved values all Indexes n d k t e r =
          bind_within _ (values e []) _ _ (all e []) (λ out. key_within k e.place (added n d (array (trees_of out)) r))

      entry_moved : (values : Inside → List Tree → Result (List Tree) Fault) → MovesAll values → (k : Text) (t : Tree) (e : Inside) (r : Pairs) → entry o expand values k t (moved_in e) r ≡ within (entry o expand values k t e r)
      unfolding entry
      entry_moved values all k t e r =
          taken_moved values all (task_of e.scope.property (definition_in k e) (name_of e.scope.context.current k) t) (name_of e.scope.context.current k) (definition_in k e) k t e r

      index_moved : (i k : Text) (t : Tree) (e : Inside) (out : List Tree) → index_entry o expand i k t (moved_in e) out ≡ within (index_entry o expand i k t e out)
      index_moved i k t e out = by (index_context o (definition_in k e) i e.scope.context)
        where
          place : in_key i (in_key k (p ++ e.place)) ≡ p ++ in_key i (in_key k e.place)
          place = ap (λ q. q ++ Key i ∷ []) (append_assoc p e.place (Key k ∷ [])) ∙ append_assoc p (in_key k e.place) (Key i ∷ [])

          by : (r : Result Context Code) → (index_within k (in_key i (in_key k (p ++ e.place))) (p ++ e.place) r >>= (λ a. expand a >>= (λ v. indexed_at i k t v a (moved_in e) out))) ≡ within (index_within k (in_key i (in_key k e.place)) e.place r >>= (λ a. expand a >>= (λ v. indexed_at i k t v a e out)))
          by (Ok c) =
              bind_within _ (expand (record { scope = index_under c k; place = in_key i (in_key k e.place) })) _ _ (expand_moved (index_under c k) (in_key i (in_key k (p ++ e.place))) (in_key i (in_key k e.place)) place)
              (λ v. key_within k e.place (index_added e.scope.context.current (definition_in k e) (has_lists (index_under c k)) i t v out))
          by (Err x) = refl

    scalar_moved : (t : Tree) (a : At) → scalar_at o t (moved a) ≡ within (scalar_at o t a)
    scalar_moved t a = located_within a.place (scalar o t a.scope)

    abbrev refused : Text → Inside → Result Pairs Fault
    refused k e = Err (not_nestable k e)

    not_moved : (k : Text) (e : Inside) (r : Pairs) → refused k (moved_in e) ≡ within (refused k e)
    not_moved k e r = ap (λ q. Err (record { code = code.InvalidNestValue; place = q })) (append_assoc p e.place (Key k ∷ []))

    nestable_moved : (ms : Pairs) (k : Text) (e : Inside) → nestable ms k (moved_in e) ≡ within (nestable ms k e)
    nestable_moved ms k e = key_within k e.place (unless (not (has_key e.scope.context.current (codes "@value") ms)) code.InvalidNestValue)

    mutual
      pub element_moved : (t : Tree) (a : At) → element o t (moved a) ≡ within (element o t a)
      element_moved null a = refl
      element_moved (truth b) a = scalar_moved (truth b) a
      element_moved (whole n) a = scalar_moved (whole n) a
      element_moved one_one a = scalar_moved one_one a
      element_moved (text s) a = scalar_moved (text s) a
      element_moved (array ts) a = bind_within _ (items o ts 0 a []) _ _ (items_moved ts 0 a []) (λ rs. refl)
      element_moved (object ms) a =
          entered_moved a.place (entered o (member_list ms) a.scope) _ _
          (λ e. bind_within _ (entries o ms e []) _ _ (entries_moved ms e [])
          (λ r₁. bind_within _ (nests o ms e r₁) _ _ (nests_moved ms e r₁)
          (λ r₂. located_within a.place (finished r₂ a.scope.property))))

      items_moved : (ts : Trees) (n : ℕ) (a : At) (out : List Tree) → items o ts n (moved a) out ≡ within (items o ts n a out)
      items_moved no_trees n a out = refl
      items_moved (tree t ts) n a out =
          bind_within _ (element o t (item_at n a)) _ _
          (ap (λ q. element o t (record { scope = a.scope; place = q })) (append_assoc p a.place (Item n ∷ [])) ∙ element_moved t (item_at n a))
          (λ v. items_moved ts (suc n) a (out ++ spliced (lists_at a) v))

      entries_moved : (ms : Members) (e : Inside) (r : Pairs) → entries o ms (moved_in e) r ≡ within (entries o ms e r)
      entries_moved no_members e r = refl
      entries_moved (member k t ms) e r =
          bind_within _ (entry o (element o t) (indexes o t k) k t e r) _ _
          (entry_moved (element o t) (λ a. element_moved t a) (indexes o t k) (λ e out. indexes_moved t k e out) k t e r)
          (λ r₁. entries_moved ms e r₁)

      nests_moved : (ms : Members) (e : Inside) (r : Pairs) → nests o ms (moved_in e) r ≡ within (nests o ms e r)
      nests_moved no_members e r = refl
      nests_moved (member k t ms) e r =
          bind_within _ (if is_nest k e then nested o t k e r else Ok r) _ _ (if_within (is_nest k e) (nested o t k (moved_in e) r) (nested o t k e r) r (nested_moved t k e r))
          (λ r₁. nests_moved ms e r₁)

      nested_moved : (t : Tree) (k : Text) (e : Inside) (r : Pairs) → nested o t k (moved_in e) r ≡ within (nested o t k e r)
      nested_moved null k e r = refl
      nested_moved (array ts) k e r = nest_items_moved ts 0 k e r
      nested_moved (object ms) k e r =
          let place = append_assoc p e.place (Key k ∷ []) in
          bind_within _ (nestable (member_list ms) k e) _ _ (nestable_moved (member_list ms) k e)
          (λ _. bind_within _ (entries o ms (nest_in k e) r) _ _
          (ap (λ q. entries o ms (record { scope = e.scope; place = q }) r) place ∙ entries_moved ms (nest_in k e) r)
          (λ r₁. ap (λ q. nests o ms (record { scope = e.scope; place = q }) r₁) place ∙ nests_moved ms (nest_in k e) r₁))
      nested_moved (truth b) k e r = not_moved k e r
      nested_moved (whole n) k e r = not_moved k e r
      nested_moved one_one k e r = not_moved k e r
      nested_moved (text s) k e r = not_moved k e r

      nest_items_moved : (ts : Trees) (n : ℕ) (k : Text) (e : Inside) (r : Pairs) → nest_items o ts n k (moved_in e) r ≡ within (nest_items o ts n k e r)
      nest_items_moved no_trees n k e r = refl
      nest_items_moved (tree t ts) n k e r = bind_within _ (nest_item o t n k e r) _ _ (nest_item_moved t n k e r) (λ r₁. nest_items_moved ts (suc n) k e r₁)

      nest_item_moved : (t : Tree) (n : ℕ) (k : Text) (e : Inside) (r : Pairs) → nest_item o t n k (moved_in e) r ≡ within (nest_item o t n k e r)
      nest_item_moved (object ms) n k e r =
          let place = ap (λ q. q ++ Item n ∷ []) (append_assoc p e.place (Key k ∷ [])) ∙ append_assoc p (in_key k e.place) (Item n ∷ []) in
          bind_within _ (nestable (member_list ms) k e) _ _ (nestable_moved (member_list ms) k e)
          (λ _. bind_within _ (entries o ms (nest_item_in n k e) r) _ _
          (ap (λ q. entries o ms (record { scope = e.scope; place = q }) r) place ∙ entries_moved ms (nest_item_in n k e) r)
          (λ r₁. ap (λ q. nests o ms (record { scope = e.scope; place = q }) r₁) place ∙ nests_moved ms (nest_item_in n k e) r₁))
      nest_item_moved null n k e r = not_moved k e r
      nest_item_moved (array ts) n k e r = not_moved k e r
      nest_item_moved (truth b) n k e r = not_moved k e r
      nest_item_moved (whole m) n k e r = not_moved k e r
      nest_item_moved one_one n k e r = not_moved k e r
      nest_item_moved (text s) n k e r = not_moved k e r

      indexes_moved : (t : Tree) (k : Text) (e : Inside) (out : List Tree) → indexes o t k (moved_in e) out ≡ within (indexes o t k e out)
      indexes_moved (object ms) k e out = index_entries_moved ms k e out
      indexes_moved null k e out = refl
      indexes_moved (array ts) k e out = refl
      indexes_moved (truth b) k e out = refl
      indexes_moved (whole n) k e out = refl
      indexes_moved one_one k e out = refl
      indexes_moved (text s) k e out = refl

      index_entries_moved : (ms : Members) (k : Text) (e : Inside) (out : List Tree) → index_entries o ms k (moved_in e) out ≡ within (index_entries o ms k e out)
      index_entries_moved no_members k e out = refl
      index_entries_moved (member i t ms) k e out =
          bind_within _ (index_entry o (element o t) i k t e out) _ _ (index_moved (element o t) (λ a. element_moved t a) i k t e out) (λ out₁. index_entries_moved ms k e out₁)
