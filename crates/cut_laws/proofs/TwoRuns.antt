-- One induction over two runs of expansion, for whatever relates them: the rules say how each step keeps it. Each run has its own way of asking
-- for items, and its own state.
use Rattle.std.proofs.Common.{inl, inr, ℕ, suc, ◌≡◌, List, [], Bool, true, false, Option, None, Some, Result, Ok, Err, refl, sym, ap, ◌∙◌, subst, arith, codes}
use Rattle.std.specs.Prelude.{if◌then◌else◌}
use Rattle.std.specs.Str.{bytes_eq}
use Rattle.ld_json.specs.declared.location.Step.{Step}
use Rattle.ld_json.specs.declared.location.Step.TheVariants.{Key, Item}
use Rattle.ld_model.specs.Tree.{Tree, Trees, Members, Pairs, null, truth, whole, one_one, text, array, object, no_trees, tree, no_members, member, trees_of, member_list}
use Rattle.ld_model.proofs.Puts.{bytes_eq-exact}
use Rattle.case_tables.specs.declared.code.Code.{Code}
use Rattle.ctx_types.specs.Context.{Text, Definition, Context}
use Rattle.ctx_types.specs.Expansion.{expand_iri}
use Rattle.ctx_model.specs.Words.{same_text}
use Rattle.expand_model.specs.declared.Name.{Name}
use Rattle.expand_model.specs.declared.Name.TheVariants.{Dropped}
use Rattle.expand_model.specs.declared.Task.{Task}
use Rattle.expand_model.specs.declared.Task.TheVariants.{Tells, Expands, Indexes}
use Rattle.expand_model.specs.Scope.{Options, MapScope, Fault, in_key, in_item}
use Rattle.expand_model.specs.Contexts.{entered}
use Rattle.expand_model.specs.Indexes.{index_context}
use Rattle.expand_model.specs.Entries.{name_by, name_of, task_of}
use Rattle.expand_model.specs.Rules.{At, Inside, ◌>>=◌, item_at, scalar_at, entered_within, entered_at, finished_at, definition_in, value_at, index_within, index_at, told_at, begun_at, added_at, indexed_at, is_nest, not_nestable, nestable, nest_in, nest_item_in, start, whole_items}
use Rattle.expand_model.specs.Over as over
use Rattle.expand_model.specs.Over.{Asked, Outcome, here, value_over, indexes_added, taken_over, entry_named_over, entry_over, walk, nest_walked, node, walk_over, element_over, items_over, entries_over, nests_over, nested_over, nest_items_over, nest_item_over, indexes_over, index_entries_over, document_over}
use Rattle.cut_laws.proofs.Regions.{Region, Cone, Nothing, Either, Every, Is, Later, Entry, Entries, Keys, wider, deeper, all_of}

-- A nest is only told among the entries.
is_word : (x : Option Text) (w : Text) → same_text x (Some w) ≡ true → x ≡ Some w
is_word None w same = cc
is_word (Some t) w same = ap (λ u. Some u) (bytes_eq-exact t w same)

nest_named : (p : Option Text) (d : Option Definition) (t : Tree) (b : Bool) → task_of p d (if b then Dropped else name_by (Some (codes "@nest"))) t ≡ Tells
unfolding task_of
nest_named p d t true = refl
nest_named p d t false = refl

nest_tells : (k : Text) (t : Tree) (e : Inside) → is_nest k e ≡ true → task_of e.scope.property (definition_in k e) (name_of e.scope.context.current k) t ≡ Tells
unfolding name_of
nest_tells k t e is =
    ap (λ x. task_of e.scope.property (definition_in k e) (if bytes_eq k (codes "@context") then Dropped else name_by x) t) (is_word (expand_iri e.scope.context.current false true k) (codes "@nest") is)
    ∙ nest_named e.scope.property (definition_in k e) t (bytes_eq k (codes "@context"))

-- What expansion goes to stands at these places.
abbrev pub fine : {X : Type 0} → X → Result X Fault
fine x = Ok x

place_in : List Step → Result Inside Fault → List Step
place_in p (Ok e) = e.place
place_in p (Err f) = p

entered_place : (o : Options) (es : Pairs) (a : At) (e : Inside) → entered_at o es a ≡ Ok e → e.place ≡ a.place
unfolding place_in
entered_place o es a e is = sym (ap (place_in a.place) is) ∙ by (entered o es a.scope)
  where
    by : (r : Result MapScope Code) → place_in a.place (entered_within a.place r) ≡ a.place
    by (Ok m) = refl
    by (Err c) = refl

place_at : List Step → Result At Fault → List Step
place_at p (Ok a) = a.place
place_at p (Err f) = p

index_place : (o : Options) (i k : Text) (e : Inside) (a : At) → index_at o i k e ≡ Ok a → a.place ≡ in_key i (in_key k e.place)
unfolding place_at
index_place o i k e a is = sym (ap (place_at (in_key i (in_key k e.place))) is) ∙ by (index_context o (definition_in k e) i e.scope.context)
  where
    by : (r : Result Context Code) → place_at (in_key i (in_key k e.place)) (index_within k (in_key i (in_key k e.place)) e.place r) ≡ in_key i (in_key k e.place)
    by (Ok c) = refl
    by (Err x) = refl

-- the region of the first of several, and that of the others, in the region of all
pub only_left : (Q : Region) (q : List Step) → Either Q Nothing q → Q q
only_left Q q (inl h) = h
only_left Q q (inr h) = absurd h

only_right : (Q : Region) (q : List Step) → Either Nothing Q q → Q q
only_right Q q (inl h) = absurd h
only_right Q q (inr h) = h

joined : (b : Bool) (e : Inside) (k : Text) (t : Tree) (ms : Members) (q : List Step) → Either (Cone e.place (Entry b e k)) (Cone e.place (Entries b e ms)) q → Cone e.place (Entries b e (member k t ms)) q
joined b e k t ms q (inl h) = wider e.place (Entry b e k) (Entries b e (member k t ms)) (λ x a. inl a) q h
joined b e k t ms q (inr h) = wider e.place (Entries b e ms) (Entries b e (member k t ms)) (λ x a. inr a) q h

keys_joined : (p : List Step) (i : Text) (t : Tree) (ms : Members) (q : List Step) → Either (Cone p (Is (Key i))) (Cone p (Keys ms)) q → Cone p (Keys (member i t ms)) q
keys_joined p i t ms q (inl h) = wider p (Is (Key i)) (Keys (member i t ms)) (λ x a. inl a) q h
keys_joined p i t ms q (inr h) = wider p (Keys ms) (Keys (member i t ms)) (λ x a. inr a) q h

pub items_joined : (p : List Step) (n : ℕ) (q : List Step) → Either (Cone p (Is (Item n))) (Cone p (Later (suc n))) q → Cone p (Later n) q
items_joined p n q (inl h) = wider p (Is (Item n)) (Later n) (λ x a. (n, omega arith, a)) q h
items_joined p n q (inr h) = wider p (Later (suc n)) (Later n) (λ x a. let b = a.1 in (a.0, omega arith, a.2)) q h

-- `Alike X x x′`: the values that the runs have at one point may be these. `Beside X Q s l m m′`: from these states the first run came to m, and
-- the second one to m′, in this region of the document. `ItemsBeside ts n a`: so it is of these items, the first of which has this number, of an
-- array that is expanded with this. `Apart Q R`: the regions are apart. The last three say what is known of a value by its place, of items by
-- the place of their array and the number of the first, and of the values of a map by its place.
module _ (o : Options) {S L : Type 0} (ask : Trees → ℕ → At → S → Asked S) (settle : Trees → ℕ → At → ℕ → S → Option S) (ask′ : Trees → ℕ → At → L → Asked L) (settle′ : Trees → ℕ → At → ℕ → L → Option L)
    (Alike : (X : Type 0) → X → X → Type 0) (Apart : Region → Region → Type 0) (Beside : (X : Type 0) → Region → S → L → Outcome S X → Outcome L X → Type 0) (ItemsBeside : Trees → ℕ → At → Type 0)
    (Known : List Step → Tree → Type 0) (KnownItems : List Step → ℕ → Trees → Type 0) (KnownValues : List Step → Members → Type 0) where
  pub record Rules : Type 1 where
    -- steps: both have the same value; a region within another; an outcome that is made of values; one that both have, and what follows; two steps
    pub same : (X : Type 0) (x : X) → Alike X x x
    pub weaken : (X : Type 0) (Q Q′ : Region) (s : S) (l : L) (m : Outcome S X) (m′ : Outcome L X) → ((q : List Step) → Q q → Q′ q) → Beside X Q s l m m′ → Beside X Q′ s l m m′
    pub tells : (X Y Z : Type 0) (Q : Region) (s : S) (l : L) (f : X → Y → Result Z Fault) (x x′ : X) (y y′ : Y) → Alike X x x′ → Alike Y y y′ → Beside Z Q s l (here s (f x y)) (here l (f x′ y′))
    pub both : (X Y : Type 0) (Q : Region) (s : S) (l : L) (d : Result X Fault) (f : X × S → Outcome S Y) (f′ : X × L → Outcome L Y) → ((x : X) → d ≡ Ok x → Beside Y Q s l (f (x, s)) (f′ (x, l))) → Beside Y Q s l (here s d >>= f) (here l d >>= f′)
    pub bind : (X Y : Type 0) (x₀ : X) (Q R : Region) (s : S) (l : L) (m : Outcome S X) (m′ : Outcome L X) (f : X × S → Outcome S Y) (f′ : X × L → Outcome L Y) → Apart Q R → Beside X Q s l m m′ → ((x x′ : X) → Alike X x x′ → (s : S) (l : L) → Beside Y R s l (f (x, s)) (f′ (x′, l))) → Beside Y (Either Q R) s l (m >>= f) (m′ >>= f′)
    -- arrays and their items
    pub no_items : (n : ℕ) (a : At) → ItemsBeside no_trees n a
    pub next_item : (t : Tree) (ts : Trees) (n : ℕ) (a : At) → KnownItems a.place n (tree t ts) → ((s : S) (l : L) → Beside Tree (Cone (in_item n a.place) Every) s l (element_over o ask settle t (item_at n a) s) (element_over o ask′ settle′ t (item_at n a) l)) → ItemsBeside ts (suc n) a → ItemsBeside (tree t ts) n a
    pub arrays : (ts : Trees) (a : At) (s : S) (l : L) → Known a.place (array ts) → ItemsBeside ts 0 a → Beside Tree (Cone a.place Every) s l (element_over o ask settle (array ts) a s) (element_over o ask′ settle′ (array ts) a l)
    -- what is known of parts
    pub of_array : (p : List Step) (ts : Trees) → Known p (array ts) → KnownItems p 0 ts
    pub of_object : (p : List Step) (ms : Members) → Known p (object ms) → KnownValues p ms
    pub of_trees : (p : List Step) (n : ℕ) (t : Tree) (ts : Trees) → KnownItems p n (tree t ts) → Known (in_item n p) t × KnownItems p (suc n) ts
    pub of_members : (p : List Step) (k : Text) (t : Tree) (ms : Members) → KnownValues p (member k t ms) → Known (in_key k p) t × KnownValues p ms
    -- regions that are apart
    pub nothing_first : (Q : Region) → Apart Nothing Q
    pub nothing_last : (Q : Region) → Apart Q Nothing
    pub items_apart : (p : List Step) (n : ℕ) → Apart (Cone p (Is (Item n))) (Cone p (Later (suc n)))
    pub entry_apart : (b : Bool) (e : Inside) (k : Text) (t : Tree) (ms : Members) → KnownValues e.place (member k t ms) → Apart (Cone e.place (Entry b e k)) (Cone e.place (Entries b e ms))
    pub key_apart : (p : List Step) (k : Text) (t : Tree) (ms : Members) → KnownValues p (member k t ms) → Apart (Cone p (Is (Key k))) (Cone p (Keys ms))
    pub nests_apart : (e : Inside) (ms : Members) → Apart (Cone e.place (Entries false e ms)) (Cone e.place (Entries true e ms))

  module _ (rules : Rules) where
    -- a step with an outcome that both have
    same_here : (Z : Type 0) (Q : Region) (s : S) (l : L) (d : Result Z Fault) → Beside Z Q s l (here s d) (here l d)
    same_here Z Q s l d = rules.tells (Unit {0}) (Unit {0}) Z Q s l (λ _ _. d) tt tt tt tt (rules.same (Unit {0}) tt) (rules.same (Unit {0}) tt)

    alike_here : (X Z : Type 0) (Q : Region) (s : S) (l : L) (f : X → Result Z Fault) (x x′ : X) → Alike X x x′ → Beside Z Q s l (here s (f x)) (here l (f x′))
    alike_here X Z Q s l f x x′ v = rules.tells X (Unit {0}) Z Q s l (λ x _. f x) x x′ tt tt v (rules.same (Unit {0}) tt)

    -- two steps, of which the second, or the first, asks for nothing
    asks_then : (X Y : Type 0) (x₀ : X) (Q : Region) (s : S) (l : L) (m : Outcome S X) (m′ : Outcome L X) (f : X × S → Outcome S Y) (f′ : X × L → Outcome L Y) → Beside X Q s l m m′ → ((x x′ : X) → Alike X x x′ → (s : S) (l : L) → Beside Y Nothing s l (f (x, s)) (f′ (x′, l))) → Beside Y Q s l (m >>= f) (m′ >>= f′)
    asks_then X Y x₀ Q s l m m′ f f′ p q = rules.weaken Y (Either Q Nothing) Q s l (m >>= f) (m′ >>= f′) (only_left Q) (rules.bind X Y x₀ Q Nothing s l m m′ f f′ (rules.nothing_last Q) p q)

    then_asks : (X Y : Type 0) (x₀ : X) (Q : Region) (s : S) (l : L) (m : Outcome S X) (m′ : Outcome L X) (f : X × S → Outcome S Y) (f′ : X × L → Outcome L Y) → Beside X Nothing s l m m′ → ((x x′ : X) → Alike X x x′ → (s : S) (l : L) → Beside Y Q s l (f (x, s)) (f′ (x′, l))) → Beside Y Q s l (m >>= f) (m′ >>= f′)
    then_asks X Y x₀ Q s l m m′ f f′ p q = rules.weaken Y (Either Nothing Q) Q s l (m >>= f) (m′ >>= f′) (only_right Q) (rules.bind X Y x₀ Nothing Q s l m m′ f f′ (rules.nothing_first Q) p q)

    -- an entry, given how its value is expanded
    module _ (t : Tree) (expand : At → S → Outcome S Tree) (expand′ : At → L → Outcome L Tree) (elements : (a : At) → Known a.place t → (s : S) (l : L) → Beside Tree (Cone a.place Every) s l (expand a s) (expand′ a l)) where
      value_both : (n : Name) (d : Option Definition) (k : Text) (e : Inside) → Known (in_key k e.place) t → (r r′ : Pairs) (s : S) (l : L) → Alike Pairs r r′ → Beside Pairs (Cone e.place (Is (Key k))) s l (value_over o expand n d k e r s) (value_over o expand′ n d k e r′ l)
      value_both n d k e known r r′ s l v =
          then_asks _ _ tt _ s l _ _ _ _ (alike_here Pairs (Unit {0}) Nothing s l (λ r. begun_at n k e r) r r′ v) (λ _ _ _ s l.
          asks_then _ _ null _ s l _ _ _ _ (rules.weaken Tree _ _ s l _ _ (deeper e.place (Key k) Every) (elements (value_at n k e) known s l)) (λ x x′ w s l.
          rules.tells Tree Pairs Pairs Nothing s l (λ x r. added_at n d k x e r) x x′ r r′ w v))

      index_both : (i k : Text) (e : Inside) → Known (in_key i (in_key k e.place)) t → (out out′ : List Tree) (s : S) (l : L) → Alike (List Tree) out out′ → Beside (List Tree) (Cone (in_key k e.place) (Is (Key i))) s l (over.index_entry o expand i k t e out s) (over.index_entry o expand′ i k t e out′ l)
      index_both i k e known out out′ s l v =
          rules.both _ _ _ s l (index_at o i k e) _ _ (λ a at.
          asks_then _ _ null _ s l _ _ _ _ (rules.weaken Tree _ _ s l _ _ (λ q h. deeper (in_key k e.place) (Key i) Every q (subst (λ p. Cone p Every q) (index_place o i k e a at) h)) (elements a (subst (λ p. Known p t) (sym (index_place o i k e a at)) known) s l)) (λ x x′ w s l.
          rules.tells Tree (List Tree) (List Tree) Nothing s l (λ x out. indexed_at i k t x a e out) x x′ out out′ w v))

      module _ (k : Text) (indexes : Inside → List Tree → S → Outcome S (List Tree)) (indexes′ : Inside → List Tree → L → Outcome L (List Tree)) (values : (e : Inside) → Known (in_key k e.place) t → (s : S) (l : L) → Beside (List Tree) (Cone (in_key k e.place) Every) s l (indexes e [] s) (indexes′ e [] l)) where
        taken_both : (task : Task) (n : Name) (d : Option Definition) (e : Inside) → Known (in_key k e.place) t → (r r′ : Pairs) (s : S) (l : L) → Alike Pairs r r′ → Beside Pairs (Cone e.place (Is (Key k))) s l (taken_over o expand indexes task n d k t e r s) (taken_over o expand′ indexes′ task n d k t e r′ l)
        taken_both Tells n d e known r r′ s l v = alike_here Pairs Pairs _ s l (λ r. told_at n d k t e r) r r′ v
        taken_both Expands n d e known r r′ s l v = value_both n d k e known r r′ s l v
        taken_both Indexes n d e known r r′ s l v =
            asks_then _ _ [] _ s l _ _ _ _ (rules.weaken (List Tree) _ _ s l _ _ (deeper e.place (Key k) Every) (values e known s l)) (λ out out′ w s l.
            rules.tells (List Tree) Pairs Pairs Nothing s l (λ out r. added_at n d k (array (trees_of out)) e r) out out′ r r′ w v)

        entry_both : (e : Inside) → Known (in_key k e.place) t → (r r′ : Pairs) (s : S) (l : L) → Alike Pairs r r′ → Beside Pairs (Cone e.place (Entry false e k)) s l (entry_over o expand indexes k t e r s) (entry_over o expand′ indexes′ k t e r′ l)
        unfolding entry_over
        entry_both e known r r′ s l v = by (is_nest k e) refl
          where
            by : (b : Bool) → is_nest k e ≡ b → Beside Pairs (Cone e.place (Entry false e k)) s l (entry_named_over o expand indexes (name_of e.scope.context.current k) (definition_in k e) k t e r s) (entry_named_over o expand′ indexes′ (name_of e.scope.context.current k) (definition_in k e) k t e r′ l)
            by true h = subst (λ task. Beside Pairs (Cone e.place (Entry false e k)) s l (taken_over o expand indexes task (name_of e.scope.context.current k) (definition_in k e) k t e r s) (taken_over o expand′ indexes′ task (name_of e.scope.context.current k) (definition_in k e) k t e r′ l)) (sym (nest_tells k t e h))
                (alike_here Pairs Pairs _ s l (λ r. told_at (name_of e.scope.context.current k) (definition_in k e) k t e r) r r′ v)
            by false h = rules.weaken Pairs _ _ s l _ _ (wider e.place (Is (Key k)) (Entry false e k) (λ x is. (h, is))) (taken_both (task_of e.scope.property (definition_in k e) (name_of e.scope.context.current k) t) (name_of e.scope.context.current k) (definition_in k e) e known r r′ s l v)

    -- the entries of a map, and then its nests
    walk_both : (ms : Members) (entries : Inside → Pairs → S → Outcome S Pairs) (entries′ : Inside → Pairs → L → Outcome L Pairs) (nests : Inside → Pairs → S → Outcome S Pairs) (nests′ : Inside → Pairs → L → Outcome L Pairs) (e : Inside)
        → ((r r′ : Pairs) (s : S) (l : L) → Alike Pairs r r′ → Beside Pairs (Cone e.place (Entries false e ms)) s l (entries e r s) (entries′ e r′ l))
        → ((r r′ : Pairs) (s : S) (l : L) → Alike Pairs r r′ → Beside Pairs (Cone e.place (Entries true e ms)) s l (nests e r s) (nests′ e r′ l))
        → (r r′ : Pairs) (s : S) (l : L) → Alike Pairs r r′ → Beside Pairs (Cone e.place Every) s l (walk o entries nests r e s) (walk o entries′ nests′ r′ e l)
    walk_both ms entries entries′ nests nests′ e p q r r′ s l v = rules.weaken Pairs _ _ s l _ _ either (rules.bind Pairs Pairs [] _ _ s l _ _ _ _ (rules.nests_apart e ms) (p r r′ s l v) (λ x x′ w s l. q x x′ s l w))
      where
        either : (q : List Step) → Either (Cone e.place (Entries false e ms)) (Cone e.place (Entries true e ms)) q → Cone e.place Every q
        either q (inl h) = all_of e.place (Entries false e ms) q h
        either q (inr h) = all_of e.place (Entries true e ms) q h

    map_both : (ms : Members) (e : Inside)
        → ((r r′ : Pairs) (s : S) (l : L) → Alike Pairs r r′ → Beside Pairs (Cone e.place (Entries false e ms)) s l (entries_over o ask settle ms e r s) (entries_over o ask′ settle′ ms e r′ l))
        → ((r r′ : Pairs) (s : S) (l : L) → Alike Pairs r r′ → Beside Pairs (Cone e.place (Entries true e ms)) s l (nests_over o ask settle ms e r s) (nests_over o ask′ settle′ ms e r′ l))
        → (r r′ : Pairs) (s : S) (l : L) → Alike Pairs r r′ → Beside Pairs (Cone e.place Every) s l (walk_over o ask settle ms r e s) (walk_over o ask′ settle′ ms r′ e l)
    map_both ms e p q r r′ s l v = walk_both ms (entries_over o ask settle ms) (entries_over o ask′ settle′ ms) (nests_over o ask settle ms) (nests_over o ask′ settle′ ms) e p q r r′ s l v

    node_both : (walked : Inside → S → Outcome S Pairs) (walked′ : Inside → L → Outcome L Pairs) (ms : Pairs) (a : At) (s : S) (l : L) → ((e : Inside) → e.place ≡ a.place → (s : S) (l : L) → Beside Pairs (Cone e.place Every) s l (walked e s) (walked′ e l)) → Beside Tree (Cone a.place Every) s l (node o walked ms a s) (node o walked′ ms a l)
    unfolding node
    node_both walked walked′ ms a s l p =
        rules.both _ _ _ s l (entered_at o ms a) _ _ (λ e is.
        asks_then _ _ [] _ s l _ _ _ _ (rules.weaken Pairs _ _ s l _ _ (λ q h. subst (λ x. Cone x Every q) (entered_place o ms a e is) h) (p e (entered_place o ms a e is) s l)) (λ r r′ v s l.
        alike_here Pairs Tree Nothing s l (λ r. finished_at a r) r r′ v))

    -- a map under a nest
    nest_map_both : (walked : Inside → S → Outcome S Pairs) (walked′ : Inside → L → Outcome L Pairs) (ms : Pairs) (k : Text) (e below : Inside) (s : S) (l : L) → Beside Pairs (Cone below.place Every) s l (walked below s) (walked′ below l) → Beside Pairs (Cone below.place Every) s l (nest_walked o walked ms k e below s) (nest_walked o walked′ ms k e below l)
    nest_map_both walked walked′ ms k e below s l p = rules.both _ _ _ s l (nestable ms k e) _ _ (λ _ _. p)

    if_both : (b : Bool) (Q : Region) (r r′ : Pairs) (s : S) (l : L) (m : Outcome S Pairs) (m′ : Outcome L Pairs) → Alike Pairs r r′ → (b ≡ true → Beside Pairs Q s l m m′) → Beside Pairs Q s l (if b then m else Ok (r, s)) (if b then m′ else Ok (r′, l))
    if_both true Q r r′ s l m m′ v p = p refl
    if_both false Q r r′ s l m m′ v p = alike_here Pairs Pairs Q s l (λ r. fine r) r r′ v

    mutual
      pub element_both : (t : Tree) (a : At) → Known a.place t → (s : S) (l : L) → Beside Tree (Cone a.place Every) s l (element_over o ask settle t a s) (element_over o ask′ settle′ t a l)
      element_both null a known s l = same_here Tree _ s l (Ok null)
      element_both (truth b) a known s l = same_here Tree _ s l (scalar_at o (truth b) a)
      element_both (whole n) a known s l = same_here Tree _ s l (scalar_at o (whole n) a)
      element_both one_one a known s l = same_here Tree _ s l (scalar_at o one_one a)
      element_both (text t) a known s l = same_here Tree _ s l (scalar_at o (text t) a)
      element_both (array ts) a known s l = rules.arrays ts a s l known (items_both ts 0 a (rules.of_array a.place ts known))
      element_both (object ms) a known s l =
          node_both (walk o (entries_over o ask settle ms) (nests_over o ask settle ms) []) (walk o (entries_over o ask′ settle′ ms) (nests_over o ask′ settle′ ms) []) (member_list ms) a s l
          (λ e is s l.
          let values = subst (λ p. KnownValues p ms) (sym is) (rules.of_object a.place ms known) in
          map_both ms e (λ r r′ s l v. entries_both ms e values r r′ s l v) (λ r r′ s l v. nests_both ms e values r r′ s l v) [] [] s l (rules.same Pairs []))

      pub items_both : (ts : Trees) (n : ℕ) (a : At) → KnownItems a.place n ts → ItemsBeside ts n a
      items_both no_trees n a known = rules.no_items n a
      items_both (tree t ts) n a known =
          let parts = rules.of_trees a.place n t ts known in
          rules.next_item t ts n a known (λ s l. element_both t (item_at n a) parts.0 s l) (items_both ts (suc n) a parts.1)

      entries_both : (ms : Members) (e : Inside) → KnownValues e.place ms → (r r′ : Pairs) (s : S) (l : L) → Alike Pairs r r′ → Beside Pairs (Cone e.place (Entries false e ms)) s l (entries_over o ask settle ms e r s) (entries_over o ask′ settle′ ms e r′ l)
      entries_both no_members e known r r′ s l v = alike_here Pairs Pairs _ s l (λ r. fine r) r r′ v
      entries_both (member k t ms) e known r r′ s l v =
          let parts = rules.of_members e.place k t ms known in
          rules.weaken Pairs _ _ s l _ _ (λ q u. joined false e k t ms q u) (rules.bind Pairs Pairs [] _ _ s l _ _ _ _ (rules.entry_apart false e k t ms known)
          (entry_both t (element_over o ask settle t) (element_over o ask′ settle′ t) (λ a known s l. element_both t a known s l) k (indexes_over o ask settle t k) (indexes_over o ask′ settle′ t k) (λ e known s l. indexes_both t k e known [] [] s l (rules.same (List Tree) [])) e parts.0 r r′ s l v)
          (λ r r′ w s l. entries_both ms e parts.1 r r′ s l w))

      nests_both : (ms : Members) (e : Inside) → KnownValues e.place ms → (r r′ : Pairs) (s : S) (l : L) → Alike Pairs r r′ → Beside Pairs (Cone e.place (Entries true e ms)) s l (nests_over o ask settle ms e r s) (nests_over o ask′ settle′ ms e r′ l)
      nests_both no_members e known r r′ s l v = alike_here Pairs Pairs _ s l (λ r. fine r) r r′ v
      nests_both (member k t ms) e known r r′ s l v =
          let parts = rules.of_members e.place k t ms known in
          rules.weaken Pairs _ _ s l _ _ (λ q u. joined true e k t ms q u) (rules.bind Pairs Pairs [] _ _ s l _ _ _ _ (rules.entry_apart true e k t ms known)
          (if_both (is_nest k e) _ r r′ s l _ _ v (λ is. rules.weaken Pairs _ _ s l _ _ (λ q u. wider e.place (Is (Key k)) (Entry true e k) (λ x at. (is, at)) q (deeper e.place (Key k) Every q u)) (nested_both t k e parts.0 r r′ s l v)))
          (λ r r′ w s l. nests_both ms e parts.1 r r′ s l w))

      nested_both : (t : Tree) (k : Text) (e : Inside) → Known (in_key k e.place) t → (r r′ : Pairs) (s : S) (l : L) → Alike Pairs r r′ → Beside Pairs (Cone (in_key k e.place) Every) s l (nested_over o ask settle t k e r s) (nested_over o ask′ settle′ t k e r′ l)
      nested_both null k e known r r′ s l v = alike_here Pairs Pairs _ s l (λ r. fine r) r r′ v
      nested_both (truth b) k e known r r′ s l v = same_here Pairs _ s l (Err (not_nestable k e))
      nested_both (whole n) k e known r r′ s l v = same_here Pairs _ s l (Err (not_nestable k e))
      nested_both one_one k e known r r′ s l v = same_here Pairs _ s l (Err (not_nestable k e))
      nested_both (text t) k e known r r′ s l v = same_here Pairs _ s l (Err (not_nestable k e))
      nested_both (array ts) k e known r r′ s l v = rules.weaken Pairs _ _ s l _ _ (all_of (in_key k e.place) (Later 0)) (nest_items_both ts 0 k e (rules.of_array (in_key k e.place) ts known) r r′ s l v)
      nested_both (object ms) k e known r r′ s l v =
          nest_map_both (walk o (entries_over o ask settle ms) (nests_over o ask settle ms) r) (walk o (entries_over o ask′ settle′ ms) (nests_over o ask′ settle′ ms) r′) (member_list ms) k e (nest_in k e) s l
          (map_both ms (nest_in k e) (λ r r′ s l v. entries_both ms (nest_in k e) (rules.of_object (in_key k e.place) ms known) r r′ s l v) (λ r r′ s l v. nests_both ms (nest_in k e) (rules.of_object (in_key k e.place) ms known) r r′ s l v) r r′ s l v)

      nest_items_both : (ts : Trees) (n : ℕ) (k : Text) (e : Inside) → KnownItems (in_key k e.place) n ts → (r r′ : Pairs) (s : S) (l : L) → Alike Pairs r r′ → Beside Pairs (Cone (in_key k e.place) (Later n)) s l (nest_items_over o ask settle ts n k e r s) (nest_items_over o ask′ settle′ ts n k e r′ l)
      nest_items_both no_trees n k e known r r′ s l v = alike_here Pairs Pairs _ s l (λ r. fine r) r r′ v
      nest_items_both (tree t ts) n k e known r r′ s l v =
          let parts = rules.of_trees (in_key k e.place) n t ts known in
          rules.weaken Pairs _ _ s l _ _ (λ q u. items_joined (in_key k e.place) n q u) (rules.bind Pairs Pairs [] _ _ s l _ _ _ _ (rules.items_apart (in_key k e.place) n)
          (rules.weaken Pairs _ _ s l _ _ (deeper (in_key k e.place) (Item n) Every) (nest_item_both t n k e parts.0 r r′ s l v))
          (λ r r′ w s l. nest_items_both ts (suc n) k e parts.1 r r′ s l w))

      nest_item_both : (t : Tree) (n : ℕ) (k : Text) (e : Inside) → Known (in_item n (in_key k e.place)) t → (r r′ : Pairs) (s : S) (l : L) → Alike Pairs r r′ → Beside Pairs (Cone (in_item n (in_key k e.place)) Every) s l (nest_item_over o ask settle t n k e r s) (nest_item_over o ask′ settle′ t n k e r′ l)
      nest_item_both null n k e known r r′ s l v = same_here Pairs _ s l (Err (not_nestable k e))
      nest_item_both (truth b) n k e known r r′ s l v = same_here Pairs _ s l (Err (not_nestable k e))
      nest_item_both (whole m) n k e known r r′ s l v = same_here Pairs _ s l (Err (not_nestable k e))
      nest_item_both one_one n k e known r r′ s l v = same_here Pairs _ s l (Err (not_nestable k e))
      nest_item_both (text t) n k e known r r′ s l v = same_here Pairs _ s l (Err (not_nestable k e))
      nest_item_both (array ts) n k e known r r′ s l v = same_here Pairs _ s l (Err (not_nestable k e))
      nest_item_both (object ms) n k e known r r′ s l v =
          nest_map_both (walk o (entries_over o ask settle ms) (nests_over o ask settle ms) r) (walk o (entries_over o ask′ settle′ ms) (nests_over o ask′ settle′ ms) r′) (member_list ms) k e (nest_item_in n k e) s l
          (map_both ms (nest_item_in n k e) (λ r r′ s l v. entries_both ms (nest_item_in n k e) (rules.of_object (in_item n (in_key k e.place)) ms known) r r′ s l v) (λ r r′ s l v. nests_both ms (nest_item_in n k e) (rules.of_object (in_item n (in_key k e.place)) ms known) r r′ s l v) r r′ s l v)

      indexes_both : (t : Tree) (k : Text) (e : Inside) → Known (in_key k e.place) t → (out out′ : List Tree) (s : S) (l : L) → Alike (List Tree) out out′ → Beside (List Tree) (Cone (in_key k e.place) Every) s l (indexes_over o ask settle t k e out s) (indexes_over o ask′ settle′ t k e out′ l)
      indexes_both null k e known out out′ s l v = alike_here (List Tree) (List Tree) _ s l (λ r. fine r) out out′ v
      indexes_both (truth b) k e known out out′ s l v = alike_here (List Tree) (List Tree) _ s l (λ r. fine r) out out′ v
      indexes_both (whole n) k e known out out′ s l v = alike_here (List Tree) (List Tree) _ s l (λ r. fine r) out out′ v
      indexes_both one_one k e known out out′ s l v = alike_here (List Tree) (List Tree) _ s l (λ r. fine r) out out′ v
      indexes_both (text t) k e known out out′ s l v = alike_here (List Tree) (List Tree) _ s l (λ r. fine r) out out′ v
      indexes_both (array ts) k e known out out′ s l v = alike_here (List Tree) (List Tree) _ s l (λ r. fine r) out out′ v
      indexes_both (object ms) k e known out out′ s l v = rules.weaken (List Tree) _ _ s l _ _ (all_of (in_key k e.place) (Keys ms)) (index_entries_both ms k e (rules.of_object (in_key k e.place) ms known) out out′ s l v)

      index_entries_both : (ms : Members) (k : Text) (e : Inside) → KnownValues (in_key k e.place) ms → (out out′ : List Tree) (s : S) (l : L) → Alike (List Tree) out out′ → Beside (List Tree) (Cone (in_key k e.place) (Keys ms)) s l (index_entries_over o ask settle ms k e out s) (index_entries_over o ask′ settle′ ms k e out′ l)
      index_entries_both no_members k e known out out′ s l v = alike_here (List Tree) (List Tree) _ s l (λ r. fine r) out out′ v
      index_entries_both (member i t ms) k e known out out′ s l v =
          let parts = rules.of_members (in_key k e.place) i t ms known in
          rules.weaken (List Tree) _ _ s l _ _ (λ q u. keys_joined (in_key k e.place) i t ms q u) (rules.bind (List Tree) (List Tree) [] _ _ s l _ _ _ _ (rules.key_apart (in_key k e.place) i t ms known)
          (index_both t (element_over o ask settle t) (element_over o ask′ settle′ t) (λ a known s l. element_both t a known s l) i k e parts.0 out out′ s l v)
          (λ out out′ w s l. index_entries_both ms k e parts.1 out out′ s l w))

    -- the whole document
    pub document_both : (t : Tree) → Known [] t → (s : S) (l : L) → Beside (List Tree) (Cone [] Every) s l (document_over o ask settle t s) (document_over o ask′ settle′ t l)
    unfolding document_over
    document_both t known s l = asks_then _ _ null _ s l _ _ _ _ (element_both t (start o) known s l) (λ v v′ w s l. alike_here Tree (List Tree) Nothing s l (λ v. fine (whole_items v)) v v′ w)
