-- With answers that are right, expansion that asks for its items comes to expansion itself.
use Rattle.std.proofs.Common.{ℕ, zero, suc, ◌≡◌, ◌+◌, List, [], ◌∷◌, ◌++◌, Bool, true, false, Option, None, Result, Ok, Err, refl, sym, ap, ◌∙◌, arith}
use Rattle.std.specs.Prelude.{if◌then◌else◌}
use Rattle.ld_model.specs.Tree.{Tree, Trees, Members, Pairs, null, truth, whole, one_one, text, array, object, no_trees, tree, no_members, member, trees_of, member_list}
use Rattle.ctx_types.specs.Context.{Text, Definition}
use Rattle.expand_model.specs.declared.Name.{Name}
use Rattle.expand_model.specs.declared.Task.{Task}
use Rattle.expand_model.specs.declared.Task.TheVariants.{Tells, Expands, Indexes}
use Rattle.expand_model.specs.Scope.{Options, Fault}
use Rattle.expand_model.specs.Entries.{name_of, task_of}
use Rattle.expand_model.specs.Rules.{At, Inside, ◌>>=◌, item_at, entered_at, finished_at, lists_at, spliced, definition_in, value_at, index_at, told_at, begun_at, added_at, indexed_at, is_nest, nestable, nest_in, nest_item_in, start, whole_items}
use Rattle.expand_model.specs.Expand.{value_taken, taken, entry, index_entry, element, items, entries, nests, nested, nest_items, nest_item, indexes, index_entries, document}
use Rattle.expand_model.specs.Over as over
use Rattle.expand_model.specs.Over.{Answer, expands, tries, answers, Asked, Outcome, state_of, here, one, settled_by, settled, given, turn, value_over, indexes_added, taken_over, entry_named_over, entry_over, walk, nest_walked, node, element_over, items_over, entries_over, nests_over, nested_over, nest_items_over, nest_item_over, indexes_over, index_entries_over, document_over}
use Rattle.range_laws.specs.Right.{outcome, first_trees, rest_trees, IsRight}

append_assoc : {X : Type 0} (xs ys zs : List X) → (xs ++ ys) ++ zs ≡ xs ++ (ys ++ zs)
append_assoc [] ys zs = refl
append_assoc (x ∷ xs) ys zs = ap (λ ws. x ∷ ws) (append_assoc xs ys zs)

append_nil : {X : Type 0} (xs : List X) → xs ++ [] ≡ xs
append_nil [] = refl
append_nil (x ∷ xs) = ap (λ ws. x ∷ ws) (append_nil xs)

then_then : {A B C E : Type 0} (d : Result A E) (f : A → Result C E) (g : A → Result B E) (h : B → Result C E) → ((x : A) → f x ≡ (g x >>= h)) → (d >>= f) ≡ ((d >>= g) >>= h)
then_then (Ok x) f g h p = p x
then_then (Err e) f g h p = refl

module _ (o : Options) where
  -- the items of an array are the first so many, and then the others
  split : (ts : Trees) (k n : ℕ) (a : At) (out acc : List Tree) → items o ts n a (out ++ acc) ≡ (items o (first_trees k ts) n a acc >>= (λ rs. items o (rest_trees k ts) (k + n) a (out ++ rs)))
  split no_trees k n a out acc = refl
  split (tree t ts) zero n a out acc = ap (λ m. items o (tree t ts) m a (out ++ acc)) (omega arith)
  split (tree t ts) (suc k) n a out acc =
      then_then (element o t (item_at n a)) _ (λ v. items o (first_trees k ts) (suc n) a (acc ++ spliced (lists_at a) v)) _ (λ v.
      ap (λ xs. items o ts (suc n) a xs) (append_assoc out acc (spliced (lists_at a) v))
      ∙ split ts k (suc n) a out (acc ++ spliced (lists_at a) v)
      ∙ ap (λ m. items o (first_trees k ts) (suc n) a (acc ++ spliced (lists_at a) v) >>= (λ rs. items o (rest_trees k ts) m a (out ++ rs))) (omega arith))

  -- none passed over
  zero_rest : (ts : Trees) (n : ℕ) (a : At) (out : List Tree) → items o (rest_trees 0 ts) (0 + n) a out ≡ items o ts n a out
  zero_rest no_trees n a out = refl
  zero_rest (tree t ts) n a out = ap (λ m. items o (tree t ts) m a out) (omega arith)

  -- the steps of a map, in the form of the expansion
  node_steps : (ms : Members) (a : At) (d : Result Inside Fault) → (d >>= (λ e. (entries o ms e [] >>= (λ r. nests o ms e r)) >>= (λ r. finished_at a r))) ≡ (d >>= (λ e. entries o ms e [] >>= (λ r. nests o ms e r >>= (λ r. finished_at a r))))
  node_steps ms a (Ok e) = sym (then_then (entries o ms e []) _ (λ r. nests o ms e r) (λ r. finished_at a r) (λ r. refl))
  node_steps ms a (Err f) = refl

  -- the run comes to this
  pub record Like {S X : Type 0} (m : Outcome S X) (d : Result X Fault) : Type 0 where
    pub is : outcome m ≡ d

  module _ {S : Type 0} (ask : Trees → ℕ → At → S → Asked S) (settle : Trees → ℕ → At → ℕ → S → Option S) where
    like_value : {X : Type 0} (s : S) (x : X) → Like (Ok (x, s)) (Ok x)
    like_value s x = record { is = refl }

    like_here : {X : Type 0} (s : S) (d : Result X Fault) → Like (here s d) d
    like_here s (Ok x) = record { is = refl }
    like_here s (Err f) = record { is = refl }

    like_bind : {X Y : Type 0} (m : Outcome S X) (d : Result X Fault) (f : X × S → Outcome S Y) (g : X → Result Y Fault) → Like m d → ((x : X) (s : S) → Like (f (x, s)) (g x)) → Like (m >>= f) (d >>= g)
    like_bind (Ok v) d f g p q = record { is = (q v.0 v.1).is ∙ ap (λ d. d >>= g) p.is }
    like_bind (Err e) d f g p q = record { is = ap (λ d. d >>= g) p.is }

    like_to : {X : Type 0} (m : Outcome S X) {d d′ : Result X Fault} → Like m d → d ≡ d′ → Like m d′
    like_to m p e = record { is = p.is ∙ e }

    like_if : (b : Bool) (r : Pairs) (s : S) (m : Outcome S Pairs) (d : Result Pairs Fault) → Like m d → Like (if b then m else Ok (r, s)) (if b then d else Ok r)
    like_if true r s m d p = p
    like_if false r s m d p = like_value s r

    abbrev put_one : Bool → List Tree → Tree × S → Outcome S (List Tree)
    put_one lists out v = Ok (out ++ spliced lists v.0, v.1)

    abbrev no_more : List Tree × S → Outcome S (List Tree × ℕ)
    no_more v = Ok ((v.0, 0), v.1)

    abbrev put_answer : List Tree → ℕ → List Tree × S → Outcome S (List Tree × ℕ)
    put_answer out more rs = Ok ((out ++ rs.0, more), rs.1)

    -- an item that is expanded, and what follows it
    one_then : (m : Outcome S Tree) (d : Result Tree Fault) (lists : Bool) (out : List Tree) (cont : (List Tree × ℕ) × S → Outcome S (List Tree)) (k : Tree → Result (List Tree) Fault) → Like m d → ((v : Tree) (s : S) → Like (cont ((out ++ spliced lists v, 0), s)) (k v)) → Like (((m >>= put_one lists out) >>= no_more) >>= cont) (d >>= k)
    one_then (Ok v) d lists out cont k p q = record { is = (q v.0 v.1).is ∙ ap (λ d. d >>= k) p.is }
    one_then (Err e) d lists out cont k p q = record { is = ap (λ d. d >>= k) p.is }

    -- one that is tried, where the trial is kept
    tried_then : (kept : Option S) (m : Outcome S Tree) (d : Result Tree Fault) (lists : Bool) (out : List Tree) (cont : (List Tree × ℕ) × S → Outcome S (List Tree)) (k : Tree → Result (List Tree) Fault) → kept ≡ None → Like m d → ((v : Tree) (s : S) → Like (cont ((out ++ spliced lists v, 0), s)) (k v)) → Like (settled_by kept lists out m >>= cont) (d >>= k)
    tried_then kept (Ok v) d lists out cont k is p q = record { is = ap (λ x. outcome (settled_by x lists out (Ok v) >>= cont)) is ∙ (q v.0 v.1).is ∙ ap (λ d. d >>= k) p.is }
    tried_then kept (Err e) d lists out cont k is p q = record { is = ap (λ x. outcome (settled_by x lists out (Err e) >>= cont)) is ∙ ap (λ d. d >>= k) p.is }

    -- an answer, and what follows it
    answer_then : (s : S) (d : Result (List Tree) Fault) (out : List Tree) (more : ℕ) (cont : (List Tree × ℕ) × S → Outcome S (List Tree)) (k : List Tree → Result (List Tree) Fault) → ((rs : List Tree) → Like (cont ((out ++ rs, more), s)) (k rs)) → Like ((here s d >>= put_answer out more) >>= cont) (d >>= k)
    answer_then s (Ok rs) out more cont k q = record { is = (q rs).is }
    answer_then s (Err f) out more cont k q = record { is = refl }

    like_given : (t : Tree) (ts : Trees) (n : ℕ) (a : At) (out : List Tree) (s : S) (g : Answer) → IsRight o settle (tree t ts) n a g → ((s : S) → Like (element_over o ask settle t (item_at n a) s) (element o t (item_at n a))) → ((k : ℕ) (out : List Tree) (s : S) → Like (items_over o ask settle ts k (suc n) a out s) (items o (rest_trees k ts) (k + suc n) a out)) → Like (given (element_over o ask settle t (item_at n a)) (settle (tree t ts) n a) (lists_at a) out g s >>= (λ v. items_over o ask settle ts v.0.1 (suc n) a v.0.0 v.1)) (items o (tree t ts) n a out)
    like_given t ts n a out s expands r p q = one_then (element_over o ask settle t (item_at n a) s) (element o t (item_at n a)) (lists_at a) out _ (λ v. items o ts (suc n) a (out ++ spliced (lists_at a) v)) (p s)
        (λ v s. like_to _ (q 0 (out ++ spliced (lists_at a) v) s) (zero_rest ts (suc n) a (out ++ spliced (lists_at a) v)))
    like_given t ts n a out s (tries mark) r p q = tried_then (settle (tree t ts) n a mark (state_of (element_over o ask settle t (item_at n a) s))) (element_over o ask settle t (item_at n a) s) (element o t (item_at n a)) (lists_at a) out _ (λ v. items o ts (suc n) a (out ++ spliced (lists_at a) v)) (r (state_of (element_over o ask settle t (item_at n a) s))) (p s)
        (λ v s. like_to _ (q 0 (out ++ spliced (lists_at a) v) s) (zero_rest ts (suc n) a (out ++ spliced (lists_at a) v)))
    like_given t ts n a out s (answers more d) r p q =
        like_to _ (answer_then s d out more _ (λ rs. items o (rest_trees more ts) (more + suc n) a (out ++ rs)) (λ rs. q more (out ++ rs) s))
        (ap (λ x. x >>= (λ rs. items o (rest_trees more ts) (more + suc n) a (out ++ rs))) r
        ∙ ap (λ m. items o (first_trees (suc more) (tree t ts)) n a [] >>= (λ rs. items o (rest_trees more ts) m a (out ++ rs))) (omega arith)
        ∙ sym (split (tree t ts) (suc more) n a out []) ∙ ap (λ xs. items o (tree t ts) n a xs) (append_nil out))

    module _ (eo : At → S → Outcome S Tree) (e′ : At → Result Tree Fault) (same : (a : At) (s : S) → Like (eo a s) (e′ a)) where
      like_value_over : (n : Name) (d : Option Definition) (k : Text) (e : Inside) (r : Pairs) (s : S) → Like (value_over o eo n d k e r s) (value_taken o e′ n d k e r)
      like_value_over n d k e r s =
          like_bind _ _ _ _ (like_here s (begun_at n k e r)) (λ _ s.
          like_bind _ _ _ _ (same (value_at n k e) s) (λ v s.
          like_here s (added_at n d k v e r)))

      like_index_entry : (i k : Text) (t : Tree) (e : Inside) (out : List Tree) (s : S) → Like (over.index_entry o eo i k t e out s) (index_entry o e′ i k t e out)
      like_index_entry i k t e out s =
          like_bind _ _ _ _ (like_here s (index_at o i k e)) (λ a s.
          like_bind _ _ _ _ (same a s) (λ v s.
          like_here s (indexed_at i k t v a e out)))

      module _ (io : Inside → List Tree → S → Outcome S (List Tree)) (i′ : Inside → List Tree → Result (List Tree) Fault) (same_indexes : (e : Inside) (out : List Tree) (s : S) → Like (io e out s) (i′ e out)) where
        like_taken : (task : Task) (n : Name) (d : Option Definition) (k : Text) (t : Tree) (e : Inside) (r : Pairs) (s : S) → Like (taken_over o eo io task n d k t e r s) (taken o e′ i′ task n d k t e r)
        like_taken Tells n d k t e r s = like_here s (told_at n d k t e r)
        like_taken Expands n d k t e r s = like_value_over n d k e r s
        like_taken Indexes n d k t e r s =
            like_bind _ _ _ _ (same_indexes e [] s) (λ out s.
            like_here s (added_at n d k (array (trees_of out)) e r))

        like_entry : (k : Text) (t : Tree) (e : Inside) (r : Pairs) (s : S) → Like (entry_over o eo io k t e r s) (entry o e′ i′ k t e r)
        unfolding entry_over entry
        like_entry k t e r s = like_taken (task_of e.scope.property (definition_in k e) (name_of e.scope.context.current k) t) (name_of e.scope.context.current k) (definition_in k e) k t e r s

    like_node : (wo : Inside → S → Outcome S Pairs) (w′ : Inside → Result Pairs Fault) (es : Pairs) (a : At) (s : S) → ((e : Inside) (s : S) → Like (wo e s) (w′ e)) → Like (node o wo es a s) (entered_at o es a >>= (λ e. w′ e >>= (λ r. finished_at a r)))
    unfolding node
    like_node wo w′ es a s p =
        like_bind _ _ _ _ (like_here s (entered_at o es a)) (λ e s.
        like_bind _ _ _ _ (p e s) (λ r s.
        like_here s (finished_at a r)))

    -- a map under a nest
    like_nest_map : (wo : Inside → S → Outcome S Pairs) (w′ : Inside → Result Pairs Fault) (ms : Pairs) (k : Text) (e below : Inside) (s : S) → ((e : Inside) (s : S) → Like (wo e s) (w′ e)) → Like (nest_walked o wo ms k e below s) (nestable ms k e >>= (λ _. w′ below))
    like_nest_map wo w′ ms k e below s p = like_bind _ _ _ _ (like_here s (nestable ms k e)) (λ _ s. p below s)

    module _ (right : (ts : Trees) (n : ℕ) (a : At) (s : S) → IsRight o settle ts n a (ask ts n a s).answer) where
      mutual
        pub like_element : (t : Tree) (a : At) (s : S) → Like (element_over o ask settle t a s) (element o t a)
        like_element null a s = like_value s null
        like_element (truth b) a s = like_here s _
        like_element (whole n) a s = like_here s _
        like_element one_one a s = like_here s _
        like_element (text t) a s = like_here s _
        like_element (array ts) a s = like_bind _ _ _ _ (like_to _ (like_items ts 0 0 a [] s) (zero_rest ts 0 a [])) (λ v s. like_value s (array (trees_of v)))
        like_element (object ms) a s = like_to _ (like_node _ _ (member_list ms) a s (λ e s. like_bind _ _ _ _ (like_entries ms e [] s) (λ r s. like_nests ms e r s))) (node_steps ms a (entered_at o (member_list ms) a))

        like_items : (ts : Trees) (k n : ℕ) (a : At) (out : List Tree) (s : S) → Like (items_over o ask settle ts k n a out s) (items o (rest_trees k ts) (k + n) a out)
        like_items no_trees k n a out s = like_value s out
        like_items (tree t ts) (suc k) n a out s = like_to _ (like_items ts k (suc n) a out s) (ap (λ m. items o (rest_trees k ts) m a out) (omega arith))
        like_items (tree t ts) zero n a out s = like_to _ (like_given t ts n a out (ask (tree t ts) n a s).state (ask (tree t ts) n a s).answer (right (tree t ts) n a s) (λ s. like_element t (item_at n a) s) (λ k out s. like_items ts k (suc n) a out s)) (ap (λ m. items o (tree t ts) m a out) (omega arith))

        like_entries : (ms : Members) (e : Inside) (r : Pairs) (s : S) → Like (entries_over o ask settle ms e r s) (entries o ms e r)
        like_entries no_members e r s = like_value s r
        like_entries (member k t ms) e r s =
            like_bind _ _ _ _ (like_entry _ _ (λ a s. like_element t a s) _ _ (λ e out s. like_indexes t k e out s) k t e r s)
            (λ r s. like_entries ms e r s)

        like_nests : (ms : Members) (e : Inside) (r : Pairs) (s : S) → Like (nests_over o ask settle ms e r s) (nests o ms e r)
        like_nests no_members e r s = like_value s r
        like_nests (member k t ms) e r s =
            like_bind _ _ _ _ (like_if (is_nest k e) r s _ _ (like_nested t k e r s))
            (λ r s. like_nests ms e r s)

        like_nested : (t : Tree) (k : Text) (e : Inside) (r : Pairs) (s : S) → Like (nested_over o ask settle t k e r s) (nested o t k e r)
        like_nested null k e r s = like_value s r
        like_nested (truth b) k e r s = record { is = refl }
        like_nested (whole n) k e r s = record { is = refl }
        like_nested one_one k e r s = record { is = refl }
        like_nested (text t) k e r s = record { is = refl }
        like_nested (array ts) k e r s = like_nest_items ts 0 k e r s
        like_nested (object ms) k e r s = like_nest_map (walk o (entries_over o ask settle ms) (nests_over o ask settle ms) r) (λ e. entries o ms e r >>= (λ r. nests o ms e r)) (member_list ms) k e (nest_in k e) s (λ e s. like_bind (entries_over o ask settle ms e r s) (entries o ms e r) (λ v. nests_over o ask settle ms e v.0 v.1) (λ r. nests o ms e r) (like_entries ms e r s) (λ r s. like_nests ms e r s))

        like_nest_items : (ts : Trees) (n : ℕ) (k : Text) (e : Inside) (r : Pairs) (s : S) → Like (nest_items_over o ask settle ts n k e r s) (nest_items o ts n k e r)
        like_nest_items no_trees n k e r s = like_value s r
        like_nest_items (tree t ts) n k e r s =
            like_bind _ _ _ _ (like_nest_item t n k e r s)
            (λ r s. like_nest_items ts (suc n) k e r s)

        like_nest_item : (t : Tree) (n : ℕ) (k : Text) (e : Inside) (r : Pairs) (s : S) → Like (nest_item_over o ask settle t n k e r s) (nest_item o t n k e r)
        like_nest_item null n k e r s = record { is = refl }
        like_nest_item (truth b) n k e r s = record { is = refl }
        like_nest_item (whole m) n k e r s = record { is = refl }
        like_nest_item one_one n k e r s = record { is = refl }
        like_nest_item (text t) n k e r s = record { is = refl }
        like_nest_item (array ts) n k e r s = record { is = refl }
        like_nest_item (object ms) n k e r s = like_nest_map (walk o (entries_over o ask settle ms) (nests_over o ask settle ms) r) (λ e. entries o ms e r >>= (λ r. nests o ms e r)) (member_list ms) k e (nest_item_in n k e) s (λ e s. like_bind (entries_over o ask settle ms e r s) (entries o ms e r) (λ v. nests_over o ask settle ms e v.0 v.1) (λ r. nests o ms e r) (like_entries ms e r s) (λ r s. like_nests ms e r s))

        like_indexes : (t : Tree) (k : Text) (e : Inside) (out : List Tree) (s : S) → Like (indexes_over o ask settle t k e out s) (indexes o t k e out)
        like_indexes null k e out s = like_value s out
        like_indexes (truth b) k e out s = like_value s out
        like_indexes (whole n) k e out s = like_value s out
        like_indexes one_one k e out s = like_value s out
        like_indexes (text t) k e out s = like_value s out
        like_indexes (array ts) k e out s = like_value s out
        like_indexes (object ms) k e out s = like_index_entries ms k e out s

        like_index_entries : (ms : Members) (k : Text) (e : Inside) (out : List Tree) (s : S) → Like (index_entries_over o ask settle ms k e out s) (index_entries o ms k e out)
        like_index_entries no_members k e out s = like_value s out
        like_index_entries (member i t ms) k e out s =
            like_bind _ _ _ _ (like_index_entry _ _ (λ a s. like_element t a s) i k t e out s)
            (λ out s. like_index_entries ms k e out s)

      -- the items of a range
      pub items_run : (ts : Trees) (n : ℕ) (a : At) (s : S) → outcome (items_over o ask settle ts 0 n a [] s) ≡ items o ts n a []
      items_run ts n a s = (like_items ts 0 n a [] s).is ∙ zero_rest ts n a []

      abbrev made : Tree × S → Outcome S (List Tree)
      made v = Ok (whole_items v.0, v.1)

      document_steps : (m : Outcome S Tree) (d : Result Tree Fault) → outcome m ≡ d → outcome (m >>= made) ≡ (d >>= (λ v. Ok (whole_items v)))
      document_steps (Ok v) d p = ap (λ d. d >>= (λ v. Ok (whole_items v))) p
      document_steps (Err e) d p = ap (λ d. d >>= (λ v. Ok (whole_items v))) p

      -- the whole document
      pub document_run : (t : Tree) (s : S) → outcome (document_over o ask settle t s) ≡ document o t
      unfolding document_over document
      document_run t s = document_steps (element_over o ask settle t (start o) s) (element o t (start o)) (like_element t (start o) s).is
