-- Terms in ascending order, around one of them.
use Rattle.std.proofs.Common.{◌≡◌, ℕ, Option, subst, ◌<◌, List, [], ◌∷◌, ◌++◌, length, refl, ap, ◌∙◌, sym, arith, length-append, true, false, cond, Bool, Some, None, Ordering, Less, Equal, Greater}
use Rattle.std.specs.List.{AllByRecursion}
use Rattle.std.specs.List.Sorted.{IsStrictlySortedBy}
use Rattle.std.specs.Map.{keys_of, lookup, remove_entry}
use Rattle.std.specs.BTreeMap.{is_at, insert_entry}
use Rattle.std.specs.Ordering.{ordering_reverse}
use Rattle.std.proofs.lemmas.Cmp.{nat_list_cmp_total}
use Rattle.ld_model.specs.Tree.{byte_order}
use Rattle.ctx_types.specs.declared.branch.Entry.{Entry}
use Rattle.ctx_types.specs.declared.branch.Node.{Node}
use Rattle.ctx_types.specs.Context.{Text, Definition, Terms, definition_at}
use Rattle.ctx_types.specs.Sorted.{IsAscending}
use Rattle.ctx_types.specs.BranchView.{entry_view, node_view, top_view}

pub ascending_nil : (X : Type 0) → IsAscending {X = X} []
unfolding IsStrictlySortedBy
ascending_nil X = tt

-- What is before a text is before those that are not before it.
later_than_less : (k x y : List ℕ) → byte_order k y ≡ Greater → byte_order x y ≡ Less → byte_order k x ≡ Greater
later_than_less k x y greater less =
    let back : byte_order y k ≡ Less = nat_list_cmp_total.antisymm y k ∙ ap ordering_reverse greater in
    nat_list_cmp_total.antisymm k x ∙ ap ordering_reverse (nat_list_cmp_total.trans x y k less back)

same_than_less : (k x y : List ℕ) → byte_order k y ≡ Equal → byte_order x y ≡ Less → byte_order k x ≡ Greater
same_than_less k x y same less = nat_list_cmp_total.congr k y x same ∙ nat_list_cmp_total.antisymm y x ∙ ap ordering_reverse less

module _ {X : Type 0} where
  all_middle : (P : List ℕ → Type 0) (l : List (List ℕ × X)) (m : List ℕ × X) (r : List (List ℕ × X)) → AllByRecursion P (keys_of (l ++ m ∷ r)) → P m.0
  all_middle P [] m r all = all.0
  all_middle P (e ∷ l) m r all = all_middle P l m r all.1

  all_front : (P : List ℕ → Type 0) (l r : List (List ℕ × X)) → AllByRecursion P (keys_of (l ++ r)) → AllByRecursion P (keys_of l)
  all_front P [] r all = tt
  all_front P (e ∷ l) r all = (all.0, all_front P l r all.1)

  pub ascending_left : (l : List (List ℕ × X)) (m : List ℕ × X) (r : List (List ℕ × X)) → IsAscending (l ++ m ∷ r) → IsAscending l
  unfolding IsStrictlySortedBy
  ascending_left [] m r sorted = tt
  ascending_left (e ∷ l) m r sorted = (all_front (λ x. byte_order e.0 x ≡ Less) l (m ∷ r) sorted.0, ascending_left l m r sorted.1)

  pub ascending_right : (l : List (List ℕ × X)) (m : List ℕ × X) (r : List (List ℕ × X)) → IsAscending (l ++ m ∷ r) → IsAscending r
  unfolding IsStrictlySortedBy
  ascending_right [] m r sorted = sorted.1
  ascending_right (e ∷ l) m r sorted = ascending_right l m r sorted.1

  -- Nothing behind a text is one before it.
  before_all : (k x : List ℕ) (es : List (List ℕ × X)) → byte_order k x ≡ Less → AllByRecursion (λ y. byte_order x y ≡ Less) (keys_of es) → lookup (is_at (byte_order k)) es ≡ None
  before_all k x [] less all = refl
  before_all k x (e ∷ es) less all = rw (nat_list_cmp_total.trans k x e.0 less all.0) (before_all k x es less all.1)

  pub lookup_left : (k : List ℕ) (l : List (List ℕ × X)) (m : List ℕ × X) (r : List (List ℕ × X)) → byte_order k m.0 ≡ Less → IsAscending (l ++ m ∷ r) → lookup (is_at (byte_order k)) (l ++ m ∷ r) ≡ lookup (is_at (byte_order k)) l
  unfolding IsStrictlySortedBy
  lookup_left k [] m r less sorted = rw less (before_all k m.0 r less sorted.0)
  lookup_left k (e ∷ l) m r less sorted = ap (λ o. cond (is_at (byte_order k) e.0) (Some e.1) o) (lookup_left k l m r less sorted.1)

  pub lookup_right : (k : List ℕ) (l : List (List ℕ × X)) (m : List ℕ × X) (r : List (List ℕ × X)) → byte_order k m.0 ≡ Greater → IsAscending (l ++ m ∷ r) → lookup (is_at (byte_order k)) (l ++ m ∷ r) ≡ lookup (is_at (byte_order k)) r
  unfolding IsStrictlySortedBy
  lookup_right k [] m r greater sorted = rw greater refl
  lookup_right k (e ∷ l) m r greater sorted =
      rw (later_than_less k e.0 m.0 greater (all_middle (λ y. byte_order e.0 y ≡ Less) l m r sorted.0)) (lookup_right k l m r greater sorted.1)

  pub lookup_middle : (k : List ℕ) (l : List (List ℕ × X)) (m : List ℕ × X) (r : List (List ℕ × X)) → byte_order k m.0 ≡ Equal → IsAscending (l ++ m ∷ r) → lookup (is_at (byte_order k)) (l ++ m ∷ r) ≡ Some m.1
  unfolding IsStrictlySortedBy
  lookup_middle k [] m r same sorted = rw same refl
  lookup_middle k (e ∷ l) m r same sorted =
      rw (same_than_less k e.0 m.0 same (all_middle (λ y. byte_order e.0 y ≡ Less) l m r sorted.0)) (lookup_middle k l m r same sorted.1)

  insert_later : (k : List ℕ) (v : X) (e : List ℕ × X) (es : List (List ℕ × X)) → byte_order k e.0 ≡ Greater → insert_entry byte_order (e ∷ es) k v ≡ e ∷ insert_entry byte_order es k v
  insert_later k v e es greater = rw greater refl

  pub insert_left : (k : List ℕ) (v : X) (l : List (List ℕ × X)) (m : List ℕ × X) (r : List (List ℕ × X)) → byte_order k m.0 ≡ Less → insert_entry byte_order (l ++ m ∷ r) k v ≡ insert_entry byte_order l k v ++ m ∷ r
  insert_left k v [] m r less = rw less refl
  insert_left k v (e ∷ l) m r less = step (byte_order k e.0) refl (insert_left k v l m r less)
    where
      step : (o : Ordering) → byte_order k e.0 ≡ o → insert_entry byte_order (l ++ m ∷ r) k v ≡ insert_entry byte_order l k v ++ m ∷ r → insert_entry byte_order (e ∷ (l ++ m ∷ r)) k v ≡ insert_entry byte_order (e ∷ l) k v ++ m ∷ r
      step Less is rest = rw is refl
      step Equal is rest = rw is refl
      step Greater is rest = rw is (ap (λ es. e ∷ es) rest)

  pub insert_right : (k : List ℕ) (v : X) (l : List (List ℕ × X)) (m : List ℕ × X) (r : List (List ℕ × X)) → byte_order k m.0 ≡ Greater → IsAscending (l ++ m ∷ r) → insert_entry byte_order (l ++ m ∷ r) k v ≡ l ++ m ∷ insert_entry byte_order r k v
  unfolding IsStrictlySortedBy
  insert_right k v [] m r greater sorted = insert_later k v m r greater
  insert_right k v (e ∷ l) m r greater sorted =
      insert_later k v e _ (later_than_less k e.0 m.0 greater (all_middle (λ y. byte_order e.0 y ≡ Less) l m r sorted.0)) ∙ ap (λ es. e ∷ es) (insert_right k v l m r greater sorted.1)

  pub insert_middle : (k : List ℕ) (v : X) (l : List (List ℕ × X)) (m : List ℕ × X) (r : List (List ℕ × X)) → byte_order k m.0 ≡ Equal → IsAscending (l ++ m ∷ r) → insert_entry byte_order (l ++ m ∷ r) k v ≡ l ++ (m.0, v) ∷ r
  unfolding IsStrictlySortedBy
  insert_middle k v [] m r same sorted = rw same refl
  insert_middle k v (e ∷ l) m r same sorted =
      insert_later k v e _ (same_than_less k e.0 m.0 same (all_middle (λ y. byte_order e.0 y ≡ Less) l m r sorted.0)) ∙ ap (λ es. e ∷ es) (insert_middle k v l m r same sorted.1)

  remove_later : (k : List ℕ) (e : List ℕ × X) (es : List (List ℕ × X)) → byte_order k e.0 ≡ Greater → remove_entry (is_at (byte_order k)) (e ∷ es) ≡ e ∷ remove_entry (is_at (byte_order k)) es
  remove_later k e es greater = rw greater refl

  before_all_stay : (k x : List ℕ) (es : List (List ℕ × X)) → byte_order k x ≡ Less → AllByRecursion (λ y. byte_order x y ≡ Less) (keys_of es) → remove_entry (is_at (byte_order k)) es ≡ es
  before_all_stay k x [] less all = refl
  before_all_stay k x (e ∷ es) less all = rw (nat_list_cmp_total.trans k x e.0 less all.0) (ap (λ ds. e ∷ ds) (before_all_stay k x es less all.1))

  pub remove_left : (k : List ℕ) (l : List (List ℕ × X)) (m : List ℕ × X) (r : List (List ℕ × X)) → byte_order k m.0 ≡ Less → IsAscending (l ++ m ∷ r) → remove_entry (is_at (byte_order k)) (l ++ m ∷ r) ≡ remove_entry (is_at (byte_order k)) l ++ m ∷ r
  unfolding IsStrictlySortedBy
  remove_left k [] m r less sorted = rw less (ap (λ es. m ∷ es) (before_all_stay k m.0 r less sorted.0))
  remove_left k (e ∷ l) m r less sorted = step (is_at (byte_order k) e.0) (remove_left k l m r less sorted.1)
    where
      step : (b : Bool) → remove_entry (is_at (byte_order k)) (l ++ m ∷ r) ≡ remove_entry (is_at (byte_order k)) l ++ m ∷ r → cond b (l ++ m ∷ r) (e ∷ remove_entry (is_at (byte_order k)) (l ++ m ∷ r)) ≡ cond b l (e ∷ remove_entry (is_at (byte_order k)) l) ++ m ∷ r
      step true rest = refl
      step false rest = ap (λ es. e ∷ es) rest

  pub remove_right : (k : List ℕ) (l : List (List ℕ × X)) (m : List ℕ × X) (r : List (List ℕ × X)) → byte_order k m.0 ≡ Greater → IsAscending (l ++ m ∷ r) → remove_entry (is_at (byte_order k)) (l ++ m ∷ r) ≡ l ++ m ∷ remove_entry (is_at (byte_order k)) r
  unfolding IsStrictlySortedBy
  remove_right k [] m r greater sorted = remove_later k m r greater
  remove_right k (e ∷ l) m r greater sorted =
      remove_later k e _ (later_than_less k e.0 m.0 greater (all_middle (λ y. byte_order e.0 y ≡ Less) l m r sorted.0)) ∙ ap (λ es. e ∷ es) (remove_right k l m r greater sorted.1)

  pub remove_middle : (k : List ℕ) (l : List (List ℕ × X)) (m : List ℕ × X) (r : List (List ℕ × X)) → byte_order k m.0 ≡ Equal → IsAscending (l ++ m ∷ r) → remove_entry (is_at (byte_order k)) (l ++ m ∷ r) ≡ l ++ r
  unfolding IsStrictlySortedBy
  remove_middle k [] m r same sorted = rw same refl
  remove_middle k (e ∷ l) m r same sorted =
      remove_later k e _ (same_than_less k e.0 m.0 same (all_middle (λ y. byte_order e.0 y ≡ Less) l m r sorted.0)) ∙ ap (λ es. e ∷ es) (remove_middle k l m r same sorted.1)

  all_inserted : (P : List ℕ → Type 0) (k : List ℕ) (v : X) (es : List (List ℕ × X)) → P k → AllByRecursion P (keys_of es) → AllByRecursion P (keys_of (insert_entry byte_order es k v))
  all_inserted P k v [] here all = (here, tt)
  all_inserted P k v (e ∷ es) here all = step (byte_order k e.0) refl (all_inserted P k v es here all.1)
    where
      step : (o : Ordering) → byte_order k e.0 ≡ o → AllByRecursion P (keys_of (insert_entry byte_order es k v)) → AllByRecursion P (keys_of (insert_entry byte_order (e ∷ es) k v))
      step Less is rest = rw is (here, all)
      step Equal is rest = rw is all
      step Greater is rest = rw is (all.0, rest)

  all_later : (k x : List ℕ) (es : List (List ℕ × X)) → byte_order k x ≡ Less → AllByRecursion (λ y. byte_order x y ≡ Less) (keys_of es) → AllByRecursion (λ y. byte_order k y ≡ Less) (keys_of es)
  all_later k x [] less all = tt
  all_later k x (e ∷ es) less all = (nat_list_cmp_total.trans k x e.0 less all.0, all_later k x es less all.1)

  pub insert_ascends : (k : List ℕ) (v : X) (es : List (List ℕ × X)) → IsAscending es → IsAscending (insert_entry byte_order es k v)
  unfolding IsStrictlySortedBy
  insert_ascends k v [] sorted = (tt, tt)
  insert_ascends k v (e ∷ es) sorted = step (byte_order k e.0) refl (insert_ascends k v es sorted.1)
    where
      step : (o : Ordering) → byte_order k e.0 ≡ o → IsAscending (insert_entry byte_order es k v) → IsAscending (insert_entry byte_order (e ∷ es) k v)
      step Less is rest = rw is ((is, all_later k e.0 es is sorted.0), sorted)
      step Equal is rest = rw is sorted
      step Greater is rest = rw is (all_inserted (λ y. byte_order e.0 y ≡ Less) k v es (nat_list_cmp_total.antisymm e.0 k ∙ ap ordering_reverse is) sorted.0, rest)

  all_kept : (P : List ℕ → Type 0) (test : List ℕ → Bool) (es : List (List ℕ × X)) → AllByRecursion P (keys_of es) → AllByRecursion P (keys_of (remove_entry test es))
  all_kept P test [] all = tt
  all_kept P test (e ∷ es) all = step (test e.0) (all_kept P test es all.1)
    where
      step : (b : Bool) → AllByRecursion P (keys_of (remove_entry test es)) → AllByRecursion P (keys_of (cond b es (e ∷ remove_entry test es)))
      step true rest = all.1
      step false rest = (all.0, rest)

  pub remove_ascends : (test : List ℕ → Bool) (es : List (List ℕ × X)) → IsAscending es → IsAscending (remove_entry test es)
  unfolding IsStrictlySortedBy
  remove_ascends test [] sorted = tt
  remove_ascends test (e ∷ es) sorted = step (test e.0) (remove_ascends test es sorted.1)
    where
      step : (b : Bool) → IsAscending (remove_entry test es) → IsAscending (cond b es (e ∷ remove_entry test es))
      step true rest = sorted.1
      step false rest = (all_kept (λ y. byte_order e.0 y ≡ Less) test es sorted.0, rest)

  -- Where nothing is found, nothing is taken out.
  pub removes_nothing : (test : List ℕ → Bool) (es : List (List ℕ × X)) → lookup test es ≡ None → remove_entry test es ≡ es
  removes_nothing test [] none = refl
  removes_nothing test (e ∷ es) none = step (test e.0) none (removes_nothing test es)
    where
      step : (b : Bool) → cond b (Some e.1) (lookup test es) ≡ None → (lookup test es ≡ None → remove_entry test es ≡ es) → cond b es (e ∷ remove_entry test es) ≡ e ∷ es
      step true none rest = absurd (cc)
      step false none rest = ap (λ ds. e ∷ ds) (rest none)

  pub sides_shorter : (l : List (List ℕ × X)) (m : List ℕ × X) (r : List (List ℕ × X)) → (length l < length (l ++ m ∷ r)) × (length r < length (l ++ m ∷ r))
  sides_shorter l m r = omega (arith, length-append l (m ∷ r))

-- Terms that a tree with this node stands for.
pub record AtNode (d : Terms) (n : Node) : Type 0 where
  pub is : d ≡ n.left ++ entry_view n.entry ∷ n.right
  pub sorted : IsAscending (n.left ++ entry_view n.entry ∷ n.right)
  pub left : IsAscending n.left
  pub right : IsAscending n.right
  pub shorter : (length n.left < length d) × (length n.right < length d)

pub at_node : {A : Type 0} (f : A → Node) (o : Option A) (a : A) (n : Node) (d : Terms) → top_view f o ≡ d → o ≡ Some a → n ≡ f a → IsAscending d → AtNode d n
at_node f o a n d view_is some node sorted =
    let is : d ≡ n.left ++ entry_view n.entry ∷ n.right = sym view_is ∙ ap (top_view f) some ∙ ap node_view (sym node) in
    let here = subst (λ (ts : Terms). IsAscending ts) is sorted in
    record {
      is = is;
      sorted = here;
      left = ascending_left n.left (entry_view n.entry) n.right here;
      right = ascending_right n.left (entry_view n.entry) n.right here;
      shorter = rw is (sides_shorter n.left (entry_view n.entry) n.right);
    }

module _ (k : Text) (d : Terms) (n : Node) (h : AtNode d n) where
  pub found_left : byte_order k n.entry.key ≡ Less → definition_at k n.left ≡ definition_at k d
  found_left less = sym (lookup_left k n.left (entry_view n.entry) n.right less h.sorted) ∙ ap (definition_at k) (sym h.is)

  pub found_right : byte_order k n.entry.key ≡ Greater → definition_at k n.right ≡ definition_at k d
  found_right greater = sym (lookup_right k n.left (entry_view n.entry) n.right greater h.sorted) ∙ ap (definition_at k) (sym h.is)

  pub found_here : byte_order k n.entry.key ≡ Equal → Some (entry_view n.entry).1 ≡ definition_at k d
  found_here same = sym (lookup_middle k n.left (entry_view n.entry) n.right same h.sorted) ∙ ap (definition_at k) (sym h.is)

  pub put_left : (v : Definition) (l r : Terms) (e : Entry) → byte_order k n.entry.key ≡ Less → l ≡ insert_entry byte_order n.left k v → e ≡ n.entry → r ≡ n.right → l ++ entry_view e ∷ r ≡ insert_entry byte_order d k v
  put_left v l r e less left entry right = rw (left, entry, right, h.is) (sym (insert_left k v n.left (entry_view n.entry) n.right less))

  pub put_right : (v : Definition) (l r : Terms) (e : Entry) → byte_order k n.entry.key ≡ Greater → l ≡ n.left → e ≡ n.entry → r ≡ insert_entry byte_order n.right k v → l ++ entry_view e ∷ r ≡ insert_entry byte_order d k v
  put_right v l r e greater left entry right = rw (left, entry, right, h.is) (sym (insert_right k v n.left (entry_view n.entry) n.right greater h.sorted))

  pub put_here : (v : Definition) (l r : Terms) (x : Text) → byte_order k n.entry.key ≡ Equal → l ≡ n.left → x ≡ n.entry.key → r ≡ n.right → l ++ (x, v) ∷ r ≡ insert_entry byte_order d k v
  put_here v l r x same left key right = rw (left, key, right, h.is) (sym (insert_middle k v n.left (entry_view n.entry) n.right same h.sorted))

  pub rest_left : (l r : Terms) (e : Entry) → byte_order k n.entry.key ≡ Less → l ≡ remove_entry (is_at (byte_order k)) n.left → e ≡ n.entry → r ≡ n.right → l ++ entry_view e ∷ r ≡ remove_entry (is_at (byte_order k)) d
  rest_left l r e less left entry right = rw (left, entry, right, h.is) (sym (remove_left k n.left (entry_view n.entry) n.right less h.sorted))

  pub rest_right : (l r : Terms) (e : Entry) → byte_order k n.entry.key ≡ Greater → l ≡ n.left → e ≡ n.entry → r ≡ remove_entry (is_at (byte_order k)) n.right → l ++ entry_view e ∷ r ≡ remove_entry (is_at (byte_order k)) d
  rest_right l r e greater left entry right = rw (left, entry, right, h.is) (sym (remove_right k n.left (entry_view n.entry) n.right greater h.sorted))

  pub rest_here : byte_order k n.entry.key ≡ Equal → n.left ++ n.right ≡ remove_entry (is_at (byte_order k)) d
  rest_here same = rw h.is (sym (remove_middle k n.left (entry_view n.entry) n.right same h.sorted))
