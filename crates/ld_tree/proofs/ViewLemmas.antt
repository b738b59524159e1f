-- Laws of the lists that trees are made of.
use Rattle.std.proofs.Common.{◌≡◌, ℕ, zero, suc, ◌+◌, ◌-◌, ◌<◌, ◌≤◌, List, [], ◌∷◌, ◌++◌, length, get_or, take, drop, insert, set, refl, ap, ap₂, ◌∙◌, sym, subst, arith, true, false, Ok, Err, Some, None, Ordering, Less, Equal, Greater, Bool, take-append-drop, drop-cons, add-one}
use Rattle.std.proofs.lemmas.List.{map-append, length-map}
use Rattle.std.specs.Prelude.{sum_by, remove, slice_get}
use Rattle.std.proofs.lemmas.List.Sums.{sum_by-cons, sum_by_more_le}
use Rattle.std.specs.List.{AllByRecursion}
use Rattle.std.specs.List.Sorted.{IsStrictlySortedBy}
use Rattle.std.proofs.lemmas.Map.{NonePasses, lookup-none}
use Rattle.std.specs.Map.{keys_of, values_of, remove_entry, set_value}
use Rattle.std.specs.BTreeMap.{is_at, insert_entry}
use Rattle.std.specs.Ordering.{is_lt, is_le, match_ordering, ordering_reverse}
use Rattle.std.proofs.lemmas.Cmp.{nat_list_cmp_total}
use Rattle.std_collections.specs.Layout.BTreeMap.{seek, one_further}
use Rattle.std_collections.specs.Layout.Columns.{set_value_at}
use Rattle.std_collections.proofs.Seek.{seek_err, seek-Ok, insert_entry-Ok, insert_entry_err, sorted_insert, found_at, missing_at}
use Rattle.ld_model.proofs.Truths.{and-false}
use Rattle.ld_model.specs.Tree as model
use Rattle.ld_model.specs.Tree.{weight, trees_weight, members_weight, same_tree, same_trees, same_members, trees_of, members_of, array, object, AreAscending, AreBefore, byte_order, is_last_before, member_at}
use Rattle.ld_tree.specs.declared.value.Tree.{Tree}
use Rattle.ld_tree.proofs.Searches.{seek-past, flipped}
use Rattle.ld_tree.specs.View.{view, trees_view, members_view, member_view}

pub keys_of-members_view : (ms : List (List ℕ × Tree)) → keys_of (members_view ms) ≡ keys_of ms
keys_of-members_view [] = refl
keys_of-members_view (m ∷ ms) = ap (λ l. m.0 ∷ l) (keys_of-members_view ms)

pub seek-members_view : (k : List ℕ) (ms : List (List ℕ × Tree)) → seek (byte_order k) (members_view ms) ≡ seek (byte_order k) ms
seek-members_view k [] = refl
seek-members_view k (m ∷ ms) = ap (λ r. match_ordering (byte_order k m.0) (Err 0) (Ok 0) (one_further r)) (seek-members_view k ms)

-- The value at a place, changed.
members_view-set : (ms : List (List ℕ × Tree)) (i : ℕ) (m : List ℕ × Tree) (t : Tree) → i < length ms → m ≡ get_or ms i m → members_view (set ms i (m.0, t)) ≡ set_value_at (members_view ms) i (view t)
members_view-set [] i m t within at = absurd (omega arith)
members_view-set (x ∷ ms) zero m t within at = λ j. ((at j).0, view t) ∷ members_view ms
members_view-set (x ∷ ms) (suc i) m t within at = ap (λ l. member_view x ∷ l) (members_view-set ms i m t (omega arith) at)

map-take : (i : ℕ) (ms : List (List ℕ × Tree)) → members_view (take i ms) ≡ take i (members_view ms)
map-take zero ms = refl
map-take (suc i) [] = refl
map-take (suc i) (x ∷ ms) = ap (λ l. member_view x ∷ l) (map-take i ms)

map-drop : (i : ℕ) (ms : List (List ℕ × Tree)) → members_view (drop i ms) ≡ drop i (members_view ms)
map-drop zero ms = refl
map-drop (suc i) [] = refl
map-drop (suc i) (x ∷ ms) = map-drop i ms

members_view-insert : (ms : List (List ℕ × Tree)) (i : ℕ) (m : List ℕ × Tree) → members_view (insert ms i m) ≡ insert (members_view ms) i (member_view m)
members_view-insert ms i m =
    map-append member_view (take i ms) (m ∷ drop i ms) ∙ ap₂ (λ a b. a ++ member_view m ∷ b) (map-take i ms) (map-drop i ms)

members_view-remove : (ms : List (List ℕ × Tree)) (i : ℕ) → i < length ms → members_view (remove ms i) ≡ remove (members_view ms) i
members_view-remove [] i within = absurd (omega arith)
members_view-remove (m ∷ ms) zero within = refl
members_view-remove (m ∷ ms) (suc i) within = ap (λ l. member_view m ∷ l) (members_view-remove ms i (omega arith))

-- What a search found, or where there is room for a key.
pub record Found (k : List ℕ) (ms : List (List ℕ × Tree)) (i : ℕ) : Type 0 where
  pub within : i < length ms
  pub value : (d : List ℕ × Tree) → member_at k (members_view ms) ≡ Some (view (get_or ms i d).1)
  pub writes : (m : List ℕ × Tree) (t : Tree) → m ≡ get_or ms i m → members_view (set ms i (m.0, t)) ≡ insert_entry byte_order (members_view ms) k (view t)
  pub leaves : (m : List ℕ × Tree) (t : Tree) → m ≡ get_or ms i m → members_view (set ms i (m.0, t)) ≡ set_value (is_at (byte_order k)) (members_view ms) (view t)
  pub removes : members_view (remove ms i) ≡ remove_entry (is_at (byte_order k)) (members_view ms)

value_at : (ms : List (List ℕ × Tree)) (i : ℕ) (d : List ℕ × Tree) → i < length ms → slice_get (values_of (members_view ms)) i ≡ Some (view (get_or ms i d).1)
value_at [] i d within = absurd (omega arith)
value_at (m ∷ ms) zero d within = refl
value_at (m ∷ ms) (suc i) d within = value_at ms i d (omega arith)

pub found : (k : List ℕ) (ms : List (List ℕ × Tree)) (i : ℕ) → seek (byte_order k) (members_view ms) ≡ Ok i → Found k ms i
found k ms i at =
    let place = seek-Ok (byte_order k) (members_view ms) i at in
    let there = found_at (byte_order k) (members_view ms) i at in
    let within : i < length ms = simp length-map at place.0 in
    record {
      within = within;
      value = λ d. there.value ∙ value_at ms i d within;
      writes = λ m t is. members_view-set ms i m t within is ∙ insert_entry-Ok byte_order k (view t) (members_view ms) i at;
      leaves = λ m t is. members_view-set ms i m t within is ∙ there.writes (view t);
      removes = members_view-remove ms i within ∙ there.removes;
    }

keys_of-set_value_at : (ms : model.Pairs) (i : ℕ) (t : model.Tree) → keys_of (set_value_at ms i t) ≡ keys_of ms
keys_of-set_value_at [] i t = refl
keys_of-set_value_at (m ∷ ms) zero t = refl
keys_of-set_value_at (m ∷ ms) (suc i) t = ap (λ l. m.0 ∷ l) (keys_of-set_value_at ms i t)

pub written_ascends : (k : List ℕ) (t : Tree) (ms : List (List ℕ × Tree)) (i : ℕ) (m : List ℕ × Tree) → AreAscending (members_view ms) → seek (byte_order k) (members_view ms) ≡ Ok i → m ≡ get_or ms i m → AreAscending (members_view (set ms i (m.0, t)))
written_ascends k t ms i m sorted at is =
    subst (IsStrictlySortedBy byte_order) (sym (ap keys_of (members_view-set ms i m t (found k ms i at).within is) ∙ keys_of-set_value_at (members_view ms) i (view t))) sorted

-- A list without one of its members ascends.
all-remove : (P : List ℕ → Type 0) (ms : List (List ℕ × Tree)) (i : ℕ) → i < length ms → AllByRecursion P (keys_of (members_view ms)) → AllByRecursion P (keys_of (members_view (remove ms i)))
all-remove P [] i within all = absurd (omega arith)
all-remove P (m ∷ ms) zero within all = all.1
all-remove P (m ∷ ms) (suc i) within all = (all.0, all-remove P ms i (omega arith) all.1)

pub remove_ascends : (ms : List (List ℕ × Tree)) (i : ℕ) → i < length ms → AreAscending (members_view ms) → AreAscending (members_view (remove ms i))
unfolding IsStrictlySortedBy
remove_ascends [] i within sorted = absurd (omega arith)
remove_ascends (m ∷ ms) zero within sorted = sorted.1
remove_ascends (m ∷ ms) (suc i) within sorted = (all-remove (λ x. byte_order m.0 x ≡ Less) ms i (omega arith) sorted.0, remove_ascends ms i (omega arith) sorted.1)

-- Where a search found room, a member put there.
pub room_within : (k : List ℕ) (ms : List (List ℕ × Tree)) (i : ℕ) → seek (byte_order k) (members_view ms) ≡ Err i → i < length ms + 1
room_within k ms i at = let le = simp length-map at (seek_err (byte_order k) (members_view ms) i at).0 in omega arith

pub inserted : (k : List ℕ) (t : Tree) (ms : List (List ℕ × Tree)) (i : ℕ) → seek (byte_order k) (members_view ms) ≡ Err i → members_view (insert ms i (k, t)) ≡ insert_entry byte_order (members_view ms) k (view t)
inserted k t ms i at = members_view-insert ms i (k, t) ∙ insert_entry_err byte_order k (view t) (members_view ms) i at

pub inserted_ascends : (k : List ℕ) (t : Tree) (ms : List (List ℕ × Tree)) (i : ℕ) → AreAscending (members_view ms) → seek (byte_order k) (members_view ms) ≡ Err i → AreAscending (members_view (insert ms i (k, t)))
inserted_ascends k t ms i sorted at =
    subst AreAscending (sym (members_view-insert ms i (k, t))) (sorted_insert byte_order k (view t) nat_list_cmp_total (members_view ms) i sorted at)

pub changes_nothing : (test : List ℕ → Bool) (t : model.Tree) (es : model.Pairs) → NonePasses test es → set_value test es t ≡ es
changes_nothing test t [] none = refl
changes_nothing test t (e ∷ es) none = rw none.0 (ap (λ l. e ∷ l) (changes_nothing test t es none.1))

before_next : (k x y : List ℕ) → is_le (byte_order k x) ≡ true → byte_order x y ≡ Less → byte_order k y ≡ Less
before_next k x y le less = by_cases (byte_order k x) refl le
  where
    by_cases : (o : Ordering) → byte_order k x ≡ o → is_le o ≡ true → byte_order k y ≡ Less
    by_cases Less is le = nat_list_cmp_total.trans k x y is less
    by_cases Equal is le = nat_list_cmp_total.congr k x y is ∙ less
    by_cases Greater is le = absurd (cc)

-- Nothing stands at a key that a search didn't find.
pub not_found : (k : List ℕ) (ms : model.Pairs) (i : ℕ) → AreAscending ms → seek (byte_order k) ms ≡ Err i → (member_at k ms ≡ None) × (remove_entry (is_at (byte_order k)) ms ≡ ms) × ((t : model.Tree) → set_value (is_at (byte_order k)) ms t ≡ ms)
not_found k ms i sorted at =
    let none : NonePasses (is_at (byte_order k)) ms = missing_at (byte_order k) {cmp = byte_order} (before_next k) ms i sorted at in
    (lookup-none _ ms none, removes_nothing _ ms none, λ t. changes_nothing _ t ms none)
  where
    removes_nothing : (test : List ℕ → Bool) (es : model.Pairs) → NonePasses test es → remove_entry test es ≡ es
    removes_nothing test [] none = refl
    removes_nothing test (e ∷ es) none = rw none.0 (ap (λ l. e ∷ l) (removes_nothing test es none.1))

pub ascending_nil : AreAscending []
unfolding IsStrictlySortedBy
ascending_nil = tt

-- A key behind the last one is behind all.
is_less : (o : Ordering) → is_lt o ≡ true → o ≡ Less
is_less Less is = refl
is_less Equal is = absurd (cc)
is_less Greater is = absurd (cc)

all_before : (k : List ℕ) (ms : model.Pairs) → AreAscending ms → is_last_before k ms ≡ true → AreBefore ms k
unfolding IsStrictlySortedBy
all_before k [] sorted last = tt
all_before k (m ∷ []) sorted last = (is_less (byte_order m.0 k) last, tt)
all_before k (m ∷ n ∷ ms) sorted last =
    let rest = all_before k (n ∷ ms) sorted.1 last in
    (nat_list_cmp_total.trans m.0 n.0 k sorted.0.0 rest.0, rest)

pub behind : (k : List ℕ) (ms : List (List ℕ × Tree)) → AreAscending (members_view ms) → is_last_before k (members_view ms) ≡ true → seek (byte_order k) (members_view ms) ≡ Err (length ms)
behind k ms sorted last = seek-past k (members_view ms) (all_before k (members_view ms) sorted last) ∙ ap Err (length-map ms member_view)

-- A key above the others may stand behind them.
all-push : (P : List ℕ → Type 0) (ms : model.Pairs) (m : List ℕ × model.Tree) → AllByRecursion P (keys_of ms) → P m.0 → AllByRecursion P (keys_of (ms ++ m ∷ []))
all-push P [] m all last = (last, tt)
all-push P (l ∷ ms) m all last = (all.0, all-push P ms m all.1 last)

pub ascending_push : (ms : model.Pairs) (k : List ℕ) (t : model.Tree) → AreAscending ms → AreBefore ms k → AreAscending (ms ++ (k, t) ∷ [])
unfolding IsStrictlySortedBy
ascending_push [] k t sorted below = (tt, tt)
ascending_push (m ∷ ms) k t sorted below = (all-push (λ x. byte_order m.0 x ≡ Less) ms (k, t) sorted.0 below.0, ascending_push ms k t sorted.1 below.1)

-- The last of some members.
last_at : (k : List ℕ) (ms : List (List ℕ × Tree)) (i : ℕ) (m : List ℕ × Tree) → slice_get ms i ≡ Some m → length ms ≡ i + 1 → is_last_before k (members_view ms) ≡ is_lt (byte_order m.0 k)
last_at k [] i m is len = absurd (omega arith)
last_at k (l ∷ []) zero m is len = let same : l ≡ m = cc in ap (λ (x : List ℕ × Tree). is_lt (byte_order x.0 k)) same
last_at k (l ∷ []) (suc i) m is len = absurd (omega arith)
last_at k (l ∷ n ∷ ms) zero m is len = absurd (omega arith)
last_at k (l ∷ n ∷ ms) (suc i) m is len = last_at k (n ∷ ms) i m is (omega arith)

pub is_last_before-view : (k : List ℕ) (ms : List (List ℕ × Tree)) (m : List ℕ × Tree) → slice_get ms (length ms - 1) ≡ Some m → is_last_before k (members_view ms) ≡ is_lt (byte_order m.0 k)
is_last_before-view k [] m is = absurd (cc)
is_last_before-view k (l ∷ ms) m is = last_at k (l ∷ ms) (length (l ∷ ms) - 1) m is (omega arith)

-- The first member alone answers for a key that isn't behind it.
first_decides : (k : List ℕ) (ms : List (List ℕ × Tree)) (m : List ℕ × Tree) (o : Ordering) → slice_get ms 0 ≡ Some m → byte_order m.0 k ≡ o → (seek (byte_order k) (members_view ms) ≡ match_ordering (ordering_reverse o) (Err 0) (Ok 0) (one_further (seek (byte_order k) (members_view (drop 1 ms)))))
first_decides k [] m o is says = absurd (cc)
first_decides k (l ∷ ms) m o is says =
    let here : m ≡ l = cc in
    ap (λ o. match_ordering o (Err 0) (Ok 0) (one_further (seek (byte_order k) (members_view ms)))) (flipped l.0 k o (subst (λ (x : List ℕ × Tree). byte_order x.0 k ≡ o) here says))

pub at_first : (k : List ℕ) (ms : List (List ℕ × Tree)) (m : List ℕ × Tree) → slice_get ms 0 ≡ Some m → byte_order m.0 k ≡ Equal → seek (byte_order k) (members_view ms) ≡ Ok 0
at_first k ms m is says = first_decides k ms m Equal is says

pub before_first : (k : List ℕ) (ms : List (List ℕ × Tree)) (m : List ℕ × Tree) → slice_get ms 0 ≡ Some m → byte_order m.0 k ≡ Greater → seek (byte_order k) (members_view ms) ≡ Err 0
before_first k ms m is says = first_decides k ms m Greater is says

-- A member of a list is lighter than a tree that holds the list.
trees_weight-view : (ts : List Tree) → trees_weight (trees_of (trees_view ts)) ≡ sum_by (λ t. weight (view t)) ts
trees_weight-view [] = refl
trees_weight-view (t ∷ ts) = ap (λ n. weight (view t) + n) (trees_weight-view ts) ∙ sym (sum_by-cons (λ t. weight (view t)) t ts)

members_weight-view : (ms : List (List ℕ × Tree)) → members_weight (members_of (members_view ms)) ≡ sum_by (λ m. weight (view m.1)) ms
members_weight-view [] = refl
members_weight-view (m ∷ ms) = ap (λ n. weight (view m.1) + n) (members_weight-view ms) ∙ sym (sum_by-cons (λ m. weight (view m.1)) m ms)

pub item_is_lighter : (self : Tree) (trees : List model.Tree) (ts : List Tree) (i : ℕ) (t : Tree) → view self ≡ array (trees_of trees) → trees_view ts ≡ trees → i < length ts → t ≡ get_or ts i t → weight (view t) < weight (view self)
item_is_lighter self trees ts i t is same within at =
    let more = sum_by_more_le (λ x. weight (view x)) ts i t within in
    let whole = trees_weight-view ts in
    rw (is, ← same) (subst (λ (x : Tree). weight (view x) < 1 + trees_weight (trees_of (trees_view ts))) (sym at) (omega arith))

pub member_is_lighter : (self : Tree) (members : model.Pairs) (ms : List (List ℕ × Tree)) (i : ℕ) (m : List ℕ × Tree) → view self ≡ object (members_of members) → members_view ms ≡ members → i < length ms → m ≡ get_or ms i m → weight (view m.1) < weight (view self)
member_is_lighter self members ms i m is same within at =
    let more = sum_by_more_le (λ x. weight (view x.1)) ms i m within in
    let whole = members_weight-view ms in
    rw (is, ← same) (subst (λ (x : List ℕ × Tree). weight (view x.1) < 1 + members_weight (members_of (members_view ms))) (sym at) (omega arith))

-- Where members ascend, those ahead of a place come before its key.
first_before : (xs : model.Pairs) (k : List ℕ) (m : List ℕ × model.Tree) (ns : model.Pairs) → AllByRecursion (λ y. byte_order k y ≡ Less) (keys_of (xs ++ m ∷ ns)) → byte_order k m.0 ≡ Less
first_before [] k m ns all = all.0
first_before (x ∷ xs) k m ns all = first_before xs k m ns all.1

-- A member whose key comes after all others goes behind them.
pub insert_entry-behind : (ms : model.Pairs) (m : List ℕ × model.Tree) (ns : model.Pairs) → AreAscending (ms ++ m ∷ ns) → insert_entry byte_order ms m.0 m.1 ≡ ms ++ m ∷ []
unfolding IsStrictlySortedBy
insert_entry-behind [] m ns sorted = refl
insert_entry-behind (l ∷ ms) m ns sorted =
    let above : byte_order m.0 l.0 ≡ Greater = nat_list_cmp_total.antisymm m.0 l.0 ∙ ap ordering_reverse (first_before ms l.0 m ns sorted.0) in
    rw above (ap (λ xs. l ∷ xs) (insert_entry-behind ms m ns sorted.1))

pub before_place : (ms : model.Pairs) (m : List ℕ × model.Tree) (ns : model.Pairs) → AreAscending (ms ++ m ∷ ns) → AreBefore ms m.0
unfolding IsStrictlySortedBy
before_place [] m ns sorted = tt
before_place (l ∷ ms) m ns sorted = (first_before ms l.0 m ns sorted.0, before_place ms m ns sorted.1)

pub before_index : (ms : List (List ℕ × Tree)) (i : ℕ) (m : List ℕ × Tree) → AreAscending (members_view ms) → i < length ms → m ≡ get_or ms i m → AreBefore (members_view (take i ms)) m.0
before_index ms i m sorted within at =
    let rest : drop i ms ≡ m ∷ drop (i + 1) ms = rw (add-one, drop-cons ms i m within, ← at) in
    let parts : members_view ms ≡ members_view (take i ms) ++ (m.0, view m.1) ∷ members_view (drop (i + 1) ms) =
    ap members_view (sym (take-append-drop i ms)) ∙ map-append member_view (take i ms) (drop i ms) ∙ ap (λ l. members_view (take i ms) ++ members_view l) rest in
    before_place (members_view (take i ms)) (m.0, view m.1) (members_view (drop (i + 1) ms)) (subst AreAscending parts sorted)

pub item_weighs : (ts : List Tree) (i : ℕ) (t : Tree) → i < length ts → t ≡ get_or ts i t → weight (view t) ≤ trees_weight (trees_of (trees_view ts))
item_weighs ts i t within at =
    let more = sum_by_more_le (λ x. weight (view x)) ts i t within in
    let whole = trees_weight-view ts in
    subst (λ (x : Tree). weight (view x) ≤ trees_weight (trees_of (trees_view ts))) (sym at) (omega arith)

pub member_weighs : (ms : List (List ℕ × Tree)) (i : ℕ) (m : List ℕ × Tree) → i < length ms → m ≡ get_or ms i m → weight (view m.1) ≤ members_weight (members_of (members_view ms))
member_weighs ms i m within at =
    let more = sum_by_more_le (λ x. weight (view x.1)) ms i m within in
    let whole = members_weight-view ms in
    subst (λ (x : List ℕ × Tree). weight (view x.1) ≤ members_weight (members_of (members_view ms))) (sym at) (omega arith)

-- Lists of different lengths aren't equal.
pub same_trees-lengths : (xs ys : List Tree) → (length xs ≡ length ys → ⊥) → false ≡ same_trees (trees_of (trees_view xs)) (trees_of (trees_view ys))
same_trees-lengths [] [] differ = absurd (differ refl)
same_trees-lengths [] (y ∷ ys) differ = refl
same_trees-lengths (x ∷ xs) [] differ = refl
same_trees-lengths (x ∷ xs) (y ∷ ys) differ = rw (← same_trees-lengths xs ys (λ e. differ (omega (arith, e)))) (sym (and-false _))

pub same_members-lengths : (xs ys : List (List ℕ × Tree)) → (length xs ≡ length ys → ⊥) → false ≡ same_members (members_of (members_view xs)) (members_of (members_view ys))
same_members-lengths [] [] differ = absurd (differ refl)
same_members-lengths [] (y ∷ ys) differ = refl
same_members-lengths (x ∷ xs) [] differ = refl
same_members-lengths (x ∷ xs) (y ∷ ys) differ = rw (← same_members-lengths xs ys (λ e. differ (omega (arith, e)))) (sym (and-false _))
