-- The entries of a map from texts to values, each value seen as a tree.
use Rattle.std.proofs.Common.{◌≡◌, ℕ, List, [], ◌∷◌, ◌++◌, cond, true, false, Bor, Option, None, Some, append_assoc, Less, Equal, Greater, refl, sym, ap, ◌∙◌, subst}
use Rattle.std.specs.Option.{option_map, option_copied}
use Rattle.std.specs.Ordering.{match_ordering}
use Rattle.std.specs.List.Sorted.{IsStrictlySortedBy}
use Rattle.std.specs.Map.{keys_of, lookup, set_value}
use Rattle.std.specs.BTreeMap.{is_at, insert_entry}
use Rattle.ld_model.specs.Tree.{Pairs, member_at, byte_order, put, AreAscending}
use Rattle.ld_model.specs.Tree as model
use Rattle.ld_tree.specs.View.{view, member_view, members_view}
use Rattle.ld_tree.specs.declared.value.Tree.{Tree}
use Rattle.ld_tree.proofs.ViewLemmas.{keys_of-members_view, insert_entry-behind}

abbrev pub Entries : Type 0
Entries = List (List ℕ × Tree)

-- What is lent, seen through the value.
pub lent-view : (o : Option (Bor Tree)) → option_map (λ t. view t.now) o ≡ option_map view (option_copied o)
lent-view None = refl
lent-view (Some t) = refl

pub member_at-view : (k : List ℕ) (es : Entries) → member_at k (members_view es) ≡ option_map view (lookup (is_at (byte_order k)) es)
member_at-view k [] = refl
member_at-view k (e ∷ es) =
    elim (is_at (byte_order k) e.0) as (λ b. cond b (Some (view e.1)) (member_at k (members_view es)) ≡ option_map view (cond b (Some e.1) (lookup (is_at (byte_order k)) es)))
    [ true ↦ refl | false ↦ member_at-view k es ]

pub set-view : (k : List ℕ) (t : Tree) (es : Entries) → members_view (set_value (is_at (byte_order k)) es t) ≡ set_value (is_at (byte_order k)) (members_view es) (view t)
set-view k t [] = refl
set-view k t (e ∷ es) =
    elim (is_at (byte_order k) e.0) as (λ b. members_view (cond b ((e.0, t) ∷ es) (e ∷ set_value (is_at (byte_order k)) es t)) ≡ cond b ((e.0, view t) ∷ members_view es) (member_view e ∷ set_value (is_at (byte_order k)) (members_view es) (view t)))
    [ true ↦ refl | false ↦ ap (λ l. member_view e ∷ l) (set-view k t es) ]

insert-view : (k : List ℕ) (t : Tree) (es : Entries) → members_view (insert_entry byte_order es k t) ≡ insert_entry byte_order (members_view es) k (view t)
insert-view k t [] = refl
insert-view k t (e ∷ es) =
    elim (byte_order k e.0) as (λ o. members_view (match_ordering o ((k, t) ∷ e ∷ es) ((e.0, t) ∷ es) (e ∷ insert_entry byte_order es k t)) ≡ match_ordering o ((k, view t) ∷ member_view e ∷ members_view es) ((e.0, view t) ∷ members_view es) (member_view e ∷ insert_entry byte_order (members_view es) k (view t)))
    [ Less ↦ refl | Equal ↦ refl | Greater ↦ ap (λ l. member_view e ∷ l) (insert-view k t es) ]

pub put-view : (k : List ℕ) (t : Tree) (es : Entries) → members_view (insert_entry byte_order es k t) ≡ put k (view t) (members_view es)
unfolding put
put-view k t es = insert-view k t es

pub ascending-view : (es : Entries) → IsStrictlySortedBy byte_order (keys_of es) → AreAscending (members_view es)
ascending-view es sorted = subst (IsStrictlySortedBy byte_order) (sym (keys_of-members_view es)) sorted

-- Of members that ascend, the first ones are there: the next one goes behind them.
pub put_behind : (ms ns : Pairs) (e : List ℕ × model.Tree) (rest all : Pairs) → AreAscending all → ms ++ e ∷ rest ≡ all → ns ≡ insert_entry byte_order ms e.0 e.1 → ns ++ rest ≡ all
put_behind ms ns e rest all sorted left set =
    ap (λ l. l ++ rest) (set ∙ insert_entry-behind ms e rest (subst AreAscending (sym left) sorted)) ∙ append_assoc ms (e ∷ []) rest ∙ left

-- The same, where what is left is known, and the next one was put.
pub put_next : (ms ns : Pairs) (e : List ℕ × model.Tree) (rest left all : Pairs) → AreAscending all → left ≡ e ∷ rest → ms ++ left ≡ all → ns ≡ put e.0 e.1 ms → ns ++ rest ≡ all
unfolding put
put_next ms ns e rest left all sorted step parts set = put_behind ms ns e rest all sorted (rw step at parts) set
