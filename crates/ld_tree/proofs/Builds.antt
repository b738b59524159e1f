-- What pairs in any order make.
use Rattle.std.proofs.Common.{◌≡◌, ℕ, List, [], ◌∷◌, ◌++◌, Bool, true, false, not, cond, ◌&&◌, Option, Some, None, Ordering, Less, Equal, Greater, refl, sym, ap, ◌∙◌, subst, append_assoc, append-nil}
use Rattle.std.specs.Prelude.{filter}
use Rattle.std.specs.Ordering.{is_lt, is_eq, ordering_reverse}
use Rattle.std.specs.Str.{bytes_eq}
use Rattle.std.specs.List.{AllByRecursion}
use Rattle.std.specs.List.Sorted.{ties, IsStableBy}
use Rattle.std.specs.Map.{keys_of}
use Rattle.std.specs.BTreeMap.{insert_entry}
use Rattle.std.proofs.lemmas.Map.Text.{is_eq-slice_cmp}
use Rattle.ld_model.specs.Tree as model
use Rattle.ld_model.specs.Tree.{Pairs, AreAscending, IsBefore, byte_order, member_at, put, null}
use Rattle.ld_model.proofs.Puts.{all-put, bytes_eq-exact, flipped, member_at-put, member_at-put_other, ascending-put, ascending_nil, ascending_cons, all_after, ascending_head}
use Rattle.ld_model.proofs.SameMembers.{same_members}
use Rattle.ld_model.proofs.Truths.{both}
use Rattle.ld_tree.specs.declared.value.Tree.{Tree}
use Rattle.ld_tree.specs.declared.value.Tree.TheVariants.{Null}
use Rattle.ld_tree.specs.View.{view, members_view}
use Rattle.ld_tree.specs.Built.{put_all, built, is_first_after, ascend}
use Rattle.ld_tree.proofs.ViewLemmas.{insert_entry-behind}

-- One more pair.
pub put_all-append : (ps ms : Pairs) (p : List ℕ × model.Tree) → put_all (ps ++ p ∷ []) ms ≡ insert_entry byte_order (put_all ps ms) p.0 p.1
put_all-append [] ms p = refl
put_all-append (q ∷ ps) ms p = put_all-append ps (insert_entry byte_order ms q.0 q.1) p

pub built-append : (ps : Pairs) (p : List ℕ × model.Tree) → built (ps ++ p ∷ []) ≡ insert_entry byte_order (built ps) p.0 p.1
built-append ps p = put_all-append ps [] p

-- What holds of each pair holds of each member.
pub all-built : (P : List ℕ × model.Tree → Type 0) (ps ms : Pairs) → AllByRecursion P ms → AllByRecursion P ps → AllByRecursion P (put_all ps ms)
unfolding put
all-built P [] ms held all = held
all-built P (p ∷ ps) ms held all = all-built P ps (insert_entry byte_order ms p.0 p.1) (all-put P p.0 p.1 ms all.0 held) all.1

-- `put` is std's insertion.
unfold_put : (k : List ℕ) (t : model.Tree) (ms : Pairs) → put_all ((k, t) ∷ []) ms ≡ put k t ms
unfolding put
unfold_put k t ms = refl

put_ascends : (k : List ℕ) (t : model.Tree) (ms : Pairs) → AreAscending ms → AreAscending (put_all ((k, t) ∷ []) ms)
put_ascends k t ms sorted = subst AreAscending (sym (unfold_put k t ms)) (ascending-put k t ms sorted)

put_all_ascends : (ps ms : Pairs) → AreAscending ms → AreAscending (put_all ps ms)
put_all_ascends [] ms sorted = sorted
put_all_ascends (p ∷ ps) ms sorted = put_all_ascends ps _ (put_ascends p.0 p.1 ms sorted)

-- The value of the last pair with a key, or else another one.
abbrev pub last_or : List ℕ → Pairs → Option model.Tree → Option model.Tree
last_or k [] other = other
last_or k (p ∷ ps) other = last_or k ps (cond (bytes_eq k p.0) (Some p.1) other)

at_put : (k : List ℕ) (p : List ℕ × model.Tree) (ms : Pairs) (b : Bool) → bytes_eq k p.0 ≡ b → member_at k (put_all (p ∷ []) ms) ≡ cond b (Some p.1) (member_at k ms)
at_put k p ms true same =
    ap (member_at k) (unfold_put p.0 p.1 ms)
    ∙ subst (λ x. member_at x (put p.0 p.1 ms) ≡ Some p.1) (sym (bytes_eq-exact k p.0 same)) (member_at-put p.0 p.1 ms)
at_put k p ms false apart = ap (member_at k) (unfold_put p.0 p.1 ms) ∙ member_at-put_other k p.0 p.1 ms apart

at_put_all : (k : List ℕ) (ps ms : Pairs) → member_at k (put_all ps ms) ≡ last_or k ps (member_at k ms)
at_put_all k [] ms = refl
at_put_all k (p ∷ ps) ms = at_put_all k ps (put_all (p ∷ []) ms) ∙ ap (last_or k ps) (at_put k p ms (bytes_eq k p.0) refl)

-- Pairs in another order make the same, where those with one key keep theirs.
pub built-same : (ps qs : Pairs) → ((k : List ℕ) → last_or k ps None ≡ last_or k qs None) → built ps ≡ built qs
built-same ps qs same =
    same_members (built ps) (built qs) (put_all_ascends ps [] ascending_nil) (put_all_ascends qs [] ascending_nil)
    (λ k. at_put_all k ps [] ∙ same k ∙ sym (at_put_all k qs []))

-- The order of two pairs of the crate.
abbrev pub pair_before : List ℕ × Tree → List ℕ × Tree → Bool
pair_before a b = is_lt (byte_order a.0 b.0)

tie_of : (o : Ordering) → (not (is_lt o) && not (is_lt (ordering_reverse o))) ≡ is_eq o
tie_of Less = refl
tie_of Equal = refl
tie_of Greater = refl

tie_is : (k : List ℕ) (p : List ℕ × Tree) → ties pair_before (k, Null) p ≡ bytes_eq k p.0
tie_is k p =
    ap (λ o. not (is_lt (byte_order k p.0)) && not (is_lt o)) (flipped k p.0 (byte_order k p.0) refl)
    ∙ tie_of (byte_order k p.0) ∙ is_eq-slice_cmp k p.0

-- Only the pairs with that key count.
last_by : (k : List ℕ) (p : List ℕ × Tree) (ps : List (List ℕ × Tree)) (other : Option model.Tree) (b : Bool) → bytes_eq k p.0 ≡ b → ((o : Option model.Tree) → last_or k (members_view (filter (ties pair_before (k, Null)) ps)) o ≡ last_or k (members_view ps) o) → last_or k (members_view (filter (ties pair_before (k, Null)) (p ∷ ps))) other ≡ last_or k (members_view (p ∷ ps)) other
last_by k p ps other true is rest =
    ap (λ b. last_or k (members_view (cond b (p ∷ filter (ties pair_before (k, Null)) ps) (filter (ties pair_before (k, Null)) ps))) other) (tie_is k p ∙ is)
    ∙ rest (cond (bytes_eq k p.0) (Some (view p.1)) other)
last_by k p ps other false is rest =
    ap (λ b. last_or k (members_view (cond b (p ∷ filter (ties pair_before (k, Null)) ps) (filter (ties pair_before (k, Null)) ps))) other) (tie_is k p ∙ is)
    ∙ rest other
    ∙ sym (ap (λ b. last_or k (members_view ps) (cond b (Some (view p.1)) other)) is)

last_view : (k : List ℕ) (ps : List (List ℕ × Tree)) (other : Option model.Tree) → last_or k (members_view (filter (ties pair_before (k, Null)) ps)) other ≡ last_or k (members_view ps) other
last_view k [] other = refl
last_view k (p ∷ ps) other = last_by k p ps other (bytes_eq k p.0) refl (last_view k ps)

pub built-sorted : (ps qs : List (List ℕ × Tree)) → IsStableBy pair_before ps qs → built (members_view qs) ≡ built (members_view ps)
built-sorted ps qs stable =
    built-same (members_view qs) (members_view ps)
    (λ k. sym (last_view k qs None) ∙ ap (λ l. last_or k (members_view l) None) (stable (k, Null)) ∙ last_view k ps None)

-- Pairs whose keys ascend are what they make.
put_all-behind : (ms ps : Pairs) → AreAscending (ms ++ ps) → put_all ps ms ≡ ms ++ ps
put_all-behind ms [] sorted = sym (append-nil ms)
put_all-behind ms (p ∷ ps) sorted =
    ap (put_all ps) (insert_entry-behind ms p ps sorted)
    ∙ put_all-behind (ms ++ p ∷ []) ps (subst AreAscending (sym (append_assoc ms (p ∷ []) ps)) sorted) ∙ append_assoc ms (p ∷ []) ps

pub built-ascending : (ps : Pairs) → AreAscending ps → ps ≡ built ps
built-ascending ps sorted = sym (put_all-behind [] ps sorted)

is_less : (o : Ordering) → is_lt o ≡ true → o ≡ Less
is_less Less is = refl
is_less Equal is = absurd (cc)
is_less Greater is = absurd (cc)

all_behind : (m : List ℕ × model.Tree) (ms : Pairs) → is_first_after m.0 ms ≡ true → AreAscending ms → AllByRecursion (IsBefore m.0) (keys_of ms)
all_behind m [] first sorted = tt
all_behind m (n ∷ ms) first sorted =
    let less = is_less (byte_order m.0 n.0) first in
    (less, all_after m.0 n.0 ms less (ascending_head n ms sorted))

pub ascending_is : (ms : Pairs) → ascend ms ≡ true → AreAscending ms
ascending_is [] is = ascending_nil
ascending_is (m ∷ ms) is =
    let parts = both (is_first_after m.0 ms) (ascend ms) is in
    let rest = ascending_is ms parts.1 in
    ascending_cons m ms (all_behind m ms parts.0 rest) rest
