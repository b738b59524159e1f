-- What is put at a key whose value was taken, and lists seen through values.
use Rattle.std.proofs.Common.{◌≡◌, ℕ, List, [], ◌∷◌, Ordering, Less, Equal, Greater, refl, ap}
use Rattle.std.specs.Map.{set_value}
use Rattle.std.specs.BTreeMap.{is_at, insert_entry}
use Rattle.std.proofs.lemmas.Cmp.{nat_list_cmp_total}
use Rattle.std.proofs.lemmas.Map.Entries.{none_below_head}
use Rattle.ld_model.specs.Tree.{Tree, Pairs, AreAscending, byte_order, put, member_list-members_of, tree_list-trees_of}
use Rattle.ld_model.proofs.Puts.{ascending_tail}
use Rattle.ld_tree.proofs.ViewLemmas.{changes_nothing}

-- The lists of an object and of an array are those that they were made of.
pub ruleset listed = (member_list-members_of, tree_list-trees_of)

-- A value that was changed first, put: the change doesn't show.
insert-over : (k : List ℕ) (t u : Tree) (es : Pairs) → AreAscending es → insert_entry byte_order (set_value (is_at (byte_order k)) es u) k t ≡ insert_entry byte_order es k t
insert-over k t u [] sorted = refl
insert-over k t u (e ∷ es) sorted = by_order (byte_order k e.0) refl (insert-over k t u es (ascending_tail e es sorted))
  where
    by_order : (o : Ordering) → byte_order k e.0 ≡ o → insert_entry byte_order (set_value (is_at (byte_order k)) es u) k t ≡ insert_entry byte_order es k t → insert_entry byte_order (set_value (is_at (byte_order k)) (e ∷ es) u) k t ≡ insert_entry byte_order (e ∷ es) k t
    by_order Less is more = ap (λ l. insert_entry byte_order l k t) (changes_nothing (is_at (byte_order k)) u (e ∷ es) (none_below_head nat_list_cmp_total k e es sorted is))
    by_order Equal is more = rw (is, is) refl
    by_order Greater is more = rw (is, is) (ap (λ l. e ∷ l) more)

pub put-over : (k : List ℕ) (t u : Tree) (es : Pairs) → AreAscending es → put k t (set_value (is_at (byte_order k)) es u) ≡ put k t es
unfolding put
put-over k t u es sorted = insert-over k t u es sorted
