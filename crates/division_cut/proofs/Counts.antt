-- Tests of lists and of keys, as the code makes them.
use Rattle.std.proofs.Common.{◌≡◌, ℕ, List, [], ◌∷◌, length, arith, refl, ◌||◌, sym, ap}
use Rattle.std.specs.Prelude.{nat_le, is_some}
use Rattle.std.proofs.lemmas.Bool.Decides.{nat_tests}
use Rattle.ld_model.specs.Tree.{Pairs, trees_of, members_of, member_at, member_list-members_of}
use Rattle.ld_model.specs.Keys.{value_key}
use Rattle.ld_tree.specs.declared.value.Tree.{Tree}
use Rattle.ld_tree.specs.View.{trees_view}
use Rattle.node_model.specs.Keys.{list_key}
use Rattle.node_model.specs.Walk.{has_key}
use Rattle.division_model.specs.ByWeight.{has_two}

pub two_are : (ts : List Tree) → has_two (trees_of (trees_view ts)) ≡ nat_le 2 (length ts)
two_are [] = refl
two_are (t ∷ []) = refl
two_are (t ∷ u ∷ ts) = grind (arith, nat_tests)

pub keys_are : (ms : Pairs) → (is_some (member_at value_key ms) || is_some (member_at list_key ms)) ≡ (has_key value_key (members_of ms) || has_key list_key (members_of ms))
keys_are ms = ap (λ l. is_some (member_at value_key l) || is_some (member_at list_key l)) (sym (member_list-members_of ms))
