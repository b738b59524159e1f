-- Where the number 1.1 stands in an array, a value at a time.
use Rattle.std.proofs.Common.{◌≡◌, ℕ, zero, suc, ◌+◌, ◌≤◌, List, [], ◌∷◌, drop, drop-cons, add-one, Some, ap, ◌∙◌, arith}
use Rattle.std.specs.Prelude.{slice_get}
use Rattle.std.proofs.lemmas.Option.{slice_get_within, get_or_from_slice_get}
use Rattle.ld_model.specs.Tree.{Tree, weight, trees_weight, trees_of}
use Rattle.ld_json.specs.declared.location.Step.TheVariants.{Item}
use Rattle.ld_json.specs.Marks.{misplaced, misplaced_items, under, or_else}

value_ahead : (ts : List Tree) (i : ℕ) (t : Tree) → slice_get ts i ≡ Some t → drop i ts ≡ t ∷ drop (i + 1) ts
value_ahead ts i t at =
    rw (add-one) (drop-cons ts i t (slice_get_within ts i t at) ∙ ap (λ x. x ∷ drop (suc i) ts) (get_or_from_slice_get ts i t t at))

drop_weighs : (ts : List Tree) (i : ℕ) → trees_weight (trees_of (drop i ts)) ≤ trees_weight (trees_of ts)
drop_weighs ts zero = omega arith
drop_weighs [] (suc i) = omega arith
drop_weighs (t ∷ ts) (suc i) = omega (arith, drop_weighs ts i)

pub value_weighs : (ts : List Tree) (i : ℕ) (t : Tree) → slice_get ts i ≡ Some t → weight t ≤ trees_weight (trees_of ts)
value_weighs ts i t at =
    let all = drop_weighs ts i in
    let ahead = ap (λ l. trees_weight (trees_of l)) (value_ahead ts i t at) in
    omega (arith, all, ahead)

pub misplaced_next : (ts : List Tree) (i : ℕ) (t : Tree) → slice_get ts i ≡ Some t → misplaced_items i (trees_of (drop i ts)) ≡ or_else (under (Item i) (misplaced t)) (misplaced_items (i + 1) (trees_of (drop (i + 1) ts)))
misplaced_next ts i t at = ap (λ l. misplaced_items i (trees_of l)) (value_ahead ts i t at)
