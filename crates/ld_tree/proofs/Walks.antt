-- What is left of a walk over an array or an object.
use Rattle.std.proofs.Common.{◌≡◌, ℕ, ◌<◌, ◌≤◌, List, [], ◌∷◌, ◌++◌, arith, sym, subst}
use Rattle.ld_model.specs.Tree as model
use Rattle.ld_model.specs.Tree.{weight, trees_weight, members_weight, trees_of, members_of, array, object, Pairs, AreAscending, AreBefore}
use Rattle.ld_tree.proofs.ViewLemmas.{before_place}

value_within : (done : List model.Tree) (t : model.Tree) (rest : List model.Tree) → weight t ≤ trees_weight (trees_of (done ++ t ∷ rest))
value_within [] t rest = omega arith
value_within (d ∷ done) t rest = omega (arith, value_within done t rest)

entry_within : (done : Pairs) (m : List ℕ × model.Tree) (rest : Pairs) → weight m.1 ≤ members_weight (members_of (done ++ m ∷ rest))
entry_within [] m rest = omega arith
entry_within (d ∷ done) m rest = omega (arith, entry_within done m rest)

-- A value that a walk gives is lighter than the array.
pub value_is_lighter : (self : model.Tree) (done : List model.Tree) (t : model.Tree) (rest left all : List model.Tree) → self ≡ array (trees_of all) → done ++ left ≡ all → left ≡ t ∷ rest → weight t < weight self
value_is_lighter self done t rest left all is parts next =
    let within = value_within done t rest in
    rw (is, ← parts, next) (omega arith)

pub entry_is_lighter : (self : model.Tree) (done : Pairs) (m : List ℕ × model.Tree) (rest left all : Pairs) → self ≡ object (members_of all) → done ++ left ≡ all → left ≡ m ∷ rest → weight m.1 < weight self
entry_is_lighter self done m rest left all is parts next =
    let within = entry_within done m rest in
    rw (is, ← parts, next) (omega arith)

-- The keys that were given come before the next one.
pub before_next_entry : (done : Pairs) (m : List ℕ × model.Tree) (rest left all : Pairs) → AreAscending all → done ++ left ≡ all → left ≡ m ∷ rest → AreBefore done m.0
before_next_entry done m rest left all sorted parts next =
    before_place done m rest (subst (λ l. AreAscending (done ++ l)) next (subst AreAscending (sym parts) sorted))
