-- The node of a conflict has a label.
use Rattle.std.proofs.Common.{◌≡◌, ℕ, List, [], ◌∷◌, Bool, true, false, Option, Some, None, subst}
use Rattle.std.specs.Prelude.{if◌then◌else◌, ⊤}
use Rattle.std.specs.List.{AllByRecursion}
use Rattle.op_model.specs.Names.{Name}
use Rattle.op_laws.specs.Own.{HasOwn}
use Rattle.sum_model.specs.Sums.{Place, Key, Index, PartEntry}
use Rattle.sum_model.specs.Conflicts.{ConflictAt, is_before, conflict_by, conflict_of, earlier, earliest}
use Rattle.shard_model.specs.Own.{NodeHasOwn}

module _ (names : List Name) where
  abbrev IsOwned : Option ConflictAt → Type 0
  IsOwned None = ⊤
  IsOwned (Some c) = HasOwn names c.node

  by_conflict : (node : Name) (first : List ℕ) (o : Option (Place × List ℕ)) → HasOwn names node → IsOwned (conflict_by node first o)
  by_conflict node first None own = tt
  by_conflict node first (Some second) own = own

  of_index : (node : Name) (o : Option Index) → HasOwn names node → IsOwned (conflict_of node o)
  of_index node None own = tt
  of_index node (Some i) own = by_conflict node i.text i.conflict own

  either : (a b : Option ConflictAt) → IsOwned a → IsOwned b → IsOwned (earlier a b)
  either None b first second = second
  either (Some a) None first second = first
  either (Some a) (Some b) first second = by_test (is_before b.place a.place)
    where
      by_test : (t : Bool) → IsOwned (if t then Some b else Some a)
      by_test true = second
      by_test false = first

  first_owned : (es : List (Key × PartEntry)) → AllByRecursion (NodeHasOwn names) es → IsOwned (earliest es)
  first_owned [] all = tt
  first_owned (e ∷ es) all = either (conflict_of e.0.1 e.1.index) (earliest es) (of_index e.0.1 e.1.index all.0.node) (first_owned es all.1)

  pub conflict_is_owned : (es : List (Key × PartEntry)) (c : ConflictAt) → AllByRecursion (NodeHasOwn names) es → earliest es ≡ Some c → HasOwn names c.node
  conflict_is_owned es c all is = subst IsOwned is (first_owned es all)
