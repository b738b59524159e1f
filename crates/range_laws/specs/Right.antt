-- When what is done with the items of arrays leaves expansion as it is.
use Rattle.std.specs.Prelude.{◌≡◌, ℕ, zero, suc, [], Option, None, Result, Ok, Err}
use Rattle.ld_model.specs.Tree.{Trees, no_trees, tree}
use Rattle.expand_model.specs.Scope.{Options, Fault}
use Rattle.expand_model.specs.Rules.{At}
use Rattle.expand_model.specs.Expand.{items}
use Rattle.expand_model.specs.Over.{Answer, expands, tries, answers, Asked, Outcome}

-- What an outcome is without the state.
abbrev pub outcome : {S X : Type 0} → Outcome S X → Result X Fault
outcome (Ok v) = Ok v.0
outcome (Err e) = Err e.0

-- The first so many items, and the others.
abbrev pub first_trees : ℕ → Trees → Trees
first_trees k no_trees = no_trees
first_trees zero (tree t ts) = no_trees
first_trees (suc k) (tree t ts) = tree t (first_trees k ts)

abbrev pub rest_trees : ℕ → Trees → Trees
rest_trees k no_trees = no_trees
rest_trees zero (tree t ts) = tree t ts
rest_trees (suc k) (tree t ts) = rest_trees k ts

-- An item is expanded; or it is tried, and each trial with this mark is kept; or what is answered for a range is what its items come to.
abbrev pub IsRight : {S : Type 0} → Options → (Trees → ℕ → At → ℕ → S → Option S) → Trees → ℕ → At → Answer → Type 0
IsRight o settle ts n a expands = Unit {0}
IsRight o settle ts n a (tries mark) = (s : _) → settle ts n a mark s ≡ None
IsRight o settle ts n a (answers more d) = d ≡ items o (first_trees (suc more) ts) n a []

-- Each item is expanded, and each trial is kept.
abbrev pub expands_each : {S : Type 0} → Trees → ℕ → At → S → Asked S
expands_each ts n a s = record { answer = expands; state = s }

abbrev pub keeps_each : {S : Type 0} → Trees → ℕ → At → ℕ → S → Option S
keeps_each ts n a mark s = None
