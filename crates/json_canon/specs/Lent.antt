-- What a borrowed member of an object is.
use Rattle.std.specs.Prelude.{ℕ, List}
use Rattle.std.specs.Borrow.{Bor}
use Rattle.ld_model.specs.Tree as model
use Rattle.ld_tree.specs.declared.value.Tree.{Tree}
use Rattle.ld_tree.specs.View.{view}

-- The name that a pair of references points to, and the tree of its value.
abbrev pub lent : Bor (List ℕ) × Bor Tree → List ℕ × model.Tree
lent m = (m.0.now, view m.1.now)
