-- The terms that a tree stands for: those of the left side, the entry of the node, and those of the right side.
use Rattle.std.specs.Prelude.{◌≡◌, [], ◌∷◌, ◌++◌, length, Option, None, Some}
use Rattle.ctx_types.specs.Context.{Text, Definition, Terms, has_protected}
use Rattle.ctx_types.specs.View.{definition_view}
use Rattle.ctx_types.specs.declared.branch.Entry.{Entry}
use Rattle.ctx_types.specs.declared.branch.Node.{Node}

abbrev pub entry_view : Entry → Text × Definition
entry_view e = (e.key, definition_view e.value)

abbrev pub node_view : Node → Terms
node_view n = n.left ++ entry_view n.entry ∷ n.right

-- No node is no term.
abbrev pub top_view : {A : Type 0} → (A → Node) → Option A → Terms
top_view f None = []
top_view f (Some a) = node_view (f a)

-- The node has the number of its terms, and whether one of them is protected.
abbrev pub KnowsItsTerms : {A : Type 0} → (A → Node) → Option A → Type 0
KnowsItsTerms f None = Unit {0}
KnowsItsTerms f (Some a) = ((f a).size ≡ length (node_view (f a))) × ((f a).guarded ≡ has_protected (node_view (f a)))

-- A first entry, and the terms behind it; None is no term.
abbrev pub front_view : Option (Entry × Terms) → Terms
front_view None = []
front_view (Some p) = entry_view p.0 ∷ p.1
