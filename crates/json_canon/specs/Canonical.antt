-- The canonical text of a JSON value (RFC 8785).
use Rattle.std.specs.Prelude.{ℕ, List, [], ◌∷◌, if◌then◌else◌}
use Rattle.ld_model.specs.Tree.{Tree, null, truth, whole, one_one, text, array, object, Trees, no_trees, tree, Members, no_members, member, Pairs, members_of}
use Rattle.ld_model.specs.CompactText.{compact}
use Rattle.json_canon.specs.Utf16.{comes_before}

-- A member put among others that are in order, behind those whose names come before its own.
abbrev pub placed : {X : Type 0} → List ℕ × X → List (List ℕ × X) → List (List ℕ × X)
placed m [] = m ∷ []
placed m (n ∷ ms) = if comes_before n.0 m.0 then n ∷ placed m ms else m ∷ n ∷ ms

-- The members of an object in the order of the UTF-16 code units of their names (section 3.2.3).
abbrev pub in_order : {X : Type 0} → List (List ℕ × X) → List (List ℕ × X)
in_order [] = []
in_order (m ∷ ms) = placed m (in_order ms)

-- A value with the members of each object in that order, however deep.
abbrev mutual
  pub with_members_in_order : Tree → Tree
  with_members_in_order null = null
  with_members_in_order (truth b) = truth b
  with_members_in_order (whole n) = whole n
  with_members_in_order one_one = one_one
  with_members_in_order (text s) = text s
  with_members_in_order (array ts) = array (each_in_order ts)
  with_members_in_order (object ms) = object (members_of (in_order (values_in_order ms)))

  pub each_in_order : Trees → Trees
  each_in_order no_trees = no_trees
  each_in_order (tree t ts) = tree (with_members_in_order t) (each_in_order ts)

  pub values_in_order : Members → Pairs
  values_in_order no_members = []
  values_in_order (member k t ms) = (k, with_members_in_order t) ∷ values_in_order ms

-- The canonical text: the compact one, with the members in that order. Its escapes and its numbers are those of
-- sections 3.2.2.2 and 3.2.2.3.
abbrev pub canonical_text : Tree → List ℕ
canonical_text t = compact (with_members_in_order t)
