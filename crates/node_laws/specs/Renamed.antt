-- A document whose labels of blank nodes are other labels.
use Rattle.std.specs.Prelude.{ℕ, ◌≡◌, List, if◌then◌else◌, false}
use Rattle.std.specs.Str.{bytes_eq}
use Rattle.ld_model.specs.Tree.{Tree, Trees, Members, text, array, object, no_trees, tree, no_members, member}
use Rattle.ld_model.specs.Keys.{id_key, value_key}
use Rattle.ld_model.specs.Label.{is_blank}
use Rattle.node_model.specs.Keys.{type_key, reverse_key}
use Rattle.node_model.specs.Walk.{has_key}

-- Labels become labels, two labels never the same one, and all other texts stay.
pub record IsRenaming (to : List ℕ → List ℕ) : Type 0 where
  pub label : (s : List ℕ) → is_blank (to s) ≡ is_blank s
  pub other : (s : List ℕ) → is_blank s ≡ false → to s ≡ s
  pub apart : (s r : List ℕ) → to s ≡ to r → s ≡ r

module _ (to : List ℕ → List ℕ) where
  abbrev pub renamed_text : Tree → Tree
  renamed_text (text s) = text (to s)
  renamed_text t = t

  abbrev pub renamed_texts : Trees → Trees
  renamed_texts no_trees = no_trees
  renamed_texts (tree t ts) = tree (renamed_text t) (renamed_texts ts)

  -- The types of a node.
  abbrev pub renamed_types : Tree → Tree
  renamed_types (array ts) = array (renamed_texts ts)
  renamed_types t = renamed_text t

-- Ids, types and properties are renamed where they stand, so entries keep their places. A value object stays.
abbrev mutual
  pub renamed : (List ℕ → List ℕ) → Tree → Tree
  renamed to (array ts) = array (renamed_all to ts)
  renamed to (object ms) = if has_key value_key ms then object ms else object (renamed_members to ms)
  renamed to t = t

  pub renamed_all : (List ℕ → List ℕ) → Trees → Trees
  renamed_all to no_trees = no_trees
  renamed_all to (tree t ts) = tree (renamed to t) (renamed_all to ts)

  pub renamed_members : (List ℕ → List ℕ) → Members → Members
  renamed_members to no_members = no_members
  renamed_members to (member k t ms) =
      member (to k)
      (if bytes_eq k id_key then renamed_text to t else if bytes_eq k type_key then renamed_types to t else if bytes_eq k reverse_key then renamed_reverse to t else renamed to t)
      (renamed_members to ms)

  pub renamed_reverse : (List ℕ → List ℕ) → Tree → Tree
  renamed_reverse to (object ms) = object (renamed_members to ms)
  renamed_reverse to t = t
