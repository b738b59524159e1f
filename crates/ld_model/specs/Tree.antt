-- A JSON value as plain data (RFC 8259, section 3), with the numbers that this project reads.
use Rattle.std.specs.Prelude.{ℕ, ◌+◌, ◌≡◌, ℤ, Bool, List, [], ◌∷◌, refl, Option, true, false, ◌&&◌}
use Rattle.std.proofs.Math.Bool.{beq}
use Rattle.std.specs.Str.{bytes_eq}
use Rattle.std.specs.List.{AllByRecursion}
use Rattle.std.specs.List.Sorted.{IsStrictlySortedBy}
use Rattle.std.specs.Map.{keys_of, lookup}
use Rattle.std.specs.BTreeMap.{is_at, insert_entry}
use Rattle.std.specs.Ordering.{nat_cmp, int_eq, is_lt}
use Rattle.std.specs.Cmp.Lexicographic.{slice_cmp}
use Rattle.std.specs.declared.cmp.Ordering.{Ordering}
use Rattle.std.specs.declared.cmp.Ordering.TheVariants.{Less}

-- Null, a truth value, a whole number, the number 1.1, a text, an array of values, or an object of members.
mutual
  pub data Tree : Type 0 where
    null : Tree
    truth : Bool → Tree
    whole : ℤ → Tree
    one_one : Tree
    text : List ℕ → Tree
    array : Trees → Tree
    object : Members → Tree

  pub data Trees : Type 0 where
    no_trees : Trees
    tree : Tree → Trees → Trees

  pub data Members : Type 0 where
    no_members : Members
    member : List ℕ → Tree → Members → Members

-- The members of an object: each key, as the bytes of its UTF-8, with its value.
abbrev pub Pairs : Type 0
Pairs = List (List ℕ × Tree)

-- There is nothing in the list.
abbrev pub is_empty : {X : Type 0} → List X → Bool
is_empty [] = true
is_empty (x ∷ xs) = false

-- A list of values, as the values of an array.
abbrev pub trees_of : List Tree → Trees
trees_of [] = no_trees
trees_of (t ∷ ts) = tree t (trees_of ts)

-- A list of pairs, as the members of an object.
abbrev pub members_of : Pairs → Members
members_of [] = no_members
members_of (m ∷ ms) = member m.0 m.1 (members_of ms)

-- The values of an array, as a list.
abbrev pub tree_list : Trees → List Tree
tree_list no_trees = []
tree_list (tree t ts) = t ∷ tree_list ts

-- The members of an object, as a list.
abbrev pub member_list : Members → Pairs
member_list no_members = []
member_list (member k t ms) = (k, t) ∷ member_list ms

pub tree_list-trees_of : (ts : List Tree) → tree_list (trees_of ts) ≡ ts
tree_list-trees_of [] = refl
tree_list-trees_of (t ∷ ts) = λ i. t ∷ tree_list-trees_of ts i

pub member_list-members_of : (ms : Pairs) → member_list (members_of ms) ≡ ms
member_list-members_of [] = refl
member_list-members_of (m ∷ ms) = λ i. m ∷ member_list-members_of ms i

-- The order of texts: by the bytes of their UTF-8.
abbrev pub byte_order : List ℕ → List ℕ → Ordering
byte_order = slice_cmp nat_cmp

-- The first text comes before the second.
abbrev pub IsBefore : List ℕ → List ℕ → Type 0
IsBefore a b = byte_order a b ≡ Less

-- Each key comes before those after it, so no key stands twice.
abbrev pub AreAscending : Pairs → Type 0
AreAscending ms = IsStrictlySortedBy byte_order (keys_of ms)

-- Each key comes before this one.
abbrev pub AreBefore : Pairs → List ℕ → Type 0
AreBefore ms k = AllByRecursion (λ x. IsBefore x k) (keys_of ms)

-- Each key comes before this one, where the last one does, and so where there is none.
abbrev pub is_last_before : List ℕ → Pairs → Bool
is_last_before k [] = true
is_last_before k (m ∷ []) = is_lt (byte_order m.0 k)
is_last_before k (m ∷ n ∷ ms) = is_last_before k (n ∷ ms)

-- The value of a key.
abbrev pub member_at : List ℕ → Pairs → Option Tree
member_at k ms = lookup (is_at (byte_order k)) ms

-- The members with this value at this key, at the key's place in the order.
unfoldable pub put : List ℕ → Tree → Pairs → Pairs
put k t ms = insert_entry byte_order ms k t

-- How many values a value has in it, itself included. Keys don't count.
abbrev mutual
  pub weight : Tree → ℕ
  weight null = 1
  weight (truth b) = 1
  weight (whole n) = 1
  weight one_one = 1
  weight (text s) = 1
  weight (array ts) = 1 + trees_weight ts
  weight (object ms) = 1 + members_weight ms

  pub trees_weight : Trees → ℕ
  trees_weight no_trees = 0
  trees_weight (tree t ts) = weight t + trees_weight ts

  pub members_weight : Members → ℕ
  members_weight no_members = 0
  members_weight (member k t ms) = weight t + members_weight ms

-- Whether two values are equal.
abbrev mutual
  pub same_tree : Tree → Tree → Bool
  same_tree null null = true
  same_tree (truth a) (truth b) = beq a b
  same_tree (whole a) (whole b) = int_eq a b
  same_tree one_one one_one = true
  same_tree (text a) (text b) = bytes_eq a b
  same_tree (array a) (array b) = same_trees a b
  same_tree (object a) (object b) = same_members a b
  same_tree _ _ = false

  pub same_trees : Trees → Trees → Bool
  same_trees no_trees no_trees = true
  same_trees (tree a xs) (tree b bs) = same_tree a b && same_trees xs bs
  same_trees _ _ = false

  pub same_members : Members → Members → Bool
  same_members no_members no_members = true
  same_members (member k a xs) (member l b bs) = bytes_eq k l && same_tree a b && same_members xs bs
  same_members _ _ = false
