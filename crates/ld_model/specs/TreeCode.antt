-- How the logic stores a tree: each tree as one code, from which it can be read back.
use Rattle.std.specs.Prelude.{ℕ, zero, suc, ◌≡◌, pos, negsuc, true, false, List, [], ◌∷◌, refl}
use mathlib.Core.Path.{sym, ◌∙◌, ap}
use base.Stored.{Gv, gnil, gnum, gcons, Coded, num}
use Rattle.ld_model.specs.Tree.{Tree, null, truth, whole, one_one, text, array, object, Trees, no_trees, tree, Members, no_members, member}

abbrev bytes_code : List ℕ → Gv
bytes_code [] = gnil
bytes_code (n ∷ ns) = gcons (gnum n) (bytes_code ns)

abbrev bytes_back : Gv → List ℕ
bytes_back gnil = []
bytes_back (gnum n) = []
bytes_back (gcons a b) = num a ∷ bytes_back b

bytes_back-bytes_code : (ns : List ℕ) → bytes_back (bytes_code ns) ≡ ns
bytes_back-bytes_code [] = refl
bytes_back-bytes_code (n ∷ ns) = λ i. n ∷ bytes_back-bytes_code ns i

abbrev mutual
  code_of : Tree → Gv
  code_of null = gcons (gnum 0) gnil
  code_of (truth true) = gcons (gnum 1) gnil
  code_of (truth false) = gcons (gnum 2) gnil
  code_of (whole (pos n)) = gcons (gnum 3) (gnum n)
  code_of (whole (negsuc n)) = gcons (gnum 4) (gnum n)
  code_of one_one = gcons (gnum 5) gnil
  code_of (text s) = gcons (gnum 6) (bytes_code s)
  code_of (array ts) = gcons (gnum 7) (trees_code ts)
  code_of (object ms) = gcons (gnum 8) (members_code ms)

  trees_code : Trees → Gv
  trees_code no_trees = gnil
  trees_code (tree t ts) = gcons (code_of t) (trees_code ts)

  members_code : Members → Gv
  members_code no_members = gnil
  members_code (member k t ms) = gcons (gcons (bytes_code k) (code_of t)) (members_code ms)

-- What a part of a code stands for, read as a tree, as trees, as members and as one member.
record Back : Type 0 where
  as_tree : Tree
  as_trees : Trees
  as_members : Members
  as_member : List ℕ × Tree

abbrev by_tag : ℕ → Gv → Back → Tree
by_tag zero g b = null
by_tag (suc zero) g b = truth true
by_tag (suc (suc zero)) g b = truth false
by_tag (suc (suc (suc zero))) g b = whole (pos (num g))
by_tag (suc (suc (suc (suc zero)))) g b = whole (negsuc (num g))
by_tag (suc (suc (suc (suc (suc zero))))) g b = one_one
by_tag (suc (suc (suc (suc (suc (suc zero)))))) g b = text (bytes_back g)
by_tag (suc (suc (suc (suc (suc (suc (suc zero))))))) g b = array b.as_trees
by_tag (suc (suc (suc (suc (suc (suc (suc (suc n)))))))) g b = object b.as_members

abbrev back : Gv → Back
back gnil = record { as_tree = null; as_trees = no_trees; as_members = no_members; as_member = ([], null) }
back (gnum n) = record { as_tree = null; as_trees = no_trees; as_members = no_members; as_member = ([], null) }
back (gcons a b) =
    record {
      as_tree = by_tag (num a) b (back b);
      as_trees = tree (back a).as_tree (back b).as_trees;
      as_members = member (back a).as_member.0 (back a).as_member.1 (back b).as_members;
      as_member = (bytes_back a, (back b).as_tree);
    }

abbrev mutual
  back-code_of : (t : Tree) → (back (code_of t)).as_tree ≡ t
  back-code_of null = refl
  back-code_of (truth true) = refl
  back-code_of (truth false) = refl
  back-code_of (whole (pos n)) = refl
  back-code_of (whole (negsuc n)) = refl
  back-code_of one_one = refl
  back-code_of (text s) = λ i. text (bytes_back-bytes_code s i)
  back-code_of (array ts) = λ i. array (back-trees_code ts i)
  back-code_of (object ms) = λ i. object (back-members_code ms i)

  back-trees_code : (ts : Trees) → (back (trees_code ts)).as_trees ≡ ts
  back-trees_code no_trees = refl
  back-trees_code (tree t ts) = λ i. tree (back-code_of t i) (back-trees_code ts i)

  back-members_code : (ms : Members) → (back (members_code ms)).as_members ≡ ms
  back-members_code no_members = refl
  back-members_code (member k t ms) = λ i. member (bytes_back-bytes_code k i) (back-code_of t i) (back-members_code ms i)

pub tree_code : Coded Tree
tree_code = record { code = code_of; inj = λ x y p. sym (back-code_of x) ∙ ap (λ g. (back g).as_tree) p ∙ back-code_of y }
