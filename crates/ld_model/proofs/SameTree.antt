-- `same_tree` tells trees apart.
use Rattle.std.proofs.Common.{◌≡◌, Bool, true, false, ◌&&◌, refl, sym, ap, ap₂, subst}
use Rattle.std.proofs.Math.Bool.{beq}
use Rattle.std.specs.Bool.{one_answer}
use Rattle.std.specs.Str.{bytes_eq}
use Rattle.std.proofs.lemmas.Bool.Decides.{Decides-int_eq}
use Rattle.ld_model.specs.Tree.{Tree, null, truth, whole, one_one, text, array, object, Trees, no_trees, tree, Members, no_members, member, same_tree, same_trees, same_members}
use Rattle.ld_model.proofs.Puts.{bytes_eq-refl, bytes_eq-exact}
use Rattle.ld_model.proofs.Truths.{both}

beq-exact : (a b : Bool) → beq a b ≡ true → a ≡ b
beq-exact true true same = refl
beq-exact true false same = absurd (cc)
beq-exact false true same = absurd (cc)
beq-exact false false same = refl

beq-refl : (a : Bool) → beq a a ≡ true
beq-refl true = refl
beq-refl false = refl

mutual
  pub same_tree-refl : (a : Tree) → same_tree a a ≡ true
  same_tree-refl null = refl
  same_tree-refl (truth b) = beq-refl b
  same_tree-refl (whole n) = (Decides-int_eq n n).1 refl
  same_tree-refl one_one = refl
  same_tree-refl (text s) = bytes_eq-refl s
  same_tree-refl (array ts) = same_trees-refl ts
  same_tree-refl (object ms) = same_members-refl ms

  same_trees-refl : (a : Trees) → same_trees a a ≡ true
  same_trees-refl no_trees = refl
  same_trees-refl (tree t ts) = ap₂ ◌&&◌ (same_tree-refl t) (same_trees-refl ts)

  same_members-refl : (a : Members) → same_members a a ≡ true
  same_members-refl no_members = refl
  same_members-refl (member k t ms) = rw (bytes_eq-refl k, same_tree-refl t, same_members-refl ms)

mutual
  pub same_tree-exact : (a b : Tree) → same_tree a b ≡ true → a ≡ b
  same_tree-exact null null same = refl
  same_tree-exact (truth a) (truth b) same = ap truth (beq-exact a b same)
  same_tree-exact (whole a) (whole b) same = ap whole ((Decides-int_eq a b).0 same)
  same_tree-exact one_one one_one same = refl
  same_tree-exact (text a) (text b) same = ap text (bytes_eq-exact a b same)
  same_tree-exact (array a) (array b) same = ap array (same_trees-exact a b same)
  same_tree-exact (object a) (object b) same = ap object (same_members-exact a b same)
  same_tree-exact _ _ same = absurd (cc)

  same_trees-exact : (a b : Trees) → same_trees a b ≡ true → a ≡ b
  same_trees-exact no_trees no_trees same = refl
  same_trees-exact (tree a xs) (tree b ys) same =
      let parts = both (same_tree a b) (same_trees xs ys) same in
      ap₂ tree (same_tree-exact a b parts.0) (same_trees-exact xs ys parts.1)
  same_trees-exact _ _ same = absurd (cc)

  same_members-exact : (a b : Members) → same_members a b ≡ true → a ≡ b
  same_members-exact no_members no_members same = refl
  same_members-exact (member k a xs) (member l b ys) same =
      let parts = both (bytes_eq k l && same_tree a b) (same_members xs ys) same in
      let first = both (bytes_eq k l) (same_tree a b) parts.0 in
      λ i. member (bytes_eq-exact k l first.0 i) (same_tree-exact a b first.1 i) (same_members-exact xs ys parts.1 i)
  same_members-exact _ _ same = absurd (cc)

pub same_tree-from : (a b : Tree) → a ≡ b → same_tree a b ≡ true
same_tree-from a b is = subst (λ x. same_tree a x ≡ true) is (same_tree-refl a)

pub same_tree-sym : (a b : Tree) → same_tree a b ≡ same_tree b a
same_tree-sym a b = one_answer {P = a ≡ b} (same_tree a b) (same_tree b a) (same_tree-exact a b, same_tree-from a b) (λ same. sym (same_tree-exact b a same), λ e. same_tree-from b a (sym e))
