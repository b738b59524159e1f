-- The order of trees is a total one, and ties equal trees alone. Each tree is written out as a list of numbers, of which no one begins
-- another one.
use Rattle.std.proofs.Common.{◌≡◌, ◌<◌, ◌<ℤ◌, ℕ, ℤ, pos, negsuc, List, [], ◌∷◌, Bool, true, false, ◌&&◌, refl, sym, ap, ap₂, ◌∙◌, subst, arith}
use Rattle.std.specs.Bool.{one_answer}
use Rattle.std.specs.Ordering.{MatchOrdering, nat_cmp, int_cmp, bool_cmp, int_eq, is_eq, ordering_then, as_partial_cmp}
use Rattle.std.specs.declared.cmp.Ordering.{Ordering}
use Rattle.std.specs.declared.cmp.Ordering.TheVariants.{Less, Equal, Greater}
use Rattle.std.specs.Cmp.{IsTotalOrder, IsEquivalence, IsPartialOrder, po, int_cmp_is, tied_then, Equal-is}
use Rattle.std.specs.Cmp.Lexicographic.{slice_cmp}
use Rattle.std.proofs.Math.Bool.{beq}
use Rattle.std.proofs.lemmas.Int.{ints}
use Rattle.std.proofs.lemmas.Bool.Decides.{Decides-int_eq}
use Rattle.std.proofs.lemmas.Cmp.{lists_total, on_total, int_cmp_total, ranked, eq_by_cmp_equiv, tied_itself}
use Rattle.std.proofs.lemmas.Map.Lookups.{exact_signed}
use Rattle.std.proofs.lemmas.Map.Text.{is_eq-slice_cmp}
use Rattle.ld_model.specs.Tree.{Tree, Trees, Members, null, truth, whole, one_one, text, array, object, no_trees, tree, no_members, member, byte_order, same_tree, same_trees, same_members}
use Rattle.node_logs.specs.TreeOrder.{tree_order, trees_order, members_order}

abbrev text_out : List ℕ → List ℤ → List ℤ
text_out [] r = negsuc 0 ∷ r
text_out (x ∷ s) r = pos x ∷ text_out s r

abbrev bit : Bool → ℤ
bit false = pos 0
bit true = pos 1

-- A tree written out, and then a rest.
abbrev mutual
  tree_out : Tree → List ℤ → List ℤ
  tree_out null r = pos 0 ∷ r
  tree_out (truth b) r = pos 1 ∷ bit b ∷ r
  tree_out (whole n) r = pos 2 ∷ n ∷ r
  tree_out one_one r = pos 3 ∷ r
  tree_out (text s) r = pos 4 ∷ text_out s r
  tree_out (array ts) r = pos 5 ∷ trees_out ts r
  tree_out (object ms) r = pos 6 ∷ members_out ms r

  trees_out : Trees → List ℤ → List ℤ
  trees_out no_trees r = negsuc 0 ∷ r
  trees_out (tree t ts) r = tree_out t (trees_out ts r)

  members_out : Members → List ℤ → List ℤ
  members_out no_members r = negsuc 0 ∷ r
  members_out (member k t ms) r = pos 0 ∷ text_out k (tree_out t (members_out ms r))

then-assoc : (o p q : Ordering) → ordering_then o (ordering_then p q) ≡ ordering_then (ordering_then o p) q
then-assoc Less p q = refl
then-assoc Equal p q = refl
then-assoc Greater p q = refl

then-Equal : (o : Ordering) → ordering_then o Equal ≡ o
then-Equal Less = refl
then-Equal Equal = refl
then-Equal Greater = refl

pos-order : (x y : ℕ) → int_cmp (pos x) (pos y) ≡ nat_cmp x y
pos-order x y = sym (int_cmp_is (pos x) (pos y) (nat_cmp x y) (by_order (nat_cmp x y) (ranked x y (nat_cmp x y) refl)))
  where
    by_order : (o : Ordering) → MatchOrdering o (x < y) (x ≡ y) (y < x) → MatchOrdering o (pos x <ℤ pos y) (pos x ≡ pos y) (pos y <ℤ pos x)
    by_order Less is = omega (arith, ints)
    by_order Equal is = ap pos is
    by_order Greater is = omega (arith, ints)

texts-order : (a b : List ℕ) (r s : List ℤ) → slice_cmp int_cmp (text_out a r) (text_out b s) ≡ ordering_then (byte_order a b) (slice_cmp int_cmp r s)
texts-order [] [] r s = refl
texts-order [] (y ∷ b) r s = refl
texts-order (x ∷ a) [] r s = refl
texts-order (x ∷ a) (y ∷ b) r s =
    ap₂ ordering_then (pos-order x y) (texts-order a b r s) ∙ then-assoc (nat_cmp x y) (byte_order a b) (slice_cmp int_cmp r s)

-- A list that ends comes before one that goes on.
ends_before : (t : Tree) (r s : List ℤ) → slice_cmp int_cmp (negsuc 0 ∷ r) (tree_out t s) ≡ Less
ends_before null r s = refl
ends_before (truth b) r s = refl
ends_before (whole n) r s = refl
ends_before one_one r s = refl
ends_before (text x) r s = refl
ends_before (array ts) r s = refl
ends_before (object ms) r s = refl

goes_on_after : (t : Tree) (r s : List ℤ) → slice_cmp int_cmp (tree_out t r) (negsuc 0 ∷ s) ≡ Greater
goes_on_after null r s = refl
goes_on_after (truth b) r s = refl
goes_on_after (whole n) r s = refl
goes_on_after one_one r s = refl
goes_on_after (text x) r s = refl
goes_on_after (array ts) r s = refl
goes_on_after (object ms) r s = refl

bits-order : (a b : Bool) (o : Ordering) → ordering_then (int_cmp (bit a) (bit b)) o ≡ ordering_then (bool_cmp a b) o
bits-order true true o = refl
bits-order true false o = refl
bits-order false true o = refl
bits-order false false o = refl

mutual
  out-order : (a b : Tree) (r s : List ℤ) → slice_cmp int_cmp (tree_out a r) (tree_out b s) ≡ ordering_then (tree_order a b) (slice_cmp int_cmp r s)
  out-order null null r s = refl
  out-order one_one one_one r s = refl
  out-order (truth a) (truth b) r s = bits-order a b (slice_cmp int_cmp r s)
  out-order (whole a) (whole b) r s = refl
  out-order (text a) (text b) r s = texts-order a b r s
  out-order (array a) (array b) r s = trees_out-order a b r s
  out-order (object a) (object b) r s = members_out-order a b r s
  out-order _ _ r s = refl

  trees_out-order : (a b : Trees) (r s : List ℤ) → slice_cmp int_cmp (trees_out a r) (trees_out b s) ≡ ordering_then (trees_order a b) (slice_cmp int_cmp r s)
  trees_out-order no_trees no_trees r s = refl
  trees_out-order no_trees (tree b ys) r s = ends_before b r (trees_out ys s)
  trees_out-order (tree a xs) no_trees r s = goes_on_after a (trees_out xs r) s
  trees_out-order (tree a xs) (tree b ys) r s =
      out-order a b (trees_out xs r) (trees_out ys s) ∙ ap (ordering_then (tree_order a b)) (trees_out-order xs ys r s)
      ∙ then-assoc (tree_order a b) (trees_order xs ys) (slice_cmp int_cmp r s)

  members_out-order : (a b : Members) (r s : List ℤ) → slice_cmp int_cmp (members_out a r) (members_out b s) ≡ ordering_then (members_order a b) (slice_cmp int_cmp r s)
  members_out-order no_members no_members r s = refl
  members_out-order no_members (member l b ys) r s = refl
  members_out-order (member k a xs) no_members r s = refl
  members_out-order (member k a xs) (member l b ys) r s =
      texts-order k l (tree_out a (members_out xs r)) (tree_out b (members_out ys s))
      ∙ ap (ordering_then (byte_order k l)) (out-order a b (members_out xs r) (members_out ys s) ∙ ap (ordering_then (tree_order a b)) (members_out-order xs ys r s))
      ∙ then-assoc (byte_order k l) (tree_order a b) (ordering_then (members_order xs ys) (slice_cmp int_cmp r s))
      ∙ then-assoc (ordering_then (byte_order k l) (tree_order a b)) (members_order xs ys) (slice_cmp int_cmp r s)

is_order_of_out : (a b : Tree) → slice_cmp int_cmp (tree_out a []) (tree_out b []) ≡ tree_order a b
is_order_of_out a b = out-order a b [] [] ∙ then-Equal (tree_order a b)

pub tree_order-total : IsTotalOrder tree_order
tree_order-total = subst IsTotalOrder (λ i a b. is_order_of_out a b i) (on_total (λ t. tree_out t []) (lists_total int_cmp_total))

-- Two trees stand at one place where they are equal.
bits-tied : (a b : Bool) → is_eq (bool_cmp a b) ≡ beq a b
bits-tied true true = refl
bits-tied true false = refl
bits-tied false true = refl
bits-tied false false = refl

whole-tied : (a b : ℤ) → is_eq (int_cmp a b) ≡ int_eq a b
whole-tied a b =
    one_answer {P = a ≡ b} (is_eq (int_cmp a b)) (int_eq a b) ((λ is. exact_signed a b ((Equal-is (int_cmp a b)).0 is)), (λ same. subst (λ c. is_eq (int_cmp a c) ≡ true) same (ap is_eq (tied_itself int_cmp_total a)))) (Decides-int_eq a b)

mutual
  pub trees-tied : (a b : Tree) → is_eq (tree_order a b) ≡ same_tree a b
  trees-tied null null = refl
  trees-tied one_one one_one = refl
  trees-tied (truth a) (truth b) = bits-tied a b
  trees-tied (whole a) (whole b) = whole-tied a b
  trees-tied (text a) (text b) = is_eq-slice_cmp a b
  trees-tied (array a) (array b) = lists-tied a b
  trees-tied (object a) (object b) = members-tied a b
  trees-tied _ _ = refl

  lists-tied : (a b : Trees) → is_eq (trees_order a b) ≡ same_trees a b
  lists-tied no_trees no_trees = refl
  lists-tied no_trees (tree b ys) = refl
  lists-tied (tree a xs) no_trees = refl
  lists-tied (tree a xs) (tree b ys) = sym (tied_then (tree_order a b) (trees_order xs ys)) ∙ ap₂ ◌&&◌ (trees-tied a b) (lists-tied xs ys)

  members-tied : (a b : Members) → is_eq (members_order a b) ≡ same_members a b
  members-tied no_members no_members = refl
  members-tied no_members (member l b ys) = refl
  members-tied (member k a xs) no_members = refl
  members-tied (member k a xs) (member l b ys) =
      sym (tied_then (ordering_then (byte_order k l) (tree_order a b)) (members_order xs ys))
      ∙ ap₂ ◌&&◌ (sym (tied_then (byte_order k l) (tree_order a b)) ∙ ap₂ ◌&&◌ (is_eq-slice_cmp k l) (trees-tied a b)) (members-tied xs ys)

pub equal_where_tied : (a b : Tree) → same_tree a b ≡ is_eq (tree_order a b)
equal_where_tied a b = sym (trees-tied a b)

pub tree_order-partial : IsPartialOrder same_tree (as_partial_cmp tree_order)
tree_order-partial = po tree_order-total equal_where_tied

pub same_tree-laws : IsEquivalence same_tree
same_tree-laws = subst IsEquivalence (λ i a b. trees-tied a b i) (eq_by_cmp_equiv tree_order-total)
