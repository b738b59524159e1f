-- Ranges of plans that are put together, in regions that are apart.
use Rattle.std.proofs.Common.{ℕ, zero, suc, ◌≡◌, ◌≤◌, List, [], ◌∷◌, ◌++◌, Bool, true, false, Option, None, Some, refl, sym, ap, subst, arith}
use Rattle.std.specs.Prelude.{if◌then◌else◌}
use Rattle.std.specs.List.{AllByRecursion}
use Rattle.ld_json.specs.declared.location.Step.{Step}
use Rattle.ld_model.specs.Tree.{Tree, Trees, Members, null, truth, whole, one_one, text, array, object, no_trees, tree, no_members, member}
use Rattle.expand_model.specs.Scope.{in_item}
use Rattle.range_laws.specs.Right.{first_trees}
use Rattle.cut_model.specs.Pieces.{Piece, count, count_behind, begins_at, ranges_of}
use Rattle.cut_model.specs.Legal.{HasItem, IsOutside, IsNonEmpty, AreApart, IsLegal}
use Rattle.cut_laws.proofs.Lists.{all_map, all_append}
use Rattle.cut_laws.proofs.Regions.{Region, Disjoint, IsClosed, NotIn}
use Rattle.cut_laws.proofs.Places.{begins_exact}

-- Each item of the piece stands in the region.
abbrev pub IsIn : Region → Piece → Type 0
IsIn Q x = (n : ℕ) → HasItem x n → Q (in_item n x.at.place)

pub has_first : (x : Piece) → IsNonEmpty x → HasItem x x.from
has_first x some = (omega arith, omega (arith, some))

-- Where an item stands outside of the region, no piece in it begins.
pub ranges_none : (R : Region) (ys : List Piece) (p : List Step) (n : ℕ) → AllByRecursion (IsIn R) ys → IsLegal ys → (R (in_item n p) → ⊥) → ranges_of ys p n ≡ None
ranges_none R [] p n inside legal out = refl
ranges_none R (y ∷ ys) p n inside legal out = by (begins_at p n y) refl (ranges_none R ys p n inside.1 legal.2 out)
  where
    by : (b : Bool) → begins_at p n y ≡ b → ranges_of ys p n ≡ None → (if b then Some (count_behind y.items) else ranges_of ys p n) ≡ None
    by false h rest = rest
    by true h rest =
        let is = begins_exact p n y h in
        absurd (out (subst (λ m. R (in_item m p)) (sym is.1) (subst (λ q. R (in_item y.from q)) (sym is.0) (inside.0 y.from (has_first y legal.0)))))

pub ranges_left : (xs ys : List Piece) (p : List Step) (n : ℕ) → ranges_of ys p n ≡ None → ranges_of (xs ++ ys) p n ≡ ranges_of xs p n
ranges_left [] ys p n none = none
ranges_left (x ∷ xs) ys p n none = ap (λ r. if begins_at p n x then Some (count_behind x.items) else r) (ranges_left xs ys p n none)

abbrev some : Option ℕ → Type 0
some None = ⊥
some (Some m) = Unit {0}

pub ranges_right : (xs ys : List Piece) (p : List Step) (n : ℕ) → ranges_of xs p n ≡ None → ranges_of (xs ++ ys) p n ≡ ranges_of ys p n
ranges_right [] ys p n none = refl
ranges_right (x ∷ xs) ys p n none = by (begins_at p n x) none (λ h. ranges_right xs ys p n h)
  where
    by : (b : Bool) → (if b then Some (count_behind x.items) else ranges_of xs p n) ≡ None → (ranges_of xs p n ≡ None → ranges_of (xs ++ ys) p n ≡ ranges_of ys p n) → (if b then Some (count_behind x.items) else ranges_of (xs ++ ys) p n) ≡ ranges_of ys p n
    by true h rest = absurd (subst some h tt)
    by false h rest = rest h

-- Nothing that stands in the one region lies in the other or in something there, or the other way round.
abbrev pub Clear : Region → Region → Type 0
Clear Q R = (q r : List Step) → Q q → R (q ++ r) → ⊥

abbrev pub Apart : Region → Region → Type 0
Apart Q R = Disjoint Q R × Clear Q R × Clear R Q

pub closed_apart : (Q R : Region) → Disjoint Q R → IsClosed Q → IsClosed R → Apart Q R
closed_apart Q R disjoint closed closed′ = (disjoint, (λ q r h k. disjoint (q ++ r) (closed q r h) k), (λ q r h k. disjoint (q ++ r) k (closed′ q r h)))

-- Pieces in regions that are apart are apart.
outside : (Q R : Region) (x y : Piece) → Clear Q R → IsIn Q x → IsIn R y → IsOutside x y
outside Q R x y clear in_x in_y n has within = clear (in_item within.0 x.at.place) within.2 (in_x within.0 within.1) (subst R within.3 (in_y n has))

pub apart_in : (Q R : Region) (x y : Piece) → Apart Q R → IsIn Q x → IsIn R y → AreApart x y
apart_in Q R x y apart in_x in_y = (outside Q R x y apart.1 in_x in_y, outside R Q y x apart.2 in_y in_x)

pub legal_append : (Q R : Region) (xs ys : List Piece) → Apart Q R → AllByRecursion (IsIn Q) xs → AllByRecursion (IsIn R) ys → IsLegal xs → IsLegal ys → IsLegal (xs ++ ys)
legal_append Q R [] ys apart in_xs in_ys legal legal′ = legal′
legal_append Q R (x ∷ xs) ys apart in_xs in_ys legal legal′ =
    (legal.0, all_append (λ y. AreApart x y) xs ys legal.1 (all_map (IsIn R) (λ y. AreApart x y) (λ y in_y. apart_in Q R x y apart in_xs.0 in_y) ys in_ys), legal_append Q R xs ys apart in_xs.1 in_ys legal.2 legal′)

-- How many items there are among the first so many.
pub count_first : (k : ℕ) (ts : Trees) → count (first_trees k ts) ≤ k
count_first k no_trees = omega arith
count_first zero (tree t ts) = omega arith
count_first (suc k) (tree t ts) = let h = count_first k ts in omega (arith, h)

pub count_all : (k : ℕ) (ts : Trees) → k ≤ count ts → count (first_trees k ts) ≡ k
count_all zero no_trees h = refl
count_all (suc k) no_trees h = absurd (omega (arith, h))
count_all zero (tree t ts) h = refl
count_all (suc k) (tree t ts) h = let e = count_all k ts (omega (arith, h)) in omega (arith, e)

-- Each map has each key once, at any depth.
abbrev mutual
  pub KeysApart : Tree → Type 0
  KeysApart null = Unit {0}
  KeysApart (truth b) = Unit {0}
  KeysApart (whole n) = Unit {0}
  KeysApart one_one = Unit {0}
  KeysApart (text s) = Unit {0}
  KeysApart (array ts) = AllApart ts
  KeysApart (object ms) = EachApart ms

  pub AllApart : Trees → Type 0
  AllApart no_trees = Unit {0}
  AllApart (tree t ts) = KeysApart t × AllApart ts

  pub EachApart : Members → Type 0
  EachApart no_members = Unit {0}
  EachApart (member k t ms) = NotIn k ms × KeysApart t × EachApart ms
