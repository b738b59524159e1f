-- The order of places.
use Rattle.std.proofs.Common.{◌≡◌, ◌==◌, ℕ, ◌+◌, ◌<◌, ◌≤◌, List, [], ◌∷◌, ◌++◌, Bool, true, false, ◌&&◌, ◌||◌, refl, ap, ap₂, ◌∙◌, eqb-true, lt-ltb, ltb-true, arith}
use Rattle.std.specs.Prelude.{nat_lt}
use Rattle.std.specs.List.{AllByRecursion}
use Rattle.std.proofs.Math.Bool.{or-true}
use Rattle.std.proofs.lemmas.Bool.{false_from_ne_true}
use Rattle.std.proofs.lemmas.Bool.Decides.{Decides-eqb}
use Rattle.op_model.specs.Ops.{Op}
use Rattle.sum_model.specs.Sums.{Place, Placed, placed_from, placed, placed_chunks}
use Rattle.sum_model.specs.Conflicts.{is_before}
use Rattle.sum_laws.specs.Conflicts.{AreInOrder, ChunksAreInOrder}

abbrev place : ℕ → ℕ → Place
place chunk number = record { chunk = chunk; number = number }

not_less : (a b : ℕ) → b ≤ a → nat_lt a b ≡ false
not_less a b is = false_from_ne_true (nat_lt a b) (λ less. let below : a < b = ltb-true a b less in omega arith)

not_equal : (a b : ℕ) → a < b → (b == a) ≡ false
not_equal a b is = false_from_ne_true (b == a) (λ equal. let same : b ≡ a = eqb-true b a equal in omega arith)

-- No place comes before one that comes before it.
not_before : (a b c d : ℕ) (t : Bool) → nat_lt a c ≡ t → (t || ((a == c) && nat_lt b d)) ≡ true → (nat_lt c a || ((c == a) && nat_lt d b)) ≡ false
not_before a b c d true less is =
    let below : a < c = ltb-true a c less in
    ap₂ (λ x y. x || (y && nat_lt d b)) (not_less c a (omega arith)) (not_equal a c below)
not_before a b c d false less is = by_test (a == c) refl is
  where
    by_test : (t : Bool) → (a == c) ≡ t → (t && nat_lt b d) ≡ true → (nat_lt c a || ((c == a) && nat_lt d b)) ≡ false
    by_test false equal is = absurd (cc)
    by_test true equal is =
        let same : a ≡ c = eqb-true a c equal in
        let below : b < d = ltb-true b d is in
        ap₂ (λ x y. x || ((c == a) && y)) (not_less c a (omega arith)) (not_less d b (omega arith))
        ∙ both_false (c == a)
      where
        both_false : (t : Bool) → (false || (t && false)) ≡ false
        both_false true = refl
        both_false false = refl

pub before-asym : (a b : Place) → is_before a b ≡ true → is_before b a ≡ false
before-asym a b is = not_before a.chunk a.number b.chunk b.number (nat_lt a.chunk b.chunk) refl is

earlier_number : (chunk m n : ℕ) → m < n → is_before (place chunk m) (place chunk n) ≡ true
earlier_number chunk m n is =
    ap₂ (λ x y. nat_lt chunk chunk || (x && y)) ((Decides-eqb chunk chunk).1 refl) (lt-ltb m n is)
    ∙ or-true (nat_lt chunk chunk)

earlier_chunk : (a b : Place) → a.chunk < b.chunk → is_before a b ≡ true
earlier_chunk a b is = ap (λ t. t || ((a.chunk == b.chunk) && nat_lt a.number b.number)) (lt-ltb a.chunk b.chunk is)

pub all-append : {X : Type 0} (P : X → Type 0) (xs ys : List X) → AllByRecursion P xs → AllByRecursion P ys → AllByRecursion P (xs ++ ys)
all-append P [] ys a b = b
all-append P (x ∷ xs) ys a b = (a.0, all-append P xs ys a.1 b)

later_numbers : (chunk m n : ℕ) (os : List Op) → m < n → AllByRecursion (λ p. is_before (place chunk m) p.0 ≡ true) (placed_from chunk n os)
later_numbers chunk m n [] is = tt
later_numbers chunk m n (o ∷ os) is = (earlier_number chunk m n is, later_numbers chunk m (n + 1) os (omega arith))

later_chunk : (a : Place) (chunk n : ℕ) (os : List Op) → a.chunk < chunk → AllByRecursion (λ p. is_before a p.0 ≡ true) (placed_from chunk n os)
later_chunk a chunk n [] is = tt
later_chunk a chunk n (o ∷ os) is = (earlier_chunk a (place chunk n) is, later_chunk a chunk (n + 1) os is)

later_chunks : (a : Place) (chunk : ℕ) (chunks : List (List Op)) → a.chunk < chunk → AllByRecursion (λ p. is_before a p.0 ≡ true) (placed_chunks chunk chunks)
later_chunks a chunk [] is = tt
later_chunks a chunk (os ∷ rest) is = all-append (λ p. is_before a p.0 ≡ true) (placed chunk os) (placed_chunks (chunk + 1) rest) (later_chunk a chunk 0 os is) (later_chunks a (chunk + 1) rest (omega arith))

-- A chunk's operations, and then those of later chunks.
chunk_in_order : (chunk n : ℕ) (os : List Op) (chunks : List (List Op)) → AreInOrder (placed_chunks (chunk + 1) chunks) → AreInOrder (placed_from chunk n os ++ placed_chunks (chunk + 1) chunks)
chunk_in_order chunk n [] chunks rest = rest
chunk_in_order chunk n (o ∷ os) chunks rest = (
  all-append (λ p. is_before (place chunk n) p.0 ≡ true) (placed_from chunk (n + 1) os) (placed_chunks (chunk + 1) chunks) (later_numbers chunk n (n + 1) os (omega arith)) (later_chunks (place chunk n) (chunk + 1) chunks (omega arith)),
  chunk_in_order chunk (n + 1) os chunks rest,
)

in_order_from : (chunk : ℕ) (chunks : List (List Op)) → AreInOrder (placed_chunks chunk chunks)
in_order_from chunk [] = tt
in_order_from chunk (os ∷ rest) = chunk_in_order chunk 0 os rest (in_order_from (chunk + 1) rest)

pub chunks_are_in_order : ChunksAreInOrder
chunks_are_in_order chunks = in_order_from 0 chunks

-- Where one stands behind others in the order, its place comes after all of theirs.
at_middle : {X : Type 0} (P : X → Type 0) (xs : List X) (y : X) (ys : List X) → AllByRecursion P (xs ++ y ∷ ys) → P y
at_middle P [] y ys all = all.0
at_middle P (x ∷ xs) y ys all = at_middle P xs y ys all.1

pub before_middle : (done : List Placed) (o : Placed) (os : List Placed) → AreInOrder (done ++ o ∷ os) → AllByRecursion (λ p. is_before p.0 o.0 ≡ true) done
before_middle [] o os order = tt
before_middle (p ∷ ps) o os order = (at_middle (λ q. is_before p.0 q.0 ≡ true) ps o os order.0, before_middle ps o os order.1)
