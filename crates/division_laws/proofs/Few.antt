-- How many chunks the division by weight has. At the highest limit nothing is cut, so there is one chunk at most; and from 1 on 64
-- doublings come to it.
use Rattle.std.proofs.Common.{◌≡◌, ℕ, zero, suc, ◌+◌, ◌*◌, ◌≤◌, ◌<◌, arith, List, [], ◌∷◌, length, Bool, true, false, ◌&&◌, if◌then◌else◌, None, refl, sym, ap, ◌∙◌, subst}
use Rattle.std.specs.Prelude.{nat_lt}
use Rattle.std.proofs.Math.Nat.{min-le_left, min-le_right, le-min}
use Rattle.std.proofs.lemmas.Bool.{le-ltb}
use Rattle.std.proofs.lemmas.Bool.Decides.{nat_tests}
use Rattle.std.proofs.lemmas.List.{length-append}
use Rattle.ld_model.specs.Tree.{Tree, Trees, array, trees_of, trees_weight}
use Rattle.ld_model.specs.Keys.{default_graph}
use Rattle.ld_model.proofs.Truths.{and-false}
use Rattle.node_model.specs.Walk.{nowhere}
use Rattle.op_model.specs.Names.{iri}
use Rattle.op_model.specs.Ops.{Op}
use Rattle.op_model.specs.Noting.{Chunk, spine}
use Rattle.division_model.specs.Dividing.{Step, Division, with_spine, range_ended, divide, undivided}
use Rattle.division_model.specs.ByWeight.{highest, capped, is_above, has_two, is_cut, marks, by_weight, chunks_at, most_chunks, are_few, chunks_from}
use Rattle.division_laws.specs.Laws.{CutsAreFew, doubled, AreTheFirstFew, CutsAreTheFirstFew}
use Rattle.division_laws.proofs.Kept.{Keeps, divide_keeps}

never_cut : (ts : Trees) → is_cut highest ts ≡ false
never_cut ts =
    let light : is_above highest (1 + trees_weight ts) ≡ false = le-ltb highest (capped (1 + trees_weight ts)) (min-le_right (1 + trees_weight ts) highest) in
    ap (λ b. has_two ts && b) light ∙ and-false (has_two ts)

no_marks : (place : List Step) (ts : Trees) → by_weight highest place ts ≡ []
no_marks place ts = ap (λ b. if b then marks highest None ts else []) (never_cut ts)

keeps_none : Keeps (λ d. d.chunks ≡ []) (λ marks. marks ≡ []) (λ ts. ts ≡ [])
keeps_none = record {
  spined = λ d e same is. same ∙ is;
  range = λ g to ts d out none is. subst (λ ts. (range_ended g to ts d).chunks ≡ []) (sym none) is;
  none = refl;
  rest = λ m marks good. absurd (cc);
  begun = λ marks t good. absurd (cc);
  on = λ marks taken t good are. absurd (cc);
}

one_chunk : (d : Division) (os : List Op) → d.chunks ≡ [] → length (with_spine os d).chunks ≤ most_chunks
one_chunk d [] is = let none = ap length is in omega arith
one_chunk d (o ∷ os) is = let none = ap length is in let one = length-append d.chunks (spine (o ∷ os) ∷ []) in omega arith

highest_is_few : (items : List Tree) → length (chunks_at highest items) ≤ most_chunks
highest_is_few items =
    let last = divide (by_weight highest) (iri default_graph) nowhere (array (trees_of items)) undivided in
    one_chunk last last.notes.ops
    (divide_keeps (λ d. d.chunks ≡ []) (λ marks. marks ≡ []) (λ ts. ts ≡ []) keeps_none (by_weight highest) no_marks (iri default_graph) nowhere (array (trees_of items)) undivided refl refl)

-- So many doublings come to the highest limit.
abbrev Reaches : ℕ → ℕ → Type 0
Reaches zero limit = highest ≤ limit
Reaches (suc times) limit = Reaches times (capped (2 * limit))

greater_reaches : (times a b : ℕ) → a ≤ b → Reaches times a → Reaches times b
greater_reaches zero a b less is = omega arith
greater_reaches (suc times) a b less is =
    let first = min-le_left (2 * a) highest in
    let below : capped (2 * a) ≤ 2 * b = omega arith in
    greater_reaches times (capped (2 * a)) (capped (2 * b)) (le-min below (min-le_right (2 * a) highest)) is

from_one : Reaches 64 1
from_one = let is : highest ≤ highest = omega arith in is

few_or_more : (test : Bool) (limit : ℕ) (items : List Tree) (more : List Chunk) → are_few (chunks_at limit items) ≡ test → length more ≤ most_chunks
    → length (if test then chunks_at limit items else more) ≤ most_chunks
few_or_more true limit items more is less = grind (arith, nat_tests)
few_or_more false limit items more is less = less

few : (times limit : ℕ) (items : List Tree) → limit ≤ highest → Reaches times limit → length (chunks_from times limit items) ≤ most_chunks
few zero limit items most reaches =
    let here : limit ≡ highest = omega arith in
    let same = ap (λ l. length (chunks_at l items)) here in
    let short = highest_is_few items in
    omega arith
few (suc times) limit items most reaches =
    few_or_more (are_few (chunks_at limit items)) limit items (chunks_from times (capped (2 * limit)) items) refl
    (few times (capped (2 * limit)) items (min-le_right (2 * limit) highest) reaches)

pub cuts_are_few : CutsAreFew
cuts_are_few items weight some =
    let limit = capped weight in
    let least : 1 ≤ limit = le-min some (omega arith) in
    few 64 limit items (min-le_right weight highest) (greater_reaches 64 1 limit least from_one)

-- Of limits that double, the first at which there are few.
few_there : (limit : ℕ) (items : List Tree) → are_few (chunks_at limit items) ≡ true → length (chunks_at limit items) ≤ most_chunks
few_there limit items is = grind (arith, nat_tests)

many_there : (limit : ℕ) (items : List Tree) → are_few (chunks_at limit items) ≡ false → most_chunks < length (chunks_at limit items)
many_there limit items is = grind (arith, nat_tests)

module _ (items : List Tree) (weight : ℕ) where
  -- There are many before so many doublings.
  abbrev ManyBefore : ℕ → Type 0
  ManyBefore times = (k : ℕ) → k < times → most_chunks < length (chunks_at (doubled weight k) items)

  one_more : (times : ℕ) → ManyBefore times → most_chunks < length (chunks_at (doubled weight times) items) → ManyBefore (suc times)
  one_more times before last k less = by_test (nat_lt k times) refl
    where
      by_test : (test : Bool) → nat_lt k times ≡ test → most_chunks < length (chunks_at (doubled weight k) items)
      by_test true is = before k (grind (arith, nat_tests))
      by_test false is = let not_less : times ≤ k = grind (arith, nat_tests) in let here : times ≡ k = omega arith in
          subst (λ k. most_chunks < length (chunks_at (doubled weight k) items)) here last

  found : (times : ℕ) → ManyBefore times → length (chunks_at (doubled weight times) items) ≤ most_chunks
      → AreTheFirstFew (chunks_at (doubled weight times) items) items weight
  found times before is = record { times = times; same = refl; few = is; many_before = before }

  first_from : (test : Bool) (times : ℕ) (more : List Chunk) → are_few (chunks_at (doubled weight times) items) ≡ test → ManyBefore times
      → (test ≡ false → AreTheFirstFew more items weight)
      → AreTheFirstFew (if test then chunks_at (doubled weight times) items else more) items weight
  first_from true times more is before later = found times before (few_there (doubled weight times) items is)
  first_from false times more is before later = later refl

  first_few : (left times : ℕ) → doubled weight times ≤ highest → Reaches left (doubled weight times) → ManyBefore times
      → AreTheFirstFew (chunks_from left (doubled weight times) items) items weight
  first_few zero times most reaches before = found times before (few zero (doubled weight times) items most reaches)
  first_few (suc left) times most reaches before =
      first_from (are_few (chunks_at (doubled weight times) items)) times (chunks_from left (doubled weight (suc times)) items) refl before
      (λ many. first_few left (suc times) (min-le_right (2 * doubled weight times) highest) reaches
      (one_more times before (many_there (doubled weight times) items many)))

pub cuts_are_the_first_few : CutsAreTheFirstFew
cuts_are_the_first_few items weight some =
    let least : 1 ≤ capped weight = le-min some (omega arith) in
    first_few items weight 64 0 (min-le_right weight highest) (greater_reaches 64 1 (capped weight) least from_one) (λ k less. absurd (omega arith))
