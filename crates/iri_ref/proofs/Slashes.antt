-- The first and the last slash of a text.
use Rattle.std.proofs.Common.{◌≡◌, ℕ, ◌<◌, ◌≢◌, List, Option, Some, None, MatchOption, length, get_or, unwrap_or, eq-eqb, arith}
use Rattle.std.specs.List.{position_or_len}
use Rattle.std.proofs.lemmas.Bool.{ne_eqb}
use Rattle.std.proofs.lemmas.List.Sums.{position_or_len_is}
use Rattle.iri_ref.specs.Parts.{is}

-- the place that a search for a byte from the front answers
pub first_place : (c : ℕ) (bs : List ℕ) (r : Option ℕ) → MatchOption r ((i : ℕ) → i < length bs → get_or bs i 0 ≢ c) (λ k. (k < length bs) × (get_or bs k 0 ≡ c) × ((i : ℕ) → i < k → get_or bs i 0 ≢ c)) → position_or_len (is c) bs ≡ unwrap_or r (length bs)
first_place c bs None none = position_or_len_is (is c) bs (length bs) 0 (omega arith) (λ k lt. ne_eqb (get_or bs k 0) c (none k lt)) (λ lt. absurd (omega arith))
first_place c bs (Some k) found = position_or_len_is (is c) bs k 0 (omega (arith, found.0)) (λ i lt. ne_eqb (get_or bs i 0) c (found.2 i lt)) (λ lt. eq-eqb (get_or bs k 0) c found.1)
