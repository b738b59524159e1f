-- A number that more digits write is no smaller.
use Rattle.std.proofs.Common.{◌≡◌, ℕ, ◌+◌, ◌-◌, ◌*◌, ◌^◌, ◌<◌, ◌≤◌, ◌&&◌, List, [], ◌∷◌, false, length, get_or, drop, ap, ◌∙◌, arith, add-one, drop-cons}
use Rattle.std.specs.Prelude.{nat_le}
use Rattle.std.specs.List.{list_all}
use Rattle.std.specs.Char.{is_ascii_digit}
use Rattle.std.proofs.lemmas.Bool.Decides.{nat_tests}
use Rattle.ld_model.proofs.Truths.{and-false}
use Rattle.ld_json.specs.Numbers.{decimal_from, is_within}

grows : (n : ℕ) (xs : List ℕ) → n ≤ decimal_from n xs
grows n [] = omega arith
grows n (x ∷ xs) = omega (arith, grows (10 * n + (x - 48)) xs)

above : (a b : ℕ) → b < a → nat_le a b ≡ false
above a b h = grind (arith, nat_tests)

past : (n x : ℕ) (xs : List ℕ) → 2 ^ 53 < n * 10 + (x - 48) → is_within n (x ∷ xs) ≡ false
past n x xs h =
    let more = grows (10 * n + (x - 48)) xs in
    let test : nat_le (decimal_from (10 * n + (x - 48)) xs) (2 ^ 53) ≡ false = above _ _ (omega arith) in
    ap (λ b. list_all is_ascii_digit (x ∷ xs) && b) test ∙ and-false (list_all is_ascii_digit (x ∷ xs))

-- Once the digits so far write more than 2^53, all of them do.
pub too_great : (n i : ℕ) (ds : List ℕ) → i < length ds → 2 ^ 53 < n * 10 + (get_or ds i 0 - 48) → is_within n (drop i ds) ≡ false
too_great n i ds within h =
    let rest : drop i ds ≡ get_or ds i 0 ∷ drop (i + 1) ds = rw (add-one, drop-cons ds i 0) in
    ap (is_within n) rest ∙ past n (get_or ds i 0) (drop (i + 1) ds) h
