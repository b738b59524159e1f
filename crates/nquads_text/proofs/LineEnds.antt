-- The first line of a text.
use Rattle.std.proofs.Common.{◌≡◌, ℕ, suc, ◌+◌, ◌<◌, Bool, true, false, eqb, List, [], ◌∷◌, length, take, drop, refl, ap, ◌∙◌, arith}
use Rattle.std.proofs.lemmas.Bool.Decides.{nat_tests}
use Rattle.std.specs.List.{position_or_len}
use Rattle.nquads_text.specs.Lines.{is_line_end, in_front, lines_from, lines, end_len}

abbrev pos : List ℕ → ℕ
pos bs = position_or_len is_line_end bs

one : (n : ℕ) → 1 + n ≡ suc n
one n = omega arith

feed_end : (b : ℕ) (bs : List ℕ) → eqb b 10 ≡ true → end_len (b ∷ bs) ≡ 1
feed_end b [] feed = refl
feed_end b (c ∷ bs) feed = let other : eqb b 13 ≡ false = grind (arith, nat_tests) in rw other refl

-- what stands behind a CR
behind_return : (b : ℕ) (bs : List ℕ) → eqb b 13 ≡ true → lines_from true bs ≡ lines_from false (drop (end_len (b ∷ bs)) (b ∷ bs))
behind_return b [] return = refl
behind_return b (c ∷ bs) return = by (eqb c 10) refl
  where
    by : (q : Bool) → eqb c 10 ≡ q → lines_from true (c ∷ bs) ≡ lines_from false (drop (end_len (b ∷ c ∷ bs)) (b ∷ c ∷ bs))
    by true feed = rw (return, feed) refl
    by false feed = rw (return, feed) (rw feed refl)

abbrev First : List ℕ → Type 0
First bs = lines_from false bs ≡ take (pos bs) bs ∷ lines_from false (drop (end_len (drop (pos bs) bs)) (drop (pos bs) bs))

inside : (b : ℕ) (bs : List ℕ) → eqb b 10 ≡ false → eqb b 13 ≡ false → (0 < length bs → First bs) → First (b ∷ bs)
inside b [] feed return rest = rw (feed, return) refl
inside b (c ∷ bs) feed return rest =
    let more : First (c ∷ bs) = rest (omega arith) in
    let next : pos (b ∷ c ∷ bs) ≡ suc (pos (c ∷ bs)) = rw (feed, return) (one (pos (c ∷ bs))) in
    let here : lines_from false (b ∷ c ∷ bs) ≡ in_front b (lines_from false (c ∷ bs)) = rw (feed, return) refl in
    rw next (here ∙ ap (in_front b) more)

step : (b : ℕ) (bs : List ℕ) (p q : Bool) → eqb b 10 ≡ p → eqb b 13 ≡ q → (0 < length bs → First bs) → First (b ∷ bs)
step b bs true q feed return rest =
    let length_one = feed_end b bs feed in
    let none : pos (b ∷ bs) ≡ 0 = rw feed refl in
    let here : lines_from false (b ∷ bs) ≡ [] ∷ lines_from false bs = rw feed refl in
    rw (none, length_one) here
step b bs false true feed return rest =
    let none : pos (b ∷ bs) ≡ 0 = rw (feed, return) refl in
    let here : lines_from false (b ∷ bs) ≡ [] ∷ lines_from true bs = rw (feed, return) refl in
    rw none (here ∙ ap (λ l. [] ∷ l) (behind_return b bs return))
step b bs false false feed return rest = inside b bs feed return rest

-- a text that isn't empty is its first line and the others
pub first_line : (bs : List ℕ) → 0 < length bs → First bs
first_line [] some = absurd (omega arith)
first_line (b ∷ bs) some = step b bs (eqb b 10) (eqb b 13) refl refl (first_line bs)

pub split_line : (bs line rest behind : List ℕ) (n k : ℕ) → 0 < length bs → n ≡ pos bs → line ≡ take n bs → rest ≡ drop n bs → k ≡ end_len rest → behind ≡ drop k rest → lines bs ≡ line ∷ lines behind
split_line bs line rest behind n k some at is_line is_rest size is_behind =
    rw (is_line, is_behind, size, is_rest, at) (first_line bs some)
