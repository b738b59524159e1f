-- A good word that begins with a minus or a digit is the number up to the next break; another is no number.
use Rattle.std.proofs.Common.{◌≡◌, ℕ, suc, ◌+◌, ◌-◌, ◌<◌, ◌≤◌, Bool, true, false, not, ◌&&◌, ◌||◌, ◌==◌, cond, List, [], ◌∷◌, length, take, drop, Option, Some, None, option_and_then, inl, inr, ◌⊎◌, refl, sym, ap, ◌∙◌, subst, arith}
use Rattle.std.proofs.lemmas.Bool.{true≢false, false≢true, eqb-true, leb-true, and_parts, or_cases}
use Rattle.std.specs.Prelude.{nat_eq}
use Rattle.std.specs.List.{prefix_len, position_or_len, before_first, starts_with}
use Rattle.std.specs.Char.{is_ascii_digit}
use Rattle.json.specs.Token.{Token, number, boolean, null, bad}
use Rattle.json.specs.Word.{is_operator, is_space, head, ends_word, after_digits, after_minus, after_sign, after_whole, after_fraction, after_exponent, after_number, number_before, literal, word}
use Rattle.json.specs.Ascii.{true_text, false_text, null_text}
use Rattle.json.specs.Align.{is_good}
use Rattle.ld_json.specs.Numbers.{is_break, token_numbers}

-- How far the next break is.
abbrev far : List ℕ → ℕ
far t = position_or_len is_break t

-- No break stands in what lies before r.
abbrev Over : List ℕ → List ℕ → Type 0
Over t r = far t + length r ≡ far r + length t

-- What is left of a part, where there is such a part.
abbrev Leaves : List ℕ → Option (List ℕ) → Type 0
Leaves t None = ⊥ → ⊥
Leaves t (Some r) = Over t r

over : (a b c : List ℕ) → Over a b → Over b c → Over a c
over a b c p q = omega arith

one : (c : ℕ) (t : List ℕ) → is_break c ≡ false → (head t == c) ≡ true → Over t (drop 1 t)
one c [] safe e = refl
one c (x ∷ xs) safe e =
    let here : is_break x ≡ false = ap is_break (eqb-true x c e) ∙ safe in
    let step : far (x ∷ xs) ≡ 1 + far xs = ap (λ b. cond (not b) (1 + far xs) 0) here in
    omega arith

pub refuted : (b : Bool) → (b ≡ true → ⊥) → b ≡ false
refuted true h = absurd (h refl)
refuted false h = refl

neither : (a b : Bool) → a ≡ false → b ≡ false → (a || b) ≡ false
neither true b p q = p
neither false b p q = q

apart : (x c : ℕ) → (x < c) ⊎ (c < x) → (x == c) ≡ false
apart x c (inl h) = refuted (x == c) (λ e. let same : x ≡ c = eqb-true x c e in omega arith)
apart x c (inr h) = refuted (x == c) (λ e. let same : x ≡ c = eqb-true x c e in omega arith)

pub digit_is_no_break : (x : ℕ) → is_ascii_digit x ≡ true → is_break x ≡ false
digit_is_no_break x h =
    let low : 48 ≤ x = leb-true 48 x (and_parts _ _ h).0 in
    let high : x ≤ 57 = leb-true x 57 (and_parts _ _ h).1 in
    neither (is_operator x) (is_space x)
    (neither _ (x == 44) (neither _ (x == 58) (neither _ (x == 93) (neither _ (x == 91) (neither (x == 123) (x == 125) (apart x 123 (inl (omega arith))) (apart x 125 (inl (omega arith)))) (apart x 91 (inl (omega arith)))) (apart x 93 (inl (omega arith)))) (apart x 58 (inl (omega arith)))) (apart x 44 (inr (omega arith))))
    (neither _ (x == 13) (neither _ (x == 10) (neither (x == 32) (x == 9) (apart x 32 (inr (omega arith))) (apart x 9 (inr (omega arith)))) (apart x 10 (inr (omega arith)))) (apart x 13 (inr (omega arith))))

digits_at : (d : Bool) (x : ℕ) (xs : List ℕ) (n : ℕ) → (d ≡ true → is_break x ≡ false) → Over xs (drop n xs) → Over (x ∷ xs) (drop (cond d (1 + n) 0) (x ∷ xs))
digits_at false x xs n safe h = refl
digits_at true x xs n safe h =
    let step : far (x ∷ xs) ≡ 1 + far xs = ap (λ b. cond (not b) (1 + far xs) 0) (safe refl) in
    let e : 1 + n ≡ suc n = omega arith in
    subst (λ (k : ℕ). Over (x ∷ xs) (drop k (x ∷ xs))) (sym e) (omega arith)

digits : (t : List ℕ) → Over t (drop (prefix_len is_ascii_digit t) t)
digits [] = refl
digits (x ∷ xs) = digits_at (is_ascii_digit x) x xs (prefix_len is_ascii_digit xs) (digit_is_no_break x) (digits xs)

leaves-after_digits : (t : List ℕ) → Leaves t (after_digits t)
leaves-after_digits t = elim (prefix_len is_ascii_digit t == 0) as (λ b. Leaves t (cond b None (Some (drop (prefix_len is_ascii_digit t) t)))) [ true ↦ λ n. n | false ↦ digits t ]

by_test : (b : Bool) (t : List ℕ) (x y : Option (List ℕ)) → (b ≡ true → Leaves t x) → Leaves t y → Leaves t (cond b x y)
by_test true t x y f g = f refl
by_test false t x y f g = g

further : (t u : List ℕ) (o : Option (List ℕ)) → Over t u → Leaves u o → Leaves t o
further t u None e h = h
further t u (Some r) e h = over t u r e h

optional : (b : Bool) (t : List ℕ) → (b ≡ true → Over t (drop 1 t)) → Over t (cond b (drop 1 t) t)
optional true t f = f refl
optional false t f = refl

then_part : (t : List ℕ) (f : List ℕ → Option (List ℕ)) → ((u : List ℕ) → Leaves u (f u)) → (o : Option (List ℕ)) → Leaves t o → Leaves t (option_and_then f o)
then_part t f g None h = h
then_part t f g (Some r) h = further t r (f r) h (g r)

either : (a b : ℕ) (t : List ℕ) → is_break a ≡ false → is_break b ≡ false → ((head t == a) ≡ true) ⊎ ((head t == b) ≡ true) → Over t (drop 1 t)
either a b t p q (inl e) = one a t p e
either a b t p q (inr e) = one b t q e

leaves-after_whole : (t : List ℕ) → Leaves t (after_whole t)
leaves-after_whole t = by_test (head t == 48) t (Some (drop 1 t)) (after_digits t) (one 48 t refl) (leaves-after_digits t)

leaves-after_fraction : (t : List ℕ) → Leaves t (after_fraction t)
leaves-after_fraction t = by_test (head t == 46) t (after_digits (drop 1 t)) (Some t) (λ e. further t (drop 1 t) (after_digits (drop 1 t)) (one 46 t refl e) (leaves-after_digits (drop 1 t))) refl

over-after_sign : (t : List ℕ) → Over t (after_sign t)
over-after_sign t = optional ((head t == 45) || (head t == 43)) t (λ e. either 45 43 t refl refl (or_cases _ _ e))

leaves-after_exponent : (t : List ℕ) → Leaves t (after_exponent t)
leaves-after_exponent t =
    let u : List ℕ = drop 1 t in
    by_test ((head t == 101) || (head t == 69)) t (after_digits (after_sign u)) (Some t)
    (λ e. further t u (after_digits (after_sign u)) (either 101 69 t refl refl (or_cases _ _ e)) (further u (after_sign u) (after_digits (after_sign u)) (over-after_sign u) (leaves-after_digits (after_sign u)))) refl

leaves-after_number : (t : List ℕ) → Leaves t (after_number t)
unfolding after_number
leaves-after_number t =
    let u : List ℕ = after_minus t in
    further t u (option_and_then after_exponent (option_and_then after_fraction (after_whole u))) (optional (head t == 45) t (one 45 t refl))
    (then_part u after_exponent leaves-after_exponent (option_and_then after_fraction (after_whole u)) (then_part u after_fraction leaves-after_fraction (after_whole u) (leaves-after_whole u)))

at_end : (r : List ℕ) → ends_word r ≡ true → far r ≡ 0
at_end [] e = refl
at_end (x ∷ xs) e = ap (λ b. cond (not b) (1 + far xs) 0) e

passed : (b : Bool) (k : Token) → is_good (cond b k bad) ≡ true → b ≡ true
passed true k h = refl
passed false k h = h

number_up_to_break : (t : List ℕ) (o : Option (List ℕ)) → Leaves t o → is_good (number_before t o) ≡ true → number_before t o ≡ number (before_first is_break t)
number_up_to_break t None h good = absurd (false≢true good)
number_up_to_break t (Some r) h good =
    let ends : ends_word r ≡ true = passed (ends_word r) (number (take (length t - length r) t)) good in
    let none : far r ≡ 0 = at_end r ends in
    let long : length t - length r ≡ far t = omega arith in
    ap (λ b. cond b (number (take (length t - length r) t)) bad) ends ∙ ap (λ k. number (take k t)) long

-- A word may begin a number with this byte.
abbrev pub begins : ℕ → Bool
begins x = (x == 45) || is_ascii_digit x

or_parts : (a b : Bool) → (a || b) ≡ false → (a ≡ false) × (b ≡ false)
or_parts true b h = absurd (true≢false h)
or_parts false b h = (refl, h)

no_number : (x : ℕ) (xs : List ℕ) → (x == 45) ≡ false → is_ascii_digit x ≡ false → after_number (x ∷ xs) ≡ None
unfolding after_number
no_number x xs minus digit =
    let zero : (x == 48) ≡ false = refuted (x == 48) (λ e. true≢false (sym (ap is_ascii_digit (eqb-true x 48 e)) ∙ digit)) in
    let whole : after_whole (x ∷ xs) ≡ None = ap (λ b. cond b (Some (drop 1 (x ∷ xs))) (after_digits (x ∷ xs))) zero
    ∙ ap (λ b. let n : ℕ = cond b (1 + prefix_len is_ascii_digit xs) 0 in cond (n == 0) None (Some (drop n (x ∷ xs)))) digit in
    ap (λ b. option_and_then after_exponent (option_and_then after_fraction (after_whole (cond b (drop 1 (x ∷ xs)) (x ∷ xs))))) minus ∙ ap (λ o. option_and_then after_exponent (option_and_then after_fraction o)) whole

pick : (b : Bool) (k : Token) → token_numbers k ≡ [] → token_numbers (cond b k bad) ≡ []
pick true k none = none
pick false k none = refl

literal_is_no_number : (name : List ℕ) (k : Token) (t : List ℕ) → token_numbers k ≡ [] → token_numbers (literal name k t) ≡ []
literal_is_no_number name k t none = pick (starts_with nat_eq t name && ends_word (drop (length name) t)) k none

numeric : (n : Bool) (x : ℕ) (xs : List ℕ) → begins x ≡ n → is_good (number_before (x ∷ xs) (after_number (x ∷ xs))) ≡ true
    → token_numbers (number_before (x ∷ xs) (after_number (x ∷ xs))) ≡ cond n (before_first is_break (x ∷ xs) ∷ []) []
numeric true x xs e good = ap token_numbers (number_up_to_break (x ∷ xs) (after_number (x ∷ xs)) (leaves-after_number (x ∷ xs)) good)
numeric false x xs e good =
    let parts = or_parts (x == 45) (is_ascii_digit x) e in
    absurd (false≢true (sym (ap (λ o. is_good (number_before (x ∷ xs) o)) (no_number x xs parts.0 parts.1)) ∙ good))

chosen : (a n : Bool) (l m : Token) (w : List (List ℕ)) → (a ≡ true → n ≡ false) → token_numbers l ≡ [] → (is_good m ≡ true → token_numbers m ≡ cond n w []) → is_good (cond a l m) ≡ true → token_numbers (cond a l m) ≡ cond n w []
chosen true n l m w f none g good = none ∙ sym (ap (λ b. cond b w []) (f refl))
chosen false n l m w f none g good = g good

pub word_numbers : (x : ℕ) (xs : List ℕ) → is_good (word (x ∷ xs)) ≡ true → token_numbers (word (x ∷ xs)) ≡ cond (begins x) (before_first is_break (x ∷ xs) ∷ []) []
unfolding word
word_numbers x xs =
    let t : List ℕ = x ∷ xs in
    let w : List (List ℕ) = before_first is_break (x ∷ xs) ∷ [] in
    let by_number : Token = number_before t (after_number t) in
    let by_null : Token = cond (x == 110) (literal null_text null t) by_number in
    let by_false : Token = cond (x == 102) (literal false_text (boolean false) t) by_null in
    chosen (x == 116) (begins x) (literal true_text (boolean true) t) by_false w (λ e. ap begins (eqb-true x 116 e)) (literal_is_no_number true_text (boolean true) t refl)
    (chosen (x == 102) (begins x) (literal false_text (boolean false) t) by_null w (λ e. ap begins (eqb-true x 102 e)) (literal_is_no_number false_text (boolean false) t refl)
    (chosen (x == 110) (begins x) (literal null_text null t) by_number w (λ e. ap begins (eqb-true x 110 e)) (literal_is_no_number null_text null t refl) (numeric (begins x) x xs refl)))
