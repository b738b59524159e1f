-- The first line of a text.
use Rattle.std.proofs.Common.{◌≡◌, ℕ, suc, ◌+◌, ◌-◌, ◌<◌, ◌≤◌, Bool, true, false, ◌&&◌, not, cond, List, [], ◌∷◌, ◌++◌, length, take, drop, Some, None, refl, sym, ap, ◌∙◌, arith, nat_lt}
use Rattle.std.proofs.lemmas.Grind.{common_steps}
use Rattle.std.specs.List.{position_or_len, position}
use Rattle.iri_ref.specs.Parts.{is}
use Rattle.ctx_store.specs.Index.{is_none, begins_with_line_feed, in_front, lines, without_return}

is_none-append : (xs : List ℕ) (y : ℕ) → is_none (xs ++ y ∷ []) ≡ false
is_none-append [] y = refl
is_none-append (x ∷ xs) y = refl

front_of : (xs : List ℕ) → without_return (xs ++ 13 ∷ []) ≡ xs
front_of [] = refl
front_of (x ∷ xs) =
    ap (λ b. cond (b && is 13 x) [] (x ∷ without_return (xs ++ 13 ∷ []))) (is_none-append xs 13) ∙ ap (λ l. x ∷ l) (front_of xs)

same_of : (xs : List ℕ) (y : ℕ) → is 13 y ≡ false → without_return (xs ++ y ∷ []) ≡ xs ++ y ∷ []
same_of [] y h = ap (λ b. cond b [] (y ∷ [])) h
same_of (x ∷ xs) y h =
    ap (λ b. cond (b && is 13 x) [] (x ∷ without_return (xs ++ y ∷ []))) (is_none-append xs y) ∙ ap (λ l. x ∷ l) (same_of xs y h)

pub return_dropped : (line front : List ℕ) (last : ℕ) → line ≡ front ++ last ∷ [] → last ≡ 13 → front ≡ without_return line
return_dropped line front last e is_return = rw (e, is_return) (sym (front_of front))

pub no_return : (line front : List ℕ) (last : ℕ) → line ≡ front ++ last ∷ [] → is 13 last ≡ false → line ≡ without_return line
no_return line front last e other = rw e (sym (same_of front last other))

pub nothing_dropped : (line : List ℕ) → length line ≡ 0 → line ≡ without_return line
nothing_dropped [] e = refl
nothing_dropped (x ∷ xs) e = absurd (omega arith)

abbrev feed : List ℕ → ℕ
feed bs = position_or_len (is 10) bs

one_more : (n : ℕ) → 1 + n ≡ suc n
one_more n = omega arith

tie : (bs : List ℕ) → feed bs < length bs → begins_with_line_feed bs ≡ is_none (take (feed bs) bs)
tie [] h = absurd (omega arith)
tie (b ∷ bs) h =
    elim (is 10 b) as (λ f. f ≡ is_none (take (cond (not f) (1 + feed bs) 0) (b ∷ bs)))
    [ true ↦ refl | false ↦ rw (one_more (feed bs)) refl ]

meet : (x : List ℕ) (b : ℕ) (rest : List (List ℕ)) → cond (is_none x && is 13 b) (without_return x ∷ rest) ((b ∷ without_return x) ∷ rest) ≡ cond (is_none x && is 13 b) [] (b ∷ without_return x) ∷ rest
meet [] b rest = elim (is 13 b) as (λ q. cond q ([] ∷ rest) ((b ∷ []) ∷ rest) ≡ cond q [] (b ∷ []) ∷ rest) [ true ↦ refl | false ↦ refl ]
meet (x ∷ xs) b rest = refl

first_at : (bs : List ℕ) → feed bs < length bs → lines bs ≡ without_return (take (feed bs) bs) ∷ lines (drop (suc (feed bs)) bs)
first_at [] h = absurd (omega arith)
first_at (b ∷ bs) h = step (is 10 b) h (λ within. first_at bs within)
  where
    step : (f : Bool) → cond (not f) (1 + feed bs) 0 < length (b ∷ bs) → (feed bs < length bs → lines bs ≡ without_return (take (feed bs) bs) ∷ lines (drop (suc (feed bs)) bs)) → cond f ([] ∷ lines bs) (cond (begins_with_line_feed bs && is 13 b) (lines bs) (in_front b (lines bs))) ≡ without_return (take (cond (not f) (1 + feed bs) 0) (b ∷ bs)) ∷ lines (drop (suc (cond (not f) (1 + feed bs) 0)) (b ∷ bs))
    step true h behind = refl
    step false h behind =
        let within : feed bs < length bs = omega arith in
        rw (one_more (feed bs), tie bs within, behind within) (meet (take (feed bs) bs) b (lines (drop (suc (feed bs)) bs)))

abbrev alone : List ℕ → List (List ℕ)
alone [] = []
alone (b ∷ bs) = (b ∷ bs) ∷ []

in_front-alone : (b : ℕ) (bs : List ℕ) → in_front b (alone bs) ≡ (b ∷ bs) ∷ []
in_front-alone b [] = refl
in_front-alone b (x ∷ xs) = refl

no_feed : (bs : List ℕ) → length bs ≤ feed bs → begins_with_line_feed bs ≡ false
no_feed [] h = refl
no_feed (b ∷ bs) h = step (is 10 b) h
  where
    step : (f : Bool) → length (b ∷ bs) ≤ cond (not f) (1 + feed bs) 0 → f ≡ false
    step true h = absurd (omega arith)
    step false h = refl

last_alone : (bs : List ℕ) → length bs ≤ feed bs → lines bs ≡ alone bs
last_alone [] h = refl
last_alone (b ∷ bs) h = step (is 10 b) h (λ none. last_alone bs none)
  where
    step : (f : Bool) → length (b ∷ bs) ≤ cond (not f) (1 + feed bs) 0 → (length bs ≤ feed bs → lines bs ≡ alone bs) → cond f ([] ∷ lines bs) (cond (begins_with_line_feed bs && is 13 b) (lines bs) (in_front b (lines bs))) ≡ (b ∷ bs) ∷ []
    step true h behind = absurd (omega arith)
    step false h behind =
        let none : length bs ≤ feed bs = omega arith in
        rw (no_feed bs none, behind none) (in_front-alone b bs)

pub first_line : (bs : List ℕ) (at : ℕ) → position (is 10) bs ≡ Some at → lines bs ≡ without_return (take at bs) ∷ lines (take (length bs - (at + 1)) (drop (at + 1) bs))
first_line bs at found = step (nat_lt (feed bs) (length bs)) refl found
  where
    step : (b : Bool) → nat_lt (feed bs) (length bs) ≡ b → cond b (Some (feed bs)) None ≡ Some at → lines bs ≡ without_return (take at bs) ∷ lines (take (length bs - (at + 1)) (drop (at + 1) bs))
    step true within same =
        let there : feed bs ≡ at = grind (arith, common_steps) in
        let less : feed bs < length bs = grind (arith, common_steps) in
        let whole : take (length bs - (at + 1)) (drop (at + 1) bs) ≡ drop (at + 1) bs = grind (arith, common_steps) in
        let next : at + 1 ≡ suc at = omega arith in
        rw (whole, next, ← there) (first_at bs less)
    step false without same = absurd (cc)

pub last_line : (bs : List ℕ) → 0 < length bs → position (is 10) bs ≡ None → lines bs ≡ bs ∷ []
last_line [] some none = absurd (omega arith)
last_line (b ∷ bs) some none = step (nat_lt (feed (b ∷ bs)) (length (b ∷ bs))) refl none
  where
    step : (q : Bool) → nat_lt (feed (b ∷ bs)) (length (b ∷ bs)) ≡ q → cond q (Some (feed (b ∷ bs))) None ≡ None → lines (b ∷ bs) ≡ (b ∷ bs) ∷ []
    step true within same = absurd (cc)
    step false without same =
        let none : length (b ∷ bs) ≤ feed (b ∷ bs) = grind (arith, common_steps) in
        last_alone (b ∷ bs) none
