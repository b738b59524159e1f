-- What stands between terminals.
use Rattle.std.proofs.Common.{◌≡◌, ℕ, ◌+◌, ◌-◌, ◌<◌, ◌≤◌, Bool, true, cond, eqb, List, [], ◌∷◌, length, take, drop, get_or, Ok, Err, Some, refl, ap, ◌∙◌, arith, eq-eqb, length-drop, nat_eq, codes}
use Rattle.std.proofs.lemmas.List.{drop_more, drop_all, drop-drop, take_all}
use Rattle.std.specs.Str.{is_utf8}
use Rattle.nquads_text.specs.Statement.{uncommented, nothing, statement, statement_if_any, and_then, gap, said, annotated, typed}
use Rattle.std.specs.List.{starts_with}
use Rattle.nquads_text.specs.Places.{StopsAt}
use Rattle.nquads_text.specs.declared.line.Stop.{Stop}
use Rattle.nquads_text.specs.declared.line.Stop.TheVariants.{Bad, OutOfMemory}

commented : (bs : List ℕ) (q : Bool) → 0 < length bs → get_or bs 0 0 ≡ 35 → is_utf8 bs ≡ q → uncommented bs ≡ cond q (Ok []) (Err bs)
commented [] q some mark is = absurd (omega arith)
commented (b ∷ bs) q some mark is =
    let here : eqb b 35 ≡ true = eq-eqb b 35 mark in
    rw (here, is) refl

-- a comment that begins at a place
pub comment_at : (line : List ℕ) (place : ℕ) (q : Bool) → place < length line → get_or line place 0 ≡ 35 → is_utf8 (take (length line - place) (drop place line)) ≡ q → uncommented (drop place line) ≡ cond q (Ok []) (Err (drop place line))
comment_at line place q within mark is =
    let all : take (length line - place) (drop place line) ≡ drop place line = take_all (length line - place) (drop place line) (omega (arith, length-drop place line)) in
    let first : get_or (drop place line) 0 0 ≡ 35 = ap (λ l. get_or l 0 0) (drop_more line place 0 within) ∙ mark in
    commented (drop place line) q (omega (arith, length-drop place line)) first (rw all at is)

-- what is left at a place before the end is something
pub left_over : (line : List ℕ) (place : ℕ) → place < length line → nothing (drop place line) ≡ Err (drop place line)
left_over line place within = let some = drop_more line place 0 within in rw some refl

pub nothing_left : (line : List ℕ) (place : ℕ) → length line ≤ place → nothing (drop place line) ≡ Ok (drop place line)
nothing_left line place past = let none = drop_all place line past in rw none refl

pub something : (line : List ℕ) (place : ℕ) → place < length line → statement_if_any (drop place line) ≡ and_then (statement (drop place line)) (λ q. Ok (Some q))
something line place within = let some = drop_more line place 0 within in rw some refl

pub whole_line : (line : List ℕ) (place : ℕ) → place < length line → gap line ≡ Ok (drop place line) → said line ≡ and_then (statement (drop place line)) (λ q. Ok (Some q))
whole_line line place within is = ap (λ r. and_then r statement_if_any) is ∙ something line place within

pub whole_stops : (line : List ℕ) (place : ℕ) (stop : Stop) → place < length line → gap line ≡ Ok (drop place line) → StopsAt line stop (statement (drop place line)) → StopsAt line stop (said line)
whole_stops line place (Bad at) within is stops = (stops.0, whole_line line place within is ∙ ap (λ r. and_then r (λ q. Ok (Some q))) stops.1)
whole_stops line place OutOfMemory within is stops = tt

-- `^^` at a place
pub typed_at : (line lexical : List ℕ) (at : ℕ) → starts_with nat_eq (take (length line - at) (drop at line)) (codes "^^") ≡ true → annotated lexical (drop at line) ≡ typed lexical (drop (at + 2) line)
typed_at line lexical at starts =
    let all : take (length line - at) (drop at line) ≡ drop at line = take_all (length line - at) (drop at line) (omega (arith, length-drop at line)) in
    let mark : starts_with nat_eq (drop at line) (codes "^^") ≡ true = rw all at starts in
    let further : drop 2 (drop at line) ≡ drop (at + 2) line = drop-drop 2 at line in
    rw (mark, further) refl
