-- No part holds a mark that ends it.
use Rattle.std.proofs.Common.{◌≡◌, ℕ, ◌+◌, ◌<◌, Bool, false, not, List, [], ◌∷◌, Option, Some, None, IfSome, codes, drop, length, get_or, nat_eq, suc, zero, refl, sym, ap, ◌∙◌, subst, ⊎_elim, arith}
use Rattle.std.specs.List.{after_first, before_first, list_any, position_or_len, starts_with}
use Rattle.std.specs.Option.{is_some, option_and_then}
use Rattle.std.specs.Str.{bytes_eq}
use Rattle.std.proofs.lemmas.Bool.{cases_lt, cond_both, not-true, or_from, or_parts}
use Rattle.std.proofs.lemmas.List.{get_or-drop, get_or-take, length-drop, length-take-le}
use Rattle.std.proofs.lemmas.List.Sums.{fails_before_first, prefix_len-le-length}
use Rattle.iri_ref.specs.Parts.{EndAtMarks, authority_in, behind_scheme, colon, is_run, lacks, number_sign, part_after, parts_of, path_in, question_mark, run_only, scheme_in, slash}
use Rattle.iri_ref.proofs.Laws.{both, front_absent, front_found, part_absent, part_found}

none_from : (test : ℕ → Bool) (bs : List ℕ) → ((i : ℕ) → i < length bs → test (get_or bs i 0) ≡ false) → lacks test bs
none_from test [] fails = refl
none_from test (b ∷ bs) fails = or_from (test b) (list_any test bs) (fails 0 (omega arith)) (none_from test bs (λ i lt. fails (suc i) (omega arith)))

fails_at : (test : ℕ → Bool) (bs : List ℕ) → lacks test bs → (i : ℕ) → i < length bs → test (get_or bs i 0) ≡ false
fails_at test [] none i lt = absurd (omega arith)
fails_at test (b ∷ bs) none zero lt = (or_parts (test b) (list_any test bs) none).0
fails_at test (b ∷ bs) none (suc i) lt = fails_at test bs (or_parts (test b) (list_any test bs) none).1 i (omega arith)

lacks-drop : (test : ℕ → Bool) (n : ℕ) (bs : List ℕ) → lacks test bs → lacks test (drop n bs)
lacks-drop test n bs none = none_from test (drop n bs) (λ i lt.
    let within : n + i < length bs = omega (arith, length-drop n bs, lt) in
    ap test (get_or-drop n bs i 0) ∙ fails_at test bs none (n + i) within)

-- what stands before the first byte that passes one test lacks it, and what the whole lacks
front_length : (test : ℕ → Bool) (bs : List ℕ) → length (before_first test bs) ≡ position_or_len test bs
front_length test bs = length-take-le (position_or_len test bs) bs (prefix_len-le-length (λ b. not (test b)) bs)

lacks-first : (test : ℕ → Bool) (bs : List ℕ) → lacks test (before_first test bs)
lacks-first test bs = none_from test (before_first test bs) (λ i lt.
    let early : i < position_or_len test bs = omega (arith, front_length test bs, lt) in
    ap test (get_or-take (position_or_len test bs) bs i 0 early) ∙ fails_before_first test bs i 0 early)

lacks-before : (test other : ℕ → Bool) (bs : List ℕ) → lacks other bs → lacks other (before_first test bs)
lacks-before test other bs none = none_from other (before_first test bs) (λ i lt.
    let early : i < position_or_len test bs = omega (arith, front_length test bs, lt) in
    let within : i < length bs = omega (arith, early, prefix_len-le-length (λ b. not (test b)) bs) in
    ap other (get_or-take (position_or_len test bs) bs i 0 early) ∙ fails_at other bs none i within)

lacks-after : (test other : ℕ → Bool) (bs : List ℕ) → lacks other bs → IfSome (part_after test bs) (lacks other)
lacks-after test other bs none = ⊎_elim
    (λ lt. subst (λ (o : Option (List ℕ)). IfSome o (lacks other)) (sym (part_found test bs lt)) (lacks-drop other (position_or_len test bs + 1) bs none))
    (λ le. subst (λ (o : Option (List ℕ)). IfSome o (lacks other)) (sym (part_absent test bs le)) tt)
    (cases_lt (position_or_len test bs) (length bs))

-- the scheme
abbrev SchemeEnds : List ℕ → Type 0
SchemeEnds s = lacks colon s × lacks slash s × lacks question_mark s × lacks number_sign s

run_ends : (front : List ℕ) → lacks question_mark front → lacks number_sign front → IfSome (run_only (before_first colon front)) SchemeEnds
run_ends front no_query no_fragment =
    let s = before_first colon front in
    cond_both (is_run s) (Some s) None (λ (o : Option (List ℕ)). IfSome o SchemeEnds)
    (λ run. (lacks-first colon front, not-true (list_any slash s) (both (not (bytes_eq s [])) (not (list_any slash s)) run).1, lacks-before colon question_mark front no_query, lacks-before colon number_sign front no_fragment))
    (λ _. tt)

scheme_ends : (front : List ℕ) → lacks question_mark front → lacks number_sign front → IfSome (scheme_in front) SchemeEnds
scheme_ends front no_query no_fragment = ⊎_elim
    (λ lt. subst (λ (o : Option (List ℕ)). IfSome (option_and_then run_only o) SchemeEnds) (sym (front_found colon front lt)) (run_ends front no_query no_fragment))
    (λ le. subst (λ (o : Option (List ℕ)). IfSome (option_and_then run_only o) SchemeEnds) (sym (front_absent colon front le)) tt)
    (cases_lt (position_or_len colon front) (length front))

behind_lacks : (test : ℕ → Bool) (front : List ℕ) → lacks test front → lacks test (behind_scheme front)
behind_lacks test front none = cond_both (is_some (scheme_in front)) (after_first colon front) front (lacks test) (λ _. lacks-drop test (position_or_len colon front + 1) front none) (λ _. none)

-- the authority and the path
abbrev AuthorityEnds : List ℕ → Type 0
AuthorityEnds a = lacks slash a × lacks question_mark a × lacks number_sign a

authority_ends : (rest : List ℕ) → lacks question_mark rest → lacks number_sign rest → IfSome (authority_in rest) AuthorityEnds
authority_ends rest no_query no_fragment =
    let inner = drop 2 rest in
    cond_both (starts_with nat_eq rest (codes "//")) (Some (before_first slash inner)) None (λ (o : Option (List ℕ)). IfSome o AuthorityEnds)
    (λ _. (lacks-first slash inner, lacks-before slash question_mark inner (lacks-drop question_mark 2 rest no_query), lacks-before slash number_sign inner (lacks-drop number_sign 2 rest no_fragment)))
    (λ _. tt)

path_lacks : (test : ℕ → Bool) (rest : List ℕ) → lacks test rest → lacks test (path_in rest)
path_lacks test rest none =
    let inner = drop 2 rest in
    cond_both (starts_with nat_eq rest (codes "//")) (drop (position_or_len slash inner) inner) rest (lacks test)
    (λ _. lacks-drop test (position_or_len slash inner) inner (lacks-drop test 2 rest none)) (λ _. none)

pub parts_end : (text : List ℕ) → EndAtMarks (parts_of text)
parts_end text =
    let above = before_first number_sign text in
    let front = before_first question_mark above in
    let no_fragment_above : lacks number_sign above = lacks-first number_sign text in
    let no_fragment : lacks number_sign front = lacks-before question_mark number_sign above no_fragment_above in
    let no_query : lacks question_mark front = lacks-first question_mark above in
    record {
      scheme = scheme_ends front no_query no_fragment;
      authority = authority_ends (behind_scheme front) (behind_lacks question_mark front no_query) (behind_lacks number_sign front no_fragment);
      path = (path_lacks question_mark (behind_scheme front) (behind_lacks question_mark front no_query), path_lacks number_sign (behind_scheme front) (behind_lacks number_sign front no_fragment));
      query = lacks-after question_mark number_sign above no_fragment_above;
    }
