-- Laws of the definitions: the parts put together give the text, and an IRI is its own target.
use Rattle.std.proofs.Common.{◌≡◌, ℕ, ◌+◌, ◌<◌, ◌≤◌, Bool, true, false, ◌&&◌, ◌||◌, not, List, [], ◌∷◌, ◌++◌, Option, Some, None, cond, codes, drop, take, length, get_or, nat_eq, nat_le, suc, zero, refl, sym, ap, ◌∙◌, ⊎_elim, append_assoc, arith}
use Rattle.std.specs.List.{after_first, before_first, list_all, list_any, position_or_len, starts_with}
use Rattle.std.specs.Option.{is_some, option_and_then, option_map, option_map_or}
use Rattle.std.specs.Str.{bytes_eq}
use Rattle.std.proofs.lemmas.Bool.{cases_lt, le-ltb, lt-ltb, ne_eqb}
use Rattle.std.proofs.lemmas.Bool.Decides.{Decides-eqb}
use Rattle.std.proofs.lemmas.List.{append-nil, get_or-take, length-take-le, take_all, take-append-drop}
use Rattle.std.proofs.lemmas.List.Sums.{passes_at_first, position_or_len_is, prefix_len-le-length, split_at_first}
use Rattle.std.proofs.lemmas.Slice.Eq.{bytes_eq-Decides}
use Rattle.iri_ref.specs.Parts.{IriParts, authority_in, behind_scheme, colon, has_scheme, is, is_letter, is_run, is_scheme, is_scheme_byte, number_sign, part_after, part_before, parts_of, path_in, question_mark, run_only, scheme_in, slash}
use Rattle.iri_ref.specs.Dots.{remove_dots}
use Rattle.iri_ref.specs.Resolve.{marked, resolved, scheme_text, target_of, text_of}
use Rattle.iri_ref.proofs.Walk.{Plain, plain_from}

-- the part behind a mark, where the mark is there and where it is not
pub part_found : (test : ℕ → Bool) (bs : List ℕ) → position_or_len test bs < length bs → part_after test bs ≡ Some (after_first test bs)
part_found test bs lt = ap (λ b. option_map (λ i. drop (i + 1) bs) (cond b (Some (position_or_len test bs)) None)) (lt-ltb (position_or_len test bs) (length bs) lt)

pub part_absent : (test : ℕ → Bool) (bs : List ℕ) → length bs ≤ position_or_len test bs → part_after test bs ≡ None
part_absent test bs le = ap (λ b. option_map (λ i. drop (i + 1) bs) (cond b (Some (position_or_len test bs)) None)) (le-ltb (position_or_len test bs) (length bs) le)

pub front_found : (test : ℕ → Bool) (bs : List ℕ) → position_or_len test bs < length bs → part_before test bs ≡ Some (before_first test bs)
front_found test bs lt = ap (λ b. option_map (λ i. take i bs) (cond b (Some (position_or_len test bs)) None)) (lt-ltb (position_or_len test bs) (length bs) lt)

pub front_absent : (test : ℕ → Bool) (bs : List ℕ) → length bs ≤ position_or_len test bs → part_before test bs ≡ None
front_absent test bs le = ap (λ b. option_map (λ i. take i bs) (cond b (Some (position_or_len test bs)) None)) (le-ltb (position_or_len test bs) (length bs) le)

cut_there : (c : ℕ) (bs : List ℕ) → position_or_len (is c) bs < length bs → before_first (is c) bs ++ c ∷ after_first (is c) bs ≡ bs
cut_there c bs lt =
    let byte : get_or bs (position_or_len (is c) bs) 0 ≡ c = (Decides-eqb (get_or bs (position_or_len (is c) bs) 0) c).0 (passes_at_first (is c) bs 0 lt) in
    sym (split_at_first (is c) bs 0 lt ∙ ap (λ b. before_first (is c) bs ++ b ∷ after_first (is c) bs) byte)

marked_joined : (c : ℕ) (bs : List ℕ) → before_first (is c) bs ++ marked (c ∷ []) (part_after (is c) bs) ≡ bs
marked_joined c bs = ⊎_elim
    (λ lt. ap (λ o. before_first (is c) bs ++ marked (c ∷ []) o) (part_found (is c) bs lt) ∙ cut_there c bs lt)
    (λ le. ap (λ o. before_first (is c) bs ++ marked (c ∷ []) o) (part_absent (is c) bs le) ∙ append-nil (before_first (is c) bs) ∙ take_all (position_or_len (is c) bs) bs le)
    (cases_lt (position_or_len (is c) bs) (length bs))

-- what a front with this scheme is put together to
front_with : List ℕ → Option (List ℕ) → List ℕ
front_with front scheme = scheme_text scheme ++ cond (is_some scheme) (after_first colon front) front

run_joined : (front : List ℕ) (run : Bool) → position_or_len colon front < length front → front_with front (cond run (Some (before_first colon front)) None) ≡ front
unfolding front_with
run_joined front true lt = append_assoc (before_first colon front) (codes ":") (after_first colon front) ∙ cut_there 58 front lt
run_joined front false lt = refl

scheme_joined : (front : List ℕ) → scheme_text (scheme_in front) ++ behind_scheme front ≡ front
unfolding front_with
scheme_joined front = ⊎_elim
    (λ lt. ap (λ o. front_with front (option_and_then run_only o)) (front_found colon front lt) ∙ run_joined front (is_run (before_first colon front)) lt)
    (λ le. ap (λ o. front_with front (option_and_then run_only o)) (front_absent colon front le))
    (cases_lt (position_or_len colon front) (length front))

authority_cases : (rest : List ℕ) (slashes : Bool) → starts_with nat_eq rest (codes "//") ≡ slashes → marked (codes "//") (cond slashes (Some (before_first slash (drop 2 rest))) None) ++ cond slashes (drop (position_or_len slash (drop 2 rest)) (drop 2 rest)) rest ≡ rest
authority_cases rest true is_there =
    let two : codes "//" ≡ take 2 rest = (bytes_eq-Decides (codes "//") (take 2 rest)).0 is_there in
    ap (λ xs. codes "//" ++ xs) (take-append-drop (position_or_len slash (drop 2 rest)) (drop 2 rest))
    ∙ ap (λ xs. xs ++ drop 2 rest) two ∙ take-append-drop 2 rest
authority_cases rest false is_there = refl

authority_joined : (rest : List ℕ) → marked (codes "//") (authority_in rest) ++ path_in rest ≡ rest
authority_joined rest = authority_cases rest (starts_with nat_eq rest (codes "//")) refl

-- the parts put together give the text
pub text_of-parts_of : (text : List ℕ) → text_of (parts_of text) ≡ text
text_of-parts_of text =
    let above = before_first number_sign text in
    let front = before_first question_mark above in
    let rest = behind_scheme front in
    let tail = λ (xs : List ℕ). (xs ++ marked (codes "?") (part_after question_mark above)) ++ marked (codes "#") (part_after number_sign text) in
    ap tail (append_assoc (scheme_text (scheme_in front)) (marked (codes "//") (authority_in rest)) (path_in rest)
    ∙ ap (λ xs. scheme_text (scheme_in front) ++ xs) (authority_joined rest) ∙ scheme_joined front)
    ∙ ap (λ xs. xs ++ marked (codes "#") (part_after number_sign text)) (marked_joined 63 above)
    ∙ marked_joined 35 text

-- both parts of a test
pub both : (a b : Bool) → (a && b) ≡ true → (a ≡ true) × (b ≡ true)
both true b h = (refl, h)
both false b h = absurd cc

all_at : (test : ℕ → Bool) (bs : List ℕ) → list_all test bs ≡ true → (i : ℕ) → i < length bs → test (get_or bs i 0) ≡ true
all_at test [] all i lt = absurd (omega arith)
all_at test (b ∷ bs) all zero lt = (both (test b) (list_all test bs) all).0
all_at test (b ∷ bs) all (suc i) lt = all_at test bs (both (test b) (list_all test bs) all).1 i (omega arith)

letter_stands : (a b : Bool) → a ≡ true → (a || b) ≡ true
letter_stands true b h = refl
letter_stands false b h = absurd cc

letter_is_scheme_byte : (b : ℕ) → is_letter b ≡ true → is_scheme_byte b ≡ true
letter_is_scheme_byte b h =
    let digit = nat_le 48 b && nat_le b 57 in
    letter_stands (is_letter b || digit || is 43 b || is 45 b) (is 46 b)
    (letter_stands (is_letter b || digit || is 43 b) (is 45 b)
    (letter_stands (is_letter b || digit) (is 43 b) (letter_stands (is_letter b) digit h)))

-- a scheme is some bytes that stand in schemes
scheme_bytes : (bs : List ℕ) → is_scheme bs ≡ true → (0 < length bs) × ((i : ℕ) → i < length bs → is_scheme_byte (get_or bs i 0) ≡ true)
scheme_bytes [] h = absurd cc
scheme_bytes (b ∷ bs) h = (omega arith, at)
  where
    at : (i : ℕ) → i < length (b ∷ bs) → is_scheme_byte (get_or (b ∷ bs) i 0) ≡ true
    at zero lt = letter_is_scheme_byte b (both (is_letter b) (list_all is_scheme_byte bs) h).0
    at (suc i) lt = all_at is_scheme_byte bs (both (is_letter b) (list_all is_scheme_byte bs) h).1 i (omega arith)

-- a scheme of n bytes and a colon begin the text
record Leads (bs : List ℕ) (n : ℕ) : Type 0 where
  within : n < length bs
  colon_there : get_or bs n 0 ≡ 58
  bytes : (i : ℕ) → i < n → is_scheme_byte (get_or bs i 0) ≡ true

-- a byte of schemes is none that this test passes
no_mark : (c : ℕ) → is_scheme_byte c ≡ false → (b : ℕ) → is_scheme_byte b ≡ true → is c b ≡ false
no_mark c other b stands = ne_eqb b c (λ same. let clash : true ≡ false = sym stands ∙ ap is_scheme_byte same ∙ other in cc)

colon_place : (bs : List ℕ) (n : ℕ) → Leads bs n → position_or_len colon bs ≡ n
colon_place bs n leads = position_or_len_is colon bs n 0 (omega (arith, leads.within)) (λ i lt. no_mark 58 refl (get_or bs i 0) (leads.bytes i lt)) (λ _. rw leads.colon_there refl)

-- what stands before a mark still begins so
leads_before : (c : ℕ) → is_scheme_byte c ≡ false → is c 58 ≡ false → (bs : List ℕ) (n : ℕ) → Leads bs n → Leads (before_first (is c) bs) n
leads_before c other no_colon bs n leads =
    let place = position_or_len (is c) bs in
    let far : n < place = ⊎_elim (λ lt. lt) (λ le. absurd (early le)) (cases_lt n place) in
    let inside : (i : ℕ) → i < place → get_or (before_first (is c) bs) i 0 ≡ get_or bs i 0 = λ i lt. get_or-take place bs i 0 lt in
    record {
      within = omega (arith, far, length-take-le place bs (prefix_len-le-length (λ b. not (is c b)) bs));
      colon_there = inside n far ∙ leads.colon_there;
      bytes = λ i lt. ap is_scheme_byte (inside i (omega (arith, far, lt))) ∙ leads.bytes i lt;
    }
  where
    early : position_or_len (is c) bs ≤ n → ⊥
    early le =
        let within : position_or_len (is c) bs < length bs = omega (arith, leads.within, le) in
        let passes : is c (get_or bs (position_or_len (is c) bs) 0) ≡ true = passes_at_first (is c) bs 0 within in
        ⊎_elim
        (λ lt. let fails = no_mark c other (get_or bs (position_or_len (is c) bs) 0) (leads.bytes (position_or_len (is c) bs) lt) in cc)
        (λ ge. let here : position_or_len (is c) bs ≡ n = omega arith in
        let fails : is c (get_or bs (position_or_len (is c) bs) 0) ≡ false = ap (λ i. is c (get_or bs i 0)) here ∙ ap (is c) leads.colon_there ∙ no_colon in cc)
        (cases_lt (position_or_len (is c) bs) n)

-- a text in the form of an IRI begins so
leads_of : (text : List ℕ) → has_scheme text ≡ true → (n : ℕ) × (0 < n) × Leads text n
leads_of text h = ⊎_elim
    (λ lt.
    let place = position_or_len colon text in
    let form : is_scheme (before_first colon text) ≡ true = sym (ap (λ o. option_map_or is_scheme o false) (front_found colon text lt)) ∙ h in
    let long : length (before_first colon text) ≡ place = length-take-le place text (omega arith) in
    let stands = scheme_bytes (before_first colon text) form in (
      place,
      omega (arith, stands.0, long),
      record {
        within = lt;
        colon_there = (Decides-eqb (get_or text place 0) 58).0 (passes_at_first colon text 0 lt);
        bytes = λ i early. ap is_scheme_byte (sym (get_or-take place text i 0 early)) ∙ stands.1 i (omega (arith, early, long));
      },
    ))
    (λ le. absurd (let clash : false ≡ true = sym (ap (λ o. option_map_or is_scheme o false) (front_absent colon text le)) ∙ h in cc))
    (cases_lt (position_or_len colon text) (length text))

some_byte : (s : List ℕ) → 0 < length s → bytes_eq s [] ≡ false
some_byte [] h = absurd (omega arith)
some_byte (b ∷ bs) h = refl

run_stands : (a b : Bool) → a ≡ false → b ≡ false → (not a && not b) ≡ true
run_stands a b no_a no_b = rw (no_a, no_b) refl

-- so the parts of such a front have a scheme
scheme_of_front : (front : List ℕ) (n : ℕ) → 0 < n → Leads front n → is_some (scheme_in front) ≡ true
scheme_of_front front n some leads =
    let place : position_or_len colon front ≡ n = colon_place front n leads in
    let within : position_or_len colon front < length front = omega (arith, place, leads.within) in
    let s = before_first colon front in
    let long : length s ≡ position_or_len colon front = length-take-le (position_or_len colon front) front (omega (arith, within)) in
    let plain : Plain s = plain_from s (λ i lt same.
    let early : i < position_or_len colon front = omega (arith, lt, long) in
    let clash : true ≡ false = sym (leads.bytes i (omega (arith, early, place))) ∙ ap is_scheme_byte (sym (get_or-take (position_or_len colon front) front i 0 early) ∙ same) in cc) in
    let run : is_run s ≡ true = run_stands (bytes_eq s []) (list_any slash s) (some_byte s (omega (arith, some, place, long))) plain in
    ap (λ o. is_some (option_and_then run_only o)) (front_found colon front within) ∙ ap (λ b. is_some (cond b (Some s) None)) run

scheme_of_parts : (text : List ℕ) → has_scheme text ≡ true → is_some (parts_of text).scheme ≡ true
scheme_of_parts text h =
    let leads = leads_of text h in
    scheme_of_front (before_first question_mark (before_first number_sign text)) leads.0 leads.1
    (leads_before 63 refl refl (before_first number_sign text) leads.0 (leads_before 35 refl refl text leads.0 leads.2))

-- an IRI is its own target, whatever the base is
pub resolved_alone : (base other reference : List ℕ) → has_scheme reference ≡ true → resolved base reference ≡ resolved other reference
resolved_alone base other reference h =
    let r = parts_of reference in
    let alone : (b : IriParts) → target_of b r ≡ record r { path = remove_dots r.path } = λ b. rw (scheme_of_parts reference h) refl in
    ap text_of (alone (parts_of base) ∙ sym (alone (parts_of other)))
