-- An IRI in which nothing is escaped.
use Rattle.std.proofs.Common.{◌≡◌, ℕ, suc, ◌+◌, ◌<◌, ◌≤◌, Bool, true, false, cond, ltb, leb, not, List, [], ◌∷◌, length, take, Some, None, refl, ap, ◌∙◌, arith}
use Rattle.std.proofs.lemmas.Bool.Decides.{nat_tests}
use Rattle.std.proofs.lemmas.List.Folds.{length-prefix_len}
use Rattle.std.specs.Option.{option_map, option_map_or}
use Rattle.std.specs.List.{prefix_len, position_or_len, list_all}
use Rattle.iri_ref.specs.Parts.{is, colon, is_scheme, is_iri_byte, has_scheme}
use Rattle.nquads_terminals.specs.Characters.{enclosed_text, only}
use Rattle.nquads_terminals.specs.Terminals.{is_iri, iri_text, backslash}
use Rattle.nquads_terminals.specs.declared.enclosed.Enclosed.TheVariants.{Iri}

all_step : (p : ℕ → Bool) (b : ℕ) (bs : List ℕ) (q : Bool) → p b ≡ q → list_all p (take (prefix_len p bs) bs) ≡ true → list_all p (take (cond q (1 + prefix_len p bs) 0) (b ∷ bs)) ≡ true
all_step p b bs true passes rest =
    let one : 1 + prefix_len p bs ≡ suc (prefix_len p bs) = omega arith in
    rw (one, passes) rest
all_step p b bs false passes rest = refl

-- the run of bytes that pass, passes
pub run_passes : (p : ℕ → Bool) (bs : List ℕ) → list_all p (take (prefix_len p bs) bs) ≡ true
run_passes p [] = refl
run_passes p (b ∷ bs) = all_step p b bs (p b) refl (run_passes p bs)

no_backslash : (b : ℕ) → is_iri_byte b ≡ true → not (backslash b) ≡ true
no_backslash b passes = grind (arith, nat_tests)

before_step : (b : ℕ) (bs : List ℕ) (q r : Bool) → is_iri_byte b ≡ q → not (backslash b) ≡ r → prefix_len is_iri_byte bs ≤ position_or_len backslash bs → cond q (1 + prefix_len is_iri_byte bs) 0 ≤ cond r (1 + position_or_len backslash bs) 0
before_step b bs true true raw other rest = omega arith
before_step b bs true false raw other rest = let passes = no_backslash b raw in absurd (cc)
before_step b bs false r raw other rest = omega arith

-- no backslash stands in the run of an IRI's bytes
pub run_before_backslash : (bs : List ℕ) → prefix_len is_iri_byte bs ≤ position_or_len backslash bs
run_before_backslash [] = omega arith
run_before_backslash (b ∷ bs) = before_step b bs (is_iri_byte b) (not (backslash b)) refl refl (run_before_backslash bs)

colon_step : (text : List ℕ) (q : Bool) → ltb (position_or_len colon text) (length text) ≡ q → option_map_or is_scheme (option_map (λ i. take i text) (cond q (Some (position_or_len colon text)) None)) false ≡ true → position_or_len colon text < length text
colon_step text true within has = grind (arith, nat_tests)
colon_step text false within has = absurd (cc)

-- a text with a scheme has a colon
pub colon_within : (text : List ℕ) → has_scheme text ≡ true → position_or_len colon text < length text
colon_within text has = colon_step text (ltb (position_or_len colon text) (length text)) refl has

pub raw_iri_read : (bs text rest : List ℕ) → text ≡ take (prefix_len is_iri_byte bs) bs → has_scheme text ≡ true → enclosed_text Iri bs ≡ Some (text, rest) → iri_text bs ≡ Some (text, rest)
raw_iri_read bs text rest is has read =
    let long : length text ≡ prefix_len is_iri_byte bs = ap length is ∙ length-prefix_len is_iri_byte bs in
    let all : list_all is_iri_byte text ≡ true = rw is (run_passes is_iri_byte bs) in
    let colon_first = colon_within text has in
    let back = run_before_backslash bs in
    let before : leb (position_or_len colon text) (position_or_len backslash bs) ≡ true = grind (arith, nat_tests) in
    let good : is_iri bs text ≡ true = rw (has, all, before) refl in
    ap (only (λ r. is_iri bs r.0)) read ∙ ap (λ b. cond b (Some (text, rest)) None) good
