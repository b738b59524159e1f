-- An IRI that was written is read back.
use Rattle.std.proofs.Common.{◌≡◌, ℕ, ◌≤◌, true, cond, leb, List, [], ◌∷◌, ◌++◌, length, Some, None, refl, ap, ◌∙◌, arith, append_assoc}
use Rattle.std.proofs.lemmas.Bool.{and_parts, and_from}
use Rattle.std.proofs.lemmas.Bool.Decides.{nat_tests}
use Rattle.std.specs.List.{prefix_len, list_all, position_or_len}
use Rattle.std.specs.Str.{is_utf8}
use Rattle.iri_ref.specs.Parts.{is_iri_byte, is_well_formed, has_scheme, colon}
use Rattle.nquads_terminals.specs.Characters.{enclosed, only, enclosed_text}
use Rattle.nquads_terminals.specs.Terminals.{iriref, iri_text, is_iri, backslash}
use Rattle.nquads_terminals.specs.declared.enclosed.Enclosed.TheVariants.{Iri}
use Rattle.nquads_terminals.proofs.Raw.{raw_is_not_closing, raw_is_no_backslash}
use Rattle.nquads_terminals.proofs.Iris.{run_before_backslash, colon_within}
use Rattle.nquads_text.specs.Written.{bracketed}

pub raw_back : (iri rest : List ℕ) → list_all is_iri_byte iri ≡ true → enclosed Iri 0 (iri ++ (62 ∷ rest)) ≡ Some (iri, rest)
raw_back [] rest all = refl
raw_back (b ∷ bs) rest all =
    let parts = and_parts (is_iri_byte b) (list_all is_iri_byte bs) all in
    let more = raw_back bs rest parts.1 in
    rw (parts.0, raw_is_not_closing Iri b parts.0, raw_is_no_backslash Iri b parts.0, more) refl

run_of : (iri rest : List ℕ) → list_all is_iri_byte iri ≡ true → length iri ≤ prefix_len is_iri_byte (iri ++ rest)
run_of [] rest all = omega arith
run_of (b ∷ bs) rest all =
    let parts = and_parts (is_iri_byte b) (list_all is_iri_byte bs) all in
    let more = run_of bs rest parts.1 in
    rw parts.0 (omega arith)

pub iri_back : (iri rest : List ℕ) → is_well_formed iri ≡ true → is_utf8 iri ≡ true → iriref (bracketed iri ++ rest) ≡ Some (iri, rest)
iri_back iri rest formed text =
    let parts = and_parts (has_scheme iri) (list_all is_iri_byte iri) formed in
    let bytes : iri ++ (62 ∷ []) ++ rest ≡ iri ++ (62 ∷ rest) = append_assoc iri (62 ∷ []) rest in
    let bs = iri ++ (62 ∷ rest) in
    let colon_first = colon_within iri parts.0 in
    let run = run_of iri (62 ∷ rest) parts.1 in
    let back = run_before_backslash bs in
    let before : leb (position_or_len colon iri) (position_or_len backslash bs) ≡ true = grind (arith, nat_tests) in
    let good : is_iri bs iri ≡ true = and_from _ _ formed before in
    let read : enclosed_text Iri bs ≡ Some (iri, rest) = ap (only (λ r. is_utf8 r.0)) (raw_back iri rest parts.1) ∙ ap (λ q. cond q (Some (iri, rest)) None) text in
    ap iri_text bytes ∙ ap (only (λ r. is_iri bs r.0)) read ∙ ap (λ b. cond b (Some (iri, rest)) None) good
