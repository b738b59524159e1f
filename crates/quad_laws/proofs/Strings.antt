-- A string that was written is read back.
use Rattle.std.proofs.Common.{◌≡◌, ℕ, Bool, true, false, cond, eqb, List, [], ◌∷◌, ◌++◌, Some, None, refl, ap, ◌∙◌, arith, append_assoc}
use Rattle.std.proofs.lemmas.Bool.Decides.{nat_tests}
use Rattle.std.proofs.lemmas.Str.Ascii.{encode_ascii}
use Rattle.std.specs.List.{flat_map}
use Rattle.std.specs.Str.{is_utf8}
use Rattle.nquads_terminals.specs.Characters.{enclosed, onto, only}
use Rattle.nquads_terminals.specs.Terminals.{string}
use Rattle.nquads_terminals.specs.declared.enclosed.Enclosed.TheVariants.{Quoted}
use Rattle.nquads_text.specs.Written.{escaped, quoted}

-- one character of a string
one_back : (b : ℕ) (p q r s : Bool) (rest : List ℕ) → eqb b 34 ≡ p → eqb b 92 ≡ q → eqb b 10 ≡ r → eqb b 13 ≡ s → enclosed Quoted 0 (escaped b ++ rest) ≡ onto (b ∷ []) (enclosed Quoted 0 rest)
one_back b true q r s rest a c d e =
    let is : b ≡ 34 = grind (arith, nat_tests) in
    rw (a, is) (ap (λ l. onto l (enclosed Quoted 0 rest)) (encode_ascii 34 (omega arith)))
one_back b false true r s rest a c d e =
    let is : b ≡ 92 = grind (arith, nat_tests) in
    rw (a, c, is) (ap (λ l. onto l (enclosed Quoted 0 rest)) (encode_ascii 92 (omega arith)))
one_back b false false true s rest a c d e =
    let is : b ≡ 10 = grind (arith, nat_tests) in
    rw (a, c, d, is) (ap (λ l. onto l (enclosed Quoted 0 rest)) (encode_ascii 10 (omega arith)))
one_back b false false false true rest a c d e =
    let is : b ≡ 13 = grind (arith, nat_tests) in
    rw (a, c, d, e, is) (ap (λ l. onto l (enclosed Quoted 0 rest)) (encode_ascii 13 (omega arith)))
one_back b false false false false rest a c d e = rw (a, c, d, e) (rw (a, c, d, e) refl)

pub escaped_back : (lexical rest : List ℕ) → enclosed Quoted 0 (flat_map escaped lexical ++ (34 ∷ rest)) ≡ Some (lexical, rest)
escaped_back [] rest = refl
escaped_back (b ∷ bs) rest =
    let more = escaped_back bs rest in
    ap (enclosed Quoted 0) (append_assoc (escaped b) (flat_map escaped bs) (34 ∷ rest)) ∙ one_back b (eqb b 34) (eqb b 92) (eqb b 10) (eqb b 13) (flat_map escaped bs ++ (34 ∷ rest)) refl refl refl refl ∙ ap (onto (b ∷ [])) more

pub string_back : (lexical rest : List ℕ) → is_utf8 lexical ≡ true → string (quoted lexical ++ rest) ≡ Some (lexical, rest)
string_back lexical rest text =
    let bytes : flat_map escaped lexical ++ (34 ∷ []) ++ rest ≡ flat_map escaped lexical ++ (34 ∷ rest) = append_assoc (flat_map escaped lexical) (34 ∷ []) rest in
    let all : enclosed Quoted 0 (flat_map escaped lexical ++ (34 ∷ []) ++ rest) ≡ Some (lexical, rest) = ap (enclosed Quoted 0) bytes ∙ escaped_back lexical rest in
    ap (only (λ r. is_utf8 r.0)) all ∙ ap (λ q. cond q (Some (lexical, rest)) None) text
