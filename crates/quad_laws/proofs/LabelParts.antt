-- A label is read exactly where it is `_:` and the characters of a label, and what follows can't go on with it.
use Rattle.std.proofs.Common.{◌≡◌, ℕ, zero, suc, ◌+◌, ◌<◌, ◌≤◌, Bool, true, false, cond, ◌||◌, ◌&&◌, eqb, ltb, List, [], ◌∷◌, ◌++◌, length, take, drop, Option, Some, None, refl, sym, ap, ap₂, ◌∙◌, subst, arith, length-append, length-drop, take-append-drop}
use Rattle.std.proofs.lemmas.Bool.{and_parts, and_from, false≢true}
use Rattle.std.proofs.lemmas.Bool.Decides.{nat_tests}
use Rattle.std.proofs.lemmas.Option.{none-some, some_pair_parts, cond_some}
use Rattle.std.proofs.lemmas.Str.{length-encode, len_utf8_bounds}
use Rattle.std.proofs.lemmas.Str.Ascii.{encode_ascii}
use Rattle.std.proofs.Math.Seq.{take-add}
use lib.Seq.{take-append_seam, length-take-le}
use Rattle.std.specs.Option.{option_map_or}
use Rattle.std.specs.Char.{encode_utf8}
use Rattle.std.specs.Str.{encode_utf8_all, all_scalars}
use Rattle.bstr.specs.Utf8.{decoded}
use Rattle.bstr.proofs.lemmas.SoundLemmas.{SpellsChar-decoded}
use Rattle.bstr.proofs.lemmas.PieceLemmas.{piece-bounds}
use Rattle.rdf_terms.specs.Quad.{is_pn_chars, is_label_rest, is_label_body}
use Rattle.nquads_terminals.specs.Terminals.{may_begin, label_more, label_len, label, parted}
use Rattle.nquads_terminals.specs.Steps.{IsFirst}
use Rattle.nquads_terminals.proofs.Labels.{label_char, label_first, label_none, label_more-within, label_len-within}
use Rattle.quad_laws.specs.Grammar.{IsLabel}
use Rattle.quad_laws.proofs.Labels.{body_back, parted_back}

-- ---- what is read is a label

-- characters that these bytes encode
abbrev Encoded : List ℕ → (List ℕ → Bool) → Type 0
Encoded bytes test = (cs : List ℕ) × (bytes ≡ encode_utf8_all cs) × (all_scalars cs ≡ true) × (test cs ≡ true)

-- the character that was decoded, and its bytes
char_of : (bs : List ℕ) (test : ℕ → Bool) (o : Option ℕ) → (decoded bs).char ≡ o → option_map_or test o false ≡ true → (c : ℕ) × (take (decoded bs).size bs ≡ encode_utf8 c) × (all_scalars (c ∷ []) ≡ true) × (test c ≡ true)
char_of bs test None is passes = absurd (false≢true passes)
char_of bs test (Some c) is passes =
    let spelt = SpellsChar-decoded bs c is in
    let start : take (length (encode_utf8 c)) (encode_utf8 c ++ drop (decoded bs).size bs) ≡ encode_utf8 c = take-append_seam (encode_utf8 c) (drop (decoded bs).size bs) in
    let whole : take (length (encode_utf8 c)) bs ≡ encode_utf8 c = subst (λ l. take (length (encode_utf8 c)) l ≡ encode_utf8 c) (sym spelt.bytes) start in
    let front : take (decoded bs).size bs ≡ encode_utf8 c = subst (λ n. take n bs ≡ encode_utf8 c) spelt.width whole in
    (c, front, and_from _ true spelt.scalar refl, passes)

first_and : (c : ℕ) (cs : List ℕ) → all_scalars (c ∷ []) ≡ true → all_scalars cs ≡ true → all_scalars (c ∷ cs) ≡ true
first_and c cs one more = and_from _ _ (and_parts _ true one).0 more

rest_of : (c : ℕ) (cs : List ℕ) → is_pn_chars c ≡ true → is_label_rest cs ≡ true → is_label_rest (c ∷ cs) ≡ true
rest_of c [] fits more = fits
rest_of c (d ∷ ds) fits more = and_from _ _ (rw fits refl) more

-- a character in front
char_step : (bs : List ℕ) (c size more whole : ℕ) → whole ≡ size + more → take size bs ≡ encode_utf8 c → all_scalars (c ∷ []) ≡ true → is_pn_chars c ≡ true → Encoded (take more (drop size bs)) is_label_rest → Encoded (take whole bs) is_label_rest
char_step bs c size more whole is front scalar fits (cs, bytes, scalars, goes) =
    (c ∷ cs, ap (λ n. take n bs) is ∙ take-add size more bs ∙ ap₂ (λ x y. x ++ y) front bytes, first_and c cs scalar scalars, rest_of c cs fits goes)

-- a dot in front of some bytes
dot_step : (bs : List ℕ) (m : ℕ) → 0 < m → m ≤ length bs → Encoded (take m bs) is_label_rest → Encoded (46 ∷ take m bs) is_label_rest
dot_step bs m some within ([], bytes, scalars, goes) = absurd (omega (arith, some, length-take-le m bs within, ap length bytes))
dot_step bs m some within (d ∷ ds, bytes, scalars, goes) =
    (46 ∷ d ∷ ds, ap₂ (λ x y. x ++ y) (sym (encode_ascii 46 (omega arith))) bytes, first_and 46 (d ∷ ds) refl scalars, and_from _ _ refl goes)

one : (n : ℕ) → 1 + n ≡ suc n
one n = omega arith

dotted : (b : ℕ) (bs : List ℕ) (q r : Bool) → eqb b 46 ≡ q → ltb 0 (label_more 0 bs) ≡ r → Encoded (take (label_more 0 bs) bs) is_label_rest → Encoded (take (cond (q && r) (1 + label_more 0 bs) 0) (b ∷ bs)) is_label_rest
dotted b bs true true dot some rest =
    let here : b ≡ 46 = grind (arith, nat_tests) in
    let positive : 0 < label_more 0 bs = grind (arith, nat_tests) in
    let whole = dot_step bs (label_more 0 bs) positive (label_more-within 0 bs) rest in
    rw (one, here) whole
dotted b bs true false dot some rest = ([], refl, refl, refl)
dotted b bs false r dot some rest = ([], refl, refl, refl)

more_step : (b : ℕ) (bs : List ℕ) (p : Bool) → option_map_or is_pn_chars (decoded (b ∷ bs)).char false ≡ p
    → (1 ≤ (decoded (b ∷ bs)).size → Encoded (take (label_more 0 (drop (decoded (b ∷ bs)).size (b ∷ bs))) (drop (decoded (b ∷ bs)).size (b ∷ bs))) is_label_rest)
    → Encoded (take (label_more 0 bs) bs) is_label_rest → Encoded (take (label_more 0 (b ∷ bs)) (b ∷ bs)) is_label_rest
more_step b bs true passes char dot =
    let step = label_char (b ∷ bs) (omega arith) passes in
    let c = char_of (b ∷ bs) is_pn_chars (decoded (b ∷ bs)).char refl passes in
    char_step (b ∷ bs) c.0 (decoded (b ∷ bs)).size (label_more 0 (drop (decoded (b ∷ bs)).size (b ∷ bs))) (label_more 0 (b ∷ bs)) step.2 c.1 c.2 c.3 (char step.0)
more_step b bs false passes char dot =
    let value : label_more 0 (b ∷ bs) ≡ cond (eqb b 46 && ltb 0 (label_more 0 bs)) (1 + label_more 0 bs) 0 = rw passes refl in
    rw value (dotted b bs (eqb b 46) (ltb 0 (label_more 0 bs)) refl refl dot)

more_encoded : (n : ℕ) (bs : List ℕ) → length bs ≤ n → Encoded (take (label_more 0 bs) bs) is_label_rest
more_encoded n [] within = ([], refl, refl, refl)
more_encoded zero (b ∷ bs) within = absurd (omega (arith, within))
more_encoded (suc n) (b ∷ bs) within =
    more_step b bs (option_map_or is_pn_chars (decoded (b ∷ bs)).char false) refl
    (λ some. more_encoded n (drop (decoded (b ∷ bs)).size (b ∷ bs)) (omega (arith, within, length-drop (decoded (b ∷ bs)).size (b ∷ bs))))
    (more_encoded n bs (omega (arith, within)))

body_step : (bs : List ℕ) (c size : ℕ) → 1 ≤ size → IsFirst bs size → take size bs ≡ encode_utf8 c → all_scalars (c ∷ []) ≡ true → may_begin c ≡ true → Encoded (take (label_len bs) bs) is_label_body
body_step bs c zero some first front scalar fits = absurd (omega (arith, some))
body_step bs c (suc n) some first front scalar fits =
    let rest = more_encoded (length (drop (suc n) bs)) (drop (suc n) bs) (omega arith) in
    (c ∷ rest.0, ap (λ k. take k bs) first.1 ∙ take-add (suc n) (label_more 0 (drop (suc n) bs)) bs ∙ ap₂ (λ x y. x ++ y) front rest.1, first_and c rest.0 scalar rest.2, and_from _ _ fits rest.3)

body_encoded : (bs : List ℕ) → 0 < label_len bs → Encoded (take (label_len bs) bs) is_label_body
body_encoded [] some = absurd (omega (arith, some))
body_encoded (b ∷ bs) some = by (option_map_or may_begin (decoded (b ∷ bs)).char false) refl
  where
    by : (p : Bool) → option_map_or may_begin (decoded (b ∷ bs)).char false ≡ p → Encoded (take (label_len (b ∷ bs)) (b ∷ bs)) is_label_body
    by true passes =
        let c = char_of (b ∷ bs) may_begin (decoded (b ∷ bs)).char refl passes in
        body_step (b ∷ bs) c.0 (decoded (b ∷ bs)).size (piece-bounds (b ∷ bs) (omega arith)).0 (label_first (b ∷ bs) (omega arith) passes) c.1 c.2 c.3
    by false passes = absurd (omega (arith, some, label_none (b ∷ bs) passes))

pub label_of : (bs l rest : List ℕ) → label bs ≡ Some (l, rest) → (bs ≡ l ++ rest) × IsLabel l
label_of [] l rest is = absurd (none-some (l, rest) is)
label_of (a ∷ []) l rest is = absurd (none-some (l, rest) is)
label_of (a ∷ b ∷ bs) l rest is = found (eqb a 95) (eqb b 58) (ltb 0 (label_len bs)) refl refl refl is
  where
    found : (p q r : Bool) → eqb a 95 ≡ p → eqb b 58 ≡ q → ltb 0 (label_len bs) ≡ r → cond ((p && q) && r) (parted (2 + label_len bs) (a ∷ b ∷ bs)) None ≡ Some (l, rest) → (a ∷ b ∷ bs ≡ l ++ rest) × IsLabel l
    found true true true first second some read =
        let parts = some_pair_parts (take (2 + label_len bs) (a ∷ b ∷ bs)) l (drop (2 + label_len bs) (a ∷ b ∷ bs)) rest read in
        let two : 2 + label_len bs ≡ suc (suc (label_len bs)) = omega arith in
        let body = body_encoded bs (grind (arith, nat_tests)) in
        let mark : a ≡ 95 = grind (arith, nat_tests) in
        let colon : b ≡ 58 = grind (arith, nat_tests) in
        let bytes : l ≡ a ∷ b ∷ take (label_len bs) bs = sym parts.0 ∙ ap (λ n. take n (a ∷ b ∷ bs)) two in
        let whole : l ≡ 95 ∷ 58 ∷ encode_utf8_all body.0 = bytes ∙ ap₂ (λ x y. x ∷ y ∷ take (label_len bs) bs) mark colon ∙ ap (λ t. 95 ∷ 58 ∷ t) body.1 in
        (sym (take-append-drop (2 + label_len bs) (a ∷ b ∷ bs)) ∙ ap₂ (λ x y. x ++ y) parts.0 parts.1, (body.0, whole, body.2, body.3))
    found true true false first second some read = absurd (none-some (l, rest) read)
    found true false r first second some read = absurd (none-some (l, rest) read)
    found false q r first second some read = absurd (none-some (l, rest) read)

-- ---- a label is read

some_body : (cs : List ℕ) → is_label_body cs ≡ true → 0 < length (encode_utf8_all cs)
some_body [] fits = absurd (false≢true fits)
some_body (c ∷ cs) fits = omega (arith, length-append (encode_utf8 c) (encode_utf8_all cs), length-encode c, (len_utf8_bounds c).0)

pub label_read : (l rest : List ℕ) → IsLabel l → label_more 0 rest ≡ 0 → label (l ++ rest) ≡ Some (l, rest)
label_read l rest (cs, bytes, scalars, fits) ends =
    subst (λ x. label (x ++ rest) ≡ Some (x, rest)) (sym bytes) (parted_back (encode_utf8_all cs) rest (body_back cs rest ends scalars fits) (some_body cs fits))
