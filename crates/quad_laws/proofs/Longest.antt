-- A label that was read goes on no further.
use Rattle.std.proofs.Common.{◌≡◌, ℕ, zero, suc, ◌+◌, ◌<◌, ◌≤◌, Bool, true, false, cond, ◌&&◌, eqb, ltb, List, [], ◌∷◌, ◌++◌, length, take, drop, Some, None, refl, sym, ap, ◌∙◌, subst, arith, length-drop, lit<}
use Rattle.std.proofs.lemmas.Bool.Decides.{nat_tests}
use Rattle.std.proofs.lemmas.Option.{none-some, some_pair_parts}
use Rattle.std.proofs.lemmas.List.{drop-drop}
use Rattle.std.proofs.lemmas.Str.Ascii.{encode_ascii}
use Rattle.std.specs.Option.{option_map_or}
use Rattle.bstr.specs.Utf8.{Decoded, decoded, good}
use Rattle.bstr.proofs.lemmas.EncodeLemmas.{decoded-encode}
use Rattle.bstr.proofs.lemmas.PieceLemmas.{piece-bounds}
use Rattle.rdf_terms.specs.Quad.{is_pn_chars}
use Rattle.nquads_terminals.specs.Terminals.{may_begin, label_more, label_len, label, parted}
use Rattle.nquads_terminals.specs.Steps.{IsFirst}
use Rattle.nquads_terminals.proofs.Labels.{label_char, label_first, label_none}

abbrev Ended : List ℕ → Type 0
Ended bs = label_more 0 (drop (label_more 0 bs) bs) ≡ 0

char_ended : (bs : List ℕ) (size more whole : ℕ) → whole ≡ size + more → label_more 0 (drop more (drop size bs)) ≡ 0 → label_more 0 (drop whole bs) ≡ 0
char_ended bs size more whole is ends =
    let sum : size + more ≡ more + size = omega arith in
    let past : drop more (drop size bs) ≡ drop (size + more) bs = drop-drop more size bs in
    ap (λ n. label_more 0 (drop n bs)) is ∙ ap (label_more 0) (sym past) ∙ ends

one : (n : ℕ) → 1 + n ≡ suc n
one n = omega arith

dot_ended : (b : ℕ) (bs : List ℕ) (q : Bool) → label_more 0 (b ∷ bs) ≡ cond q (1 + label_more 0 bs) 0 → Ended bs → Ended (b ∷ bs)
dot_ended b bs true is ends =
    let count : label_more 0 (b ∷ bs) ≡ suc (label_more 0 bs) = is ∙ one (label_more 0 bs) in
    ap (λ n. label_more 0 (drop n (b ∷ bs))) count ∙ ends
dot_ended b bs false is ends = ap (λ n. label_more 0 (drop n (b ∷ bs))) is ∙ is

step_ended : (b : ℕ) (bs : List ℕ) (p : Bool) → option_map_or is_pn_chars (decoded (b ∷ bs)).char false ≡ p → (1 ≤ (decoded (b ∷ bs)).size → Ended (drop (decoded (b ∷ bs)).size (b ∷ bs))) → Ended bs → Ended (b ∷ bs)
step_ended b bs true passes char dot =
    let step = label_char (b ∷ bs) (omega arith) passes in
    char_ended (b ∷ bs) (decoded (b ∷ bs)).size (label_more 0 (drop (decoded (b ∷ bs)).size (b ∷ bs))) (label_more 0 (b ∷ bs)) step.2 (char step.0)
step_ended b bs false passes char dot =
    let value : label_more 0 (b ∷ bs) ≡ cond (eqb b 46 && ltb 0 (label_more 0 bs)) (1 + label_more 0 bs) 0 = rw passes refl in
    dot_ended b bs (eqb b 46 && ltb 0 (label_more 0 bs)) value dot

more_ended : (n : ℕ) (bs : List ℕ) → length bs ≤ n → Ended bs
more_ended n [] within = refl
more_ended zero (b ∷ bs) within = absurd (omega (arith, within))
more_ended (suc n) (b ∷ bs) within =
    step_ended b bs (option_map_or is_pn_chars (decoded (b ∷ bs)).char false) refl
    (λ some. more_ended n (drop (decoded (b ∷ bs)).size (b ∷ bs)) (omega (arith, within, length-drop (decoded (b ∷ bs)).size (b ∷ bs))))
    (more_ended n bs (omega (arith, within)))

first_ended : (bs : List ℕ) (size : ℕ) → 1 ≤ size → IsFirst bs size → label_more 0 (drop (label_len bs) bs) ≡ 0
first_ended bs zero some first = absurd (omega (arith, some))
first_ended bs (suc n) some first =
    char_ended bs (suc n) (label_more 0 (drop (suc n) bs)) (label_len bs) first.1 (more_ended (length (drop (suc n) bs)) (drop (suc n) bs) (omega arith))

len_ended : (bs : List ℕ) → 0 < label_len bs → label_more 0 (drop (label_len bs) bs) ≡ 0
len_ended [] some = absurd (omega (arith, some))
len_ended (b ∷ bs) some = by (option_map_or may_begin (decoded (b ∷ bs)).char false) refl
  where
    by : (p : Bool) → option_map_or may_begin (decoded (b ∷ bs)).char false ≡ p → label_more 0 (drop (label_len (b ∷ bs)) (b ∷ bs)) ≡ 0
    by true passes = first_ended (b ∷ bs) (decoded (b ∷ bs)).size (piece-bounds (b ∷ bs) (omega arith)).0 (label_first (b ∷ bs) (omega arith) passes)
    by false passes = absurd (omega (arith, some, label_none (b ∷ bs) passes))

pub label_longest : (bs l rest : List ℕ) → label bs ≡ Some (l, rest) → label_more 0 rest ≡ 0
label_longest [] l rest is = absurd (none-some (l, rest) is)
label_longest (a ∷ []) l rest is = absurd (none-some (l, rest) is)
label_longest (a ∷ b ∷ bs) l rest is = found (eqb a 95) (eqb b 58) (ltb 0 (label_len bs)) refl is
  where
    found : (p q r : Bool) → ltb 0 (label_len bs) ≡ r → cond ((p && q) && r) (parted (2 + label_len bs) (a ∷ b ∷ bs)) None ≡ Some (l, rest) → label_more 0 rest ≡ 0
    found true true true some read =
        let parts = some_pair_parts (take (2 + label_len bs) (a ∷ b ∷ bs)) l (drop (2 + label_len bs) (a ∷ b ∷ bs)) rest read in
        let two : 2 + label_len bs ≡ suc (suc (label_len bs)) = omega arith in
        ap (label_more 0) (sym parts.1 ∙ ap (λ n. drop n (a ∷ b ∷ bs)) two) ∙ len_ended bs (grind (arith, nat_tests))
    found true true false some read = absurd (none-some (l, rest) read)
    found true false r some read = absurd (none-some (l, rest) read)
    found false q r some read = absurd (none-some (l, rest) read)

-- a label goes on with `_`
pub low_line_more : (rest : List ℕ) → 0 < label_more 0 (95 ∷ rest)
low_line_more rest =
    let here : decoded (95 ∷ rest) ≡ good 95 1 = subst (λ e. decoded (e ++ rest) ≡ good 95 (length e)) (encode_ascii 95 (lit< tt)) (decoded-encode 95 rest refl) in
    let passes : option_map_or is_pn_chars (decoded (95 ∷ rest)).char false ≡ true = ap (λ (d : Decoded). option_map_or is_pn_chars d.char false) here in
    let step = label_char (95 ∷ rest) (omega arith) passes in
    omega (arith, step.0, step.2)
