-- A label that was written is read back.
use Rattle.std.proofs.Common.{◌≡◌, ℕ, zero, suc, ◌+◌, ◌<◌, Bool, true, false, cond, ◌||◌, eqb, ltb, List, [], ◌∷◌, ◌++◌, length, drop, Some, refl, sym, ap, ◌∙◌, subst, arith, append_assoc, length-append, lit<}
use Rattle.std.proofs.lemmas.Bool.{and_parts, and_from}
use Rattle.std.proofs.lemmas.Bool.Decides.{nat_tests}
use Rattle.std.proofs.lemmas.Str.{IsUtf8-from_is_utf8, IsUtf8-drop, IsCharBoundary-after_ascii, chars-nil, encodes-chars, scalars-chars, length-encode, len_utf8_bounds}
use Rattle.std.proofs.lemmas.Str.Ascii.{encode_ascii}
use lib.Seq.{drop-append_seam, take-append_seam}
use lib.Utf8.{scalar}
use Rattle.std.specs.Option.{option_map_or}
use Rattle.std.specs.Char.{encode_utf8}
use Rattle.std.proofs.lemmas.Bool.{false≢true}
use Rattle.ld_model.specs.Label.{is_blank}
use Rattle.std.specs.Str.{encode_utf8_all, all_scalars, chars, is_utf8, IsUtf8, IsCharBoundary}
use Rattle.bstr.specs.Utf8.{Decoded, decoded, good}
use Rattle.bstr.proofs.lemmas.EncodeLemmas.{decoded-encode}
use Rattle.rdf_terms.specs.Quad.{is_pn_chars, is_label_rest, is_label_body, is_label}
use Rattle.nquads_terminals.specs.Terminals.{may_begin, label_more, label_len, label}
use Rattle.nquads_terminals.specs.Steps.{IsFirst}
use Rattle.nquads_terminals.proofs.Labels.{label_char, label_dot, label_first, label_end}

abbrev bytes_of : List ℕ → List ℕ
bytes_of cs = encode_utf8_all cs

-- an ASCII character that is neither of PN_CHARS nor a dot goes on with no label
pub ascii_none : (b : ℕ) (rest : List ℕ) → b < 128 → scalar b ≡ true → is_pn_chars b ≡ false → eqb b 46 ≡ false → label_more 0 (b ∷ rest) ≡ 0
ascii_none b rest small is other dot =
    let here : decoded (b ∷ rest) ≡ good b 1 = subst (λ e. decoded (e ++ rest) ≡ good b (length e)) (encode_ascii b small) (decoded-encode b rest is) in
    let fails : option_map_or is_pn_chars (decoded (b ∷ rest)).char false ≡ false = ap (λ (d : Decoded). option_map_or is_pn_chars d.char false) here ∙ other in
    label_end (b ∷ rest) (omega arith) fails dot

spaced_none : (rest : List ℕ) → label_more 0 (32 ∷ rest) ≡ 0
spaced_none rest = ascii_none 32 rest (lit< tt) refl refl refl

-- what core writes of a character reads as that character
reads : (c : ℕ) (rest : List ℕ) → all_scalars (c ∷ []) ≡ true → decoded (encode_utf8 c ++ rest) ≡ good c (length (encode_utf8 c))
reads c rest scalars = decoded-encode c rest (and_parts _ true scalars).0

tested : (test : ℕ → Bool) (c : ℕ) (rest : List ℕ) → all_scalars (c ∷ []) ≡ true → option_map_or test (decoded (encode_utf8 c ++ rest)).char false ≡ test c
tested test c rest scalars = ap (λ (d : Decoded). option_map_or test d.char false) (reads c rest scalars)

sized : (c : ℕ) (rest : List ℕ) → all_scalars (c ∷ []) ≡ true → (decoded (encode_utf8 c ++ rest)).size ≡ length (encode_utf8 c)
sized c rest scalars = ap (λ (d : Decoded). d.size) (reads c rest scalars)

wide : (c : ℕ) → 0 < length (encode_utf8 c)
wide c = omega (arith, length-encode c, len_utf8_bounds c)

some_bytes : (c : ℕ) (rest : List ℕ) → 0 < length (encode_utf8 c ++ rest)
some_bytes c rest = omega (arith, wide c, length-append (encode_utf8 c) rest)

-- a character with which a label may go on
char_back : (c : ℕ) (rest : List ℕ) (n : ℕ) → all_scalars (c ∷ []) ≡ true → is_pn_chars c ≡ true → label_more 0 rest ≡ n → label_more 0 (encode_utf8 c ++ rest) ≡ length (encode_utf8 c) + n
char_back c rest n scalars fits more =
    let whole = encode_utf8 c ++ rest in
    let step = label_char whole (some_bytes c rest) (tested is_pn_chars c rest scalars ∙ fits) in
    let value : label_more 0 whole ≡ length (encode_utf8 c) + label_more 0 (drop (length (encode_utf8 c)) whole) = subst (λ k. label_more 0 whole ≡ k + label_more 0 (drop k whole)) (sized c rest scalars) step.2 in
    value ∙ ap (λ l. length (encode_utf8 c) + label_more 0 l) (drop-append_seam (encode_utf8 c) rest) ∙ ap (λ m. length (encode_utf8 c) + m) more

-- a dot goes on with a label where what follows it does
pub dot_none : (rest : List ℕ) → label_more 0 rest ≡ 0 → label_more 0 (46 ∷ rest) ≡ 0
dot_none rest ends =
    let dot : decoded (46 ∷ rest) ≡ good 46 1 = subst (λ e. decoded (e ++ rest) ≡ good 46 (length e)) (encode_ascii 46 (lit< tt)) (decoded-encode 46 rest refl) in
    let none : option_map_or is_pn_chars (decoded (46 ∷ rest)).char false ≡ false = ap (λ (d : Decoded). option_map_or is_pn_chars d.char false) dot in
    let step : label_more 0 (46 ∷ rest) ≡ cond (ltb 0 (label_more 0 rest)) (1 + label_more 0 rest) 0 = label_dot (46 ∷ rest) (omega arith) none refl in
    step ∙ ap (λ m. cond (ltb 0 m) (1 + m) 0) ends

dot_more : (rest : List ℕ) (n : ℕ) → 0 < n → label_more 0 rest ≡ n → label_more 0 (46 ∷ rest) ≡ 1 + n
dot_more rest n some more =
    let dot : decoded (46 ∷ rest) ≡ good 46 1 = subst (λ e. decoded (e ++ rest) ≡ good 46 (length e)) (encode_ascii 46 (lit< tt)) (decoded-encode 46 rest refl) in
    let none : option_map_or is_pn_chars (decoded (46 ∷ rest)).char false ≡ false = ap (λ (d : Decoded). option_map_or is_pn_chars d.char false) dot in
    let step : label_more 0 (46 ∷ rest) ≡ cond (ltb 0 (label_more 0 rest)) (1 + label_more 0 rest) 0 = label_dot (46 ∷ rest) (omega arith) none refl in
    let follows : ltb 0 n ≡ true = grind (arith, nat_tests) in
    step ∙ ap (λ m. cond (ltb 0 m) (1 + m) 0) more ∙ ap (λ q. cond q (1 + n) 0) follows

dot_back : (c : ℕ) (rest : List ℕ) (n : ℕ) → c ≡ 46 → 0 < n → label_more 0 rest ≡ n → label_more 0 (encode_utf8 c ++ rest) ≡ length (encode_utf8 c) + n
dot_back c rest n is some more =
    let one : encode_utf8 c ≡ 46 ∷ [] = ap encode_utf8 is ∙ encode_ascii 46 (lit< tt) in
    subst (λ e. label_more 0 (e ++ rest) ≡ length e + n) (sym one) (dot_more rest n some more)

joined : (c : ℕ) (more tail : List ℕ) → label_more 0 (encode_utf8 c ++ (more ++ tail)) ≡ length (encode_utf8 c) + length more → label_more 0 ((encode_utf8 c ++ more) ++ tail) ≡ length (encode_utf8 c ++ more)
joined c more tail is = ap (label_more 0) (append_assoc (encode_utf8 c) more tail) ∙ is ∙ sym (length-append (encode_utf8 c) more)

either : (c : ℕ) (rest : List ℕ) (n : ℕ) (p : Bool) → is_pn_chars c ≡ p → all_scalars (c ∷ []) ≡ true → (p || eqb c 46) ≡ true → 0 < n → label_more 0 rest ≡ n → label_more 0 (encode_utf8 c ++ rest) ≡ length (encode_utf8 c) + n
either c rest n true fits scalars one some more = char_back c rest n scalars fits more
either c rest n false fits scalars one some more = let is : c ≡ 46 = grind (arith, nat_tests) in dot_back c rest n is some more

-- a label is read whole where what follows can't go on with it
pub more_back : (cs tail : List ℕ) → label_more 0 tail ≡ 0 → all_scalars cs ≡ true → is_label_rest cs ≡ true → label_more 0 (encode_utf8_all cs ++ tail) ≡ length (encode_utf8_all cs)
more_back [] tail ends scalars fits = ends
more_back (c ∷ []) tail ends scalars fits = joined c [] tail (char_back c tail 0 scalars fits ends)
more_back (c ∷ d ∷ ds) tail ends scalars fits =
    let all = and_parts _ _ scalars in
    let alone : all_scalars (c ∷ []) ≡ true = and_from _ true all.0 refl in
    let parts = and_parts (is_pn_chars c || eqb c 46) (is_label_rest (d ∷ ds)) fits in
    let more = more_back (d ∷ ds) tail ends all.1 parts.1 in
    let some : 0 < length (encode_utf8_all (d ∷ ds)) = some_bytes d (encode_utf8_all ds) in
    joined c (encode_utf8_all (d ∷ ds)) tail (either c (encode_utf8_all (d ∷ ds) ++ tail) (length (encode_utf8_all (d ∷ ds))) (is_pn_chars c) refl alone parts.0 some more)

first_value : (bs : List ℕ) (n : ℕ) → 0 < n → IsFirst bs n → label_len bs ≡ n + label_more 0 (drop n bs)
first_value bs zero some first = absurd (omega arith)
first_value bs (suc n) some first = first.1

-- what follows `_:`
pub body_back : (cs rest : List ℕ) → label_more 0 rest ≡ 0 → all_scalars cs ≡ true → is_label_body cs ≡ true → label_len (encode_utf8_all cs ++ rest) ≡ length (encode_utf8_all cs)
body_back [] rest ends scalars fits = absurd (cc)
body_back (c ∷ cs) rest ends scalars fits =
    let all = and_parts _ _ scalars in
    let alone : all_scalars (c ∷ []) ≡ true = and_from _ true all.0 refl in
    let parts = and_parts (may_begin c) (is_label_rest cs) fits in
    let tail = encode_utf8_all cs ++ rest in
    let whole = encode_utf8 c ++ tail in
    let first : IsFirst whole (length (encode_utf8 c)) = subst (IsFirst whole) (sized c tail alone) (label_first whole (some_bytes c tail) (tested may_begin c tail alone ∙ parts.0)) in
    let more = more_back cs rest ends all.1 parts.1 in
    ap label_len (append_assoc (encode_utf8 c) (encode_utf8_all cs) rest) ∙ first_value whole (length (encode_utf8 c)) (wide c) first ∙ ap (λ l. length (encode_utf8 c) + label_more 0 l) (drop-append_seam (encode_utf8 c) tail) ∙ ap (λ m. length (encode_utf8 c) + m) more ∙ sym (length-append (encode_utf8 c) (encode_utf8_all cs))

pub parted_back : (body rest : List ℕ) → label_len (body ++ rest) ≡ length body → 0 < length body → label (95 ∷ 58 ∷ (body ++ rest)) ≡ Some (95 ∷ 58 ∷ body, rest)
parted_back body rest is some =
    let follows : ltb 0 (length body) ≡ true = grind (arith, nat_tests) in
    let two : 2 + length body ≡ suc (suc (length body)) = omega arith in
    rw (is, follows, two, take-append_seam body rest, drop-append_seam body rest) refl

blank_text : (l rest : List ℕ) → is_label l ≡ true → is_utf8 l ≡ true → label (l ++ (32 ∷ rest)) ≡ Some (l, 32 ∷ rest)
blank_text [] rest fits text = absurd (cc)
blank_text (a ∷ []) rest fits text = absurd (cc)
blank_text (a ∷ b ∷ body) rest fits text =
    let parts = and_parts (is_blank (a ∷ b ∷ body)) (is_label_body (chars body)) fits in
    let marks = and_parts (eqb a 95) (eqb b 58) parts.0 in
    let first : a ≡ 95 = grind (arith, nat_tests) in
    let second : b ≡ 58 = grind (arith, nat_tests) in
    let utf8 : IsUtf8 (a ∷ b ∷ body) = IsUtf8-from_is_utf8 (a ∷ b ∷ body) text in
    let edge : IsCharBoundary (a ∷ b ∷ body) 2 = IsCharBoundary-after_ascii (a ∷ b ∷ body) 1 utf8 (omega arith) (omega arith) in
    let rest_utf8 : IsUtf8 body = IsUtf8-drop (a ∷ b ∷ body) 2 utf8 edge in
    let same = encodes-chars body rest_utf8 in
    let len : label_len (body ++ (32 ∷ rest)) ≡ length body = subst (λ l. label_len (l ++ (32 ∷ rest)) ≡ length l) same (body_back (chars body) (32 ∷ rest) (spaced_none rest) (scalars-chars body rest_utf8) parts.1) in
    let some : 0 < length body = some_body body parts.1 in
    rw (first, second) (parted_back body (32 ∷ rest) len some)
  where
    some_body : (bs : List ℕ) → is_label_body (chars bs) ≡ true → 0 < length bs
    some_body [] fits = let none = chars-nil in absurd (false≢true (ap is_label_body (sym none) ∙ fits))
    some_body (x ∷ xs) fits = omega arith

pub label_back : (l rest : List ℕ) → is_label l ≡ true → is_utf8 l ≡ true → label (l ++ (32 ∷ rest)) ≡ Some (l, 32 ∷ rest)
label_back = blank_text
