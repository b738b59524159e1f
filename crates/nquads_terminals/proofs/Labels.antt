-- How far a label goes.
use Rattle.std.proofs.Common.{◌≡◌, ℕ, zero, suc, ◌+◌, ◌-◌, ◌<◌, ◌≤◌, Bool, true, false, cond, ◌&&◌, eqb, ltb, List, [], ◌∷◌, ◌++◌, length, take, drop, get_or, Option, Some, None, refl, sym, ap, ◌∙◌, subst, arith, eq-eqb, lit<, length-drop}
use Rattle.std.proofs.lemmas.Bool.Decides.{nat_tests}
use Rattle.std.proofs.Math.Seq.{take-add}
use lib.Seq.{take-append_seam}
use Rattle.std.proofs.lemmas.List.{drop-drop}
use Rattle.std.proofs.lemmas.Str.{IsUtf8-nil, IsUtf8-encode, IsUtf8-append, IsUtf8-from_ascii}
use Rattle.std.proofs.lemmas.Str.Ascii.{IsAscii-cons, IsAscii-nil}
use Rattle.std.specs.Option.{option_map_or}
use Rattle.std.specs.Str.{IsUtf8}
use Rattle.std.specs.Char.{encode_utf8}
use Rattle.bstr.specs.Utf8.{decoded}
use Rattle.bstr.proofs.lemmas.SoundLemmas.{SpellsChar-decoded}
use Rattle.bstr.proofs.lemmas.PieceLemmas.{piece-bounds}
use Rattle.rdf_terms.specs.Quad.{is_pn_chars}
use Rattle.nquads_terminals.specs.Terminals.{may_begin, label_more, label_len, label}
use Rattle.nquads_terminals.specs.Steps.{IsStep, IsFirst}
use Rattle.nquads_terminals.specs.declared.label.Step.TheVariants.{Character, Dot, End}

-- bytes of a character that has been read are passed over
pub label_skip : (k : ℕ) (bs : List ℕ) → k ≤ length bs → label_more k bs ≡ k + label_more 0 (drop k bs)
label_skip zero [] within = refl
label_skip zero (b ∷ bs) within = omega arith
label_skip (suc k) [] within = absurd (omega arith)
label_skip (suc k) (b ∷ bs) within = let more = label_skip k bs (omega arith) in omega arith

-- a character that may stand in a label is passed whole
pub label_char : (bs : List ℕ) → 0 < length bs → option_map_or is_pn_chars (decoded bs).char false ≡ true → IsStep bs (Character (decoded bs).size)
label_char [] some passes = absurd (omega arith)
label_char (b ∷ bs) some passes = by (decoded (b ∷ bs)).size (piece-bounds (b ∷ bs) some) refl
  where
    by : (n : ℕ) → (1 ≤ n) × (n ≤ 4) × (n ≤ length (b ∷ bs)) → (decoded (b ∷ bs)).size ≡ n → IsStep (b ∷ bs) (Character n)
    by zero bounds is = absurd (omega (arith, bounds.0))
    by (suc n) bounds is =
        let past : (decoded (b ∷ bs)).size - 1 ≡ n = omega arith in
        let more = label_skip n bs (omega (arith, bounds.2)) in
        (omega arith, bounds.2, rw (passes, past) (omega arith))

pub label_dot : (bs : List ℕ) → 0 < length bs → option_map_or is_pn_chars (decoded bs).char false ≡ false → get_or bs 0 0 ≡ 46 → IsStep bs Dot
label_dot [] some none dot = absurd (omega arith)
label_dot (b ∷ bs) some none dot =
    let here : eqb b 46 ≡ true = eq-eqb b 46 dot in
    rw (none, here) refl

pub label_end : (bs : List ℕ) → 0 < length bs → option_map_or is_pn_chars (decoded bs).char false ≡ false → eqb (get_or bs 0 0) 46 ≡ false → IsStep bs End
label_end [] some none dot = absurd (omega arith)
label_end (b ∷ bs) some none dot = rw (none, dot) refl

-- the first character of a label
pub label_first : (bs : List ℕ) → 0 < length bs → option_map_or may_begin (decoded bs).char false ≡ true → IsFirst bs (decoded bs).size
label_first [] some passes = absurd (omega arith)
label_first (b ∷ bs) some passes = by (decoded (b ∷ bs)).size (piece-bounds (b ∷ bs) some) refl
  where
    by : (n : ℕ) → (1 ≤ n) × (n ≤ 4) × (n ≤ length (b ∷ bs)) → (decoded (b ∷ bs)).size ≡ n → IsFirst (b ∷ bs) n
    by zero bounds is = absurd (omega (arith, bounds.0))
    by (suc n) bounds is =
        let past : (decoded (b ∷ bs)).size - 1 ≡ n = omega arith in
        let more = label_skip n bs (omega (arith, bounds.2)) in
        (bounds.2, rw (passes, past) (omega arith))

pub label_none : (bs : List ℕ) → option_map_or may_begin (decoded bs).char false ≡ false → label_len bs ≡ 0
label_none [] none = refl
label_none (b ∷ bs) none = rw none refl

more_within : (b : ℕ) (bs : List ℕ) (n : ℕ) (p q : Bool) → label_more n bs ≤ length bs → label_more 0 bs ≤ length bs → cond p (1 + label_more n bs) (cond q (1 + label_more 0 bs) 0) ≤ length (b ∷ bs)
more_within b bs n true q char dot = omega arith
more_within b bs n false true char dot = omega arith
more_within b bs n false false char dot = omega arith

-- a label ends within the bytes
pub label_more-within : (k : ℕ) (bs : List ℕ) → label_more k bs ≤ length bs
label_more-within k [] = omega arith
label_more-within (suc k) (b ∷ bs) = let more = label_more-within k bs in omega arith
label_more-within zero (b ∷ bs) =
    more_within b bs ((decoded (b ∷ bs)).size - 1) (option_map_or is_pn_chars (decoded (b ∷ bs)).char false) (eqb b 46 && ltb 0 (label_more 0 bs)) (label_more-within ((decoded (b ∷ bs)).size - 1) bs) (label_more-within 0 bs)

pub label_len-within : (bs : List ℕ) → label_len bs ≤ length bs
label_len-within [] = omega arith
label_len-within (b ∷ bs) =
    more_within b bs ((decoded (b ∷ bs)).size - 1) (option_map_or may_begin (decoded (b ∷ bs)).char false) false (label_more-within ((decoded (b ∷ bs)).size - 1) bs) (label_more-within 0 bs)

-- the first character as text
char_front : (bs : List ℕ) (test : ℕ → Bool) (c : Option ℕ) → (decoded bs).char ≡ c → option_map_or test c false ≡ true → IsUtf8 (take (decoded bs).size bs)
char_front bs test None is passes = absurd (cc)
char_front bs test (Some c) is passes =
    let spelt = SpellsChar-decoded bs c is in
    let start : take (length (encode_utf8 c)) (encode_utf8 c ++ drop (decoded bs).size bs) ≡ encode_utf8 c = take-append_seam (encode_utf8 c) (drop (decoded bs).size bs) in
    let whole : take (length (encode_utf8 c)) bs ≡ encode_utf8 c = subst (λ l. take (length (encode_utf8 c)) l ≡ encode_utf8 c) (sym spelt.bytes) start in
    let front : take (decoded bs).size bs ≡ encode_utf8 c = subst (λ n. take n bs ≡ encode_utf8 c) spelt.width whole in
    subst IsUtf8 (sym front) (IsUtf8-encode c spelt.scalar)

dot_text : IsUtf8 (46 ∷ [])
dot_text = IsUtf8-from_ascii (46 ∷ []) (IsAscii-cons 46 [] (lit< tt) IsAscii-nil)

one : (n : ℕ) → 1 + n ≡ suc n
one n = omega arith

-- a character, and what goes on behind it
joined : (bs : List ℕ) (size more whole : ℕ) → whole ≡ size + more → IsUtf8 (take size bs) → IsUtf8 (take more (drop size bs)) → IsUtf8 (take whole bs)
joined bs size more whole is front rest = rw (is, take-add) (IsUtf8-append _ _ front rest)

dotted : (b : ℕ) (bs : List ℕ) (more : ℕ) (q r : Bool) → eqb b 46 ≡ q → IsUtf8 (take more bs) → IsUtf8 (take (cond (q && r) (1 + more) 0) (b ∷ bs))
dotted b bs more true true dot rest =
    let is : b ≡ 46 = grind (arith, nat_tests) in
    rw (one, is) (IsUtf8-append (46 ∷ []) (take more bs) dot_text rest)
dotted b bs more true false dot rest = IsUtf8-nil
dotted b bs more false r dot rest = IsUtf8-nil

text_step : (n b : ℕ) (bs : List ℕ) (p : Bool) → option_map_or is_pn_chars (decoded (b ∷ bs)).char false ≡ p → (1 ≤ (decoded (b ∷ bs)).size → IsUtf8 (take (label_more 0 (drop (decoded (b ∷ bs)).size (b ∷ bs))) (drop (decoded (b ∷ bs)).size (b ∷ bs)))) → IsUtf8 (take (label_more 0 bs) bs) → IsUtf8 (take (label_more 0 (b ∷ bs)) (b ∷ bs))
text_step n b bs true passes char dot =
    let some : 0 < length (b ∷ bs) = omega arith in
    let step = label_char (b ∷ bs) some passes in
    joined (b ∷ bs) _ _ _ step.2 (char_front (b ∷ bs) is_pn_chars (decoded (b ∷ bs)).char refl passes) (char step.0)
text_step n b bs false passes char dot =
    let value : label_more 0 (b ∷ bs) ≡ cond (eqb b 46 && ltb 0 (label_more 0 bs)) (1 + label_more 0 bs) 0 = rw passes refl in
    rw value (dotted b bs (label_more 0 bs) (eqb b 46) (ltb 0 (label_more 0 bs)) refl dot)

-- what goes on with a label is text
pub label_more-text : (n : ℕ) (bs : List ℕ) → length bs ≤ n → IsUtf8 (take (label_more 0 bs) bs)
label_more-text n [] within = IsUtf8-nil
label_more-text zero (b ∷ bs) within = absurd (omega arith)
label_more-text (suc n) (b ∷ bs) within =
    text_step n b bs (option_map_or is_pn_chars (decoded (b ∷ bs)).char false) refl
    (λ some. label_more-text n (drop (decoded (b ∷ bs)).size (b ∷ bs)) (omega (arith, length-drop (decoded (b ∷ bs)).size (b ∷ bs))))
    (label_more-text n bs (omega arith))

len_text : (b : ℕ) (bs : List ℕ) (p : Bool) → option_map_or may_begin (decoded (b ∷ bs)).char false ≡ p → IsUtf8 (take (label_len (b ∷ bs)) (b ∷ bs))
len_text b bs true passes =
    let some : 0 < length (b ∷ bs) = omega arith in
    len_whole (decoded (b ∷ bs)).size (piece-bounds (b ∷ bs) some) (label_first (b ∷ bs) some passes) (char_front (b ∷ bs) may_begin (decoded (b ∷ bs)).char refl passes)
  where
    len_whole : (n : ℕ) → (1 ≤ n) × (n ≤ 4) × (n ≤ length (b ∷ bs)) → IsFirst (b ∷ bs) n → IsUtf8 (take n (b ∷ bs)) → IsUtf8 (take (label_len (b ∷ bs)) (b ∷ bs))
    len_whole zero bounds first front = absurd (omega (arith, bounds.0))
    len_whole (suc n) bounds first front = joined (b ∷ bs) (suc n) (label_more 0 (drop (suc n) (b ∷ bs))) (label_len (b ∷ bs)) first.1 front (label_more-text (length (drop (suc n) (b ∷ bs))) (drop (suc n) (b ∷ bs)) (omega arith))
len_text b bs false passes = let none = label_none (b ∷ bs) passes in rw none IsUtf8-nil

pub label_len-text : (bs : List ℕ) → IsUtf8 (take (label_len bs) bs)
label_len-text [] = IsUtf8-nil
label_len-text (b ∷ bs) = len_text b bs (option_map_or may_begin (decoded (b ∷ bs)).char false) refl

two : (n : ℕ) → 2 + n ≡ suc (suc n)
two n = omega arith

pub label_text : (bytes : List ℕ) → 2 ≤ length bytes → get_or bytes 0 0 ≡ 95 → get_or bytes 1 0 ≡ 58 → IsUtf8 (take (2 + label_len (drop 2 bytes)) bytes)
label_text [] long first second = absurd (omega arith)
label_text (a ∷ []) long first second = absurd (omega arith)
label_text (a ∷ b ∷ bs) long first second =
    let mark : IsUtf8 (95 ∷ 58 ∷ []) = IsUtf8-from_ascii (95 ∷ 58 ∷ []) (IsAscii-cons 95 (58 ∷ []) (lit< tt) (IsAscii-cons 58 [] (lit< tt) IsAscii-nil)) in
    rw (two, first, second) (IsUtf8-append (95 ∷ 58 ∷ []) (take (label_len bs) bs) mark (label_len-text bs))

pub label_read : (bytes : List ℕ) → 2 ≤ length bytes → get_or bytes 0 0 ≡ 95 → get_or bytes 1 0 ≡ 58 → 0 < label_len (drop 2 bytes) → label bytes ≡ Some (take (2 + label_len (drop 2 bytes)) bytes, drop (2 + label_len (drop 2 bytes)) bytes)
label_read [] long first second some = absurd (omega arith)
label_read (a ∷ []) long first second some = absurd (omega arith)
label_read (a ∷ b ∷ bs) long first second some =
    let one : eqb a 95 ≡ true = eq-eqb a 95 first in
    let two : eqb b 58 ≡ true = eq-eqb b 58 second in
    let more : ltb 0 (label_len bs) ≡ true = grind (arith, nat_tests) in
    rw (one, two, more) refl

-- ---- the loop

abbrev Kept : List ℕ → ℕ → ℕ → ℕ → Type 0
Kept bytes at end whole = (at ≤ length bytes) × (end ≤ at) × (cond (ltb 0 (label_more 0 (drop at bytes))) (at + label_more 0 (drop at bytes)) end ≡ whole)

some_or_none : (n at end whole : ℕ) (q : Bool) → ltb 0 n ≡ q → (0 < n → at + n ≡ whole) → (n ≡ 0 → end ≡ whole) → cond q (at + n) end ≡ whole
some_or_none n at end whole true is some none = some (grind (arith, nat_tests))
some_or_none n at end whole false is some none = none (grind (arith, nat_tests))

pub char_kept : (bytes rest : List ℕ) (at end size whole : ℕ) → rest ≡ drop at bytes → IsStep rest (Character size) → Kept bytes at end whole → Kept bytes (at + size) (at + size) whole
char_kept bytes rest at end size whole same step kept =
    let further : drop size rest ≡ drop (at + size) bytes = ap (drop size) same ∙ drop-drop size at bytes in
    let now : label_more 0 (drop at bytes) ≡ size + label_more 0 (drop (at + size) bytes) = rw (← same, ← further) step.2 in
    let fits : length rest + at ≡ length bytes = omega (arith, ap length same, length-drop at bytes) in
    let m = label_more 0 (drop (at + size) bytes) in
    let some : ltb 0 (size + m) ≡ true = grind (arith, nat_tests) in
    let so_far : at + (size + m) ≡ whole = rw (now, some) at kept.2 in
    (omega (arith, step.1), omega arith, some_or_none m (at + size) (at + size) whole (ltb 0 m) refl (λ h. omega arith) (λ h. omega arith))

dotted_count : (m at end whole : ℕ) (q : Bool) → ltb 0 m ≡ q → cond (ltb 0 (cond q (1 + m) 0)) (at + cond q (1 + m) 0) end ≡ whole → cond q ((at + 1) + m) end ≡ whole
dotted_count m at end whole true is h =
    let some : ltb 0 (1 + m) ≡ true = grind (arith, nat_tests) in
    let so_far : at + (1 + m) ≡ whole = rw some at h in
    omega arith
dotted_count m at end whole false is h = h

pub dot_kept : (bytes rest : List ℕ) (at end whole : ℕ) → at < length bytes → rest ≡ drop at bytes → IsStep rest Dot → Kept bytes at end whole → Kept bytes (at + 1) end whole
dot_kept bytes rest at end whole within same step kept =
    let further : drop 1 rest ≡ drop (at + 1) bytes = ap (drop 1) same ∙ drop-drop 1 at bytes in
    let m = label_more 0 (drop (at + 1) bytes) in
    let now : label_more 0 (drop at bytes) ≡ cond (ltb 0 m) (1 + m) 0 = rw (← same, ← further) step in
    (omega arith, omega (arith, kept.1), dotted_count m at end whole (ltb 0 m) refl (rw now at kept.2))
