-- How far a language tag goes.
use Rattle.std.proofs.Common.{◌≡◌, ℕ, suc, ◌+◌, ◌<◌, ◌≤◌, Bool, true, false, cond, ◌&&◌, eqb, List, [], ◌∷◌, length, take, drop, get_or, Some, refl, ap, ◌∙◌, arith, eq-eqb}
use Rattle.std.proofs.lemmas.Bool.Decides.{nat_tests}
use Rattle.std.proofs.lemmas.List.{drop-drop}
use Rattle.std.proofs.lemmas.Str.{IsUtf8-from_ascii}
use Rattle.std.proofs.lemmas.Str.Ascii.{IsAscii-cons, IsAscii-nil}
use Rattle.std.specs.Str.{IsUtf8, IsAscii}
use Rattle.std.specs.Char.{is_ascii_alphabetic}
use Rattle.nquads_terminals.specs.Terminals.{is_tag_byte, begins_part, tag_more, langtag}

pub tag_next : (bytes rest : List ℕ) (at whole : ℕ) (first part : Bool) → rest ≡ drop at bytes → tag_more first rest ≡ 1 + tag_more part (drop 1 rest) → at + tag_more first (drop at bytes) ≡ whole → (at + 1) + tag_more part (drop (at + 1) bytes) ≡ whole
tag_next bytes rest at whole first part same step so_far =
    let further : drop 1 rest ≡ drop (at + 1) bytes = ap (drop 1) same ∙ drop-drop 1 at bytes in
    let now : tag_more first (drop at bytes) ≡ 1 + tag_more part (drop (at + 1) bytes) = rw (← same, ← further) step in
    omega arith

within_step : (first : Bool) (b : ℕ) (bs : List ℕ) (p q : Bool) → tag_more first bs ≤ length bs → tag_more false bs ≤ length bs → cond p (1 + tag_more first bs) (cond q (1 + tag_more false bs) 0) ≤ length (b ∷ bs)
within_step first b bs true q same part = omega arith
within_step first b bs false true same part = omega arith
within_step first b bs false false same part = omega arith

pub tag_more-within : (first : Bool) (bs : List ℕ) → tag_more first bs ≤ length bs
tag_more-within first [] = omega arith
tag_more-within first (b ∷ bs) = within_step first b bs (is_tag_byte first b) (eqb b 45 && begins_part bs) (tag_more-within first bs) (tag_more-within false bs)

tag_byte_small : (first : Bool) (b : ℕ) → is_tag_byte first b ≡ true → b < 128
tag_byte_small true b is = grind (arith, nat_tests)
tag_byte_small false b is = grind (arith, nat_tests)

one : (n : ℕ) → 1 + n ≡ suc n
one n = omega arith

ascii_step : (first : Bool) (b : ℕ) (bs : List ℕ) (p q r : Bool) → is_tag_byte first b ≡ p → eqb b 45 ≡ q → IsAscii (take (tag_more first bs) bs) → IsAscii (take (tag_more false bs) bs) → IsAscii (take (cond p (1 + tag_more first bs) (cond (q && r) (1 + tag_more false bs) 0)) (b ∷ bs))
ascii_step first b bs true q r is hyphen same part = rw one (IsAscii-cons b _ (tag_byte_small first b is) same)
ascii_step first b bs false true true is hyphen same part = let small : b < 128 = grind (arith, nat_tests) in rw one (IsAscii-cons b _ small part)
ascii_step first b bs false true false is hyphen same part = IsAscii-nil
ascii_step first b bs false false r is hyphen same part = IsAscii-nil

pub tag_more-ascii : (first : Bool) (bs : List ℕ) → IsAscii (take (tag_more first bs) bs)
tag_more-ascii first [] = IsAscii-nil
tag_more-ascii first (b ∷ bs) = ascii_step first b bs (is_tag_byte first b) (eqb b 45) (begins_part bs) refl refl (tag_more-ascii first bs) (tag_more-ascii false bs)

pub tag_read : (bytes : List ℕ) → 2 ≤ length bytes → get_or bytes 0 0 ≡ 64 → is_ascii_alphabetic (get_or bytes 1 0) ≡ true → langtag bytes ≡ Some (take (1 + tag_more true (drop 2 bytes)) (drop 1 bytes), drop (2 + tag_more true (drop 2 bytes)) bytes)
tag_read [] long at letter = absurd (omega arith)
tag_read (a ∷ []) long at letter = absurd (omega arith)
tag_read (a ∷ b ∷ bs) long at letter =
    let here : eqb a 64 ≡ true = eq-eqb a 64 at in
    let two : 2 + tag_more true bs ≡ suc (1 + tag_more true bs) = omega arith in
    rw (here, letter, two) refl

pub tag_text_is_ascii : (bytes : List ℕ) → 2 ≤ length bytes → is_ascii_alphabetic (get_or bytes 1 0) ≡ true → IsUtf8 (take (1 + tag_more true (drop 2 bytes)) (drop 1 bytes))
tag_text_is_ascii [] long letter = absurd (omega arith)
tag_text_is_ascii (a ∷ []) long letter = absurd (omega arith)
tag_text_is_ascii (a ∷ b ∷ bs) long letter =
    IsUtf8-from_ascii _ (rw one (IsAscii-cons b _ (tag_byte_small true b letter) (tag_more-ascii true bs)))
