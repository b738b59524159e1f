-- The characters of a terminal, one after another.
use Rattle.std.proofs.Common.{◌≡◌, ℕ, zero, suc, ◌+◌, ◌<◌, Bool, true, false, cond, eqb, List, [], ◌∷◌, ◌++◌, length, take, drop, get_or, Option, Some, None, refl, sym, ap, ◌∙◌, arith, append_assoc, eq-eqb}
use Rattle.std.proofs.lemmas.List.{drop-drop}
use Rattle.std.proofs.lemmas.Str.{is_utf8-from_IsUtf8}
use Rattle.std.proofs.lemmas.Bool.Decides.{nat_tests}
use Rattle.std.specs.List.{prefix_len}
use Rattle.std.specs.Str.{IsUtf8, is_utf8}
use Rattle.std.specs.Char.{encode_utf8}
use Rattle.nquads_terminals.specs.Characters.{closing, is_raw, enclosed, enclosed_text, onto, escape}
use Rattle.nquads_terminals.specs.declared.enclosed.Enclosed.{Enclosed}
use Rattle.nquads_terminals.specs.declared.enclosed.Enclosed.TheVariants.{Iri, Quoted}

pub onto-onto : (xs ys : List ℕ) (r : Option (List ℕ × List ℕ)) → onto xs (onto ys r) ≡ onto (xs ++ ys) r
onto-onto xs ys None = refl
onto-onto xs ys (Some r) = ap (λ l. Some (l, r.1)) (sym (append_assoc xs ys r.0))

-- neither the closing mark nor a backslash is raw
pub raw_is_not_closing : (kind : Enclosed) (b : ℕ) → is_raw kind b ≡ true → eqb b (closing kind) ≡ false
raw_is_not_closing Iri b raw = grind (arith, nat_tests)
raw_is_not_closing Quoted b raw = grind (arith, nat_tests)

pub raw_is_no_backslash : (kind : Enclosed) (b : ℕ) → is_raw kind b ≡ true → eqb b 92 ≡ false
raw_is_no_backslash Iri b raw = grind (arith, nat_tests)
raw_is_no_backslash Quoted b raw = grind (arith, nat_tests)

abbrev run : Enclosed → List ℕ → ℕ
run kind bs = prefix_len (is_raw kind) bs

raw_step : (kind : Enclosed) (b : ℕ) (bs : List ℕ) (raw : Bool) → is_raw kind b ≡ raw → cond raw (1 + run kind bs) 0 < length (b ∷ bs) → get_or (b ∷ bs) (cond raw (1 + run kind bs) 0) 0 ≡ closing kind
    → (run kind bs < length bs → get_or bs (run kind bs) 0 ≡ closing kind → enclosed kind 0 bs ≡ Some (take (run kind bs) bs, drop (suc (run kind bs)) bs))
    → enclosed kind 0 (b ∷ bs) ≡ Some (take (cond raw (1 + run kind bs) 0) (b ∷ bs), drop (suc (cond raw (1 + run kind bs) 0)) (b ∷ bs))
raw_step kind b bs true raw within closed rest =
    let one : 1 + run kind bs ≡ suc (run kind bs) = omega arith in
    let closed-more : get_or (b ∷ bs) (suc (run kind bs)) 0 ≡ closing kind = rw one at closed in
    let less : run kind bs < length bs = omega arith in
    let more = rest less closed-more in
    rw (one, raw_is_not_closing kind b raw, raw_is_no_backslash kind b raw, raw, more) refl
raw_step kind b bs false raw within closed rest =
    let closes : eqb b (closing kind) ≡ true = eq-eqb b (closing kind) closed in
    rw closes refl

-- the bytes up to the first that isn't raw are the value, where that one closes
pub raw_enclosed : (kind : Enclosed) (bs : List ℕ) → run kind bs < length bs → get_or bs (run kind bs) 0 ≡ closing kind → enclosed kind 0 bs ≡ Some (take (run kind bs) bs, drop (suc (run kind bs)) bs)
raw_enclosed kind [] within closed = absurd (omega arith)
raw_enclosed kind (b ∷ bs) within closed = raw_step kind b bs (is_raw kind b) refl within closed (raw_enclosed kind bs)

pub raw_read : (kind : Enclosed) (bs : List ℕ) (len : ℕ) (text : List ℕ) → len ≡ run kind bs → len < length bs → get_or bs len 0 ≡ closing kind → text ≡ take len bs → IsUtf8 text → enclosed_text kind bs ≡ Some (text, drop (len + 1) bs)
raw_read kind bs len text is within closed same utf8 =
    let whole : enclosed kind 0 bs ≡ Some (take (run kind bs) bs, drop (suc (run kind bs)) bs) = raw_enclosed kind bs (omega arith) (rw (← is) closed) in
    let here : take (run kind bs) bs ≡ text = rw (← is) (sym same) in
    let next : suc (run kind bs) ≡ len + 1 = omega arith in
    let good : is_utf8 text ≡ true = is_utf8-from_IsUtf8 text utf8 in
    rw (whole, here, good, next) refl

-- the bytes of an escape are passed over
pub skipped : (kind : Enclosed) (skip : ℕ) (bs : List ℕ) → enclosed kind skip bs ≡ enclosed kind 0 (drop skip bs)
skipped kind zero [] = refl
skipped kind (suc skip) [] = refl
skipped kind zero (b ∷ bs) = refl
skipped kind (suc skip) (b ∷ bs) = skipped kind skip bs

pub escaped_step : (kind : Enclosed) (bs rest : List ℕ) (c n : ℕ) → 0 < length bs → get_or bs 0 0 ≡ 92 → (get_or bs 0 0 ≡ closing kind → ⊥) → rest ≡ drop 1 bs → escape kind rest ≡ Some (c, n) → enclosed kind 0 bs ≡ onto (encode_utf8 c) (enclosed kind 0 (drop (1 + n) bs))
escaped_step kind [] rest c n some is unclosed same found = absurd (omega arith)
escaped_step kind (b ∷ bs) rest c n some is unclosed same found =
    let other : eqb b (closing kind) ≡ false = grind (arith, nat_tests) in
    let back : eqb b 92 ≡ true = eq-eqb b 92 is in
    let escaped : escape kind bs ≡ Some (c, n) = rw (← same) found in
    let one : 1 + n ≡ suc n = omega arith in
    rw (other, back, escaped, one, skipped kind n bs) refl

-- one character more, and what is left
pub one_more : (kind : Enclosed) (bytes rest old new front : List ℕ) (at n : ℕ) (whole : Option (List ℕ × List ℕ)) → rest ≡ drop at bytes → new ≡ old ++ front → enclosed kind 0 rest ≡ onto front (enclosed kind 0 (drop n rest)) → onto old (enclosed kind 0 (drop at bytes)) ≡ whole → onto new (enclosed kind 0 (drop (at + n) bytes)) ≡ whole
one_more kind bytes rest old new front at n whole same grown step so_far =
    let further : drop (at + n) bytes ≡ drop n rest = sym (drop-drop n at bytes) ∙ ap (drop n) (sym same) in
    rw (grown, further, ← onto-onto old front (enclosed kind 0 (drop n rest)), ← step, same) so_far
