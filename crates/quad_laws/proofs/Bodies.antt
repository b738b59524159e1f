-- What stands between `<` and `>` or between quotation marks is read exactly where it is made of pieces.
use Rattle.std.proofs.Common.{◌≡◌, ℕ, zero, suc, ◌+◌, ◌<◌, ◌≤◌, Bool, true, false, cond, eqb, List, [], ◌∷◌, ◌++◌, length, drop, Option, Some, None, refl, sym, ap, ap₂, ◌∙◌, subst, arith, append_assoc, length-append, lit<}
use Rattle.std.proofs.lemmas.Bool.{false≢true}
use Rattle.std.proofs.lemmas.Bool.Decides.{nat_tests}
use Rattle.std.proofs.lemmas.Option.{none-some, some_pair_parts, same_Some}
use Rattle.std.specs.List.{flat_map}
use Rattle.std.specs.Option.{option_map, option_and_then}
use Rattle.std.specs.Char.{encode_utf8}
use Rattle.nquads_terminals.specs.Characters.{closing, is_raw, named, letter_escape, escape, short_escape, long_escape, front_number, enclosed, onto}
use Rattle.nquads_terminals.specs.declared.enclosed.Enclosed.{Enclosed}
use Rattle.nquads_terminals.specs.declared.enclosed.Enclosed.TheVariants.{Iri, Quoted}
use Rattle.nquads_terminals.proofs.Raw.{raw_is_not_closing, raw_is_no_backslash}
use Rattle.quad_laws.specs.Grammar.{Piece, itself, letter, four, eight, piece_bytes, IsPiece, Write}
use Rattle.quad_laws.proofs.Inverse.{map_some, then_some}

-- ---- pieces are read

-- the bytes of an escape are passed over
skipped : (kind : Enclosed) (head tail : List ℕ) → enclosed kind (length head) (head ++ tail) ≡ enclosed kind 0 tail
skipped kind [] tail = refl
skipped kind (b ∷ bs) tail = skipped kind bs tail

escape_read : (kind : Enclosed) (head tail : List ℕ) (c n : ℕ) → escape kind (head ++ tail) ≡ Some (c, n) → length head ≡ n → enclosed kind 0 (92 ∷ (head ++ tail)) ≡ onto (encode_utf8 c) (enclosed kind 0 tail)
escape_read Iri head tail c n is long =
    ap (option_and_then (λ e. onto (encode_utf8 e.0) (enclosed Iri e.1 (head ++ tail)))) is ∙ ap (λ k. onto (encode_utf8 c) (enclosed Iri k (head ++ tail))) (sym long) ∙ ap (onto (encode_utf8 c)) (skipped Iri head tail)
escape_read Quoted head tail c n is long =
    ap (option_and_then (λ e. onto (encode_utf8 e.0) (enclosed Quoted e.1 (head ++ tail)))) is ∙ ap (λ k. onto (encode_utf8 c) (enclosed Quoted k (head ++ tail))) (sym long) ∙ ap (onto (encode_utf8 c)) (skipped Quoted head tail)

-- four digits and eight digits are read alike whatever follows
front_alike : (digits tail : List ℕ) → 4 ≤ length digits → front_number (digits ++ tail) ≡ front_number digits
front_alike [] tail long = absurd (omega (arith, long))
front_alike (a ∷ []) tail long = absurd (omega (arith, long))
front_alike (a ∷ b ∷ []) tail long = absurd (omega (arith, long))
front_alike (a ∷ b ∷ c ∷ []) tail long = absurd (omega (arith, long))
front_alike (a ∷ b ∷ c ∷ d ∷ more) tail long = refl

short_alike : (digits tail : List ℕ) → length digits ≡ 4 → short_escape (digits ++ tail) ≡ short_escape digits
short_alike digits tail long = let same = front_alike digits tail (omega (arith, long)) in rw same refl

behind_four : (digits tail : List ℕ) → 4 ≤ length digits → drop 4 (digits ++ tail) ≡ drop 4 digits ++ tail
behind_four [] tail long = absurd (omega (arith, long))
behind_four (a ∷ []) tail long = absurd (omega (arith, long))
behind_four (a ∷ b ∷ []) tail long = absurd (omega (arith, long))
behind_four (a ∷ b ∷ c ∷ []) tail long = absurd (omega (arith, long))
behind_four (a ∷ b ∷ c ∷ d ∷ more) tail long = refl

left_four : (digits : List ℕ) → length digits ≡ 8 → 4 ≤ length (drop 4 digits)
left_four [] long = absurd (omega (arith, long))
left_four (a ∷ []) long = absurd (omega (arith, long))
left_four (a ∷ b ∷ []) long = absurd (omega (arith, long))
left_four (a ∷ b ∷ c ∷ []) long = absurd (omega (arith, long))
left_four (a ∷ b ∷ c ∷ d ∷ more) long = omega (arith, long)

long_alike : (digits tail : List ℕ) → length digits ≡ 8 → long_escape (digits ++ tail) ≡ long_escape digits
long_alike digits tail long =
    let first = front_alike digits tail (omega (arith, long)) in
    let past = behind_four digits tail (omega (arith, long)) in
    let second = front_alike (drop 4 digits) tail (left_four digits long) in
    rw (past, first, second) refl

-- no ECHAR has the letter of a UCHAR
no_letter : (mark b c : ℕ) → letter_escape mark ≡ None → letter_escape b ≡ Some c → eqb b mark ≡ false
no_letter mark b c none is = by (eqb b mark) refl
  where
    by : (q : Bool) → eqb b mark ≡ q → q ≡ false
    by true same = let here : b ≡ mark = grind (arith, nat_tests) in absurd (none-some c (sym none ∙ ap letter_escape (sym here) ∙ is))
    by false same = refl

letter_read : (kind : Enclosed) (b c : ℕ) (tail : List ℕ) → named kind b ≡ Some c → escape kind (b ∷ tail) ≡ Some (c, 1)
letter_read Iri b c tail is = absurd (none-some c is)
letter_read Quoted b c tail is =
    let small = no_letter 117 b c refl is in
    let capital = no_letter 85 b c refl is in
    rw (small, capital) (ap (option_map (λ c. (c, 1))) is)

piece_read : (kind : Enclosed) (p : Piece) (value tail : List ℕ) → IsPiece kind p value → enclosed kind 0 (piece_bytes p ++ tail) ≡ onto value (enclosed kind 0 tail)
piece_read kind (itself b) value tail (raw, is) = rw (raw_is_not_closing kind b raw, raw_is_no_backslash kind b raw, raw, is) refl
piece_read kind (letter b) value tail (c, names, is) =
    escape_read kind (b ∷ []) tail c 1 (letter_read kind b c tail names) refl ∙ ap (λ v. onto v (enclosed kind 0 tail)) (sym is)
piece_read kind (four digits) value tail (c, long, writes, is) =
    let read : escape kind (117 ∷ (digits ++ tail)) ≡ Some (c, 5) = ap (option_map (λ c. (c, 5))) (short_alike digits tail long ∙ writes) in
    escape_read kind (117 ∷ digits) tail c 5 read (omega (arith, long)) ∙ ap (λ v. onto v (enclosed kind 0 tail)) (sym is)
piece_read kind (eight digits) value tail (c, long, writes, is) =
    let read : escape kind (85 ∷ (digits ++ tail)) ≡ Some (c, 9) = ap (option_map (λ c. (c, 9))) (long_alike digits tail long ∙ writes) in
    escape_read kind (85 ∷ digits) tail c 9 read (omega (arith, long)) ∙ ap (λ v. onto v (enclosed kind 0 tail)) (sym is)

closed : (kind : Enclosed) (rest : List ℕ) → enclosed kind 0 (closing kind ∷ rest) ≡ Some ([], rest)
closed Iri rest = refl
closed Quoted rest = refl

pub pieces_read : (kind : Enclosed) (ps : List Piece) (value rest : List ℕ) → Write kind ps value → enclosed kind 0 (flat_map piece_bytes ps ++ (closing kind ∷ rest)) ≡ Some (value, rest)
pieces_read kind [] value rest is = closed kind rest ∙ ap (λ v. Some (v, rest)) (sym is)
pieces_read kind (p ∷ ps) value rest (front, more, is, piece, others) =
    ap (enclosed kind 0) (append_assoc (piece_bytes p) (flat_map piece_bytes ps) (closing kind ∷ rest))
    ∙ piece_read kind p front (flat_map piece_bytes ps ++ (closing kind ∷ rest)) piece
    ∙ ap (onto front) (pieces_read kind ps more rest others)
    ∙ ap (λ v. Some (v, rest)) (sym is)

-- ---- what is read is made of pieces

abbrev Escaped : Enclosed → List ℕ → ℕ → Type 0
Escaped kind head c = (p : Piece) × (piece_bytes p ≡ 92 ∷ head) × IsPiece kind p (encode_utf8 c)

-- an escape behind its backslash, by its first byte
abbrev ByFirst : Enclosed → ℕ → List ℕ → Bool → Bool → Option (ℕ × ℕ)
ByFirst kind b more p q = cond p (option_map (λ c. (c, 5)) (short_escape more)) (cond q (option_map (λ c. (c, 9)) (long_escape more)) (option_map (λ c. (c, 1)) (named kind b)))

wide : (kind : Enclosed) (b : ℕ) (more : List ℕ) (p q : Bool) (c n : ℕ) → ByFirst kind b more p q ≡ Some (c, n) → 0 < n
wide kind b more true q c n is = let r = map_some (λ c. (c, 5)) (short_escape more) (c, n) is in subst (λ k. 0 < k) (ap (λ e. e.1) r.2) (lit< tt)
wide kind b more false true c n is = let r = map_some (λ c. (c, 9)) (long_escape more) (c, n) is in subst (λ k. 0 < k) (ap (λ e. e.1) r.2) (lit< tt)
wide kind b more false false c n is = let r = map_some (λ c. (c, 1)) (named kind b) (c, n) is in subst (λ k. 0 < k) (ap (λ e. e.1) r.2) (lit< tt)

escape_wide : (kind : Enclosed) (bs : List ℕ) (c n : ℕ) → escape kind bs ≡ Some (c, n) → 0 < n
escape_wide kind [] c n is = absurd (none-some (c, n) is)
escape_wide kind (b ∷ more) c n is = wide kind b more (eqb b 117) (eqb b 85) c n is

none_left : (bs : List ℕ) → length bs ≡ 0 → bs ≡ []
none_left [] is = refl
none_left (b ∷ bs) is = absurd (omega (arith, is))

first_of : (kind : Enclosed) (b : ℕ) (digits tail : List ℕ) (p q : Bool) (c n : ℕ) → eqb b 117 ≡ p → eqb b 85 ≡ q → ByFirst kind b (digits ++ tail) p q ≡ Some (c, n) → suc (length digits) ≡ n → Escaped kind (b ∷ digits) c
first_of kind b digits tail true q c n small capital is long =
    let r = map_some (λ c. (c, 5)) (short_escape (digits ++ tail)) (c, n) is in
    let width : 5 ≡ n = ap (λ e. e.1) r.2 in
    let four_long : length digits ≡ 4 = omega (arith, long, width) in
    let here : b ≡ 117 = grind (arith, nat_tests) in
    let value : short_escape digits ≡ Some c = sym (short_alike digits tail four_long) ∙ r.1 ∙ ap (λ e. Some e.0) r.2 in
    (four digits, ap (λ x. 92 ∷ x ∷ digits) (sym here), (c, four_long, value, refl))
first_of kind b digits tail false true c n small capital is long =
    let r = map_some (λ c. (c, 9)) (long_escape (digits ++ tail)) (c, n) is in
    let width : 9 ≡ n = ap (λ e. e.1) r.2 in
    let eight_long : length digits ≡ 8 = omega (arith, long, width) in
    let here : b ≡ 85 = grind (arith, nat_tests) in
    let value : long_escape digits ≡ Some c = sym (long_alike digits tail eight_long) ∙ r.1 ∙ ap (λ e. Some e.0) r.2 in
    (eight digits, ap (λ x. 92 ∷ x ∷ digits) (sym here), (c, eight_long, value, refl))
first_of kind b digits tail false false c n small capital is long =
    let r = map_some (λ c. (c, 1)) (named kind b) (c, n) is in
    let width : 1 ≡ n = ap (λ e. e.1) r.2 in
    let none : digits ≡ [] = none_left digits (omega (arith, long, width)) in
    (letter b, ap (λ ds. 92 ∷ b ∷ ds) (sym none), (c, r.1 ∙ ap (λ e. Some e.0) r.2, refl))

escape_of : (kind : Enclosed) (head tail : List ℕ) (c n : ℕ) → escape kind (head ++ tail) ≡ Some (c, n) → length head ≡ n → Escaped kind head c
escape_of kind [] tail c n is long = let some = escape_wide kind tail c n is in absurd (omega (arith, some, long))
escape_of kind (b ∷ digits) tail c n is long = first_of kind b digits tail (eqb b 117) (eqb b 85) c n refl refl is long

-- what is left behind the bytes that are passed over
abbrev pub Made : Enclosed → ℕ → List ℕ → List ℕ → List ℕ → Type 0
Made kind skip bs value rest = (head : List ℕ) × (ps : List Piece) × (length head ≡ skip) × (bs ≡ head ++ (flat_map piece_bytes ps ++ (closing kind ∷ rest))) × Write kind ps value

onto_some : (front : List ℕ) (o : Option (List ℕ × List ℕ)) (value rest : List ℕ) → onto front o ≡ Some (value, rest) → (more : List ℕ) × (o ≡ Some (more, rest)) × (value ≡ front ++ more)
onto_some front o value rest is =
    let r = map_some (λ (r : List ℕ × List ℕ). (front ++ r.0, r.1)) o (value, rest) is in
    (r.0.0, r.1 ∙ ap (λ (e : List ℕ × List ℕ). Some (r.0.0, e.1)) r.2, sym (ap (λ (e : List ℕ × List ℕ). e.0) r.2))

made_step : (kind : Enclosed) (b : ℕ) (bs value rest : List ℕ) (p q r : Bool) → eqb b (closing kind) ≡ p → eqb b 92 ≡ q → is_raw kind b ≡ r
    → ((skip : ℕ) (value : List ℕ) → enclosed kind skip bs ≡ Some (value, rest) → Made kind skip bs value rest)
    → cond p (Some ([], bs)) (cond q (option_and_then (λ e. onto (encode_utf8 e.0) (enclosed kind e.1 bs)) (escape kind bs)) (cond r (onto (b ∷ []) (enclosed kind 0 bs)) None)) ≡ Some (value, rest)
    → Made kind 0 (b ∷ bs) value rest
made_step kind b bs value rest true q r closes back raw more is =
    let parts = some_pair_parts [] value bs rest is in
    let here : b ≡ closing kind = grind (arith, nat_tests) in
    ([], [], refl, ap₂ (λ x y. x ∷ y) here parts.1, sym parts.0)
made_step kind b bs value rest false true r closes back raw more is =
    let e = then_some (λ e. onto (encode_utf8 e.0) (enclosed kind e.1 bs)) (escape kind bs) (value, rest) is in
    let s = onto_some (encode_utf8 e.0.0) (enclosed kind e.0.1 bs) value rest e.2 in
    let m = more e.0.1 s.0 s.1 in
    let tail = flat_map piece_bytes m.1 ++ (closing kind ∷ rest) in
    let found = escape_of kind m.0 tail e.0.0 e.0.1 (ap (escape kind) (sym m.3) ∙ e.1) m.2 in
    let here : b ≡ 92 = grind (arith, nat_tests) in
    let bytes : b ∷ bs ≡ (piece_bytes found.0 ++ flat_map piece_bytes m.1) ++ (closing kind ∷ rest) = ap₂ (λ x y. x ∷ y) here m.3 ∙ ap (λ l. l ++ tail) (sym found.1) ∙ sym (append_assoc (piece_bytes found.0) (flat_map piece_bytes m.1) (closing kind ∷ rest)) in
    ([], found.0 ∷ m.1, refl, bytes, (encode_utf8 e.0.0, s.0, s.2, found.2, m.4))
made_step kind b bs value rest false false true closes back raw more is =
    let s = onto_some (b ∷ []) (enclosed kind 0 bs) value rest is in
    let m = more 0 s.0 s.1 in
    let none : m.0 ≡ [] = none_left m.0 m.2 in
    let bytes : bs ≡ flat_map piece_bytes m.1 ++ (closing kind ∷ rest) = m.3 ∙ ap (λ h. h ++ (flat_map piece_bytes m.1 ++ (closing kind ∷ rest))) none in
    ([], itself b ∷ m.1, refl, ap (λ l. b ∷ l) bytes, (b ∷ [], s.0, s.2, (raw, refl), m.4))
made_step kind b bs value rest false false false closes back raw more is = absurd (none-some (value, rest) is)

pub made_of : (kind : Enclosed) (skip : ℕ) (bs value rest : List ℕ) → enclosed kind skip bs ≡ Some (value, rest) → Made kind skip bs value rest
made_of kind zero [] value rest is = absurd (none-some (value, rest) is)
made_of kind (suc skip) [] value rest is = absurd (none-some (value, rest) is)
made_of kind (suc skip) (b ∷ bs) value rest is =
    let m = made_of kind skip bs value rest is in
    let long : length (b ∷ m.0) ≡ suc skip = omega (arith, m.2) in
    (b ∷ m.0, m.1, long, ap (λ l. b ∷ l) m.3, m.4)
made_of kind zero (b ∷ bs) value rest is =
    made_step kind b bs value rest (eqb b (closing kind)) (eqb b 92) (is_raw kind b) refl refl refl (λ skip v. made_of kind skip bs v rest) is
