-- The UTF-16 code units that an iterator gives, and that they tell their text.
use Rattle.std.proofs.Common.{◌≡◌, ℕ, ◌+◌, ◌-◌, ◌/◌, ◌%◌, ◌<◌, ◌≤◌, List, [], ◌∷◌, ◌++◌, length, length-append, refl, ap, ◌∙◌, sym, arith, true, false, Bool, cond, nat_lt, inl, inr, ◌⊎◌, IsUtf8}
use Rattle.std.specs.Prelude.{flat_map}
use Rattle.std.specs.Str.{chars}
use Rattle.std.specs.Char.Escape.{encode_utf16}
use Rattle.std.specs.Str.Iter.{encode_utf16_steps, encode_utf16_rest, encode_utf16_pending}
use Rattle.std.specs.Iterator.{AlwaysYields}
use Rattle.std.proofs.lemmas.Bool.{cases_lt, lt-ltb, le-ltb}
use Rattle.std.proofs.lemmas.Str.{encode_same, length-encode, len_utf8_bounds, encodes-chars, scalars-chars}
use Rattle.std.proofs.Math.Utf8.{encode, encodes, scalar, scalars, scalar_cases}
use Rattle.std.proofs.lemmas.Bool.{and_parts}
use Rattle.std.proofs.lemmas.Iterator.{YieldsList}
use Rattle.json_canon.specs.Utf16.{code_units}

one_unit : (c : ℕ) → c < 65536 → encode_utf16 c ≡ c ∷ []
one_unit c small = rw (lt-ltb c 65536 small)

two_units : (c : ℕ) → 65536 ≤ c → encode_utf16 c ≡ (55296 + (c - 65536) / 1024) ∷ (56320 + (c - 65536) % 1024) ∷ []
two_units c large = rw (le-ltb c 65536 large)

-- The first unit of a character, and the one after it, if any.
record Split (c : ℕ) : Type 0 where
  first : ℕ
  rest : List ℕ
  is : encode_utf16 c ≡ first ∷ rest

split : (c : ℕ) → Split c
split c = by_size (cases_lt c 65536)
  where
    by_size : (c < 65536) ⊎ (65536 ≤ c) → Split c
    by_size (inl small) = record { first = c; rest = []; is = one_unit c small }
    by_size (inr large) = record { first = 55296 + (c - 65536) / 1024; rest = (56320 + (c - 65536) % 1024) ∷ []; is = two_units c large }

no_character : (c : ℕ) (r : List ℕ) → [] ≡ encode c ++ r → ⊥
no_character c r e = absurd (omega (arith, len_utf8_bounds c, length-encode c, simp length-append at (ap length e)))

one_at_most : (b : Bool) (n : ℕ) → length (cond b (n ∷ []) []) ≤ 1
one_at_most true n = omega arith
one_at_most false n = omega arith

-- Where a second unit is held back, it comes first.
after_held : (p l : List ℕ) (s : _) → encode_utf16_pending s ≡ p → ((t : _) → encode_utf16_pending t ≡ [] → encode_utf16_rest t ≡ encode_utf16_rest s → AlwaysYields encode_utf16_steps (λ x. x) t l) → AlwaysYields encode_utf16_steps (λ x. x) s (p ++ l)
after_held [] l s held after = after s held refl
after_held (y ∷ []) l s held after = (
  λ j none. absurd (cc (none.0)),
  λ x j step. elim step as (λ _. (x ≡ y) × AlwaysYields encode_utf16_steps (λ n. n) j l) [
    | inl p ↦ (let k : x ∷ [] ≡ y ∷ [] = sym p.0 ∙ held in cc, after j p.1 p.2)
    | inr p ↦ absurd (let k = p.0 in cc)
  ],
)
after_held (y ∷ z ∷ p) l s held after = absurd (omega (arith, one_at_most (nat_lt 0 s.second) s.second, ap length held))

gives : (cs : List ℕ) (s : _) → encode_utf16_pending s ≡ [] → encodes cs ≡ encode_utf16_rest s → AlwaysYields encode_utf16_steps (λ x. x) s (flat_map encode_utf16 cs)
gives [] s none at =
    λ x j step. elim step [
      | inl p ↦ (let k = p.0 in cc)
      | inr p ↦ no_character p.1.0 (encode_utf16_rest j) (at ∙ p.1.1)
    ]
gives (c ∷ cs) s none at =
    let k = split c in
    rw k.is (
      λ j p. absurd (omega (arith, p.1, len_utf8_bounds c, length-encode c, simp length-append at (ap length at))),
      λ x j step. elim step as (λ _. (x ≡ k.first) × AlwaysYields encode_utf16_steps (λ n. n) j (k.rest ++ flat_map encode_utf16 cs)) [
        | inl p ↦ absurd (let h = p.0 in cc)
        | inr p ↦
            let same = encode_same c p.1.0 (encodes cs) (encode_utf16_rest j) (at ∙ p.1.1) in
            let units : k.first ∷ k.rest ≡ x ∷ encode_utf16_pending j = sym k.is ∙ ap encode_utf16 same.0 ∙ p.1.2 in
            (cc, after_held k.rest (flat_map encode_utf16 cs) j (cc) (λ t e r. gives cs t e (same.1 ∙ sym r)))
      ],
    )

pub YieldsList-from_encode_utf16 : {s : _} (bs : List ℕ) → IsUtf8 bs → encode_utf16_rest s ≡ bs → encode_utf16_pending s ≡ [] → YieldsList encode_utf16_steps (λ x. x) s (code_units bs)
YieldsList-from_encode_utf16 {s} bs u at none = record { runs = gives (chars bs) s none (encodes-chars bs u ∙ sym at) }

-- No character is a surrogate.
no_surrogate : (c d : ℕ) → (c < 55296) ⊎ ((57344 ≤ c) × (c < 1114112)) → (d < 55296) ⊎ ((57344 ≤ d) × (d < 1114112)) → 65536 ≤ d → c ≡ 55296 + (d - 65536) / 1024 → ⊥
no_surrogate c d (inl h) (inl k) large e = omega arith
no_surrogate c d (inl h) (inr k) large e = omega arith
no_surrogate c d (inr h) (inl k) large e = omega arith
no_surrogate c d (inr h) (inr k) large e = omega arith

alone : (c d : ℕ) (r t : List ℕ) → scalar c ≡ true → scalar d ≡ true → 65536 ≤ d → c ∷ r ≡ (55296 + (d - 65536) / 1024) ∷ (56320 + (d - 65536) % 1024) ∷ t → ⊥
alone c d r t valid_c valid_d large e = no_surrogate c d (scalar_cases c valid_c) (scalar_cases d valid_d) large (cc)

-- Units begin with those of one character.
unit_same : (c d : ℕ) (r t : List ℕ) → scalar c ≡ true → scalar d ≡ true → encode_utf16 c ++ r ≡ encode_utf16 d ++ t → (c ≡ d) × (r ≡ t)
unit_same c d r t valid_c valid_d e = by_size (cases_lt c 65536) (cases_lt d 65536)
  where
    by_size : (c < 65536) ⊎ (65536 ≤ c) → (d < 65536) ⊎ (65536 ≤ d) → (c ≡ d) × (r ≡ t)
    by_size (inl a) (inl b) = let k : c ∷ r ≡ d ∷ t = rw (one_unit c a, one_unit d b) at e in (cc, cc)
    by_size (inl a) (inr b) = absurd (alone c d r t valid_c valid_d b (rw (one_unit c a, two_units d b) at e))
    by_size (inr a) (inl b) = absurd (alone d c t r valid_d valid_c a (sym (rw (two_units c a, one_unit d b) at e)))
    by_size (inr a) (inr b) =
        let k : (55296 + (c - 65536) / 1024) ∷ (56320 + (c - 65536) % 1024) ∷ r ≡ (55296 + (d - 65536) / 1024) ∷ (56320 + (d - 65536) % 1024) ∷ t = rw (two_units c a, two_units d b) at e in
        let high : 55296 + (c - 65536) / 1024 ≡ 55296 + (d - 65536) / 1024 = cc in
        let low : 56320 + (c - 65536) % 1024 ≡ 56320 + (d - 65536) % 1024 = cc in
        (omega arith, cc)

units_same : (cs ds : List ℕ) → scalars cs ≡ true → scalars ds ≡ true → flat_map encode_utf16 cs ≡ flat_map encode_utf16 ds → cs ≡ ds
units_same [] [] valid_cs valid_ds e = refl
units_same [] (d ∷ ds) valid_cs valid_ds e = let k = (split d).is in absurd (cc)
units_same (c ∷ cs) [] valid_cs valid_ds e = let k = (split c).is in absurd (cc)
units_same (c ∷ cs) (d ∷ ds) valid_cs valid_ds e =
    let c_valid = and_parts _ _ valid_cs in
    let d_valid = and_parts _ _ valid_ds in
    let first = unit_same c d _ _ c_valid.0 d_valid.0 e in
    let rest = units_same cs ds c_valid.1 d_valid.1 first.1 in
    cc

-- Texts with the same units are the same.
pub code_units_same : (a b : List ℕ) → IsUtf8 a → IsUtf8 b → code_units a ≡ code_units b → a ≡ b
code_units_same a b u v e =
    sym (encodes-chars a u) ∙ ap encodes (units_same (chars a) (chars b) (scalars-chars a u) (scalars-chars b v) e) ∙ encodes-chars b v
