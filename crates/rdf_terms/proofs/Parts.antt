-- A tag with a hyphen, and one without.
use Rattle.std.proofs.Common.{◌≡◌, ℕ, ◌<◌, ◌&&◌, nat_eq, Bool, true, false, List, [], ◌∷◌, length, refl, ap, ◌∙◌, sym, arith, inl, inr, ◌⊎◌}
use Rattle.std.specs.List.{list_all, slice_split, position_or_len, before_first, after_first, onto_first}
use Rattle.std.proofs.lemmas.Bool.{cases_Bool}
use Rattle.std.proofs.lemmas.List.Splits.{slice_split_first}
use Rattle.rdf_terms.specs.Language.{is_tag, are_tag_parts, is_letters, is_letters_or_digits}

abbrev hyphen : ℕ → Bool
hyphen b = nat_eq b 45

and_true : (b : Bool) → (b && true) ≡ b
and_true true = refl
and_true false = refl

-- A text without a hyphen is the one part.
whole : (s : List ℕ) → position_or_len hyphen s ≡ length s → slice_split hyphen s ≡ s ∷ []
whole [] none = refl
whole (b ∷ bs) none = by_test (cases_Bool (hyphen b)) (whole bs)
  where
    by_test : (hyphen b ≡ true) ⊎ (hyphen b ≡ false) → (position_or_len hyphen bs ≡ length bs → slice_split hyphen bs ≡ bs ∷ []) → slice_split hyphen (b ∷ bs) ≡ (b ∷ bs) ∷ []
    by_test (inl passes) rest = absurd (let k = rw passes at none in omega arith)
    by_test (inr fails) rest = let k = rw fails at none in rw fails (ap (onto_first b) (rest (omega arith)))

pub tag_without_hyphen : (s : List ℕ) → position_or_len hyphen s ≡ length s → is_letters s ≡ is_tag s
tag_without_hyphen s none = sym (and_true (is_letters s)) ∙ ap are_tag_parts (sym (whole s none))

tag_with_hyphen : (s first rest : List ℕ) → (first ≡ before_first hyphen s) × (rest ≡ after_first hyphen s) × (position_or_len hyphen s < length s) → (is_letters first && list_all is_letters_or_digits (slice_split hyphen rest)) ≡ is_tag s
tag_with_hyphen s first rest parts =
    (λ i. is_letters (parts.0 i) && list_all is_letters_or_digits (slice_split hyphen (parts.1 i))) ∙ ap are_tag_parts (sym (slice_split_first hyphen s 0 parts.2))

pub tag_by_rest : (s first rest : List ℕ) (letters all : Bool) → (first ≡ before_first hyphen s) × (rest ≡ after_first hyphen s) × (position_or_len hyphen s < length s) → letters ≡ is_letters first → letters ≡ true → all ≡ list_all is_letters_or_digits (slice_split hyphen rest) → all ≡ is_tag s
tag_by_rest s first rest letters all parts is passes rest_is =
    rest_is ∙ ap (λ b. b && list_all is_letters_or_digits (slice_split hyphen rest)) (sym passes ∙ is) ∙ tag_with_hyphen s first rest parts

pub tag_refused : (s first rest : List ℕ) (letters : Bool) → (first ≡ before_first hyphen s) × (rest ≡ after_first hyphen s) × (position_or_len hyphen s < length s) → letters ≡ is_letters first → letters ≡ false → letters ≡ is_tag s
tag_refused s first rest letters parts is fails =
    fails ∙ ap (λ b. b && list_all is_letters_or_digits (slice_split hyphen rest)) (sym fails ∙ is) ∙ tag_with_hyphen s first rest parts
