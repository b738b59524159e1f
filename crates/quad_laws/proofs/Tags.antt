-- A language tag that was written is read back.
use Rattle.std.proofs.Common.{◌≡◌, ℕ, suc, ◌+◌, Bool, true, false, ◌&&◌, not, eqb, List, [], ◌∷◌, ◌++◌, length, Some, refl, sym, ap, ◌∙◌, arith}
use Rattle.std.proofs.lemmas.Bool.{and_parts, and_from, false≢true}
use Rattle.std.proofs.lemmas.Bool.Decides.{nat_tests}
use Rattle.std.proofs.lemmas.List.Splits.{slice_split-cons_yes, slice_split-cons_no}
use lib.Seq.{drop-append_seam, take-append_seam}
use Rattle.std.specs.List.{list_all, slice_split, onto_first}
use Rattle.std.specs.Char.{is_ascii_alphabetic, is_ascii_alphanumeric}
use Rattle.rdf_terms.specs.Language.{is_letters, is_letters_or_digits, are_tag_parts, is_tag}
use Rattle.nquads_terminals.specs.Terminals.{is_tag_byte, begins_part, tag_more, langtag}

abbrev pub hyphen : ℕ → Bool
hyphen b = eqb b 45

abbrev pub parts : List ℕ → List (List ℕ)
parts bs = slice_split hyphen bs

-- the parts from a place inside a part on, whose bytes may be none
abbrev pub goes : Bool → List (List ℕ) → Bool
goes first [] = true
goes first (part ∷ more) = list_all (is_tag_byte first) part && list_all is_letters_or_digits more

pub onto_goes : (first : Bool) (b : ℕ) (ps : List (List ℕ)) → goes first (onto_first b ps) ≡ true → (is_tag_byte first b ≡ true) × (goes first ps ≡ true)
onto_goes first b [] all = ((and_parts _ _ (and_parts _ _ all).0).0, refl)
onto_goes first b (p ∷ ps) all =
    let both = and_parts (is_tag_byte first b && list_all (is_tag_byte first) p) (list_all is_letters_or_digits ps) all in
    let bytes = and_parts (is_tag_byte first b) (list_all (is_tag_byte first) p) both.0 in
    (bytes.0, and_from _ _ bytes.1 both.1)

pub all_goes : (ps : List (List ℕ)) → list_all is_letters_or_digits ps ≡ true → goes false ps ≡ true
all_goes [] all = refl
all_goes (p ∷ ps) all =
    let both = and_parts (is_letters_or_digits p) (list_all is_letters_or_digits ps) all in
    let bytes = and_parts (not (eqb (length p) 0)) (list_all is_ascii_alphanumeric p) both.0 in
    and_from _ _ bytes.1 both.1

first_byte : (c : ℕ) (ps : List (List ℕ)) → list_all is_letters_or_digits (onto_first c ps) ≡ true → is_ascii_alphanumeric c ≡ true
first_byte c [] all =
    let both = and_parts (is_letters_or_digits (c ∷ [])) true all in
    let bytes = and_parts (not (eqb (length (c ∷ [])) 0)) (is_ascii_alphanumeric c && true) both.0 in
    (and_parts (is_ascii_alphanumeric c) true bytes.1).0
first_byte c (p ∷ ps) all =
    let both = and_parts (is_letters_or_digits (c ∷ p)) (list_all is_letters_or_digits ps) all in
    let bytes = and_parts (not (eqb (length (c ∷ p)) 0)) (is_ascii_alphanumeric c && list_all is_ascii_alphanumeric p) both.0 in
    (and_parts (is_ascii_alphanumeric c) (list_all is_ascii_alphanumeric p) bytes.1).0

begins_back : (bs tail : List ℕ) → list_all is_letters_or_digits (parts bs) ≡ true → begins_part (bs ++ tail) ≡ true
begins_back [] tail all = absurd (false≢true all)
begins_back (c ∷ cs) tail all = by (hyphen c) refl
  where
    by : (q : Bool) → hyphen c ≡ q → is_ascii_alphanumeric c ≡ true
    by true is = absurd (false≢true (ap (list_all is_letters_or_digits) (sym (slice_split-cons_yes hyphen c cs is)) ∙ all))
    by false is = first_byte c (parts cs) (ap (list_all is_letters_or_digits) (sym (slice_split-cons_no hyphen c cs is)) ∙ all)

no_byte : (first : Bool) (b : ℕ) → hyphen b ≡ true → is_tag_byte first b ≡ false
no_byte true b is = grind (arith, nat_tests)
no_byte false b is = grind (arith, nat_tests)

space_ends : (first : Bool) (rest : List ℕ) → tag_more first (32 ∷ rest) ≡ 0
space_ends true rest = refl
space_ends false rest = refl

one : (n : ℕ) → 1 + n ≡ suc n
one n = omega arith

step : (first : Bool) (b : ℕ) (bs tail : List ℕ) (q : Bool) → hyphen b ≡ q → goes first (parts (b ∷ bs)) ≡ true → (goes first (parts bs) ≡ true → tag_more first (bs ++ tail) ≡ length bs) → (goes false (parts bs) ≡ true → tag_more false (bs ++ tail) ≡ length bs) → tag_more first (b ∷ (bs ++ tail)) ≡ suc (length bs)
step first b bs tail true is all same later =
    let more : list_all is_letters_or_digits (parts bs) ≡ true = ap (goes first) (sym (slice_split-cons_yes hyphen b bs is)) ∙ all in
    let begins = begins_back bs tail more in
    let count = later (all_goes (parts bs) more) in
    rw (no_byte first b is, is, begins, count) (one (length bs))
step first b bs tail false is all same later =
    let both = onto_goes first b (parts bs) (ap (goes first) (sym (slice_split-cons_no hyphen b bs is)) ∙ all) in
    let count = same both.1 in
    rw (both.0, count) (one (length bs))

pub more_back : (first : Bool) (bs rest : List ℕ) → goes first (parts bs) ≡ true → tag_more first (bs ++ (32 ∷ rest)) ≡ length bs
more_back first [] rest all = space_ends first rest
more_back first (b ∷ bs) rest all = step first b bs (32 ∷ rest) (hyphen b) refl all (more_back first bs rest) (more_back false bs rest)

pub tag_first : (b : ℕ) (ps : List (List ℕ)) → are_tag_parts (onto_first b ps) ≡ true → (is_ascii_alphabetic b ≡ true) × (goes true ps ≡ true)
tag_first b [] all =
    let both = and_parts (is_letters (b ∷ [])) true all in
    let bytes = and_parts (not (eqb (length (b ∷ [])) 0)) (is_ascii_alphabetic b && true) both.0 in
    ((and_parts (is_ascii_alphabetic b) true bytes.1).0, refl)
tag_first b (p ∷ ps) all =
    let both = and_parts (is_letters (b ∷ p)) (list_all is_letters_or_digits ps) all in
    let bytes = and_parts (not (eqb (length (b ∷ p)) 0)) (is_ascii_alphabetic b && list_all is_ascii_alphabetic p) both.0 in
    let letters = and_parts (is_ascii_alphabetic b) (list_all is_ascii_alphabetic p) bytes.1 in
    (letters.0, and_from _ _ letters.1 both.1)

pub tag_back : (tag rest : List ℕ) → is_tag tag ≡ true → langtag (64 ∷ (tag ++ (32 ∷ rest))) ≡ Some (tag, 32 ∷ rest)
tag_back [] rest is = absurd (false≢true is)
tag_back (b ∷ bs) rest is = by (hyphen b) refl
  where
    by : (q : Bool) → hyphen b ≡ q → langtag (64 ∷ b ∷ (bs ++ (32 ∷ rest))) ≡ Some (b ∷ bs, 32 ∷ rest)
    by true dash = absurd (false≢true (ap are_tag_parts (sym (slice_split-cons_yes hyphen b bs dash)) ∙ is))
    by false dash =
        let both = tag_first b (parts bs) (ap are_tag_parts (sym (slice_split-cons_no hyphen b bs dash)) ∙ is) in
        let count = more_back true bs rest both.1 in
        rw (both.0, count, one (length bs), take-append_seam bs (32 ∷ rest), drop-append_seam bs (32 ∷ rest)) refl
