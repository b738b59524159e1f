-- The terminals of RDF 1.1 N-Quads, section 4: each gives the value of the terminal with which the bytes begin, and what
-- stands behind it, or nothing where the bytes begin with no such terminal.
use Rattle.std.specs.Prelude.{◌≡◌, ◌≤◌, ℕ, zero, suc, ◌+◌, ◌-◌, ◌==◌, length, nat_le, nat_lt, Bool, true, false, ◌&&◌, ◌||◌, if◌then◌else◌, List, [], ◌∷◌, take, drop, Option, Some, None}
use Rattle.std.specs.Option.{option_map_or, option_and_then}
use Rattle.std.specs.List.{position_or_len}
use Rattle.std.specs.Char.{is_ascii_alphabetic, is_ascii_alphanumeric, is_ascii_digit}
use Rattle.bstr.specs.Utf8.{decoded}
use Rattle.iri_ref.specs.Parts.{is, colon, is_well_formed}
use Rattle.rdf_terms.specs.Quad.{is_pn_chars_u, is_pn_chars}
use Rattle.nquads_terminals.specs.Characters.{enclosed_text, only}
use Rattle.nquads_terminals.specs.declared.enclosed.Enclosed.TheVariants.{Iri, Quoted}

-- ---- IRIREF and STRING_LITERAL_QUOTE

abbrev pub backslash : ℕ → Bool
backslash = is 92

-- The value is well-formed, and no escape stands before its first colon, though one may write that colon: the first
-- backslash among the bytes does not come before it. [Ours: the grammar lets an escape stand anywhere, and leaves it to
-- the reader that the value is an IRI.]
abbrev pub is_iri : List ℕ → List ℕ → Bool
is_iri bs value = is_well_formed value && nat_le (position_or_len colon value) (position_or_len backslash bs)

-- What follows `<`.
abbrev pub iri_text : List ℕ → Option (List ℕ × List ℕ)
iri_text bs = only (λ r. is_iri bs r.0) (enclosed_text Iri bs)

-- What follows the mark, where the bytes begin with it.
abbrev pub behind : ℕ → List ℕ → Option (List ℕ)
behind mark [] = None
behind mark (b ∷ bs) = if b == mark then Some bs else None

-- IRIREF
abbrev pub iriref : List ℕ → Option (List ℕ × List ℕ)
iriref bs = option_and_then iri_text (behind 60 bs)

-- STRING_LITERAL_QUOTE
abbrev pub string : List ℕ → Option (List ℕ × List ℕ)
string bs = option_and_then (enclosed_text Quoted) (behind 34 bs)

-- The first bytes, and the rest.
abbrev pub parted : ℕ → List ℕ → Option (List ℕ × List ℕ)
parted n bs = Some (take n bs, drop n bs)

-- ---- BLANK_NODE_LABEL

-- PN_CHARS_U or a digit
abbrev pub may_begin : ℕ → Bool
may_begin c = is_pn_chars_u c || is_ascii_digit c

-- How many bytes go on with a label: the longest run of PN_CHARS and `.` that ends with PN_CHARS. `skip` counts the bytes
-- at the front that belong to a character that has been read.
abbrev pub label_more : ℕ → List ℕ → ℕ
label_more skip [] = 0
label_more (suc skip) (b ∷ bs) = 1 + label_more skip bs
label_more zero (b ∷ bs) = if option_map_or is_pn_chars (decoded (b ∷ bs)).char false then 1 + label_more ((decoded (b ∷ bs)).size - 1) bs else (if b == 46 && nat_lt 0 (label_more zero bs) then 1 + label_more zero bs else 0)

-- How many bytes follow `_:`, and 0 where there is no label.
abbrev pub label_len : List ℕ → ℕ
label_len [] = 0
label_len (b ∷ bs) = if option_map_or may_begin (decoded (b ∷ bs)).char false then 1 + label_more ((decoded (b ∷ bs)).size - 1) bs else 0

-- BLANK_NODE_LABEL, with its `_:`, the longest match
abbrev pub label : List ℕ → Option (List ℕ × List ℕ)
label (a ∷ b ∷ bs) = if a == 95 && b == 58 && nat_lt 0 (label_len bs) then parted (2 + label_len bs) (a ∷ b ∷ bs) else None
label _ = None

-- ---- LANGTAG

-- A letter in the first part, and also a digit in a later one.
abbrev pub is_tag_byte : Bool → ℕ → Bool
is_tag_byte true b = is_ascii_alphabetic b
is_tag_byte false b = is_ascii_alphanumeric b

-- A later part begins here.
abbrev pub begins_part : List ℕ → Bool
begins_part [] = false
begins_part (b ∷ bs) = is_ascii_alphanumeric b

-- How many bytes go on with a tag, in its first part or in a later one; a hyphen does where a part follows.
abbrev pub tag_more : Bool → List ℕ → ℕ
tag_more first [] = 0
tag_more first (b ∷ bs) = if is_tag_byte first b then 1 + tag_more first bs else (if b == 45 && begins_part bs then 1 + tag_more false bs else 0)

-- LANGTAG, without its `@`, the longest match
abbrev pub langtag : List ℕ → Option (List ℕ × List ℕ)
langtag (a ∷ b ∷ bs) = if a == 64 && is_ascii_alphabetic b then parted (1 + tag_more true bs) (b ∷ bs) else None
langtag _ = None

-- ---- where a terminal ends

-- The answer of a call is what stands at a place in the bytes, with the place behind it.
abbrev pub IsReadAt : {T : Type 0} → List ℕ → Option (T × ℕ) → Option (T × List ℕ) → Type 0
IsReadAt bytes None read = read ≡ None
IsReadAt bytes (Some found) read = (found.1 ≤ length bytes) × (read ≡ Some (found.0, drop found.1 bytes))
