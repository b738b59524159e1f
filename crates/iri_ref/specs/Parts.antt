-- The five parts of a reference, as bytes (RFC 3986, section 3 and appendix B).
use Rattle.std.specs.Prelude.{◌≡◌, ℕ, ◌+◌, ◌==◌, Bool, false, ◌&&◌, ◌||◌, not, if◌then◌else◌, List, [], ◌∷◌, Option, Some, None, IfSome, is_some, nat_eq, nat_lt, nat_le, codes, drop, take, position}
use Rattle.std.specs.Option.{option_map, option_and_then, option_map_or, option_copied}
use Rattle.std.specs.List.{list_all, list_any, before_first, after_first, position_or_len, starts_with}
use Rattle.std.specs.Str.{bytes_eq}
use Rattle.iri_ref.specs.declared.reference.Parts.{Parts}

-- the scheme, authority, path, query and fragment; an absent part is no empty part
pub record IriParts : Type 0 where
  pub scheme : Option (List ℕ)
  pub authority : Option (List ℕ)
  pub path : List ℕ
  pub query : Option (List ℕ)
  pub fragment : Option (List ℕ)

-- the parts that the code holds, as bytes
abbrev pub bytes_of : Parts → IriParts
bytes_of p = record { scheme = option_copied p.scheme; authority = option_copied p.authority; path = p.path.now; query = option_copied p.query; fragment = option_copied p.fragment }

-- whether a byte is this one
abbrev pub is : ℕ → ℕ → Bool
is c b = b == c

-- the colon, which ends a scheme
abbrev pub colon : ℕ → Bool
colon = is 58

-- the slash, which ends an authority and a segment of a path
abbrev pub slash : ℕ → Bool
slash = is 47

-- the question mark, which begins a query
abbrev pub question_mark : ℕ → Bool
question_mark = is 63

-- the number sign, which begins a fragment
abbrev pub number_sign : ℕ → Bool
number_sign = is 35

-- what stands before the first byte that passes, if there is one
abbrev pub part_before : (ℕ → Bool) → List ℕ → Option (List ℕ)
part_before test bs = option_map (λ i. take i bs) (position test bs)

-- what stands after the first byte that passes, if there is one
abbrev pub part_after : (ℕ → Bool) → List ℕ → Option (List ℕ)
part_after test bs = option_map (λ i. drop (i + 1) bs) (position test bs)

-- what may be a scheme by appendix B: some bytes, and no slash among them
abbrev pub is_run : List ℕ → Bool
is_run bs = not (bytes_eq bs []) && not (list_any slash bs)

-- the bytes, where they may be a scheme
abbrev pub run_only : List ℕ → Option (List ℕ)
run_only bs = if is_run bs then Some bs else None

-- the scheme in what stands before the query: the bytes before the first colon
abbrev pub scheme_in : List ℕ → Option (List ℕ)
scheme_in front = option_and_then run_only (part_before colon front)

-- what stands behind the scheme
abbrev pub behind_scheme : List ℕ → List ℕ
behind_scheme front = if is_some (scheme_in front) then after_first colon front else front

-- the authority: what stands between two slashes and the next one
abbrev pub authority_in : List ℕ → Option (List ℕ)
authority_in rest = if starts_with nat_eq rest (codes "//") then Some (before_first slash (drop 2 rest)) else None

-- the path: what stands behind the authority
abbrev pub path_in : List ℕ → List ℕ
path_in rest = if starts_with nat_eq rest (codes "//") then drop (position_or_len slash (drop 2 rest)) (drop 2 rest) else rest

-- the parts of a reference: the fragment is cut off first, then the query
abbrev pub parts_of : List ℕ → IriParts
parts_of text =
    let before_fragment = before_first number_sign text in
    let front = before_first question_mark before_fragment in
    record {
      scheme = scheme_in front;
      authority = authority_in (behind_scheme front);
      path = path_in (behind_scheme front);
      query = part_after question_mark before_fragment;
      fragment = part_after number_sign text;
    }

-- an ASCII letter
abbrev pub is_letter : ℕ → Bool
is_letter b = (nat_le 65 b && nat_le b 90) || (nat_le 97 b && nat_le b 122)

-- an ASCII letter, a digit, `+`, `-` or `.`
abbrev pub is_scheme_byte : ℕ → Bool
is_scheme_byte b = is_letter b || (nat_le 48 b && nat_le b 57) || is 43 b || is 45 b || is 46 b

-- a scheme's form (section 3.1)
abbrev pub is_scheme : List ℕ → Bool
is_scheme [] = false
is_scheme (b ∷ bs) = is_letter b && list_all is_scheme_byte bs

-- the form of an IRI: a scheme stands before the first colon
abbrev pub has_scheme : List ℕ → Bool
has_scheme text = option_map_or is_scheme (part_before colon text) false

-- a byte that may stand in an IRI as JSON-LD takes it: no control, no space, and none of < > " { } | ^ ` \
abbrev pub is_iri_byte : ℕ → Bool
is_iri_byte b = nat_lt 32 b && not (is 60 b || is 62 b || is 34 b || is 123 b || is 125 b || is 124 b || is 94 b || is 96 b || is 92 b)

-- the form of an IRI, and only bytes that may stand in one
abbrev pub is_well_formed : List ℕ → Bool
is_well_formed text = has_scheme text && list_all is_iri_byte text

-- no byte passes
abbrev pub lacks : (ℕ → Bool) → List ℕ → Type 0
lacks test bs = list_any test bs ≡ false

-- no part holds a mark that ends it
pub record EndAtMarks (p : IriParts) : Type 0 where
  pub scheme : IfSome p.scheme (λ s. lacks colon s × lacks slash s × lacks question_mark s × lacks number_sign s)
  pub authority : IfSome p.authority (λ a. lacks slash a × lacks question_mark a × lacks number_sign a)
  pub path : lacks question_mark p.path × lacks number_sign p.path
  pub query : IfSome p.query (lacks number_sign)
