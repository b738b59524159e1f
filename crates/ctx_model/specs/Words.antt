-- Small tests of texts and values, and the words that a local context is looked at for.
use Rattle.std.specs.Prelude.{ℕ, Bool, true, false, ◌||◌, ◌&&◌, List, [], ◌∷◌, Option, Some, None, length, nat_lt, slice_range, ◌-◌}
use Rattle.std.specs.List.{list_any}
use Rattle.std.specs.Option.{option_map_or}
use Rattle.std.specs.Str.{bytes_eq}
use Rattle.ld_model.specs.Tree.{Tree, truth}
use Rattle.ld_model.specs.Iri.{has_scheme}
use Rattle.ld_model.specs.Label.{is_blank}
use Rattle.iri_ref.specs.Parts.{is, colon, slash}
use Rattle.ctx_types.specs.Context.{Text}
use Rattle.ctx_types.specs.Expansion.{is_keyword}
use Rattle.ctx_types.specs.Same.{same_option}

-- The text is one of these.
abbrev pub among : Text → List Text → Bool
among t ts = list_any (λ u. bytes_eq t u) ts

-- The IRI mapping or outcome is there, and has the form of an IRI.
abbrev pub is_iri : Option Text → Bool
is_iri o = option_map_or has_scheme o false

-- It has the form of an IRI, or is a blank node identifier.
abbrev pub is_iri_or_blank : Option Text → Bool
is_iri_or_blank None = false
is_iri_or_blank (Some t) = has_scheme t || is_blank t

-- It is a keyword.
abbrev pub is_some_keyword : Option Text → Bool
is_some_keyword o = option_map_or is_keyword o false

-- Both are null, or both are the same text.
abbrev pub same_text : Option Text → Option Text → Bool
same_text a b = same_option bytes_eq a b

-- The term has a colon that is neither its first nor its last character.
abbrev pub has_inner_colon : Text → Bool
has_inner_colon t = nat_lt 2 (length t) && list_any colon (slice_range t 1 (length t - 1))

abbrev pub has_slash : Text → Bool
has_slash t = list_any slash t

abbrev pub has_colon_or_slash : Text → Bool
has_colon_or_slash t = list_any colon t || has_slash t

-- A byte of the set gen-delims (RFC 3986, section 2.2).
abbrev pub is_delimiter : ℕ → Bool
is_delimiter b = is 58 b || is 47 b || is 63 b || is 35 b || is 91 b || is 93 b || is 64 b

-- The last character is one of them.
abbrev pub ends_in_delimiter : Text → Bool
ends_in_delimiter [] = false
ends_in_delimiter (b ∷ []) = is_delimiter b
ends_in_delimiter (b ∷ c ∷ bs) = ends_in_delimiter (c ∷ bs)

-- The value is absent, or a truth value.
abbrev pub is_absent_or_truth : Option Tree → Bool
is_absent_or_truth None = true
is_absent_or_truth (Some (truth b)) = true
is_absent_or_truth (Some _) = false

-- The value is the truth value true.
abbrev pub is_true : Option Tree → Bool
is_true (Some (truth b)) = b
is_true _ = false
