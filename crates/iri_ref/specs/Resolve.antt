-- A reference resolved against a base (RFC 3986, sections 5.2.2, strict, 5.2.3 and 5.3).
use Rattle.std.specs.Prelude.{ℕ, Bool, ◌&&◌, if◌then◌else◌, List, [], ◌∷◌, ◌++◌, Option, Some, None, is_some, nat_eq, codes}
use Rattle.std.specs.Option.{option_or}
use Rattle.std.specs.List.{list_any, starts_with}
use Rattle.std.specs.Str.{bytes_eq}
use Rattle.iri_ref.specs.Parts.{IriParts, parts_of, slash}
use Rattle.iri_ref.specs.Dots.{remove_dots}

-- a path as far as its last slash
abbrev pub directory_of : List ℕ → List ℕ
directory_of [] = []
directory_of (b ∷ bs) = if list_any slash (b ∷ bs) then b ∷ directory_of bs else []

-- a path behind the base's (section 5.2.3)
abbrev pub merged : IriParts → List ℕ → List ℕ
merged base path = (if is_some base.authority && bytes_eq base.path [] then codes "/" else directory_of base.path) ++ path

-- a path that begins with a slash
abbrev pub is_absolute : List ℕ → Bool
is_absolute path = starts_with nat_eq path (codes "/")

-- the parts of the target (section 5.2.2)
abbrev pub target_of : IriParts → IriParts → IriParts
target_of base reference =
    if is_some reference.scheme then record reference { path = remove_dots reference.path }
    else if is_some reference.authority then record reference { scheme = base.scheme; path = remove_dots reference.path }
    else if bytes_eq reference.path [] then record base { query = option_or reference.query base.query; fragment = reference.fragment }
    else record base { path = remove_dots (if is_absolute reference.path then reference.path else merged base reference.path); query = reference.query; fragment = reference.fragment }

-- a part behind its mark, where there is one
abbrev pub marked : List ℕ → Option (List ℕ) → List ℕ
marked mark None = []
marked mark (Some part) = mark ++ part

-- the scheme with its colon
abbrev pub scheme_text : Option (List ℕ) → List ℕ
scheme_text None = []
scheme_text (Some scheme) = scheme ++ codes ":"

-- the parts put together (section 5.3)
abbrev pub text_of : IriParts → List ℕ
text_of p = scheme_text p.scheme ++ marked (codes "//") p.authority ++ p.path ++ marked (codes "?") p.query ++ marked (codes "#") p.fragment

-- the reference, resolved
abbrev pub resolved : List ℕ → List ℕ → List ℕ
resolved base reference = text_of (target_of (parts_of base) (parts_of reference))
