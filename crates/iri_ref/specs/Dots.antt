-- The segments of a path, and the removal of dots (RFC 3986, section 5.2.4).
use Rattle.std.specs.Prelude.{ℕ, Bool, ◌||◌, if◌then◌else◌, List, [], ◌∷◌, codes, fold, reverse}
use Rattle.std.specs.List.{slice_split, join_with_byte}
use Rattle.std.specs.Str.{bytes_eq}
use Rattle.iri_ref.specs.Parts.{slash}

-- what stands between the slashes of a path
abbrev pub segments_of : List ℕ → List (List ℕ)
segments_of path = slice_split slash path

-- a segment that is one dot
abbrev pub is_dot : List ℕ → Bool
is_dot segment = bytes_eq segment (codes ".")

-- a segment that is two dots
abbrev pub is_dot_dot : List ℕ → Bool
is_dot_dot segment = bytes_eq segment (codes "..")

-- a segment that is one dot or two
abbrev pub is_dots : List ℕ → Bool
is_dots segment = is_dot segment || is_dot_dot segment

-- dots at the end leave the slash before them, so an empty segment follows them
abbrev pub closed : List (List ℕ) → List (List ℕ)
closed [] = []
closed (s ∷ []) = if is_dots s then s ∷ [] ∷ [] else s ∷ []
closed (s ∷ t ∷ ss) = s ∷ closed (t ∷ ss)

-- dots at the head, with no slash before them, go with the slash behind them
abbrev pub without_leading_dots : List (List ℕ) → List (List ℕ)
without_leading_dots [] = []
without_leading_dots (s ∷ ss) = if is_dots s then without_leading_dots ss else s ∷ ss

-- the segments without the last, which stands at the head; the first segment is emptied, and its place stays
abbrev pub without_last : List (List ℕ) → List (List ℕ)
without_last [] = []
without_last (s ∷ []) = [] ∷ []
without_last (s ∷ t ∷ ss) = t ∷ ss

-- a segment `.` disappears, and a segment `..` removes the one before it
abbrev pub placed : List (List ℕ) → List ℕ → List (List ℕ)
placed kept s = if is_dot s then kept else if is_dot_dot s then without_last kept else s ∷ kept

-- what is kept of the segments, each put behind those before it
abbrev pub kept_of : List (List ℕ) → List (List ℕ)
kept_of [] = []
kept_of (s ∷ ss) = reverse (fold placed (s ∷ []) ss)

-- the path without its dots
abbrev pub remove_dots : List ℕ → List ℕ
remove_dots path = join_with_byte 47 (kept_of (without_leading_dots (closed (segments_of path))))
