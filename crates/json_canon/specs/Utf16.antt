-- The order of texts by their UTF-16 code units (RFC 8785, section 3.2.3).
use Rattle.std.specs.Prelude.{ℕ, List, flat_map, Bool}
use Rattle.std.specs.Str.{chars}
use Rattle.std.specs.Char.Escape.{encode_utf16}
use Rattle.std.specs.Ordering.{nat_cmp, is_lt}
use Rattle.std.specs.Cmp.Lexicographic.{slice_cmp}
use Rattle.std.specs.declared.cmp.Ordering.{Ordering}

-- The code units of a text, which is given by the bytes of its UTF-8: those of one character after another, each one
-- unit or a surrogate pair (RFC 2781, section 2.1).
abbrev pub code_units : List ℕ → List ℕ
code_units s = flat_map encode_utf16 (chars s)

-- How a text stands to another: by the first unit in which they differ, or else the shorter one comes first.
abbrev pub utf16_order : List ℕ → List ℕ → Ordering
utf16_order a b = slice_cmp nat_cmp (code_units a) (code_units b)

-- The first text comes before the second.
abbrev pub comes_before : List ℕ → List ℕ → Bool
comes_before a b = is_lt (utf16_order a b)
