-- The lines of a text, and what they say together (RDF 1.1 N-Quads, section 4: EOL).
use Rattle.std.specs.Prelude.{ℕ, ◌+◌, ◌-◌, ◌==◌, ◌||◌, ◌&&◌, Bool, true, false, if◌then◌else◌, List, [], ◌∷◌, ◌++◌, length, Option, Some, None, Result, Ok, Err}
use Rattle.rdf_terms.specs.declared.term.Quad.{Quad}
use Rattle.nquads_text.specs.declared.lines.LineError.{LineError}
use Rattle.nquads_text.specs.Statement.{said}

-- LF or CR
abbrev pub is_line_end : ℕ → Bool
is_line_end b = b == 10 || b == 13

-- The lines with this byte in front of the first.
abbrev pub in_front : ℕ → List (List ℕ) → List (List ℕ)
in_front b [] = (b ∷ []) ∷ []
in_front b (l ∷ ls) = (b ∷ l) ∷ ls

-- The lines of a text. A line ends at CR, at LF, at CR LF taken together, or at the end. `returned` says that a CR which
-- ended a line stands right before, so that an LF here belongs to it.
abbrev pub lines_from : Bool → List ℕ → List (List ℕ)
lines_from returned [] = []
lines_from true (b ∷ bs) = if b == 10 then lines_from false bs else (if b == 13 then [] ∷ lines_from true bs else in_front b (lines_from false bs))
lines_from false (b ∷ bs) = if b == 10 then [] ∷ lines_from false bs else (if b == 13 then [] ∷ lines_from true bs else in_front b (lines_from false bs))

abbrev pub lines : List ℕ → List (List ℕ)
lines bs = lines_from false bs

-- These quads, in front of the others.
abbrev pub prepended : List Quad → Result (List Quad) LineError → Result (List Quad) LineError
prepended quads (Ok more) = Ok (quads ++ more)
prepended quads (Err e) = Err e

-- The column, counted in bytes from 1, of what stands at the end of a line.
abbrev pub column_of : List ℕ → List ℕ → ℕ
column_of line rest = (length line - length rest) + 1

-- What a line of that number says, in front of what the lines behind it say.
abbrev pub with_line : ℕ → List ℕ → Result (Option Quad) (List ℕ) → Result (List Quad) LineError → Result (List Quad) LineError
with_line number line (Ok None) more = more
with_line number line (Ok (Some quad)) more = prepended (quad ∷ []) more
with_line number line (Err rest) more = Err (record { line = number; column = column_of line rest })

-- The quads of the lines in their order, or the number and the column of the first bad line. `number` is the first line's.
abbrev pub read_from : ℕ → List (List ℕ) → Result (List Quad) LineError
read_from number [] = Ok []
read_from number (l ∷ ls) = with_line number l (said l) (read_from (number + 1) ls)

-- How many bytes end a line here: CR LF are taken together.
abbrev pub end_len : List ℕ → ℕ
end_len [] = 0
end_len (b ∷ []) = 1
end_len (b ∷ c ∷ bs) = if b == 13 && c == 10 then 2 else 1
