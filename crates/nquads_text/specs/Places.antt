-- What the calls answer in terms of places in a line.
use Rattle.std.specs.Prelude.{◌≡◌, ◌≤◌, ℕ, ⊤, List, length, drop, Result, Ok, Err}
use Rattle.rdf_terms.specs.declared.term.Quad.{Quad}
use Rattle.nquads_text.specs.Statement.{said}
use Rattle.nquads_text.specs.Lines.{with_line, prepended}
use Rattle.nquads_text.specs.declared.line.Stop.{Stop}
use Rattle.nquads_text.specs.declared.line.Stop.TheVariants.{Bad, OutOfMemory}
use Rattle.nquads_text.specs.declared.lines.LineError.{LineError}
use Rattle.nquads_text.specs.declared.lines.LinesStop.{LinesStop}
use Rattle.nquads_text.specs.declared.lines.LinesStop.TheVariants as lines

-- The reading stops at this place.
abbrev pub StopsAt : {T : Type 0} → List ℕ → Stop → Result T (List ℕ) → Type 0
StopsAt line (Bad at) read = (at ≤ length line) × (read ≡ Err (drop at line))
StopsAt line OutOfMemory read = ⊤

-- A place in the line, where what is left is what was read.
abbrev pub IsPlace : List ℕ → Result ℕ Stop → Result (List ℕ) (List ℕ) → Type 0
IsPlace line (Ok at) read = (at ≤ length line) × (read ≡ Ok (drop at line))
IsPlace line (Err stop) read = StopsAt line stop read

-- A part of a statement, and the place behind it.
abbrev pub IsPart : {T : Type 0} → List ℕ → Result (T × ℕ) Stop → Result (T × List ℕ) (List ℕ) → Type 0
IsPart line (Ok part) read = (part.1 ≤ length line) × (read ≡ Ok (part.0, drop part.1 line))
IsPart line (Err stop) read = StopsAt line stop read

-- All that a line says.
abbrev pub IsWhole : {T : Type 0} → List ℕ → Result T Stop → Result T (List ℕ) → Type 0
IsWhole line (Ok whole) read = read ≡ Ok whole
IsWhole line (Err stop) read = StopsAt line stop read

-- The first bad line, unless memory was refused.
abbrev pub IsBad : LinesStop → Result (List Quad) LineError → Type 0
IsBad (lines.Bad e) read = read ≡ Err e
IsBad lines.OutOfMemory read = ⊤

-- The quads after a line was read: what it says is behind them, or the line is bad and they don't count.
abbrev pub IsAdded : ℕ → List ℕ → Result (Unit {0}) LinesStop → List Quad → List Quad → Type 0
IsAdded number line (Ok _) old new = (more : Result (List Quad) LineError) → prepended old (with_line number line (said line) more) ≡ prepended new more
IsAdded number line (Err stop) old new = (more : Result (List Quad) LineError) → IsBad stop (with_line number line (said line) more)
