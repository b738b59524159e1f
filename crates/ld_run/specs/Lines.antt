-- The line and the number of each status.
use Rattle.std.specs.Prelude.{ℕ, List, [], ◌∷◌, ◌++◌, codes}
use Rattle.std.specs.Fmt.{decimal}
use Rattle.case_tables.specs.Code.{code_name}
use Rattle.ld_json.specs.Pointer.{pointer}
use Rattle.ld_run.specs.declared.status.Refusal.{Refusal}
use Rattle.ld_run.specs.declared.status.Refusal.TheVariants.{IndexLine, Missing, Syntax, Number, VersionNumber, Expansion, ConflictingIndexes}
use Rattle.ld_run.specs.declared.status.Status.{Status}
use Rattle.ld_run.specs.declared.status.Status.TheVariants.{Done, Refused, Usage, ReadFault, FolderFault, WriteFault, TooLarge, OutOfMemory}

-- The line of a refusal: a number by its byte, an error by its code, a place by its pointer, a node by its id.
abbrev pub refusal_line : Refusal → List ℕ
refusal_line (IndexLine line) = codes "error: context index line " ++ (decimal line ++ 10 ∷ [])
refusal_line (Missing line) = codes "error: missing context file at index line " ++ (decimal line ++ 10 ∷ [])
refusal_line Syntax = codes "error: syntax\n"
refusal_line (Number at) = codes "error: number at byte " ++ (decimal at ++ 10 ∷ [])
refusal_line (VersionNumber place) = codes "error: version number at " ++ (pointer place ++ 10 ∷ [])
refusal_line (Expansion code place) = codes "error: " ++ (code_name code ++ (codes " at " ++ (pointer place ++ 10 ∷ [])))
refusal_line (ConflictingIndexes node first second) = codes "error: conflicting indexes at " ++ (node ++ 10 ∷ [])

-- The line on the error output.
abbrev pub line_of : Status → List ℕ
line_of Done = []
line_of (Refused r) = refusal_line r
line_of Usage = codes "error: usage\n"
line_of ReadFault = codes "error: read fault\n"
line_of FolderFault = codes "error: folder fault\n"
line_of WriteFault = codes "error: write fault\n"
line_of TooLarge = codes "error: input too large\n"
line_of OutOfMemory = codes "error: out of memory\n"

-- The exit status.
abbrev pub number_of : Status → ℕ
number_of Done = 0
number_of (Refused r) = 1
number_of Usage = 2
number_of ReadFault = 3
number_of FolderFault = 4
number_of WriteFault = 5
number_of TooLarge = 6
number_of OutOfMemory = 7
