-- What a call of the program keeps.
use Rattle.std.specs.Prelude.{ℕ, ◌≡◌, ◌⊎◌, List, Option, Some, IfSome, Bool, ⊤}
use Rattle.std.specs.Io.KnownBytes.{Appends, IsAtEnd}
use Rattle.ld_io.specs.Faults.{Rose}
use Rattle.ld_io.specs.Sinks.{IsFinished, AppendsFront}
use Rattle.ld_run.specs.declared.status.Status.{Status}
use Rattle.ld_run.specs.declared.status.Status.TheVariants as status
use Rattle.ld_run.specs.declared.status.Status.TheVariants.{Done, Refused, Usage, ReadFault, FolderFault, WriteFault, TooLarge, OutOfMemory}
use Rattle.ld_run.specs.Lines.{line_of}
use Rattle.ld_run.specs.Out.{Out, bytes, refused, usage, too_large}

-- What a call did to a sink: its bytes before and after, whether it is finished, and its counts of faults.
pub record Sunk : Type 0 where
  pub old : Option (List ℕ)
  pub new : Option (List ℕ)
  pub finished : Option Bool
  pub before : ℕ
  pub now : ℕ

-- That of a sink with these meanings.
abbrev pub sunk : {W : Type 0} → (W → Option (List ℕ)) → (W → Option Bool) → (W → ℕ) → W → W → Sunk
sunk held finished faults old new = record { old = held old; new = held new; finished = finished new; before = faults old; now = faults new }

-- A sink's count of faults rose.
abbrev pub HasRisen : Sunk → Type 0
HasRisen s = Rose s.before s.now

-- The line of the status was appended, and the sink is finished.
abbrev pub SaysLine : Status → Sunk → Type 0
SaysLine status err = Appends err.old err.new (line_of status) × IsFinished err.finished

-- The bytes that were due are appended.
abbrev pub WritesDue : Option Out → Sunk → Type 0
WritesDue due out = IfSome due (λ d. (b : List ℕ) × (d ≡ bytes b) × Appends out.old out.new b)

-- `Done`: the due bytes are appended, the source is at its end, and the output is finished.
pub record IsDone (due : Option Out) (left : Option (List ℕ)) (out : Sunk) : Type 0 where
  pub written : WritesDue due out
  pub read : IsAtEnd left
  pub finished : IsFinished out.finished

-- A refusal, `Usage` and `TooLarge` come only where they are due, say their line and leave the output the same. `Usage` rests on the words, so it comes only where it is told to be due.
abbrev pub IsRefused : Status → Option Out → Sunk → Type 0 → Type 0
IsRefused (Refused r) due err same = IfSome due (λ d. d ≡ refused r) × SaysLine (status.Refused r) err × same
IsRefused Usage due err same = (due ≡ Some usage) × SaysLine status.Usage err × same
IsRefused TooLarge due err same = IfSome due (λ d. d ≡ too_large) × SaysLine status.TooLarge err × same
IsRefused _ due err same = ⊤

-- Where no bytes are due, the output stays as it was.
abbrev pub OutStays : Out → Type 0 → Type 0
OutStays (bytes b) same = ⊤
OutStays _ same = same

-- Some front of the due bytes.
abbrev pub WritesFront : Out → Sunk → Type 0
WritesFront (bytes b) out = AppendsFront out.old out.new b
WritesFront _ out = ⊤

-- When the line of a status may stand, in part or whole, in the error output after a fault of writing: by what is due, and by the causes
-- of a fault of the source and of the folder.
abbrev pub MaySay : Option Out → Type 0 → Type 0 → Sunk → Status → Type 0
MaySay due source folder out Done = ⊥
MaySay due source folder out (Refused r) = IfSome due (λ d. d ≡ refused r)
MaySay due source folder out Usage = due ≡ Some usage
MaySay due source folder out TooLarge = IfSome due (λ d. d ≡ too_large)
MaySay due source folder out ReadFault = source
MaySay due source folder out FolderFault = folder
MaySay due source folder out WriteFault = HasRisen out
MaySay due source folder out OutOfMemory = ⊤

-- Some front of the line of a status that may stand there.
abbrev pub SaysFront : Option Out → Type 0 → Type 0 → Sunk → Sunk → Type 0
SaysFront due source folder out err = (s : Status) × MaySay due source folder out s × AppendsFront err.old err.new (line_of s)

-- The status of what is due.
abbrev pub status_for : Out → Status
status_for (bytes b) = Done
status_for (refused r) = status.Refused r
status_for usage = status.Usage
status_for too_large = status.TooLarge

abbrev pub IsDueStatus : Status → Option Out → Type 0
IsDueStatus status due = IfSome due (λ d. status ≡ status_for d)

-- The line of a status was said, or it couldn't be.
abbrev pub Said : Status → Status → Sunk → Type 0
Said result status err = ((result ≡ status) × SaysLine status err) ⊎ ((result ≡ WriteFault) × HasRisen err)

-- What writing the due bytes did: all went well and nothing was said, or some front was written and the fault was said.
abbrev pub Wrote : Status → List ℕ → Sunk → Sunk → Type 0 → Type 0
Wrote Done b out err same = Appends out.old out.new b × IsFinished out.finished × same
Wrote WriteFault b out err same =
    AppendsFront out.old out.new b × HasRisen out × AppendsFront err.old err.new (line_of WriteFault) × ((HasRisen err → ⊥) → SaysLine WriteFault err)
Wrote _ b out err same = ⊥

-- The line of a status, of which it appended some front, was said or couldn't be.
abbrev pub SaidAs : Status → Status → Sunk → Type 0
SaidAs result status err = Said result status err × AppendsFront err.old err.new (line_of status)
