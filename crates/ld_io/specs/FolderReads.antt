-- What a folder answers for a file that it reads.
use Rattle.std.specs.Prelude.{ℕ, Option, None, Result, Ok, Err, Vec}
use Rattle.std.specs.declared.alloc.Global.{Global}
use Rattle.std.specs.declared.io.ErrorKind.{ErrorKind}
use Rattle.std.specs.declared.io.ErrorKind.TheVariants.{NotFound, OutOfMemory}
use Rattle.ld_io.specs.declared.traits.FolderStop.{FolderStop}
use Rattle.ld_io.specs.declared.traits.FolderStop.TheVariants as stop
use Rattle.ld_io.specs.declared.whole.ReadStop.{ReadStop}
use Rattle.ld_io.specs.declared.whole.ReadStop.TheVariants as read

-- a file that can't be opened: it isn't there, there is no memory, or the folder failed
abbrev pub unopened : ErrorKind → Result (Option (Vec ℕ Global)) FolderStop
unopened NotFound = Ok None
unopened OutOfMemory = Err stop.OutOfMemory
unopened _ = Err stop.Failed

-- a file that can't be read to its end within the limit: there is no memory, or the folder failed
abbrev pub unread : ReadStop → FolderStop
unread read.OutOfMemory = stop.OutOfMemory
unread _ = stop.Failed
