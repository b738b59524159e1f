-- Why there is nothing to write, inside the call.
use Rattle.std.specs.Prelude.{ℕ, ◌≡◌, Bool, true, false, List, Option, Some, IfSome, Result, Ok, Err, Vec, ⊤}
use Rattle.std.specs.declared.alloc.Global.{Global}
use Rattle.ld_io.specs.Faults.{Rose}
use Rattle.ld_io.specs.declared.whole.ReadStop.{ReadStop}
use Rattle.ld_io.specs.declared.whole.ReadStop.TheVariants as read
use Rattle.ld_json.specs.declared.reading.ReadRefusal.{ReadRefusal}
use Rattle.ld_json.specs.declared.reading.ReadRefusal.TheVariants as text
use Rattle.ctx_store.specs.declared.store.StoreRefusal.{StoreRefusal}
use Rattle.ctx_store.specs.declared.store.StoreRefusal.TheVariants as store
use Rattle.tree_expand.specs.declared.stop.ExpandStop.{ExpandStop}
use Rattle.tree_expand.specs.declared.stop.ExpandStop.TheVariants as expand
use Rattle.node_types.specs.declared.generated.MapStop.{MapStop}
use Rattle.node_types.specs.declared.generated.MapStop.TheVariants as map
use Rattle.ld_run.specs.declared.status.Refusal.{Refusal}
use Rattle.ld_run.specs.declared.status.Refusal.TheVariants as refusal
use Rattle.ld_run.specs.declared.status.Status.{Status}
use Rattle.ld_run.specs.declared.status.Status.TheVariants as status
use Rattle.ld_run.specs.declared.stop.Stop.{Stop}
use Rattle.ld_run.specs.declared.stop.Stop.TheVariants.{Refused, Usage, ReadFault, FolderFault, TooLarge, OutOfMemory}
use Rattle.ld_run.specs.Out.{Out, bytes, refused, usage, too_large}

-- The status with which the call ends.
abbrev pub status_of_stop : Stop → Status
status_of_stop (Refused r) = status.Refused r
status_of_stop Usage = status.Usage
status_of_stop ReadFault = status.ReadFault
status_of_stop FolderFault = status.FolderFault
status_of_stop TooLarge = status.TooLarge
status_of_stop OutOfMemory = status.OutOfMemory

-- The refusals of the folder's index.
abbrev pub is_of_index : Refusal → Bool
is_of_index (refusal.IndexLine line) = true
is_of_index (refusal.Missing line) = true
is_of_index _ = false

-- The status is a refusal of the folder's index.
abbrev pub refuses_index : Status → Bool
refuses_index (status.Refused r) = is_of_index r
refuses_index _ = false

-- What a refusal of the folder is to the call.
abbrev pub stop_of_store : StoreRefusal → Stop
stop_of_store (store.IndexLine line) = Refused (refusal.IndexLine line)
stop_of_store (store.Missing line) = Refused (refusal.Missing line)
stop_of_store store.FolderFault = FolderFault
stop_of_store store.OutOfMemory = OutOfMemory

-- What a stop of reading the source is to the call.
abbrev pub stop_of_read : ReadStop → Stop
stop_of_read read.Failed = ReadFault
stop_of_read read.TooLarge = TooLarge
stop_of_read read.OutOfMemory = OutOfMemory

-- What a refusal of the text is to the call.
abbrev pub stop_of_refusal : ReadRefusal → Stop
stop_of_refusal text.Syntax = Refused refusal.Syntax
stop_of_refusal (text.Number at) = Refused (refusal.Number at)
stop_of_refusal (text.VersionNumber place) = Refused (refusal.VersionNumber place)
stop_of_refusal text.OutOfMemory = OutOfMemory

-- What a stop of expansion is to the call.
abbrev pub stop_of_expansion : ExpandStop → Stop
stop_of_expansion (expand.Refused code place) = Refused (refusal.Expansion code place)
stop_of_expansion expand.OutOfMemory = OutOfMemory

-- What a stop of node map generation is to the call.
abbrev pub stop_of_map : MapStop → Stop
stop_of_map (map.Conflict c) = Refused (refusal.ConflictingIndexes c.node c.first c.second)
stop_of_map map.OutOfMemory = OutOfMemory

-- When a stage of the work stops so.
abbrev pub IsStopOf : {X : Type 0} → Stop → Result X Refusal → Type 0
IsStopOf (Refused r) d = d ≡ Err r
IsStopOf OutOfMemory d = ⊤
IsStopOf _ d = ⊥

-- The answer of a stage is what its definition gives, or a stop that may come.
abbrev pub Answers : {X : Type 0} → Result X Stop → Result X Refusal → Type 0
Answers (Ok x) d = d ≡ Ok x
Answers (Err stop) d = IsStopOf stop d

-- When reading the source and what is made of it stop so.
abbrev pub IsInputStop : Stop → Option Out → Type 0
IsInputStop (Refused r) due = IfSome due (λ d. d ≡ refused r)
IsInputStop TooLarge due = IfSome due (λ d. d ≡ too_large)
IsInputStop ReadFault due = ⊤
IsInputStop OutOfMemory due = ⊤
IsInputStop _ due = ⊥

-- When the call stops so.
abbrev pub IsDueStop : Stop → Option Out → Type 0
IsDueStop (Refused r) due = IfSome due (λ d. d ≡ refused r)
IsDueStop Usage due = due ≡ Some usage
IsDueStop TooLarge due = IfSome due (λ d. d ≡ too_large)
IsDueStop ReadFault due = ⊤
IsDueStop FolderFault due = ⊤
IsDueStop OutOfMemory due = ⊤

-- The bytes are the due ones.
abbrev pub AreDue : Vec ℕ Global → Option Out → Type 0
AreDue v due = IfSome due (λ d. d ≡ bytes v.items)

-- Only a fault of the source raises its count.
abbrev pub CountsSource : Stop → ℕ → ℕ → Type 0
CountsSource ReadFault before now = Rose before now
CountsSource _ before now = now ≡ before

-- Only a fault of the folder raises its count.
abbrev pub CountsFolder : Stop → ℕ → ℕ → Type 0
CountsFolder FolderFault before now = Rose before now
CountsFolder _ before now = now ≡ before
