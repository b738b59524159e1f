-- What is said where nothing is written.
use Rattle.std.proofs.Common.{◌≡◌, ℕ, arith, List, Bool, Option, Some, None, IfSome, inl, inr, ◌⊎◌, subst}
use Rattle.std.proofs.KnownBytes.{Appends-nil}
use Rattle.ld_io.specs.Faults.{Rose}
use Rattle.ld_run.specs.declared.status.Status.{Status}
use Rattle.ld_run.specs.declared.status.Status.TheVariants as status
use Rattle.ld_run.specs.declared.stop.Stop.{Stop}
use Rattle.ld_run.specs.declared.stop.Stop.TheVariants.{Refused, Usage, ReadFault, FolderFault, TooLarge, OutOfMemory}
use Rattle.ld_run.specs.Out.{Out, bytes, refused, usage, too_large}
use Rattle.ld_run.specs.Stops.{status_of_stop, IsDueStop, CountsSource, CountsFolder}
use Rattle.ld_run.specs.Promise.{Sunk, WritesFront, MaySay, SaysFront, SaidAs}

-- The line of a stop may be said.
may_say : (stop : Stop) (due : Option Out) (s₀ s₁ f₀ f₁ : ℕ) (out : Sunk) → IsDueStop stop due → CountsSource stop s₀ s₁ → CountsFolder stop f₀ f₁
    → MaySay due (Rose s₀ s₁) (Rose f₀ f₁) out (status_of_stop stop)
may_say (Refused r) due s₀ s₁ f₀ f₁ out is source folder = is
may_say Usage due s₀ s₁ f₀ f₁ out is source folder = is
may_say ReadFault due s₀ s₁ f₀ f₁ out is source folder = source
may_say FolderFault due s₀ s₁ f₀ f₁ out is source folder = folder
may_say TooLarge due s₀ s₁ f₀ f₁ out is source folder = is
may_say OutOfMemory due s₀ s₁ f₀ f₁ out is source folder = tt

by_line : (result : Status) (stop : Stop) (due : Option Out) (source folder : Type 0) (out err : Sunk) → MaySay due source folder out (status_of_stop stop)
    → SaidAs result (status_of_stop stop) err ⊎ SaidAs result status.OutOfMemory err → SaysFront due source folder out err
by_line result stop due source folder out err may (inl said) = (status_of_stop stop, may, said.1)
by_line result stop due source folder out err may (inr said) = (status.OutOfMemory, tt, said.1)

pub says : (result : Status) (stop : Stop) (due : Option Out) (s₀ s₁ f₀ f₁ : ℕ) (out err : Sunk) (s : Status) → IsDueStop stop due → CountsSource stop s₀ s₁ → CountsFolder stop f₀ f₁
    → s ≡ status_of_stop stop → SaidAs result s err ⊎ SaidAs result status.OutOfMemory err → SaysFront due (Rose s₀ s₁) (Rose f₀ f₁) out err
says result stop due s₀ s₁ f₀ f₁ out err s is source folder same said =
    by_line result stop due (Rose s₀ s₁) (Rose f₀ f₁) out err (may_say stop due s₀ s₁ f₀ f₁ out is source folder)
    (subst (λ (x : Status). SaidAs result x err ⊎ SaidAs result status.OutOfMemory err) same said)

-- An output that nothing was written to has the empty front of what was due.
pub no_front : (due : Option Out) (held : Option (List ℕ)) (finished : Option Bool) (before now : ℕ)
    → IfSome due (λ d. WritesFront d (record { old = held; new = held; finished = finished; before = before; now = now }))
no_front None held finished before now = tt
no_front (Some (bytes b)) held finished before now = (0, omega arith, Appends-nil held)
no_front (Some (refused r)) held finished before now = tt
no_front (Some usage) held finished before now = tt
no_front (Some too_large) held finished before now = tt
