-- Lists of entries, entry by entry.
use Rattle.std.proofs.Common.{◌≡◌, List, [], ◌∷◌, refl, ap}
use Rattle.std.specs.Prelude.{map as each}
use Rattle.std.specs.List.{AllByRecursion}
use Rattle.op_model.specs.Names.{Name}
use Rattle.op_model.specs.Ops.{Entry, entries_of}
use Rattle.op_model.specs.Running.{entry_in, entries_in}
use Rattle.op_laws.specs.Own.{EntryHasOwn, EntriesHaveOwn}

pub each_own : (names : List Name) (es : List Entry) → EntriesHaveOwn names (entries_of es) → AllByRecursion (EntryHasOwn names) es
each_own names [] own = tt
each_own names (e ∷ es) own = (own.0, each_own names es own.1)

pub each_renamed : (names : List Name) (es : List Entry) → entries_in names (entries_of es) ≡ each (entry_in names) es
each_renamed names [] = refl
each_renamed names (e ∷ es) = ap (λ l. entry_in names e ∷ l) (each_renamed names es)
