use Rattle.std.proofs.Common.{◌≡◌, ◌+◌, ◌≤◌, [], length, IfSome}
use Rattle.ctx_store.specs.Index.{lines}
use Rattle.ctx_store.specs.Stored.{filed}
use Rattle.ctx_store.proofs.store.load_files.Given as goal

abbrev pub invariant-loop-rest : goal.invariant-loop-rest
invariant-loop-rest g l =
    record {
      kept : g.F.Folder.files l.folder ≡ g.F.Folder.files l.initial.folder;
      steady : g.F.Folder.faults l.folder ≡ g.F.Folder.faults l.initial.folder;
      behind : IfSome (g.F.Folder.files l.initial.folder) (λ files. filed files l.store (l.number + 1) (lines l.rest) ≡ filed files [] 1 (lines l.index));
      within : l.number + length l.rest ≤ length l.index;
    }

abbrev pub decreases-loop-rest : goal.decreases-loop-rest
decreases-loop-rest g l = length l.rest
