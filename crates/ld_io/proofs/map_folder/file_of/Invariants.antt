use Rattle.std.proofs.Common.{◌≡◌, drop}
use Rattle.std.specs.FinMap.{find}
use Rattle.std.specs.Ordering.{nat_cmp}
use Rattle.std.specs.Cmp.Lexicographic.{slice_cmp}
use Rattle.ld_io.specs.Named.{named_files}
use Rattle.ld_io.proofs.map_folder.file_of.Given as goal

abbrev pub invariant-loop-file : goal.invariant-loop-file
invariant-loop-file l =
    find (slice_cmp nat_cmp) l.name (named_files (drop l.file-index l.files)) ≡ find (slice_cmp nat_cmp) l.name (named_files l.files)
