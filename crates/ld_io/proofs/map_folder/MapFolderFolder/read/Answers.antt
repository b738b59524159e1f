use Rattle.std.proofs.Common.{◌≡◌, ◌∙◌, ap}
use Rattle.std.specs.FinMap.{find}
use Rattle.std.specs.Ordering.{nat_cmp}
use Rattle.std.specs.Cmp.Lexicographic.{slice_cmp}
use Rattle.ld_io.specs.Named.{named_files}
use Rattle.ld_io.proofs.FileLookup.{IsFileAt-first}
use Rattle.ld_io.proofs.map_folder.MapFolderFolder.read.Goals as goal

pub returns-clause-found : goal.returns-clause-found
returns-clause-found c =
    let same : named_files c.as_slice-2.result.now ≡ c.args.self.now.files = ap named_files c.as_slice-2.ensures.value ∙ ap (λ s. s.files) c.self.view_is in
    let first = c.file_of.ensures ∙ ap (find (slice_cmp nat_cmp) c.args.name.now) same in
    IsFileAt-first c.args.self.now.files c.args.name.now c.copy_of.result (rw first at c.copy_of.ensures.ok)
