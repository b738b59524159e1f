use Rattle.std.proofs.Common.{◌≡◌, ◌∙◌, ◌+◌, sym, ap, cond, Some}
use Rattle.std.specs.Prelude.{string_bytes}
use Rattle.std.specs.Str.{bytes_eq}
use Rattle.ld_io.proofs.FileLookup.{found_from, found_from-step}
use Rattle.ld_io.proofs.map_folder.file_of.Goals as goal

pub returns-then-eq : goal.returns-then-eq
returns-then-eq c =
    let files = c.args.files.now in
    let name = c.args.name.now in
    let tested : c.eq.result ≡ bytes_eq name (string_bytes c.file-item.result.0) = cc in
    let step = found_from-step files c.loop-file.file-index c.file-item.result name c.eq.result c.loop-file-test.true c.file-item.is tested in
    let hit = ap (λ b. cond b (Some c.file-item.result.1.items) (found_from files (c.loop-file.file-index + 1) name)) c.if-eq.true in
    sym (step ∙ hit) ∙ c.loop-file.invariant

pub loop-file-preserved : goal.loop-file-preserved
loop-file-preserved c =
    let files = c.args.files.now in
    let name = c.args.name.now in
    let tested : c.eq.result ≡ bytes_eq name (string_bytes c.file-item.result.0) = cc in
    let step = found_from-step files c.loop-file.file-index c.file-item.result name c.eq.result c.loop-file-test.true c.file-item.is tested in
    let miss = ap (λ b. cond b (Some c.file-item.result.1.items) (found_from files (c.loop-file.file-index + 1) name)) c.if-eq.false in
    sym (step ∙ miss) ∙ c.loop-file.invariant
