-- What marks of the code, and what was divided so far, stand for.
use Rattle.std.specs.Prelude.{ℕ, List, Option, map as each}
use Rattle.division_model.specs.Dividing as model
use Rattle.division_model.specs.Dividing.{opened, begins, continues}
use Rattle.op_model.specs.Noting as noting
use Rattle.chunk_ops.specs.Views.{chunk_view}
use Rattle.chunk_ops.specs.declared.chunk.Chunk.{Chunk}
use Rattle.division_cut.specs.declared.division.Division.{Division}
use Rattle.division_cut.specs.declared.marking.Mark.{Mark}
use Rattle.division_cut.specs.declared.marking.Mark.TheVariants.{Opened, Begins, Continues}
use Rattle.division_cut.specs.declared.marking.Marked.{Marked}

abbrev pub mark_view : Mark → model.Mark
mark_view Opened = opened
mark_view Begins = begins
mark_view Continues = continues

abbrev pub marked_view : Marked → model.Mark × Option ℕ
marked_view m = (mark_view m.mark, m.sum)

abbrev pub division_view : Division → model.Division
division_view d = record { chunks = each chunk_view d.chunks.items; notes = record { chunk = d.number; unnamed = d.unnamed; ops = d.ops } }

abbrev pub chunks_view : List Chunk → List noting.Chunk
chunks_view cs = each chunk_view cs
