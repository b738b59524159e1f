-- What notes and chunks of the code stand for.
use Rattle.std.specs.Option.{option_map}
use Rattle.ld_tree.specs.View.{trees_view}
use Rattle.op_model.specs.Noting as noting
use Rattle.op_model.specs.Noting.{spine, range}
use Rattle.op_types.specs.View.{name_view}
use Rattle.chunk_ops.specs.declared.notes.Notes.{Notes}
use Rattle.chunk_ops.specs.declared.chunk.Chunk.{Chunk}
use Rattle.chunk_ops.specs.declared.chunk.Chunk.TheVariants.{Spine, Range}

abbrev pub notes_view : Notes → noting.Notes
notes_view n = record { chunk = n.chunk; unnamed = n.unnamed; ops = n.ops }

abbrev pub chunk_view : Chunk → noting.Chunk
chunk_view (Spine ops) = spine ops
chunk_view (Range items graph subject property reversed) = range (trees_view items.now) (name_view graph) (option_map name_view subject) (option_map name_view property) reversed
