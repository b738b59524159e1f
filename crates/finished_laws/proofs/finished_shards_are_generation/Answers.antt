use Rattle.std.proofs.Common.{ap, ◌∙◌, length}
use Rattle.op_model.specs.Noting.{ops_of_chunks}
use Rattle.sum_model.specs.Sums.{placed_chunks}
use Rattle.shard_model.specs.Joined.{with_count}
use Rattle.shard_laws.specs.Laws.{labels_by, ops_by_chunk, shards_of}
use Rattle.division_laws.proofs.Divides.{shards_of_divisions}
use Rattle.label_repair.proofs.Finished.{finished_is_joined}
use Rattle.finished_laws.proofs.finished_shards_are_generation.Goals as goal

pub returns : goal.returns
returns c shards some chunks items divided few =
    let names = labels_by (ops_of_chunks 0 chunks) in
    ap (with_count (length names)) (finished_is_joined (shards_of names shards (placed_chunks 0 (ops_by_chunk 0 chunks))))
    ∙ shards_of_divisions shards some chunks items divided few
