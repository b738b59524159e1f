-- What was said on the way so far, as the definitions have it.
use Rattle.subtree_summary.specs.OnTheWay.{sums_view}
use Rattle.chunk_sums.specs.Summing.{OnTheWay}
use Rattle.chunk_sums.specs.declared.summing.Summing.{Summing}

abbrev pub summing_view : Summing → OnTheWay
summing_view s = record { chunk = s.chunk; unnamed = s.unnamed; so_far = sums_view s.sums }
