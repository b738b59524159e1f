use Rattle.std.proofs.Common.{refl}
use Rattle.json.proofs.OnLiterals.{json_on_literals}
use Rattle.ld_json.proofs.writing.+write_tree.Goals as goal

pub number-requires : goal.number-requires
unfolding json_on_literals
number-requires t c = refl
