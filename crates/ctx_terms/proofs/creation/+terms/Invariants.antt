-- Each call goes into fewer calls that may be under way, or down a rank.
use Rattle.std.proofs.Common.{◌+◌, ◌*◌}
use Rattle.ctx_terms.proofs.creation.+terms.Given as goal

abbrev pub decreases-create : goal.decreases-create
decreases-create g l = 3 * l.local.now.room + 1

abbrev pub decreases-create_undefined : goal.decreases-create_undefined
decreases-create_undefined g l = 3 * l.local.now.room + 0

abbrev pub decreases-create_undefined-create_pending : goal.decreases-create_undefined-create_pending
decreases-create_undefined-create_pending g l = 3 * l.below.room + 2
