-- The chain so far, and the remote contexts that are left.
use Rattle.std.proofs.Common.{◌≡◌, ◌++◌, drop}
use Rattle.ctx_settings.proofs.remote.chain_with.Given as goal

abbrev pub invariant-loop-remote : goal.invariant-loop-remote
invariant-loop-remote l = l.chain.items ++ drop l.remote-index l.remotes ≡ l.remotes
