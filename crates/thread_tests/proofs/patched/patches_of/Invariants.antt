use Rattle.std.proofs.Common.{◌≡◌, ℕ, Some, length, slice_get}
use Rattle.thread_tests.specs.declared.patched.Patch.{Patch}
use Rattle.thread_tests.specs.Patches.{patch_of}
use Rattle.thread_tests.proofs.patched.patches_of.Given as goal

abbrev pub invariant-loop-shard : goal.invariant-loop-shard
invariant-loop-shard l = record {
  count : length l.parts.items ≡ l.shard;
  each : (shard : ℕ) (x : Patch) → slice_get l.parts.items shard ≡ Some x → x ≡ patch_of shard l.piece;
}
