-- A job whose pieces give something to two of three shards.
use Rattle.std.specs.Prelude.{◌≡◌, ℕ, ◌+◌, ◌%◌, Bool, true, false, not, ◌||◌, ◌==◌, refl}
use Rattle.thread_tests.specs.declared.patched.Patch.{Patch}

abbrev pub patch : ℕ → ℕ → Bool → Patch
patch first end filled = record { first = first; end = end; filled = filled }

abbrev pub over : Patch → Patch → Patch
over a b = patch a.first b.end (a.filled || b.filled)

pub or_nothing : (a : Patch) → over a (patch a.end a.end false) ≡ a
or_nothing a = with_filled a.filled
  where
    with_filled : (b : Bool) → patch a.first a.end (b || false) ≡ patch a.first a.end b
    with_filled true = refl
    with_filled false = refl

pub or_assoc : (a b c : Patch) → over (over a b) c ≡ over a (over b c)
or_assoc a b c = with_filled a.filled
  where
    with_filled : (x : Bool) → patch a.first c.end ((x || b.filled) || c.filled) ≡ patch a.first c.end (x || (b.filled || c.filled))
    with_filled true = refl
    with_filled false = refl

-- every third shard gets nothing of a piece
abbrev pub is_filled : ℕ → ℕ → Bool
is_filled shard piece = not ((shard + piece) % 3 == 0)

abbrev pub patch_of : ℕ → ℕ → Patch
patch_of shard piece = patch piece (piece + 1) (is_filled shard piece)
