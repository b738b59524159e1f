-- What stands behind a source in memory.
use Rattle.std.specs.Prelude.{ℕ, ◌≤◌, List, [], drop, replicate, vec_len, ⊤}
use Rattle.ld_io.specs.declared.list_source.Stock.{Stock}
use Rattle.ld_io.specs.declared.list_source.Stock.TheVariants.{Listed, Repeated}

-- a byte that many times
unfoldable pub repeated : ℕ → ℕ → List ℕ
repeated count byte = replicate count byte

-- the bytes that are left
abbrev pub left_of : Stock → List ℕ
left_of (Listed bytes at failing) = drop at bytes.items
left_of (Repeated byte count) = repeated count byte

-- the numbers of the calls that fail
abbrev pub failing_of : Stock → List ℕ
failing_of (Listed bytes at failing) = failing.items
failing_of (Repeated byte count) = []

-- the place is within the bytes
abbrev pub IsWithin : Stock → Type 0
IsWithin (Listed bytes at failing) = at ≤ vec_len bytes
IsWithin (Repeated byte count) = ⊤
