-- Maps from texts: pairs whose keys ascend by the bytes of their UTF-8.
use Rattle.std.specs.Prelude.{ℕ, List, Option}
use Rattle.std.specs.Map.{lookup}
use Rattle.std.specs.BTreeMap.{is_at, insert_entry}
use Rattle.ld_model.specs.Tree.{byte_order}

abbrev pub MapOf : Type 0 → Type 0
MapOf V = List (List ℕ × V)

-- What a key has.
abbrev pub at : {V : Type 0} → List ℕ → MapOf V → Option V
at k m = lookup (is_at (byte_order k)) m

-- The map with this at this key, at the key's place in the order.
unfoldable pub with_at : {V : Type 0} → List ℕ → V → MapOf V → MapOf V
with_at k v m = insert_entry byte_order m k v
