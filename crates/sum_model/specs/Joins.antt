-- Lists and maps that keep the order in which things came first, and how two of them are joined.
use Rattle.std.specs.Prelude.{List, ◌++◌, Bool, not, Option, Some, None, filter, map as each}
use Rattle.std.specs.List.{list_any}
use Rattle.std.specs.Map.{lookup, keys_of}

-- Nothing in this list is the same.
abbrev pub is_new : {X : Type 0} → (X → X → Bool) → List X → X → Bool
is_new same held x = not (list_any (same x) held)

-- The first list, and behind it what the second has that is new.
abbrev pub lists_joined : {X : Type 0} → (X → X → Bool) → List X → List X → List X
lists_joined same a b = a ++ filter (is_new same a) b

abbrev pub or_empty : {V : Type 0} → V → Option V → V
or_empty empty (Some v) = v
or_empty empty None = empty

-- The value at a key of a map, and the empty one where the key isn't there.
abbrev pub value_at : {K V : Type 0} → (K → K → Bool) → V → K → List (K × V) → V
value_at same empty k m = or_empty empty (lookup (same k) m)

-- The first map, with what the second has at each key joined to the value.
abbrev pub values_joined : {K V : Type 0} → (K → K → Bool) → V → (V → V → V) → List (K × V) → List (K × V) → List (K × V)
values_joined same empty join a b = each (λ e. (e.0, join e.1 (value_at same empty e.0 b))) a

-- The keys of the first map, and behind them those of the second that are new. The values of a common key are joined.
abbrev pub maps_joined : {K V : Type 0} → (K → K → Bool) → V → (V → V → V) → List (K × V) → List (K × V) → List (K × V)
maps_joined same empty join a b = values_joined same empty join a b ++ filter (λ e. is_new same (keys_of a) e.0) b
