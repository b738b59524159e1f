-- The members that pairs make, in whichever order they stand.
use Rattle.std.specs.Prelude.{ℕ, List, [], ◌∷◌, Bool, true, ◌&&◌}
use Rattle.std.specs.Ordering.{is_lt}
use Rattle.std.specs.BTreeMap.{insert_entry}
use Rattle.ld_model.specs.Tree.{Pairs, byte_order}

-- The members after each pair was put in its key's place, one pair after another.
abbrev pub put_all : Pairs → Pairs → Pairs
put_all [] ms = ms
put_all (p ∷ ps) ms = put_all ps (insert_entry byte_order ms p.0 p.1)

-- The members that pairs make: of pairs with one key the last one stays.
abbrev pub built : Pairs → Pairs
built ps = put_all ps []

-- The first of these comes after a key, where there is one.
abbrev pub is_first_after : List ℕ → Pairs → Bool
is_first_after k [] = true
is_first_after k (m ∷ ms) = is_lt (byte_order k m.0)

-- Each key comes before the next.
abbrev pub ascend : Pairs → Bool
ascend [] = true
ascend (m ∷ ms) = is_first_after m.0 ms && ascend ms
