-- Weights as far as they matter.
use Rattle.std.specs.Prelude.{ℕ, ◌-◌, Bool, if◌then◌else◌, nat_le, Option, Some, None}
use Rattle.ld_model.specs.Tree.{Tree, weight}
use Rattle.division_model.specs.Dividing.{Mark, opened, begins}
use Rattle.division_model.specs.ByWeight.{capped, is_above, holds_cut, with_item, mark_in_range}

-- What is left of a room beside what takes so much.
abbrev pub left_of : ℕ → ℕ → Option ℕ
left_of room n = if nat_le n room then Some (room - n) else None

-- A weight that is at most the limit.
abbrev pub light_weight : ℕ → ℕ → Option ℕ
light_weight limit n = if is_above limit n then None else Some (capped n)

-- What a range weighs, where that is at most the limit: beside more than that no item can stand.
abbrev pub kept : ℕ → Option ℕ → Option ℕ
kept limit (Some sum) = light_weight limit sum
kept limit None = None

-- The mark of an item that weighs more than the limit.
abbrev pub heavy_mark : ℕ → Tree → Mark × Option ℕ
heavy_mark limit t = if holds_cut limit t then (opened, None) else (begins, None)

-- The mark of an item, by what is kept of what the range under way weighs.
abbrev pub mark_by : ℕ → Option ℕ → Tree → Mark × Option ℕ
mark_by limit sum t = if is_above limit (weight t) then heavy_mark limit t else mark_in_range (with_item limit sum (capped (weight t))) (capped (weight t))

-- The same where the array may not be cut: then each item is opened.
abbrev pub mark_where : Bool → ℕ → Option ℕ → Tree → Mark × Option ℕ
mark_where cut limit sum t = if cut then mark_by limit sum t else (opened, None)
