-- The bytes of a text, wherever they are.
use Rattle.std.specs.Prelude.{ℕ, List, take}
use Rattle.std.specs.Arc.{arc_str_bytes, arc_value}
use Rattle.ld_text.specs.declared.string.Kept.{Kept}
use Rattle.ld_text.specs.declared.string.Kept.TheVariants.{Inside, Near, Far}

-- A room, and a block with one, has more bytes than its text: those at the front count.
abbrev pub kept_bytes : Kept → List ℕ
kept_bytes (Inside room) = take room.len room.room
kept_bytes (Near block) = take (arc_value block).len (arc_value block).room
kept_bytes (Far string) = arc_str_bytes string
