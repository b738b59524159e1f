-- Graphs beside the default one.
use Rattle.std.specs.Prelude.{ℕ, List, [], ◌∷◌, Bool, true, ◌&&◌, if◌then◌else◌}
use Rattle.std.specs.Str.{bytes_eq}
use Rattle.ld_model.specs.Tree.{Tree, Pairs}
use Rattle.ld_model.specs.Keys.{default_graph}
use Rattle.ld_model.specs.Flatten.{graph_into}

-- There is no graph but the default one.
abbrev pub is_only_default : Pairs → Bool
is_only_default [] = true
is_only_default (m ∷ ms) = bytes_eq m.0 default_graph && is_only_default ms

-- The default graph itself is passed over.
abbrev pub graph_turn : List ℕ × Tree → Pairs → Pairs
graph_turn m nodes = if bytes_eq m.0 default_graph then nodes else graph_into m nodes
