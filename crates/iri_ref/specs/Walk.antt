-- A path in one buffer of bytes, as it grows segment by segment.
use Rattle.std.specs.Prelude.{ℕ, if◌then◌else◌, List, [], ◌∷◌, ◌++◌}
use Rattle.std.specs.List.{list_any}
use Rattle.iri_ref.specs.Parts.{slash}
use Rattle.iri_ref.specs.Dots.{is_dot, is_dot_dot}

-- what stands before the last slash, or nothing where there is none
abbrev pub up_to_last_slash : List ℕ → List ℕ
up_to_last_slash [] = []
up_to_last_slash (b ∷ bs) = if list_any slash bs then b ∷ up_to_last_slash bs else []

-- the path with one segment more
abbrev pub path_with : List ℕ → List ℕ → List ℕ
path_with path s = if is_dot s then path else if is_dot_dot s then up_to_last_slash path else path ++ 47 ∷ s
