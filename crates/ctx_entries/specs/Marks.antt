-- The pairs that the map of `defined` stands for.
use Rattle.std.specs.Prelude.{ℕ, Bool, List, map, String, string_bytes}
use Rattle.std.specs.declared.alloc.Global.{Global}

abbrev pub marks_view : List (String Global × Bool) → List (List ℕ × Bool)
marks_view es = map (λ e. (string_bytes e.0, e.1)) es
