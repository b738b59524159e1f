-- Small tests that the tests of a whole map make.
use Rattle.std.specs.Prelude.{Bool, true, false, not, ◌&&◌, ◌||◌, ◌==◌, [], ◌∷◌, Option, None, Some, codes, if◌then◌else◌}
use Rattle.std.specs.Str.{bytes_eq}
use Rattle.ld_model.specs.Tree.{Tree, Pairs, array, object, members_of, is_empty}
use Rattle.ctx_types.specs.Context.{Text}
use Rattle.expand_model.specs.Finish.{is_lone}
use Rattle.expand_model.specs.Scope.{is_top}

-- The value is an array.
abbrev pub is_array : Tree → Bool
is_array (array ts) = true
is_array _ = false

-- There is a value, and it is no array.
abbrev pub is_lone_type : Option Tree → Bool
is_lone_type None = false
is_lone_type (Some t) = not (is_array t)

-- The text begins as keywords do.
abbrev pub begins_at : Text → Bool
begins_at [] = false
begins_at (b ∷ bs) = b == 64

-- The key is `@id`, or can be no keyword.
abbrev pub is_plain : Text × Tree → Bool
is_plain e = not (begins_at e.0) || bytes_eq e.0 (codes "@id")

-- There is no entry, or just an id, at the top of a graph.
abbrev pub says_nothing : Option Text → Pairs → Bool
says_nothing p r = is_top p && (is_empty r || is_lone (codes "@id") r)

abbrev pub unless_nothing : Option Text → Pairs → Option Tree
unless_nothing p r = if says_nothing p r then None else Some (object (members_of r))
