-- One step of merging the entries of two maps.
use Rattle.std.specs.Prelude.{◌≡◌, ◌<◌, ◌+◌, [], ◌∷◌, Option, Some, None, length}
use Rattle.std.specs.Borrow.{Bor}
use Rattle.ld_model.specs.Tree as model
use Rattle.ld_json.specs.declared.value.Tree.{Tree}
use Rattle.ctx_types.specs.Context.{Text}
use Rattle.ctx_model.specs.Process.{merged}
use Rattle.ctx_entries.specs.View.{pair_view}

-- The entry stands first among those of both maps, and the last two arguments are the others; or there is none.
abbrev pub IsNextOf : model.Pairs → model.Pairs → Option (Bor Text × Bor Tree) → model.Pairs → model.Pairs → Type 0
IsNextOf own imports None own_left imports_left = merged own imports ≡ []
IsNextOf own imports (Some e) own_left imports_left =
    (merged own imports ≡ pair_view e ∷ merged own_left imports_left)
    × (length own_left + length imports_left < length own + length imports)
