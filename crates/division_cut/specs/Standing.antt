-- A division under way stands for one of the definitions, until it has more chunks than are wanted.
use Rattle.std.specs.Prelude.{◌≡◌, Bool, true, false}
use Rattle.node_model.specs.Walk.{To, in_list}
use Rattle.op_model.specs.Names.{Name}
use Rattle.division_model.specs.Dividing.{Division}
use Rattle.division_model.specs.ByWeight.{are_few}

-- They are the same while there are few chunks, and once there are many the other has many as well.
pub record StandsFor (v d : Division) : Type 0 where
  pub same : are_few v.chunks ≡ true → v ≡ d
  pub many : are_few v.chunks ≡ false → are_few d.chunks ≡ false

-- What was made of a division stands for what this makes of each that it stood for.
abbrev pub Makes : Division → Division → (Division → Division) → Type 0
Makes old new step = (d : Division) → StandsFor old d → StandsFor new (step d)

-- Where documents are divided: nothing is gathered there.
abbrev pub is_outside : To Name → Bool
is_outside in_list = false
is_outside _ = true
