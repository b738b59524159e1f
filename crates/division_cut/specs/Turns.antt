-- The items of an array one by one, each with its mark, for the plan by weight.
use Rattle.std.specs.Prelude.{ℕ, ◌+◌, ◌≡◌, List, [], ◌∷◌, ◌++◌, Bool, if◌then◌else◌, Option}
use Rattle.ld_model.specs.Tree.{Tree, Trees}
use Rattle.node_model.specs.Walk.{To}
use Rattle.op_model.specs.Names.{Name}
use Rattle.division_model.specs.Dividing.{Mark, opened, begins, continues, Division, divide, divide_items, range_ended}
use Rattle.division_model.specs.ByWeight.{marks, by_weight}
use Rattle.division_cut.specs.Standing.{StandsFor}
use Rattle.division_cut.specs.Weighed.{kept}

-- A division after an item, where these are in the range before it.
abbrev pub turned : ℕ → Name → To Name → Mark → List Tree → Tree → Division → Division
turned limit g to opened taken t d = divide (by_weight limit) g to t (range_ended g to taken d)
turned limit g to begins taken t d = range_ended g to taken d
turned limit g to continues taken t d = d

-- The items in the range under way then.
abbrev pub taken_after : Mark → List Tree → Tree → List Tree
taken_after opened taken t = []
taken_after begins taken t = t ∷ []
taken_after continues taken t = taken ++ t ∷ []

-- The number of the first of these.
abbrev pub first_after : Mark → ℕ → ℕ → ℕ
first_after opened first number = number + 1
first_after begins first number = number
first_after continues first number = first

-- The marks of items of an array that is cut, or isn't.
abbrev pub marks_where : Bool → ℕ → Option ℕ → Trees → List Mark
marks_where cut limit sum ts = if cut then marks limit sum ts else []

-- The items of an array from this number on, behind those in the range under way, which weighs so much.
abbrev pub rest_divided : Bool → ℕ → Option ℕ → Name → To Name → ℕ → List Tree → Trees → Division → Division
rest_divided cut limit sum g to number taken ts d = divide_items (by_weight limit) g to (marks_where cut limit sum ts) number taken ts d

-- What is left of an array comes to what the whole comes to. `weighed` is what is kept of the weight of the range under way.
pub record IsLeft (cut : Bool) (limit : ℕ) (weighed : Option ℕ) (g : Name) (to : To Name) (number : ℕ) (taken : List Tree) (rest : Trees) (v whole : Division) : Type 0 where
  pub now : Division
  pub sum : Option ℕ
  pub stands : StandsFor v now
  pub weighs : weighed ≡ kept limit sum
  pub same : rest_divided cut limit sum g to number taken rest now ≡ whole

-- What is left to be made comes to what the whole comes to.
pub record IsLeftOf (rest : Division → Division) (v whole : Division) : Type 0 where
  pub now : Division
  pub stands : StandsFor v now
  pub same : rest now ≡ whole
