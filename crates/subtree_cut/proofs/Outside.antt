-- Pieces of one array, and of an array in an item of another.
use Rattle.std.proofs.Common.{ℕ, ◌≡◌, ◌||◌, List, [], ◌∷◌, Some, length, refl, sym, ap, ◌∙◌}
use Rattle.ld_json.specs.declared.location.Step.{Step}
use Rattle.ld_json.specs.declared.location.Step.TheVariants.{Item}
use Rattle.cut_model.specs.Pieces.{Piece}
use Rattle.cut_model.specs.LegalTest.{ends_before, lacks_item, is_outside_by}

pub beside : (x y : Piece) (way : List Step) → length way ≡ 0 → is_outside_by x y (Some way) ≡ ends_before x y || ends_before y x
beside x y [] h = refl
beside x y (s ∷ way) h = cc

pub inside : (x y : Piece) (way rest : List Step) (s : Step) (n : ℕ) → way ≡ s ∷ rest → s ≡ Item n → lacks_item x n ≡ is_outside_by x y (Some way)
inside x y way rest s n is item = sym (ap (λ w. is_outside_by x y (Some w)) (is ∙ ap (λ z. z ∷ rest) item))
