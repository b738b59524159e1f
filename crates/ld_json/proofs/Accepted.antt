-- Each number of a text is accepted exactly where none is the first that isn't.
use Rattle.std.proofs.Common.{◌≡◌, ℕ, List, [], ◌∷◌, map, Bool, true, false, ◌&&◌, cond, Option, Some, refl, sym, ap, ◌∙◌}
use Rattle.std.specs.List.{list_all}
use Rattle.std.specs.Option.{is_none}
use Rattle.serde_json.specs.Data.{Data}
use Rattle.serde_json.specs.Read.{read}
use Rattle.ld_json.proofs.GrammarNumbers.{same_numbers}
use Rattle.ld_json.specs.declared.numbers.Stand.TheVariants.{Outside}
use Rattle.ld_json.specs.Numbers.{numbers, is_accepted, first_refused, refused_number, are_accepted}

by_test : (b rest : Bool) (at : ℕ) (more : Option ℕ) → rest ≡ is_none more → (b && rest) ≡ is_none (cond b more (Some at))
by_test true rest at more same = same
by_test false rest at more same = refl

all_accepted : (ns : List (ℕ × List ℕ)) → list_all is_accepted (map (λ n. n.1) ns) ≡ is_none (first_refused ns)
all_accepted [] = refl
all_accepted (n ∷ ns) = by_test (is_accepted n.1) (list_all is_accepted (map (λ m. m.1) ns)) n.0 (first_refused ns) (all_accepted ns)

pub accepted : (bytes : List ℕ) (d : Data) (refused : Option ℕ) → read bytes ≡ Some d → refused ≡ refused_number bytes → are_accepted bytes ≡ is_none refused
accepted bytes d refused reads same = ap (list_all is_accepted) (sym (same_numbers bytes d reads)) ∙ all_accepted (numbers Outside 0 bytes) ∙ ap is_none (sym same)
