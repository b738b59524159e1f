-- What is kept grows by the segments that are left.
use Rattle.std.proofs.Common.{◌≡◌, ◌+◌, ℕ, List, Bor, Option, Some, None, fold, length, string_bytes}
use Rattle.std.specs.Option.{option_copied}
use Rattle.iri_ref.specs.Walk.{path_with}
use Rattle.iri_ref.proofs.Walk.{Rest}
use Rattle.iri_ref.proofs.dots.remove_dots.Given as goal

abbrev pub invariant-loop-rest : goal.invariant-loop-rest
invariant-loop-rest l = fold path_with (string_bytes l.kept) (Rest (option_copied l.rest)) ≡ fold path_with (string_bytes l.initial.kept) (Rest (option_copied l.initial.rest))

-- how much is left
abbrev left : Option (Bor (List ℕ)) → ℕ
left None = 0
left (Some text) = length text.now + 1

abbrev pub decreases-loop-rest : goal.decreases-loop-rest
decreases-loop-rest l = left l.rest
