-- What a guard answers when it is tested.
use Rattle.std.specs.Prelude.{◌≡◌, true, false, Result, MatchResult}
use Rattle.job_core.specs.Machine.{Guard}
use Rattle.job_core.specs.declared.Kept.{Kept}

-- Ok where the guard holds, and else what it found.
abbrev pub IsTested : Guard → Result Unit Kept → Type 0
IsTested guard answer = MatchResult answer (λ _. guard.0 ≡ true) (λ kept. (guard.0 ≡ false) × (guard.1 ≡ kept))
