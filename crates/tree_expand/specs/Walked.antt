-- What a map comes to whose contexts are known.
use Rattle.ld_model.specs.Tree.{Tree, Pairs}
use Rattle.expand_model.specs.Rules.{At, ◌>>=◌, finished_at}
use Rattle.expand_model.specs.Over.{Outcome, here}

-- The outcome of its entries, finished.
abbrev pub walked : {S : Type 0} → At → Outcome S Pairs → Outcome S Tree
walked a d = d >>= (λ v. here v.1 (finished_at a v.0))
