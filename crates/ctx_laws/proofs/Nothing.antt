-- An empty map and an empty array.
use Rattle.std.proofs.Common.{◌≡◌, List, [], ◌∷◌, Result, Ok, refl, ap}
use Rattle.ld_model.specs.Tree.{Tree}
use Rattle.case_tables.specs.declared.code.Code.{Code}
use Rattle.ctx_types.specs.Context.{Text, Context}
use Rattle.ctx_store.specs.Stored.{Contexts}
use Rattle.ctx_model.specs.Outcome.{◌>>=◌}
use Rattle.ctx_model.specs.Process.{Ask, Process, Remote, with_previous, settings_taken, terms_taken, map_taken, item_taken, processed, process}
use Rattle.ctx_laws.specs.Statements.{IsNothing, empty_map, empty_array}
use Rattle.ctx_laws.specs.Laws.{NothingChangesNothing}

no_settings : (remotes : List Text) (c : Context) → settings_taken remotes [] c ≡ Ok c
unfolding settings_taken
no_settings [] c = refl
no_settings (r ∷ rs) c = refl

no_map : (store : Contexts) (scoped : Process) (ask : Ask) (c : Context) → map_taken store scoped ask [] c ≡ Ok c
unfolding map_taken terms_taken
no_map store scoped ask c = ap (λ (r : Result Context Code). r >>= (λ c₁. terms_taken store scoped ask [] c₁)) (no_settings ask.remotes c)

taken : (r : Result Context Code) (c : Context) → r ≡ Ok c → (r >>= (λ c₁. Ok c₁)) ≡ Ok c
taken r c h = ap (λ (r : Result Context Code). r >>= (λ c₁. Ok c₁)) h

nothing : (store : Contexts) (remote : Remote) (scoped : Process) (ask : Ask) (local : Tree) → IsNothing local → processed store remote scoped ask local ≡ Ok (with_previous ask.propagates ask.active)
unfolding processed item_taken
nothing store remote scoped ask _ empty_map = taken _ _ (no_map store scoped ask (with_previous ask.propagates ask.active))
nothing store remote scoped ask _ empty_array = refl

pub nothing_changes_nothing : NothingChangesNothing
unfolding process
nothing_changes_nothing store ask local is = nothing store _ _ ask local is
