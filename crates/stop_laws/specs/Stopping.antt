-- Planning that ends once there are more pieces than a plan has.
use Rattle.std.specs.Prelude.{ℕ, nat_lt, Bool, [], length, Err, if◌then◌else◌}
use Rattle.ld_model.specs.Tree.{Trees}
use Rattle.case_tables.specs.declared.code.Code.TheVariants.{ContextOverflow}
use Rattle.expand_model.specs.Scope.{Fault}
use Rattle.expand_model.specs.Rules.{At}
use Rattle.expand_model.specs.Over.{Asked, answers}
use Rattle.cut_model.specs.Planning.{Plan, chooses}
use Rattle.cut_model.specs.Cutting.{most_pieces}

-- There are more pieces than a plan has.
abbrev pub has_many : Plan → Bool
has_many plan = nat_lt most_pieces (length plan.pieces)

-- Then planning ends with an error, of which nothing is made.
abbrev pub stop : Fault
stop = record { code = ContextOverflow; place = [] }

abbrev pub chooses_or_stops : Trees → ℕ → At → Plan → Asked Plan
chooses_or_stops ts n a plan = if has_many plan then record { answer = answers 0 (Err stop); state = plan } else chooses ts n a plan
