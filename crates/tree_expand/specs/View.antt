-- The data that values of the crate stand for.
use Rattle.std.specs.Prelude.{List, Option, None, Some, Result, Ok, Err}
use Rattle.ld_model.specs.Tree.{Tree}
use Rattle.expand_model.specs.Scope.{Fault}
use Rattle.expand_model.specs.Rules as model
use Rattle.expand_model.specs.Over.{Answer, expands, tries, answers}
use Rattle.expand_types.specs.View.{scope_view, map_scope_view, trail_view}
use Rattle.tree_expand.specs.declared.at.At.{At}
use Rattle.tree_expand.specs.declared.at.Inside.{Inside}
use Rattle.tree_expand.specs.declared.ranges.Refusal.{Refusal}
use Rattle.tree_expand.specs.declared.stop.ExpandStop.{ExpandStop}
use Rattle.tree_expand.specs.declared.stop.ExpandStop.TheVariants.{Refused}
use Rattle.tree_expand.specs.declared.ranges.Asked.{Asked}
use Rattle.tree_expand.specs.declared.ranges.Asked.TheVariants.{Expands, Tries, Answers}

abbrev pub at_view : At → model.At
at_view a = record { scope = scope_view a.scope; place = trail_view a.trail.now }

abbrev pub inside_view : Inside → model.Inside
inside_view e = record { scope = map_scope_view e.scope; place = trail_view e.trail.now }

-- What the items of a range come to, or their first error.
abbrev pub given_view : Result (List Tree) Refusal → Result (List Tree) Fault
given_view (Ok ts) = Ok ts
given_view (Err r) = Err (record { code = r.code; place = r.place })

-- The same, as callers of expansion have it.
abbrev pub known_result : Result (List Tree) Refusal → Result (List Tree) ExpandStop
known_result (Ok ts) = Ok ts
known_result (Err r) = Err (Refused r.code r.place)

abbrev pub asked_view : Asked → Answer
asked_view Expands = expands
asked_view (Tries mark) = tries mark
asked_view (Answers g) = answers g.more (given_view g.outcome)

-- The state that settling a trial leaves: the same where the trial is kept.
abbrev pub settled_state : {S : Type 0} → S → Option S → S
settled_state s None = s
settled_state s (Some t) = t
