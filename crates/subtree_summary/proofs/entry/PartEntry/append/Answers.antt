use Rattle.std.proofs.Common.{ap, ◌∙◌}
use Rattle.op_model.specs.Names.{same_name}
use Rattle.sum_laws.specs.Said.{once}
use Rattle.op_types.specs.View.{names_view}
use Rattle.sum_model.specs.Sums.{indexes_joined}
use Rattle.subtree_summary.specs.Log.{index_view, properties_view}
use Rattle.subtree_summary.proofs.Logs.{types-append, properties-append}
use Rattle.subtree_summary.proofs.entry.PartEntry.append.Goals as goal

pub returns-clause-joined : goal.returns-clause-joined
returns-clause-joined c i = record {
  types = (ap (λ ns. once same_name (names_view ns)) c.in_ok-append.ensures.items ∙ types-append c.args.self.now.types.items c.args.later.types.items) i;
  index = (c.joined.ensures ∙ ap (λ o. indexes_joined (index_view o) (index_view c.args.later.index)) c.take.ensures.value) i;
  properties = (ap properties_view c.in_ok-append-2.ensures.items ∙ properties-append c.args.self.now.told.items c.args.later.told.items) i;
}
