use Rattle.std.proofs.Common.{ap, ◌∙◌}
use Rattle.op_model.specs.Names.{blank}
use Rattle.op_model.specs.Running.{used, uses_of_entry}
use Rattle.op_types.specs.View.{name_view, entry_view}
use Rattle.subtree_summary.specs.Uses.{uses_view}
use Rattle.subtree_summary.proofs.Used.{used-fourth}
use Rattle.subtree_summary.proofs.summing.Sums.add_entry.Goals as goal

pub returns : goal.returns
returns c i =
    let rest = uses_of_entry (entry_view c.args.entry) in
    record {
      chunk = c.args.self.now.chunk;
      count = c.in_ok-self.ensures i;
      shards = c.in_ok-tell.ensures.kept i;
      said = λ k. c.in_ok-tell.ensures.said k i;
      names =
          (c.in_ok-note_entry.ensures
          ∙ ap (λ u. used u rest) c.in_ok-note_names.ensures
          ∙ used-fourth (uses_view c.args.self.now.uses) (blank (name_view c.args.graph.now)) (blank (name_view c.args.node.now)) (blank (name_view c.args.property.now)) rest) i;
    }
