use Rattle.std.proofs.Common.{[], ◌∷◌, sym, ap, ◌∙◌}
use Rattle.op_model.specs.Names.{same_name}
use Rattle.sum_model.specs.Joins.{lists_joined}
use Rattle.sum_laws.proofs.Sums as laws
use Rattle.op_types.specs.View.{names_view}
use Rattle.subtree_summary.specs.Parts.{nodes_view}
use Rattle.subtree_summary.proofs.Parts.{insert_view}
use Rattle.subtree_summary.proofs.part.Part.add_graph.Goals as goal

pub returns-clause-said : goal.returns-clause-said
returns-clause-said c i =
    let held = c.args.self.now.graphs.keys in
    record {
      graphs =
          (ap names_view c.in_ok-insert.ensures.keys
          ∙ insert_view c.in_ok-copy.field-0 held
          ∙ ap (λ n. lists_joined same_name (names_view held) (n ∷ [])) c.in_ok-copy.ensures) i;
      nodes = sym (laws.nodes.right (nodes_view c.args.self.now.nodes.entries)) i;
    }
