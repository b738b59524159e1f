use Rattle.std.proofs.Common.{ap, ◌∙◌, sym, subst, ◌∷◌}
use Rattle.std.specs.List.{IsDistinct}
use Rattle.std.proofs.lemmas.Map.Keys.{IsDistinct-tail}
use Rattle.op_model.specs.Names.{same_name}
use Rattle.sum_model.specs.Joins.{lists_joined}
use Rattle.op_types.specs.View.{names_view}
use Rattle.subtree_summary.specs.Parts.{same_code_name}
use Rattle.subtree_summary.proofs.Parts.{insert_view}
use Rattle.summary_merge.proofs.Moves.{next_graph}
use Rattle.summary_merge.proofs.adding.add_graphs.Goals as goal

pub loop-graph-preserved : goal.loop-graph-preserved
loop-graph-preserved c =
    let rest = c.next.new.self in
    let distinct : IsDistinct same_code_name (c.in-Some.graph ∷ rest) = subst (IsDistinct same_code_name) c.in-Some.ensures.steps c.loop-graph.invariant.distinct in
    record {
      same =
          ap (λ ks. lists_joined same_name (names_view ks) (names_view rest)) c.in_ok-insert.ensures.keys
          ∙ ap (λ ns. lists_joined same_name ns (names_view rest)) (insert_view c.in-Some.graph c.loop-graph.graphs.keys)
          ∙ next_graph (names_view c.loop-graph.graphs.keys) c.in-Some.graph rest distinct
          ∙ ap (λ l. lists_joined same_name (names_view c.loop-graph.graphs.keys) (names_view l)) (sym c.in-Some.ensures.steps)
          ∙ c.loop-graph.invariant.same;
      distinct = IsDistinct-tail same_code_name c.in-Some.graph rest distinct;
    }
