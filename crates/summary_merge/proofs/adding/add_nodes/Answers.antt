use Rattle.std.proofs.Common.{ap, ◌∙◌, sym, subst, ◌∷◌}
use Rattle.std.specs.List.{IsDistinct}
use Rattle.std.specs.Map.{keys_of}
use Rattle.std.proofs.lemmas.Map.Keys.{IsDistinct-tail}
use Rattle.sum_laws.proofs.Sums as laws
use Rattle.op_types.specs.declared.name.NodeKey.{NodeKey}
use Rattle.subtree_summary.specs.declared.entry.PartEntry.{PartEntry}
use Rattle.subtree_summary.specs.Parts.{same_code_key, nodes_view, nodes_joined}
use Rattle.summary_merge.proofs.Moves.{next_node}
use Rattle.summary_merge.proofs.adding.add_nodes.Goals as goal

pub loop-key-preserved : goal.loop-key-preserved
loop-key-preserved c =
    let e : NodeKey × PartEntry = (c.in-Some.key, c.in-Some.entry) in
    let rest = c.next.new.self in
    let held = c.loop-key.nodes.entries in
    let distinct : IsDistinct same_code_key (keys_of (e ∷ rest)) = subst (λ es. IsDistinct same_code_key (keys_of es)) c.in-Some.ensures.steps c.loop-key.invariant.distinct in
    record {
      same =
          ap (λ ns. nodes_joined ns (nodes_view rest)) c.in_ok-put_node.ensures.joined
          ∙ next_node (nodes_view held) e rest distinct
          ∙ ap (λ es. nodes_joined (nodes_view held) (nodes_view es)) (sym c.in-Some.ensures.steps)
          ∙ c.loop-key.invariant.same;
      distinct = IsDistinct-tail same_code_key c.in-Some.key (keys_of rest) distinct;
    }

pub returns : goal.returns
returns c =
    let held = nodes_view c.loop-key.nodes.entries in
    sym (laws.nodes.right held)
    ∙ ap (λ es. nodes_joined held (nodes_view es)) (sym c.in-None.ensures.steps.0)
    ∙ c.loop-key.invariant.same
