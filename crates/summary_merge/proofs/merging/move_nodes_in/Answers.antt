use Rattle.std.proofs.Common.{◌≡◌, suc, length, arith, ap, ◌∙◌, sym, subst, ◌∷◌}
use Rattle.std.specs.List.{IsDistinct}
use Rattle.std.specs.Map.{keys_of}
use Rattle.std.proofs.lemmas.Map.Keys.{IsDistinct-tail}
use Rattle.sum_laws.proofs.Sums as laws
use Rattle.op_types.specs.declared.name.NodeKey.{NodeKey}
use Rattle.subtree_summary.specs.declared.entry.PartEntry.{PartEntry}
use Rattle.subtree_summary.specs.Parts.{same_code_key, nodes_view, nodes_joined}
use Rattle.summary_merge.specs.Room.{HasRoomForAll}
use Rattle.summary_merge.proofs.Moves.{next_node, room_for_rest}
use Rattle.summary_merge.proofs.merging.move_nodes_in.Goals as goal

pub loop-key-preserved : goal.loop-key-preserved
loop-key-preserved c =
    let e : NodeKey × PartEntry = (c.in-Some.key, c.in-Some.entry) in
    let rest = c.next.new.self in
    let held = c.loop-key.nodes.entries in
    let distinct : IsDistinct same_code_key (keys_of (e ∷ rest)) = subst (λ es. IsDistinct same_code_key (keys_of es)) c.in-Some.ensures.steps c.loop-key.invariant.distinct in
    let long : length c.loop-key.key-iterator ≡ suc (length rest) = ap length c.in-Some.ensures.steps in
    record {
      same =
          ap (λ ns. nodes_joined ns (nodes_view rest)) c.push_node.ensures.joined
          ∙ next_node (nodes_view held) e rest distinct
          ∙ ap (λ es. nodes_joined (nodes_view held) (nodes_view es)) (sym c.in-Some.ensures.steps)
          ∙ c.loop-key.invariant.same;
      distinct = IsDistinct-tail same_code_key c.in-Some.key (keys_of rest) distinct;
      room = omega (arith, c.push_node.ensures.spare, c.loop-key.invariant.room);
      inside = room_for_rest held c.push_node.new.nodes.entries e rest distinct c.push_node.ensures.others (subst (HasRoomForAll held) c.in-Some.ensures.steps c.loop-key.invariant.inside);
    }

pub returns : goal.returns
returns c =
    let held = nodes_view c.loop-key.nodes.entries in
    sym (laws.nodes.right held)
    ∙ ap (λ es. nodes_joined held (nodes_view es)) (sym c.in-None.ensures.steps.0)
    ∙ c.loop-key.invariant.same
