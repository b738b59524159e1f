use Rattle.std.proofs.Common.{◌≡◌, [], ◌∷◌, sym, ap, ◌∙◌}
use Rattle.std.specs.Prelude.{option_map}
use Rattle.indexmap.proofs.CallerLemmas.{keys-with_value_at}
use Rattle.sum_model.specs.Joins.{or_empty}
use Rattle.sum_laws.proofs.Sums as laws
use Rattle.op_types.specs.View.{names_view, key_view}
use Rattle.op_types.specs.declared.name.NodeKey.{NodeKey}
use Rattle.subtree_summary.specs.declared.entry.PartEntry.{PartEntry}
use Rattle.subtree_summary.specs.Log.{said}
use Rattle.subtree_summary.specs.Parts.{nodes_view, nodes_joined}
use Rattle.subtree_summary.proofs.Parts.{changed_at}
use Rattle.subtree_summary.proofs.part.Part.tell.Goals as goal

pub returns-in_err-tell-clause-keys : goal.returns-in_err-tell-clause-keys
returns-in_err-tell-clause-keys c = keys-with_value_at c.args.self.now.nodes c.args.index c.tell.new.self

pub returns-clause-keys : goal.returns-clause-keys
returns-clause-keys c = keys-with_value_at c.args.self.now.nodes c.args.index c.tell.new.self

pub returns-clause-said : goal.returns-clause-said
returns-clause-said c g n at =
    let es = c.args.self.now.nodes.entries in
    let p : NodeKey × PartEntry = (c.pair_mut-entry.result.0.now, c.pair_mut-entry.result.1.now) in
    let own : key_view p.0 ≡ (g, n) = ap (or_empty (g, n)) (sym (ap (option_map (λ (e : NodeKey × PartEntry). key_view e.0)) c.pair_mut-entry.ensures.value) ∙ at) in
    λ i. record {
      graphs = sym (laws.names.right (names_view c.args.self.now.graphs.keys)) i;
      nodes =
          (changed_at es c.args.index p c.tell.new.self (said c.args.telling) c.pair_mut-entry.ensures.unique c.pair_mut-entry.ensures.value c.in_ok-tell.ensures
          ∙ ap (λ q. nodes_joined (nodes_view es) ((q, said c.args.telling) ∷ [])) own) i;
    }
