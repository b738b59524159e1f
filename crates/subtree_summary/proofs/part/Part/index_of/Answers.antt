use Rattle.std.proofs.Common.{◌≡◌, [], ◌∷◌, ◌++◌, Some, None, sym, ap, ap₂, ◌∙◌}
use Rattle.std.specs.Prelude.{option_map}
use Rattle.std.specs.Map.{lookup, keys_of}
use Rattle.sum_model.specs.Sums.{Key, bare}
use Rattle.sum_laws.proofs.Sums as laws
use Rattle.op_types.specs.View.{names_view}
use Rattle.subtree_summary.specs.Parts.{same_code_key, nodes_view, nodes_joined, key_in, all_fall}
use Rattle.subtree_summary.proofs.Parts.{added, inserted, already_there, found_at, last_at, all_fall-added}
use Rattle.subtree_summary.proofs.part.Part.index_of.Goals as goal

pub returns-in-Some-clause-said : goal.returns-in-Some-clause-said
returns-in-Some-clause-said c i =
    let es = c.args.self.now.nodes.entries in
    record {
      graphs = sym (laws.names.right (names_view c.args.self.now.graphs.keys)) i;
      nodes =
          (already_there es c.in_ok-key.key _ c.len-next.ensures.unique (sym c.in-Some.ensures.value)
          ∙ ap (λ q. nodes_joined (nodes_view es) ((q, bare) ∷ [])) c.in_ok-key.ensures) i;
    }

pub returns-in-Some-clause-key : goal.returns-in-Some-clause-key
returns-in-Some-clause-key c =
    found_at c.args.self.now.nodes.entries c.in_ok-key.key _ _ c.in-Some.ensures.entry (sym c.in-Some.ensures.key)
    ∙ ap Some c.in_ok-key.ensures

pub returns-clause-fall : goal.returns-clause-fall
returns-clause-fall c here one all =
    let es = c.args.self.now.nodes.entries in
    let key = c.in_ok-key.key in
    let none : lookup (same_code_key key) es ≡ None = sym c.get_full.ensures.value ∙ ap (option_map (λ p. p.2.now)) c.in-None.is in
    ap (λ l. all_fall here (keys_of l)) (c.in_ok-insert.ensures.entries ∙ inserted es key c.new.result none)
    ∙ all_fall-added here es key c.new.result (ap (λ (q : Key). here q.1) c.in_ok-key.ensures ∙ one) all

pub returns-clause-said : goal.returns-clause-said
returns-clause-said c i =
    let es = c.args.self.now.nodes.entries in
    let key = c.in_ok-key.key in
    let none : lookup (same_code_key key) es ≡ None = sym c.get_full.ensures.value ∙ ap (option_map (λ p. p.2.now)) c.in-None.is in
    record {
      graphs = sym (laws.names.right (names_view c.args.self.now.graphs.keys)) i;
      nodes =
          (ap nodes_view c.in_ok-insert.ensures.entries
          ∙ added es key c.new.result none
          ∙ ap₂ (λ q e. nodes_joined (nodes_view es) ((q, e) ∷ [])) c.in_ok-key.ensures c.new.ensures) i;
    }

pub returns-clause-key : goal.returns-clause-key
returns-clause-key c =
    let es = c.args.self.now.nodes.entries in
    let key = c.in_ok-key.key in
    let none : lookup (same_code_key key) es ≡ None = sym c.get_full.ensures.value ∙ ap (option_map (λ p. p.2.now)) c.in-None.is in
    ap (λ l. key_in l c.len-next.result) (c.in_ok-insert.ensures.entries ∙ inserted es key c.new.result none)
    ∙ ap (key_in (es ++ (key, c.new.result) ∷ [])) c.len-next.ensures.len
    ∙ last_at es key c.new.result
    ∙ ap Some c.in_ok-key.ensures
