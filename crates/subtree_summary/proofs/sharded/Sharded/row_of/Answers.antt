use Rattle.std.proofs.Common.{◌≡◌, true, [], length, Some, slice_get, refl, sym, ap, ◌∙◌}
use Rattle.std.specs.Prelude.{option_map}
use Rattle.std.proofs.lemmas.Option.{slice_get_read}
use Rattle.sum_model.specs.Joins.{or_empty}
use Rattle.sum_model.specs.Sums.{same_key}
use Rattle.sum_laws.proofs.Same.{same_key-exact}
use Rattle.op_types.specs.View.{name_view, key_view}
use Rattle.op_types.specs.declared.name.NodeKey.{NodeKey}
use Rattle.subtree_summary.specs.declared.entry.PartEntry.{PartEntry}
use Rattle.subtree_summary.specs.declared.part.Part.{Part}
use Rattle.subtree_summary.specs.Parts.{key_in}
use Rattle.subtree_summary.proofs.sharded.Sharded.row_of.Goals as goal

pub returns-then-is_key : goal.returns-then-is_key
returns-then-is_key c =
    let at = c.in_ok-row.row.index in
    let parts = c.args.self.now.parts.items in
    let found = c.in_ok-part.ensures.lookup in
    let i = c.in_ok-row.row.shard in
    let there : slice_get parts i ≡ Some c.in_ok-part.part.now = sym (ap (λ l. slice_get l i) c.deref.ensures.value) ∙ slice_get_read c.deref.result.now (length c.deref.result.now) i c.in_ok-part.part.now refl found.3.0 found.1 in
    let same : same_key (key_view c.in_ok-key.key.now) (name_view c.args.graph.now, name_view c.args.node.now) ≡ true = sym c.is_key.ensures ∙ c.if-is_key.true in
    ap (λ o. key_in (or_empty [] (option_map (λ (r : Part). r.nodes.entries) o)) at) there
    ∙ ap (option_map (λ (e : NodeKey × PartEntry). key_view e.0)) (sym c.in_ok-key.ensures.entry)
    ∙ ap Some (same_key-exact (key_view c.in_ok-key.key.now) (name_view c.args.graph.now, name_view c.args.node.now) same)
