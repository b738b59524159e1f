use Rattle.std.proofs.Common.{◌≡◌, [], length, Some, slice_get, refl, sym, ap, ◌∙◌}
use Rattle.std.specs.Prelude.{option_map}
use Rattle.std.proofs.lemmas.Option.{slice_get_read}
use Rattle.sum_model.specs.Joins.{or_empty}
use Rattle.sum_model.specs.Shards.{shard_of}
use Rattle.sum_model.specs.Sums.{Key, at_node, join}
use Rattle.op_types.specs.View.{name_view}
use Rattle.subtree_summary.specs.declared.part.Part.{Part}
use Rattle.subtree_summary.specs.Log.{said}
use Rattle.subtree_summary.specs.Parts.{key_in}
use Rattle.subtree_summary.specs.Summing.{part_at, node_in}
use Rattle.subtree_summary.proofs.Joining.{put_in_shard, shard_within, own_shard}
use Rattle.subtree_summary.proofs.sharded.Sharded.tell.Goals as goal

pub returns-clause-said : goal.returns-clause-said
returns-clause-said c k =
    let made = c.row_at.new.self in
    let parts = made.parts.items in
    let key : Key = (name_view c.args.graph.now, name_view c.args.node.now) in
    let i = c.in_ok-row.row.shard in
    let j = c.in_ok-row.row.index in
    let part = c.index_mut.result.now in
    let there : slice_get parts i ≡ Some part = slice_get_read parts (length parts) i part refl (shard_within parts i j key c.in_ok-row.ensures.key) c.index_mut.ensures.value in
    let own : i ≡ shard_of made.shards key.1 = own_shard parts made.shards i j key made.in_place c.in_ok-row.ensures.key in
    let stands : key_in part.nodes.entries j ≡ Some key = ap (λ o. key_in (or_empty [] (option_map (λ (r : Part). r.nodes.entries) o)) j) (sym there) ∙ c.in_ok-row.ensures.key in
    put_in_shard parts made.shards i k key.1 part c.tell.new.self (at_node key.0 key.1 (said c.args.telling)) own there (c.in_ok-tell.ensures.said key.0 key.1 stands)
    ∙ ap (λ n. join (part_at parts k) (node_in n k key (said c.args.telling))) c.in_ok-row.ensures.kept
    ∙ c.in_ok-row.ensures.said k (said c.args.telling)
