use Rattle.std.proofs.Common.{◌≡◌, [], ◌∷◌, length, Ok, sym, subst, ap, ◌∙◌}
use Rattle.node_types.specs.Views.{Stops}
use Rattle.sum_model.specs.Sums.{Sum}
use Rattle.summary_merge.specs.Runs.{RunOf}
use Rattle.shard_model.specs.Joined.{with_count}
use Rattle.shard_model.specs.Own.{SumHasOwn}
use Rattle.label_repair.specs.Finished.{finished_joined}
use Rattle.label_repair.specs.Shards.{shards_view}
use Rattle.subtree_summary.specs.OnTheWay.{sums_view}
use Rattle.node_parts.proofs.Whole.{labels_of_chunks, sum_of_chunks, sum_is, names_are, one_shard, all_own, whole, stops}
use Rattle.node_parts.proofs.parts.node_map_by_parts.Goals as goal

pub whole_of-count-requires : goal.whole_of-count-requires
whole_of-count-requires c = one_shard c.args.items (sums_view c.in_ok-told.told.sums) c.in_ok-told.ensures

pub rename-requires : goal.rename-requires
rename-requires c =
    let is = c.in_ok-told.ensures in
    let chunks = is.chunks in
    let said = sums_view c.in_ok-told.told.sums in
    let labels-are : c.of_uses-labels.result ≡ labels_of_chunks chunks =
    c.of_uses-labels.ensures ∙ c.whole_of-count.ensures.uses ∙ names_are c.args.items said is in
    let sum-is : c.over.result.sum ≡ sum_of_chunks chunks =
    ap (λ (r : RunOf). r.sum) c.over.ensures ∙ c.whole_of-count.ensures.part ∙ sum_is c.args.items said is in
    subst (λ (s : Sum). SumHasOwn c.of_uses-labels.result s) (sym sum-is)
    (subst (λ l. SumHasOwn l (sum_of_chunks chunks)) (sym labels-are) (all_own c.args.items chunks is.divided))

pub returns-in-Ok : goal.returns-in-Ok
returns-in-Ok c =
    let is = c.in_ok-told.ensures in
    let chunks = is.chunks in
    let said = sums_view c.in_ok-told.told.sums in
    let labels-are : c.of_uses-labels.result ≡ labels_of_chunks chunks =
    c.of_uses-labels.ensures ∙ c.whole_of-count.ensures.uses ∙ names_are c.args.items said is in
    let sum-is : c.over.result.sum ≡ sum_of_chunks chunks =
    ap (λ (r : RunOf). r.sum) c.over.ensures ∙ c.whole_of-count.ensures.part ∙ sum_is c.args.items said is in
    let due = whole chunks c.args.items c.of_uses-labels.result c.over.result.sum (shards_view c.in_ok-alone.field-0.items) is.divided labels-are sum-is
    (ap shards_view c.in_ok-alone.ensures ∙ ap (λ s. s ∷ []) c.in_ok-shard.ensures) c.count-count.ensures.few in
    sym due ∙ ap (with_count (length c.of_uses-labels.result)) c.in-Ok.ensures
    ∙ ap (λ n. Ok (record { graphs = c.in-Ok.map.graphs; issued = n })) (sym c.count-count.ensures.count)

pub returns : goal.returns
returns c =
    let is = c.in_ok-told.ensures in
    let chunks = is.chunks in
    let said = sums_view c.in_ok-told.told.sums in
    let labels-are : c.of_uses-labels.result ≡ labels_of_chunks chunks =
    c.of_uses-labels.ensures ∙ c.whole_of-count.ensures.uses ∙ names_are c.args.items said is in
    let sum-is : c.over.result.sum ≡ sum_of_chunks chunks =
    ap (λ (r : RunOf). r.sum) c.over.ensures ∙ c.whole_of-count.ensures.part ∙ sum_is c.args.items said is in
    let shards = shards_view c.in_ok-alone.field-0.items in
    let due = whole chunks c.args.items c.of_uses-labels.result c.over.result.sum shards is.divided labels-are sum-is
    (ap shards_view c.in_ok-alone.ensures ∙ ap (λ s. s ∷ []) c.in_ok-shard.ensures) c.count-count.ensures.few in
    subst (λ d. Stops d c.in-Err.stop) due (stops (length c.of_uses-labels.result) (finished_joined shards) c.in-Err.stop c.in-Err.ensures)
