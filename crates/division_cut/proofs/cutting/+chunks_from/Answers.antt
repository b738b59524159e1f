use Rattle.std.proofs.Common.{◌≡◌, true, false, arith, rules}
use Rattle.ld_tree.specs.View.{trees_view}
use Rattle.division_model.specs.ByWeight.{are_few, chunks_at}
use Rattle.division_cut.specs.Views.{chunks_view}
use Rattle.division_cut.proofs.Rounds.{none_found, still_few}
use Rattle.division_cut.proofs.cutting.+chunks_from.Goals as goal

pub chunks_from-requires : goal.chunks_from-requires
chunks_from-requires t c =
    let items = trees_view c.args.items.now in
    let many = none_found c.in_ok-chunks.field-0 (are_few (chunks_at c.args.limit items) ≡ false)
    (λ chunks. (are_few (chunks_at c.args.limit items) ≡ true) × (chunks_view chunks.items ≡ chunks_at c.args.limit items)) c.in_ok-chunks.ensures c.in_default.is in
    (search rules, still_few items c.args.limit c.saturating_mul.result c.args.times (omega (arith, c.if-times-eq0.false)) many c.saturating_mul.ensures c.requires)
