use Rattle.std.proofs.Common.{arith, ◌≡◌, ◌<◌, ◌≤◌, refl, length, sym, ◌∙◌, subst, slice_index_or}
use Rattle.std.specs.Prelude.{insert}
use Rattle.std.proofs.lemmas.List.{get_or_default}
use Rattle.std.specs.List.Sorted.{IsPartitionPoint}
use Rattle.shard_map.specs.Views.{Rises, spans}
use Rattle.shard_map.proofs.Places.{covers-there, free-there, rises-insert, Before, After}
use Rattle.shard_map.proofs.runs.put.Goals as goal
use Rattle.shard_map.proofs.runs.put.Goals.{else-at-len-via-then-at-len+else-first-piece, else-at-len-via-else-at-len}

pub returns-then-first-piece-clause-put : goal.returns-then-first-piece-clause-put
returns-then-first-piece-clause-put g c =
    let parted : IsPartitionPoint (λ x. g.P.Merge.end_of x ≤ c.args.piece) (λ x. c.args.piece < g.P.Merge.end_of x) c.args.runs.now.items c.place_of-at.result = subst (λ l. IsPartitionPoint (λ x. g.P.Merge.end_of x ≤ c.args.piece) (λ x. c.args.piece < g.P.Merge.end_of x) l c.place_of-at.result) c.deref.ensures.value c.place_of-at.ensures.parted in
    let at : c.index.result.now ≡ slice_index_or c.args.runs.now.items c.place_of-at.result c.index.result.now = c.index.ensures in
    let low : c.place_of-at.result < length c.args.runs.now.items = omega arith in
    let starts : g.P.Merge.start_of c.index.result.now ≤ c.args.piece = omega arith in (
      refl,
      covers-there g.P.Merge.start_of g.P.Merge.end_of c.args.runs.now.items c.place_of-at.result c.args.piece c.index.result.now low (subst (λ x. g.P.Merge.start_of x ≤ c.args.piece) at starts) (parted.1 c.place_of-at.result c.index.result.now (omega arith) low),
      refl,
    )

pub returns-clause-put : goal.returns-clause-put
returns-clause-put g c =
    let parted : IsPartitionPoint (λ x. g.P.Merge.end_of x ≤ c.args.piece) (λ x. c.args.piece < g.P.Merge.end_of x) c.args.runs.now.items c.place_of-at.result = subst (λ l. IsPartitionPoint (λ x. g.P.Merge.end_of x ≤ c.args.piece) (λ x. c.args.piece < g.P.Merge.end_of x) l c.place_of-at.result) c.deref.ensures.value c.place_of-at.ensures.parted in
    let xs = c.args.runs.now.items in
    let at = c.place_of-at.result in
    let after : After g.P.Merge.start_of g.P.Merge.end_of xs at c.args.piece = elim c.else-at-len.branch [
      | else-at-len-via-then-at-len+else-first-piece w ↦ (λ d low. subst (λ x. c.args.piece < g.P.Merge.start_of x) (w.index.ensures ∙ get_or_default xs at w.index.result.now d low) (omega arith))
      | else-at-len-via-else-at-len w ↦ (λ d low. absurd (omega arith))
    ] in
    let before : Before g.P.Merge.start_of g.P.Merge.end_of xs at c.args.piece = λ k d l. parted.0 k d (omega arith) l in
    let put : c.insert.new.self.items ≡ insert xs at c.args.part = c.in-Ok.ensures.items in (
      free-there g.P.Merge.start_of g.P.Merge.end_of xs 0 at c.args.piece c.requires.rises before after,
      subst (λ ys. Rises 0 (spans g.P.Merge.start_of g.P.Merge.end_of ys)) (sym put) (rises-insert g.P.Merge.start_of g.P.Merge.end_of xs 0 at c.args.piece c.args.part c.requires.rises (omega arith) before after c.requires.part.0 c.requires.part.1),
      at,
      put,
    )
