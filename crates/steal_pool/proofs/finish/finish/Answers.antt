use Rattle.std.proofs.Common.{◌≡◌, ◌<◌, ◌≤◌, ℕ, true, Option, MatchOption, length, subst, ◌∙◌, arith}
use Rattle.std.specs.Prelude.{IfSome}
use Rattle.steal_pool.proofs.Finishing.{end_below, cut, all_ran, first_failed}
use Rattle.steal_pool.proofs.finish.finish.Goals as goal

pub returns-in-None : goal.returns-in-None
returns-in-None g c =
    let below : c.end_of-end.result ≤ g.P.Piecework.count c.args.crew.now.job.now = end_below c.args.gathered.failure _ _ _ (λ x. g.P.Piecework.fails c.args.crew.now.job.now x.0 ≡ true) (λ x. g.W.Work.bad c.args.crew.now.work.now c.args.crew.now.job.now x.0 x.1) c.end_of-end.ensures c.pieces.ensures c.requires.failure_own in
    let kept = cut (g.P.Piecework.count c.args.crew.now.job.now) _ (g.W.Work.fits c.args.crew.now.work.now c.args.crew.now.job.now) _ (g.W.Work.bad c.args.crew.now.work.now c.args.crew.now.job.now) _ (g.W.Work.same c.args.crew.now.work.now) _ c.end_of-end.result c.args.gathered.slots.items c.truncate.new.self.items c.truncate.ensures.items (omega (arith, c.requires.slot_each)) c.requires.slots_held in
    let end : c.end_of-end.result ≡ c.pieces.result = subst (λ (f : Option (ℕ × g.row.W-Error.Denot)). MatchOption f (c.end_of-end.result ≡ c.pieces.result) (λ x. c.end_of-end.result ≡ x.0)) c.in-None.is c.end_of-end.ensures in
    all_ran (g.P.Piecework.count c.args.crew.now.job.now) _ _ _ (g.W.Work.bad c.args.crew.now.work.now c.args.crew.now.job.now) _ _ _ c.end_of-end.result _ (length c.truncate.new.self.items) kept.0 (end ∙ c.pieces.ensures) c.in_ok-answers.ensures.seats c.in_ok-answers.ensures.told

pub returns-in-Some : goal.returns-in-Some
returns-in-Some g c =
    let below : c.end_of-end.result ≤ g.P.Piecework.count c.args.crew.now.job.now = end_below c.args.gathered.failure _ _ _ (λ x. g.P.Piecework.fails c.args.crew.now.job.now x.0 ≡ true) (λ x. g.W.Work.bad c.args.crew.now.work.now c.args.crew.now.job.now x.0 x.1) c.end_of-end.ensures c.pieces.ensures c.requires.failure_own in
    let kept = cut (g.P.Piecework.count c.args.crew.now.job.now) _ (g.W.Work.fits c.args.crew.now.work.now c.args.crew.now.job.now) _ (g.W.Work.bad c.args.crew.now.work.now c.args.crew.now.job.now) _ (g.W.Work.same c.args.crew.now.work.now) _ c.end_of-end.result c.args.gathered.slots.items c.truncate.new.self.items c.truncate.ensures.items (omega (arith, c.requires.slot_each)) c.requires.slots_held in
    let end : c.end_of-end.result ≡ c.in-Some.piece = subst (λ (f : Option (ℕ × g.row.W-Error.Denot)). MatchOption f (c.end_of-end.result ≡ c.pieces.result) (λ x. c.end_of-end.result ≡ x.0)) c.in-Some.is c.end_of-end.ensures in
    let own = subst (λ (f : Option (ℕ × g.row.W-Error.Denot)). IfSome f (λ x. (x.0 < g.P.Piecework.count c.args.crew.now.job.now) × (g.P.Piecework.fails c.args.crew.now.job.now x.0 ≡ true) × g.W.Work.bad c.args.crew.now.work.now c.args.crew.now.job.now x.0 x.1)) c.in-Some.is c.requires.failure_own in
    first_failed (g.P.Piecework.count c.args.crew.now.job.now) _ (g.W.Work.fits c.args.crew.now.work.now c.args.crew.now.job.now) _ _ _ (g.W.Work.same c.args.crew.now.work.now) c.args.gathered.seats.items c.end_of-end.result _ c.answer_all.new.seats.items (length c.truncate.new.self.items) _ _ kept.0 end own c.in_ok-answers.ensures.seats c.in_ok-answers.ensures.told
