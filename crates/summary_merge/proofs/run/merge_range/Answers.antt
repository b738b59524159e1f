use Rattle.std.proofs.Common.{sym, ap, ◌∙◌, subst}
use Rattle.summary_merge.specs.Runs.{AreNeighbours, Begins, all_from}
use Rattle.summary_merge.proofs.Ranges.{two_first}
use Rattle.summary_merge.proofs.run.merge_range.Goals as goal

pub merge_next-requires : goal.merge_next-requires
merge_next-requires c = subst (Begins c.loop-next.run.end) c.in-Some-next.ensures.steps.0 c.loop-next.invariant.next

pub loop-next-preserved : goal.loop-next-preserved
loop-next-preserved c =
    let rest = c.next-in-loop-next.new.self.rest.items in
    let others = subst AreNeighbours c.in-Some-next.ensures.steps.0 c.loop-next.invariant.others in
    record {
      joined =
          ap (λ r. all_from r rest) c.in_ok-run.ensures
          ∙ two_first c.loop-next.run c.in-Some-next.next rest
          ∙ ap (all_from c.loop-next.run) (sym c.in-Some-next.ensures.steps.0)
          ∙ c.loop-next.invariant.joined;
      next = subst (λ r. Begins r.end rest) (sym c.in_ok-run.ensures) others.0;
      others = others.1;
    }
