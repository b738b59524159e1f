use Rattle.std.proofs.Common.{◌≡◌, ap, ◌∙◌, subst, sym}
use Rattle.std.specs.Prelude.{OnOk}
use Rattle.std.specs.BTreeMap.{insert_entry}
use Rattle.ld_model.specs.Tree.{byte_order}
use Rattle.ctx_entries.specs.Marks.{marks_view}
use Rattle.ctx_entries.proofs.Held.{insert-view}
use Rattle.ctx_entries.proofs.state.Marks.set.Goals as goal
use Rattle.ctx_entries.proofs.state.Marks.set.Goals.{in-Ok, in-Err}

pub returns : goal.returns
returns c =
    elim c.match-insert.branch [
      | in-Ok w ↦
          let set = ap marks_view w.in-Ok.ensures.entries ∙ insert-view c.in_ok-from_str.field-0 c.args.done c.self.inside.terms.entries
          ∙ ap (λ k. insert_entry byte_order (marks_view c.self.inside.terms.entries) k c.args.done) c.in_ok-from_str.ensures.ok
          ∙ ap (λ es. insert_entry byte_order es c.args.term.now c.args.done) c.self.view_is in
          subst (λ r. OnOk r (marks_view c.insert.new.self.entries ≡ insert_entry byte_order c.args.self.now c.args.term.now c.args.done)) (sym w.result-is) set
      | in-Err w ↦ subst (λ r. OnOk r (marks_view c.insert.new.self.entries ≡ insert_entry byte_order c.args.self.now c.args.term.now c.args.done)) (sym w.result-is) tt
    ]
