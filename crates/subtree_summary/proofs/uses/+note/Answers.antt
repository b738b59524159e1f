use Rattle.std.proofs.Common.{◌≡◌, ◌∷◌, arith, sym, ap, ◌∙◌}
use Rattle.op_model.specs.Running.{used, uses_of_entry}
use Rattle.op_types.specs.View.{entry_view, entries_size}
use Rattle.subtree_summary.specs.Uses.{uses_view, uses_of_list}
use Rattle.subtree_summary.proofs.Used.{used-append}
use Rattle.subtree_summary.proofs.uses.+note.Goals as goal

pub note_entries-loop-entry-preserved : goal.note_entries-loop-entry-preserved
note_entries-loop-entry-preserved t c =
    let rest = c.next.new.self in
    let held = uses_view c.loop-entry.uses in
    let is : c.loop-entry.entry-iterator ≡ entry_view c.in-Some.entry.now ∷ rest = c.in-Some.ensures.steps in
    record {
      noted =
          ap (λ u. used u (uses_of_list rest)) c.in_ok-note_entry.ensures
          ∙ sym (used-append held (uses_of_entry (entry_view c.in-Some.entry.now)) (uses_of_list rest))
          ∙ ap (λ es. used held (uses_of_list es)) (sym is)
          ∙ c.loop-entry.invariant.noted;
      lighter = omega (arith, ap entries_size is, c.loop-entry.invariant.lighter);
    }
