use Rattle.std.proofs.Common.{ap, ◌∙◌, true, cond, Bor, List, ℕ}
use Rattle.std.proofs.lemmas.Map.Text.{is_eq-slice_cmp}
use Rattle.ctx_store.specs.Seen.{has}
use Rattle.ctx_store.proofs.index.add.Goals as goal

pub returns-clause-seen : goal.returns-clause-seen
returns-clause-seen c = λ q.
    let text : Bor (List ℕ) = record { ref_ptr = (0, 0); now = q } in
    c.in_ok-added.ensures.updates.0 text ∙ ap (λ b. cond b true (has c.args.seen.now q)) (is_eq-slice_cmp c.args.iri.now q)
