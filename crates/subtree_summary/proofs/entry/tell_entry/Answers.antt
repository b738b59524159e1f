use Rattle.std.proofs.Common.{[], ◌∷◌, ap, ◌∙◌}
use Rattle.sum_model.specs.Sums.{properties_joined}
use Rattle.op_types.specs.View.{name_view, entry_view}
use Rattle.subtree_summary.specs.Log.{properties_view}
use Rattle.subtree_summary.proofs.Logs.{told_then}
use Rattle.subtree_summary.proofs.entry.tell_entry.Goals as goal

pub returns : goal.returns
returns c =
    let p = name_view c.args.property.now in
    let e = entry_view c.args.entry in
    c.in_ok-add_to_last.ensures p c.in_ok-tell_property.ensures.last
    ∙ ap (λ ps. properties_joined ps ((p, e ∷ []) ∷ [])) c.in_ok-tell_property.ensures.told
    ∙ told_then (properties_view c.args.log.now.items) p e
