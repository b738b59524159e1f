use Rattle.std.proofs.Common.{◌≡◌, ◌-◌, ◌<◌, length, Some, slice_get, arith, refl, sym, ap, ◌∙◌}
use Rattle.std.specs.Prelude.{slice_set, option_map}
use Rattle.std.specs.Vec.{vec_len}
use Rattle.std.proofs.lemmas.Option.{slice_get_read}
use Rattle.sum_model.specs.Joins.{or_empty}
use Rattle.op_types.specs.View.{name_view}
use Rattle.subtree_summary.specs.declared.entry.Told.{Told}
use Rattle.subtree_summary.specs.Log.{properties_view}
use Rattle.subtree_summary.proofs.Logs.{added_to_last}
use Rattle.subtree_summary.proofs.entry.add_to_last.Goals as goal

pub returns-in_ok-push-in-Some : goal.returns-in_ok-push-in-Some
returns-in_ok-push-in-Some c p is =
    let ts = c.args.log.now.items in
    let t = c.in-Some.last.now in
    let u : Told = record { property = t.property; entries = c.push.new.self } in
    let long : vec_len c.args.log.now ≡ length ts = c.args.log.now.ok.0 in
    let value = ap (λ n. slice_get ts (n - 1)) long in
    let within : vec_len c.args.log.now - 1 < length ts = omega (arith, long, c.in-Some.ensures.item.3.0) in
    let there : slice_get ts (vec_len c.args.log.now - 1) ≡ Some t = slice_get_read ts (length ts) (vec_len c.args.log.now - 1) t refl within c.in-Some.ensures.value in
    let at : slice_get ts (length ts - 1) ≡ Some t = sym value ∙ there in
    ap (λ n. properties_view (slice_set ts (n - 1) u)) long
    ∙ added_to_last ts t u p c.args.entry at (ap (or_empty (name_view t.property)) (sym (ap (option_map (λ (x : Told). name_view x.property)) at) ∙ is)) refl c.in_ok-push-in-Some.ensures.items
