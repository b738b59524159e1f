use Rattle.std.proofs.Common.{refl, ap, ◌∙◌}
use Rattle.ld_tree.specs.View.{view}
use Rattle.node_logs.specs.Log.{properties_told}
use Rattle.node_logs.proofs.Logs.{entry_behind}
use Rattle.node_logs.proofs.node.tell_entry.Goals as goal

pub returns : goal.returns
returns c ps =
    ap (λ l. properties_told l ps) c.in_ok-push-2.ensures.items
    ∙ entry_behind c.last_told.new.log.items c.in_ok-last.last (record { property = c.in_ok-last.last.property; entries = c.push.new.self }) c.args.property.now (view c.args.entry) ps
    (properties_told c.args.log.now.items ps) c.in_ok-last.ensures.property refl c.in_ok-push.ensures.ok (c.in_ok-last.ensures.log ps)
