use Rattle.std.proofs.Common.{Some, sym, ap}
use Rattle.node_logs.specs.Log.{index_told}
use Rattle.node_logs.proofs.Rows.{told-behind}
use Rattle.node_logs.proofs.node.Node.tell_all.Goals as goal

pub returns-in-Some : goal.returns-in-Some
returns-in-Some c =
    told-behind c.args.self.now c.args.log c.append_types.new.types.items (Some c.in-Some.index) c.append_told.new.log.items c.in_ok-append_types.ensures
    (sym (ap (λ i. index_told i c.args.self.now.index) c.in-Some.is)) c.in_ok-append_told.ensures

pub returns-in_default : goal.returns-in_default
returns-in_default c =
    told-behind c.args.self.now c.args.log c.append_types.new.types.items c.args.self.now.index c.append_told.new.log.items c.in_ok-append_types.ensures
    (sym (ap (λ i. index_told i c.args.self.now.index) c.in_default.is)) c.in_ok-append_told.ensures
