use Rattle.std.proofs.Common.{ℕ, List, [], ◌∷◌, sym, ap, ◌∙◌}
use Rattle.node_model.specs.NodeMap.{Node}
use Rattle.node_logs.specs.Log.{node_told, types_told, index_told, properties_told, change_of}
use Rattle.node_logs.proofs.Logs.{types_told-append}
use Rattle.node_logs.proofs.node.Node.tell.Goals as goal

pub returns-in_ok-push-in-TypeName : goal.returns-in_ok-push-in-TypeName
returns-in_ok-push-in-TypeName c n =
    let made : List (List ℕ) → Node = λ ts. record { types = ts; index = index_told c.args.self.now.index n.index; properties = properties_told c.args.self.now.told.items n.properties } in
    ap (λ ts. made (types_told ts n.types)) c.in_ok-push-in-TypeName.ensures.items ∙ ap made (types_told-append c.args.self.now.types.items (c.in-TypeName.name ∷ []) n.types)
    ∙ ap (λ t. change_of t (node_told c.args.self.now n)) (sym c.in-TypeName.is)
