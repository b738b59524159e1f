use Rattle.std.proofs.Common.{◌≡◌, [], ◌∷◌, ◌++◌, sym, ap, ◌∙◌, rules}
use Rattle.std.specs.Option.{option_to_list}
use Rattle.node_model.specs.NodeMap.{with_entries}
use Rattle.node_logs.specs.Log.{properties_told}
use Rattle.node_logs.proofs.Logs.{ends_with, nothing_behind}
use Rattle.node_logs.proofs.node.last_told.Goals as goal

pub returns-then-eq-clause-log : goal.returns-then-eq-clause-log
returns-then-eq-clause-log c ps =
    let is : c.in-Some.last.property ≡ c.args.property.now = search rules in
    let whole : c.args.log.now.items ≡ c.pop.new.self.items ++ c.in-Some.last ∷ [] = c.pop.ensures.items ∙ ap (λ o. c.pop.new.self.items ++ option_to_list o) c.in-Some.is in
    ends_with c.pop.new.self.items c.in-Some.last c.args.property.now ps is ∙ ap (λ l. with_entries c.args.property.now (λ es. es) (properties_told l ps)) (sym whole)

pub returns-clause-log : goal.returns-clause-log
returns-clause-log c ps =
    let whole : c.args.log.now.items ≡ c.pop.new.self.items ++ c.in-Some.last ∷ [] = c.pop.ensures.items ∙ ap (λ o. c.pop.new.self.items ++ option_to_list o) c.in-Some.is in
    nothing_behind c.push.new.self.items c.in_ok-told-2.told c.args.property.now ps c.in_ok-told-2.ensures.property c.in_ok-told-2.ensures.entries
    ∙ ap (λ l. with_entries c.args.property.now (λ es. es) (properties_told l ps)) (c.in_ok-push.ensures.items ∙ sym whole)
