use Rattle.std.proofs.Common.{ap}
use Rattle.tree_expand.specs.Known.{answer_view}
use Rattle.tree_expand.specs.View.{at_view, given_view}
use Rattle.tree_expand.proofs.Known.{none_asked, some_asked}
use Rattle.tree_expand.proofs.answered.AnsweredRanges.ask.Goals as goal

pub returns-in-None-clause-answer : goal.returns-in-None-clause-answer
returns-in-None-clause-answer g c =
    none_asked (g.O.Answers.known c.args.self.now.answers.now) (at_view c.args.at.now).place c.lead_to.new.place c.args.number c.in-None.ensures c.in_ok-lead_to.ensures

pub returns-in-None-clause-state : goal.returns-in-None-clause-state
returns-in-None-clause-state g c = ap (λ p. record c.args.self.now { array = p }) c.in_ok-lead_to.ensures

pub returns-in_ok-given-in-Some-clause-answer : goal.returns-in_ok-given-in-Some-clause-answer
returns-in_ok-given-in-Some-clause-answer g c =
    some_asked (g.O.Answers.known c.args.self.now.answers.now) (at_view c.args.at.now).place c.lead_to.new.place c.args.number (answer_view c.in-Some.answer) c.in_ok-given-in-Some.given.more (given_view c.in_ok-given-in-Some.given.outcome)
    c.in-Some.ensures c.in_ok-lead_to.ensures c.in_ok-given-in-Some.ensures

pub returns-in_ok-given-in-Some-clause-state : goal.returns-in_ok-given-in-Some-clause-state
returns-in_ok-given-in-Some-clause-state g c = ap (λ p. record c.args.self.now { array = p }) c.in_ok-lead_to.ensures
