use Rattle.std.proofs.Common.{ap, ◌∙◌}
use Rattle.op_types.specs.View.{name_view}
use Rattle.shard_model.specs.Numbered.{number_of}
use Rattle.label_repair.proofs.Names.{place_is_number}
use Rattle.label_repair.proofs.labels.Labels.of.Goals as goal

pub returns-in-Some : goal.returns-in-Some
returns-in-Some c =
    c.in-Some.ensures.index
    ∙ place_is_number c.args.name.now c.self.inside.names.keys
    ∙ ap (number_of (name_view c.args.name.now)) c.self.view_is

pub returns-in-None : goal.returns-in-None
returns-in-None c =
    c.in-None.ensures.index
    ∙ place_is_number c.args.name.now c.self.inside.names.keys
    ∙ ap (number_of (name_view c.args.name.now)) c.self.view_is
