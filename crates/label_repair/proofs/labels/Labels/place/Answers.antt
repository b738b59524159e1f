use Rattle.std.proofs.Common.{Some, None, sym, ap, ◌∙◌}
use Rattle.std.proofs.lemmas.List.{length-map}
use Rattle.op_model.specs.Running.{place_of}
use Rattle.op_types.specs.View.{name_view}
use Rattle.label_repair.proofs.Names.{place_is}
use Rattle.label_repair.proofs.labels.Labels.place.Goals as goal

pub returns-in-Some : goal.returns-in-Some
returns-in-Some c =
    place_is c.args.name.now c.self.inside.names.keys (Some c.in-Some.number) (sym c.in-Some.ensures.index)
    ∙ ap (place_of (name_view c.args.name.now)) c.self.view_is

pub returns-in-None : goal.returns-in-None
returns-in-None c =
    c.len.ensures.len ∙ sym (length-map c.self.inside.names.keys name_view)
    ∙ place_is c.args.name.now c.self.inside.names.keys None (sym c.in-None.ensures.index)
    ∙ ap (place_of (name_view c.args.name.now)) c.self.view_is
