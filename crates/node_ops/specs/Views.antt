-- What the state of the code stands for.
use Rattle.node_model.specs.Labels.{Labels}
use Rattle.node_model.specs.Generating.{State}
use Rattle.node_logs.specs.Views.{gathered_view}
use Rattle.node_types.specs.Views.{conflict_in}
use Rattle.node_ops.specs.declared.labels.Labels as issuer
use Rattle.node_ops.specs.declared.nodes.Nodes.{Nodes}

abbrev pub labels_view : issuer.Labels → Labels
labels_view l = record { issued = l.issued; given = l.given.entries }

abbrev pub state_view : Nodes → State
state_view n = record { graphs = gathered_view n.graphs; labels = labels_view n.labels; conflict = conflict_in n.conflict }
