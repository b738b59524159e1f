use Rattle.label_repair.proofs.Renamed.{node_is_renamed, types_own, told_own}
use Rattle.label_repair.proofs.renaming.node_of.Goals as goal

pub types_of-requires : goal.types_of-requires
types_of-requires c = types_own c.args.labels.now c.requires.few c.args.entry c.requires.own

pub told_of-requires : goal.told_of-requires
told_of-requires c = told_own c.args.labels.now c.requires.few c.args.entry c.requires.own

pub returns : goal.returns
returns c =
    node_is_renamed c.args.labels.now c.requires.few c.args.entry (record { types = c.in_ok-types.types; index = c.text_of.result; told = c.in_ok-told.told })
    c.requires.own c.in_ok-types.ensures c.text_of.ensures c.in_ok-told.ensures
