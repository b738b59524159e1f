use Rattle.std.proofs.Common.{◌≡◌, rules, sym, subst, ap, ◌∙◌}
use Rattle.node_model.specs.NodeMap.{list_object}
use Rattle.op_model.specs.Ops.{list, entries_of}
use Rattle.op_model.specs.Running.{entry_in}
use Rattle.op_laws.specs.Own.{EntryHasOwn}
use Rattle.op_types.specs.View.{entry_view, entry_weight}
use Rattle.label_repair.proofs.Lists.{each_own, each_renamed}
use Rattle.label_repair.proofs.renaming.+entry.Goals as goal

pub tree_of-items_of-requires : goal.tree_of-items_of-requires
tree_of-items_of-requires t c =
    let is : entry_view c.args.entry ≡ list (entries_of c.in-List.entries) = ap entry_view c.in-List.is in
    let weighs = ap entry_weight is in
    (search rules, each_own c.args.labels.now c.in-List.entries (subst (EntryHasOwn c.args.labels.now) is c.requires))

pub tree_of-returns-in_ok-list_object-in-List : goal.tree_of-returns-in_ok-list_object-in-List
tree_of-returns-in_ok-list_object-in-List t c =
    let names = c.args.labels.now in
    c.in_ok-list_object-in-List.ensures ∙ ap list_object (c.in_ok-items-in-List.ensures ∙ sym (each_renamed names c.in-List.entries))
    ∙ ap (entry_in names) (sym (ap entry_view c.in-List.is))
