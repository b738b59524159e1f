use Rattle.std.proofs.Common.{[], refl, sym, ap, ◌∙◌}
use Rattle.std.specs.Option.{option_copied_mut}
use Rattle.std.specs.BTreeMap.{insert_entry}
use Rattle.ld_model.specs.Tree.{byte_order}
use Rattle.node_model.specs.NodeMap.{entries_or_none}
use Rattle.node_logs.specs.Log.{all_told}
use Rattle.node_logs.specs.Views.{shown}
use Rattle.node_logs.specs.Merged.{trees_told}
use Rattle.node_logs.proofs.Maps.{shown-insert, changed-there, changed-missing}
use Rattle.node_logs.proofs.Logs.{all_told-append}
use Rattle.node_logs.proofs.finishing.add.Goals as goal

pub returns-in-Some : goal.returns-in-Some
returns-in-Some c =
    ap (shown trees_told) (c.get_mut.follows.holds c.append.new.held).0
    ∙ changed-there trees_told entries_or_none (all_told c.args.told.entries) c.args.told.property c.args.values.now.entries c.append.new.held c.in-Some.held.now
    c.get_mut.ensures.ordered (sym c.get_mut.ensures.value ∙ ap option_copied_mut c.in-Some.is) refl
    (ap trees_told c.in_ok-append.ensures ∙ all_told-append c.in-Some.held.now c.args.told.entries [])

pub returns-in-Ok : goal.returns-in-Ok
returns-in-Ok c =
    ap (shown trees_told) (c.in-Ok.ensures.entries ∙ ap (λ m. insert_entry byte_order m.entries c.args.told.property c.args.told.entries) c.get_mut.follows.holds-at-none)
    ∙ shown-insert trees_told c.args.told.property c.args.told.entries c.args.values.now.entries
    ∙ changed-missing trees_told entries_or_none (all_told c.args.told.entries) c.args.told.property c.args.values.now.entries (trees_told c.args.told.entries)
    (sym c.get_mut.ensures.value ∙ ap option_copied_mut c.in_default.is) refl
