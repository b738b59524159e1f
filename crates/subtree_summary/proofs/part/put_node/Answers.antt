use Rattle.std.proofs.Common.{sym, ap, ◌∙◌}
use Rattle.std.specs.Option.{option_copied_mut}
use Rattle.std.specs.Map.{lookup}
use Rattle.indexmap.specs.IndexMap.{insert_entry}
use Rattle.subtree_summary.specs.Log.{part_entry_view}
use Rattle.subtree_summary.specs.Parts.{same_code_key, nodes_view}
use Rattle.subtree_summary.proofs.Parts.{changed, added, inserted, others_set, others_added}
use Rattle.subtree_summary.proofs.part.put_node.Goals as goal

pub returns-in-Some-clause-joined : goal.returns-in-Some-clause-joined
returns-in-Some-clause-joined c =
    ap nodes_view (c.get_mut.follows.holds c.append.new.self).0
    ∙ changed c.args.nodes.now.entries c.args.key c.in-Some.entry.now c.append.new.self (part_entry_view c.args.later) c.get_mut.ensures.unique (sym c.get_mut.ensures.value ∙ ap option_copied_mut c.in-Some.is) c.in_ok-append-in-Some.ensures.joined

pub returns-in-Some-clause-others : goal.returns-in-Some-clause-others
returns-in-Some-clause-others c k apart =
    ap (lookup (same_code_key k)) (c.get_mut.follows.holds c.append.new.self).0
    ∙ others_set c.args.nodes.now.entries c.args.key k c.append.new.self apart

pub returns-clause-joined : goal.returns-clause-joined
returns-clause-joined c =
    ap nodes_view (c.in_ok-insert.ensures.entries ∙ ap (λ m. insert_entry same_code_key m.entries c.args.key c.args.later) c.get_mut.follows.holds-at-none)
    ∙ added c.args.nodes.now.entries c.args.key c.args.later (sym c.get_mut.ensures.value ∙ ap option_copied_mut c.in-None.is)

pub returns-clause-others : goal.returns-clause-others
returns-clause-others c k apart =
    ap (lookup (same_code_key k)) (c.in_ok-insert.ensures.entries ∙ ap (λ m. insert_entry same_code_key m.entries c.args.key c.args.later) c.get_mut.follows.holds-at-none
    ∙ inserted c.args.nodes.now.entries c.args.key c.args.later (sym c.get_mut.ensures.value ∙ ap option_copied_mut c.in-None.is))
    ∙ others_added c.args.nodes.now.entries c.args.key k c.args.later apart
