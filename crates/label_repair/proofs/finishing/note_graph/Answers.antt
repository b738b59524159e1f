use Rattle.std.proofs.Common.{[], refl, sym, ap, ◌∙◌}
use Rattle.std.specs.Option.{option_copied_mut}
use Rattle.ld_tree.specs.Built.{built, put_all}
use Rattle.ld_tree.specs.View.{members_view}
use Rattle.node_model.specs.Maps.{with_at}
use Rattle.node_logs.proofs.Maps.{changed-there, changed-missing}
use Rattle.label_repair.specs.Finished.{pairs_or_none}
use Rattle.label_repair.specs.Shards.{pairs_view, built_view}
use Rattle.label_repair.proofs.finishing.note_graph.Goals as goal

pub returns-in-Some : goal.returns-in-Some
returns-in-Some c =
    ap built_view (c.get_mut.follows.holds c.in-Some._pairs.now).0
    ∙ changed-there (λ v. built (pairs_view v)) pairs_or_none (put_all []) c.args.name c.args.made.now.entries c.in-Some._pairs.now c.in-Some._pairs.now
    c.get_mut.ensures.ordered (sym c.get_mut.ensures.value ∙ ap option_copied_mut c.in-Some.is) refl refl

pub returns : goal.returns
returns c =
    c.in_ok-put_graph.ensures ∙ ap (λ m. with_at c.args.name (built (pairs_view c.new.result)) (built_view m.entries)) c.get_mut.follows.holds-at-none
    ∙ changed-missing (λ v. built (pairs_view v)) pairs_or_none (put_all []) c.args.name c.args.made.now.entries (built (pairs_view c.new.result))
    (sym c.get_mut.ensures.value ∙ ap option_copied_mut c.in_default.is) (ap (λ ps. built (members_view ps)) c.new.ensures.items)
