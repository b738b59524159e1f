use Rattle.std.proofs.Common.{[], refl, sym, ap, ◌∙◌}
use Rattle.std.specs.Option.{option_copied_mut}
use Rattle.node_model.specs.Maps.{with_at}
use Rattle.node_logs.proofs.Maps.{changed-there, changed-missing}
use Rattle.ld_tree.specs.Built.{put_all, built}
use Rattle.label_repair.specs.Finished.{pairs_or_none}
use Rattle.label_repair.specs.Shards.{pairs_view, built_view}
use Rattle.label_repair.proofs.Finished.{put_built}
use Rattle.label_repair.proofs.joining.add_graph.Goals as goal

pub returns-in-Some : goal.returns-in-Some
returns-in-Some c =
    ap built_view (c.get_mut.follows.holds c.add_nodes.new.pairs).0
    ∙ changed-there (λ v. built (pairs_view v)) pairs_or_none (put_all (built (pairs_view c.args.more))) c.args.name c.args.graphs.now.entries c.add_nodes.new.pairs c.in-Some.pairs.now
    c.get_mut.ensures.ordered (sym c.get_mut.ensures.value ∙ ap option_copied_mut c.in-Some.is) refl c.in_ok-add_nodes.ensures

pub returns : goal.returns
returns c =
    c.in_ok-put_graph.ensures ∙ ap (λ m. with_at c.args.name (built (pairs_view c.args.more)) (built_view m.entries)) c.get_mut.follows.holds-at-none
    ∙ changed-missing (λ v. built (pairs_view v)) pairs_or_none (put_all (built (pairs_view c.args.more))) c.args.name c.args.graphs.now.entries (built (pairs_view c.args.more))
    (sym c.get_mut.ensures.value ∙ ap option_copied_mut c.in_default.is) (sym (put_built (pairs_view c.args.more) []))
