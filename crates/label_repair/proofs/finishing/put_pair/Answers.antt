use Rattle.std.proofs.Common.{[], ◌∷◌, ◌++◌, refl, sym, ap, ◌∙◌}
use Rattle.std.specs.Option.{option_copied_mut}
use Rattle.std.proofs.lemmas.List.{map-append}
use Rattle.ld_tree.specs.Built.{built, put_all}
use Rattle.ld_tree.specs.View.{member_view, members_view}
use Rattle.node_model.specs.Maps.{with_at}
use Rattle.node_logs.proofs.Maps.{changed-there, changed-missing}
use Rattle.label_repair.specs.Finished.{pairs_or_none}
use Rattle.label_repair.specs.Shards.{pairs_view, built_view}
use Rattle.label_repair.proofs.Finished.{put_all-both}
use Rattle.label_repair.proofs.finishing.put_pair.Goals as goal

pub returns-in-Some : goal.returns-in-Some
returns-in-Some c =
    ap built_view (c.get_mut.follows.holds c.push.new.self).0
    ∙ changed-there (λ v. built (pairs_view v)) pairs_or_none (put_all (member_view c.args.pair ∷ [])) c.args.graph c.args.made.now.entries c.push.new.self c.in-Some.pairs.now
    c.get_mut.ensures.ordered (sym c.get_mut.ensures.value ∙ ap option_copied_mut c.in-Some.is) refl
    (ap (λ ps. built (members_view ps)) c.in_ok-push.ensures.items
    ∙ ap built (map-append member_view c.in-Some.pairs.now.items (c.args.pair ∷ []))
    ∙ put_all-both (members_view c.in-Some.pairs.now.items) (member_view c.args.pair ∷ []) [])

pub returns : goal.returns
returns c =
    c.in_ok-put_graph.ensures ∙ ap (λ m. with_at c.args.graph (built (pairs_view c.push-2.new.self)) (built_view m.entries)) c.get_mut.follows.holds-at-none
    ∙ changed-missing (λ v. built (pairs_view v)) pairs_or_none (put_all (member_view c.args.pair ∷ [])) c.args.graph c.args.made.now.entries (built (pairs_view c.push-2.new.self))
    (sym c.get_mut.ensures.value ∙ ap option_copied_mut c.in_default.is)
    (ap (λ ps. built (members_view ps)) (c.in_ok-push-2.ensures.items ∙ ap (λ ps. ps ++ c.args.pair ∷ []) c.new-pairs.ensures.items))
