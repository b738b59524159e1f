use Rattle.std.proofs.Common.{◌≡◌, [], sym, ap, ◌∙◌}
use Rattle.std.proofs.lemmas.List.{map-append}
use Rattle.ld_tree.specs.Built.{put_all, built}
use Rattle.ld_tree.specs.View.{member_view, members_view}
use Rattle.label_repair.proofs.Finished.{put_all-both, put_built, no_pairs}
use Rattle.label_repair.proofs.joining.add_nodes.Goals as goal

pub returns-then-is_empty : goal.returns-then-is_empty
returns-then-is_empty c =
    let held = c.args.pairs.now in
    let none : held.items ≡ [] = no_pairs held.items held.len held.ok.0 (sym c.is_empty.ensures ∙ c.if-is_empty.true) in
    let more = members_view c.args.more.items in
    sym (put_built more []) ∙ ap (λ ps. put_all (built more) (built (members_view ps))) (sym none)

pub returns : goal.returns
returns c =
    ap (λ ps. built (members_view ps)) c.in_ok-append.ensures.items
    ∙ ap built (map-append member_view c.args.pairs.now.items c.args.more.items)
    ∙ put_all-both (members_view c.args.pairs.now.items) (members_view c.args.more.items) _
    ∙ sym (put_built (members_view c.args.more.items) (built (members_view c.args.pairs.now.items)))
