use Rattle.std.proofs.Common.{Some, ap, sym, ◌∙◌}
use Rattle.std.specs.Option.{option_map, option_copied_mut}
use Rattle.ld_model.specs.Tree.{put}
use Rattle.ld_tree.specs.View.{view, members_view}
use Rattle.expand_values.proofs.Entries.{ascending-view, member_at-view, set-view}
use Rattle.expand_values.proofs.Puts.{put-over}
use Rattle.expand_values.proofs.draft.take_entry.Goals as goal

pub returns-in-None-clause-value : goal.returns-in-None-clause-value
returns-in-None-clause-value c =
    ap (option_map view) (sym (ap option_copied_mut c.in-None.is) ∙ c.get_mut.ensures.value) ∙ sym (member_at-view c.args.key.now c.args.entries.now.entries)

pub returns-in-Some-clause-value : goal.returns-in-Some-clause-value
returns-in-Some-clause-value c =
    ap (λ t. option_map view (Some t)) c.replace.ensures.value ∙ ap (option_map view) (sym (ap option_copied_mut c.in-Some.is) ∙ c.get_mut.ensures.value)
    ∙ sym (member_at-view c.args.key.now c.args.entries.now.entries)

pub returns-in-Some-clause-left : goal.returns-in-Some-clause-left
returns-in-Some-clause-left c = λ t.
    let k = c.args.key.now in
    let es = c.args.entries.now.entries in
    ap (λ l. put k t (members_view l)) (c.get_mut.follows.holds c.replace.new.dest).0 ∙ ap (put k t) (set-view k c.replace.new.dest es)
    ∙ put-over k t (view c.replace.new.dest) (members_view es) (ascending-view es c.get_mut.ensures.ordered)
