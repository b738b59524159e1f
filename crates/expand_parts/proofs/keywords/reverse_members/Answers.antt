use Rattle.std.proofs.Common.{◌≡◌, ap, sym, ◌∙◌}
use Rattle.expand_model.specs.Keywords.{each_reversed, forward_added, reversed_in}
use Rattle.expand_model.specs.Properties.{reverses_of}
use Rattle.expand_values.proofs.Carried.{answers_of}
use Rattle.expand_parts.proofs.Reversed.{reversed-at, reversed-taken}
use Rattle.expand_parts.proofs.keywords.reverse_members.Goals as goal

pub returns : goal.returns
returns c =
    let ms = c.args.members in
    let forward = c.reversed_in-forward.ensures ∙ ap reverses_of c.take.ensures.value ∙ sym (reversed-at ms) in
    let added : c.add_forward.new.made ≡ forward_added (reversed_in ms) c.args.made.now = c.in_ok-add_forward.ensures ∙ ap (λ f. forward_added f c.args.made.now) forward in
    answers_of _ _ (sym (ap (λ l. each_reversed l c.add_forward.new.made) c.take.ensures.left ∙ reversed-taken ms c.add_forward.new.made ∙ ap (each_reversed ms) added)) c.reverse_each.ensures
