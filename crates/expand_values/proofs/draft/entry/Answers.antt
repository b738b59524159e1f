use Rattle.std.proofs.Common.{ap, sym, ◌∙◌}
use Rattle.std.specs.Option.{option_map}
use Rattle.ld_tree.specs.View.{view}
use Rattle.expand_values.proofs.Entries.{lent-view, member_at-view}
use Rattle.expand_values.proofs.draft.entry.Goals as goal

pub returns : goal.returns
returns c = lent-view c.get.result ∙ ap (option_map view) c.get.ensures.value ∙ sym (member_at-view c.args.key.now c.args.entries.now.entries)
