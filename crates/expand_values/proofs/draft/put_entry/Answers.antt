use Rattle.std.proofs.Common.{ap, ◌∙◌}
use Rattle.ld_tree.specs.View.{members_view}
use Rattle.expand_values.proofs.Entries.{put-view}
use Rattle.expand_values.proofs.draft.put_entry.Goals as goal

pub returns-in-Ok : goal.returns-in-Ok
returns-in-Ok c = ap members_view c.in-Ok.ensures.entries ∙ put-view c.args.key c.args.value c.args.entries.now.entries
