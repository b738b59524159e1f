use Rattle.std.proofs.Common.{ap, sym, ◌∙◌}
use Rattle.ld_model.specs.Tree.{member_list-members_of}
use Rattle.ld_tree.specs.View.{view}
use Rattle.expand_model.specs.Scope.{members_in}
use Rattle.expand_parts.proofs.properties.members_in.Goals as goal

pub returns-in-Map : goal.returns-in-Map
returns-in-Map c = sym (ap (λ v. members_in (view v)) c.in-Map.is ∙ member_list-members_of c.in-Map.members)
