use Rattle.std.proofs.Common.{sym, subst}
use Rattle.ld_model.specs.Tree.{AreAscending, member_list-members_of}
use Rattle.ld_tree.specs.View.{view}
use Rattle.cut_model.specs.KeysAscend.{KeysAscend}
use Rattle.subtree_cut.proofs.ascending.+ascending.Goals as goal

pub keys_ascend-returns-in-Map : goal.keys_ascend-returns-in-Map
keys_ascend-returns-in-Map t c =
    subst (λ t. KeysAscend (view t)) (sym c.in-Map.is)
    (subst AreAscending (sym (member_list-members_of c.in-Map.members)) c.keys_ascend_in_values.ensures.ascending, c.keys_ascend_in_values.ensures.values)
