-- What is said of an equal value: of the lists in a value, and of an outcome that is the same.
use Rattle.std.proofs.Common.{◌≡◌, List, Result, sym, ap, subst}
use Rattle.case_tables.specs.declared.code.Code.{Code}
use Rattle.ld_model.specs.Tree.{Tree, Pairs, trees_of, tree_list, members_of, member_list, tree_list-trees_of, member_list-members_of}
use Rattle.expand_types.specs.Answers.{Answers}
use Rattle.expand_types.specs.declared.stop.PartStop.{PartStop}

pub of_items : {X : Type 0} (f : List Tree → X) (ts : List Tree) → f (tree_list (trees_of ts)) ≡ f ts
of_items f ts = ap f (tree_list-trees_of ts)

pub of_object : {X : Type 0} (f : Pairs → X) (ms : Pairs) → f (member_list (members_of ms)) ≡ f ms
of_object f ms = ap f (member_list-members_of ms)

pub answers_of : {X V : Type 0} (r : Result X PartStop) (f : X → V) {d e : Result V Code} → d ≡ e → Answers r f e → Answers r f d
answers_of r f same said = subst (Answers r f) (sym same) said
