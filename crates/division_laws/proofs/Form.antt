-- The form of a division's chunks.
use Rattle.std.proofs.Common.{◌≡◌, List, [], ◌∷◌, true, refl, sym, subst}
use Rattle.std.specs.Prelude.{⊤}
use Rattle.std.specs.List.{AllByRecursion}
use Rattle.ld_model.specs.Tree.{Tree, array, trees_of}
use Rattle.ld_model.specs.Keys.{default_graph}
use Rattle.node_model.specs.Walk.{To, nowhere, under, in_list, reverse}
use Rattle.node_laws.proofs.Lists.{all_last}
use Rattle.op_model.specs.Names.{Name, iri}
use Rattle.op_model.specs.Ops.{Op}
use Rattle.op_model.specs.Noting.{spine}
use Rattle.op_laws.proofs.Gathered.{is_outside}
use Rattle.division_model.specs.Dividing.{Division, with_spine, spine_ended, range_of, range_ended, undivided}
use Rattle.division_laws.specs.Laws.{HasForm, DivisionsHaveForm}
use Rattle.division_laws.proofs.Kept.{Keeps, divide_keeps}

abbrev HaveForm : Division → Type 0
HaveForm d = AllByRecursion HasForm d.chunks

ended_has_form : (d : Division) → HaveForm d → HaveForm (spine_ended d)
ended_has_form d are = by_ops d.notes.ops
  where
    by_ops : (os : List Op) → HaveForm (with_spine os d)
    by_ops [] = are
    by_ops (o ∷ os) = all_last HasForm d.chunks (spine (o ∷ os)) are (refl, refl)

range_has_form : (g : Name) (to : To Name) (t : Tree) (ts : List Tree) → is_outside to ≡ true → HasForm (range_of g to (t ∷ ts))
range_has_form g nowhere t ts out = (refl, refl)
range_has_form g (under n p) t ts out = (refl, refl)
range_has_form g in_list t ts out = absurd (cc)
range_has_form g (reverse n p) t ts out = (refl, refl)

range_ended_has_form : (g : Name) (to : To Name) (ts : List Tree) (d : Division) → is_outside to ≡ true → HaveForm d → HaveForm (range_ended g to ts d)
range_ended_has_form g to [] d out are = are
range_ended_has_form g to (t ∷ ts) d out are = all_last HasForm (spine_ended d).chunks (range_of g to (t ∷ ts)) (ended_has_form d are) (range_has_form g to t ts out)

keeps_form : Keeps HaveForm (λ marks. ⊤) (λ ts. ⊤)
keeps_form = record {
  spined = λ d e same are. subst (AllByRecursion HasForm) (sym same) are;
  range = λ g to ts d out taken are. range_ended_has_form g to ts d out are;
  none = tt;
  rest = λ m marks good. tt;
  begun = λ marks t good. tt;
  on = λ marks taken t good are. tt;
}

pub divisions_have_form : DivisionsHaveForm
divisions_have_form chunks items is =
    let plan = is.plan in
    subst (AllByRecursion HasForm) (sym is.same)
    (ended_has_form _ (divide_keeps HaveForm (λ marks. ⊤) (λ ts. ⊤) keeps_form plan (λ place ts. tt) (iri default_graph) nowhere (array (trees_of items)) undivided refl tt))
