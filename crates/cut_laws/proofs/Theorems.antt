-- The laws, from the lemmas.
use Rattle.std.proofs.Common.{List, [], ◌∷◌, ◌++◌, ap, refl}
use Rattle.std.specs.List.{AllByRecursion}
use Rattle.std.specs.Option.{option_map}
use Rattle.range_laws.specs.Right.{keeps_each}
use Rattle.expand_model.specs.Scope.{Options}
use Rattle.cut_model.specs.Pieces.{Piece}
use Rattle.cut_model.specs.Answers.{RangeAnswers, answered, asks_known, IsAnswered}
use Rattle.cut_model.specs.Grafting.{known_by}
use Rattle.cut_laws.specs.Laws.{ALightDocumentIsNotCut, CutsAreFaithful, CutsAreFew, CutsAreLegal, GraftingIsExpansion, LegalPlansAreTold, PiecesStandInTheDocument, RightAnswersAreExpansion}
use Rattle.cut_laws.proofs.KeysApart.{ascends_apart}
use Rattle.cut_laws.proofs.Lists.{all_split}
use Rattle.cut_laws.proofs.RightAnswers.{IsOfRanges, answered_run}
use Rattle.cut_laws.proofs.Results.{graft_run}
use Rattle.cut_laws.proofs.Cut.{cut_is}
use Rattle.cut_laws.proofs.Few.{light_is_whole, cut_is_few}
use Rattle.cut_laws.proofs.Standing.{cut_stands}
use Rattle.cut_laws.proofs.LegalTest.{legal_from, legal_to}

own_ranges : (known : RangeAnswers) → IsOfRanges known (answered known)
own_ranges known p n g h = ap (λ x. option_map (λ y. y.behind) x) h

-- There is nothing to be kept of the state.
abbrev Always : Unit {0} → List Piece → Type 0
Always s l = Unit {0}

last_answered : (o : Options) (known : RangeAnswers) (l : List Piece) (x : Piece) → AllByRecursion (λ y. IsAnswered o known y) (l ++ x ∷ []) → AllByRecursion (λ y. IsAnswered o known y) l × IsAnswered o known x
last_answered o known l x h = let parts = all_split (λ y. IsAnswered o known y) l (x ∷ []) h in (parts.0, parts.1.0)

pub right_answers_are_expansion : RightAnswersAreExpansion
right_answers_are_expansion o t known right =
    answered_run o (asks_known known) keeps_each Always (AllByRecursion (λ y. IsAnswered o known y)) known (answered known) (own_ranges known) (last_answered o known) (λ ts n a s l k agree. (refl, tt)) t tt tt right

pub grafting_is_expansion : GraftingIsExpansion
grafting_is_expansion o t plan results legal faithful are_results = graft_run o (asks_known (known_by plan results)) keeps_each Always t plan results tt legal faithful are_results tt (λ ts n a s l k agree. (refl, tt))

pub cuts_are_legal : CutsAreLegal
cuts_are_legal o t weight ascend = (cut_is o t (ascends_apart t ascend) weight).0

pub cuts_are_faithful : CutsAreFaithful
cuts_are_faithful o t weight ascend = (cut_is o t (ascends_apart t ascend) weight).1

pub cuts_are_few : CutsAreFew
cuts_are_few o t weight some = cut_is_few o t weight some

pub legal_plans_are_told : LegalPlansAreTold
legal_plans_are_told plan = (legal_from plan, legal_to plan)

pub pieces_stand_in_the_document : PiecesStandInTheDocument
pieces_stand_in_the_document o t weight ascend = cut_stands o t (ascends_apart t ascend) weight

pub a_light_document_is_not_cut : ALightDocumentIsNotCut
a_light_document_is_not_cut o t limit h = light_is_whole o limit t h
