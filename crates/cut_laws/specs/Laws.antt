-- The laws of cutting a document for expansion.
use Rattle.std.specs.Prelude.{ℕ, ◌≡◌, ◌≤◌, ◌↔◌, true, List, [], length, Result}
use Rattle.std.specs.List.{AllByRecursion}
use Rattle.ld_model.specs.Tree.{Tree, weight}
use Rattle.expand_model.specs.Scope.{Options, Fault}
use Rattle.expand_model.specs.Expand.{document}
use Rattle.cut_model.specs.Pieces.{Piece}
use Rattle.cut_model.specs.Legal.{IsLegal}
use Rattle.cut_model.specs.LegalTest.{is_legal}
use Rattle.cut_model.specs.Reached.{IsFaithful}
use Rattle.cut_model.specs.Answers.{RangeAnswers, document_with, AreRightWhereReached}
use Rattle.cut_model.specs.Grafting.{AreResults, grafted}
use Rattle.cut_model.specs.Cutting.{most_pieces, cut}
use Rattle.cut_model.specs.Standing.{StandsIn}
use Rattle.cut_model.specs.KeysAscend.{KeysAscend}

-- Where what is known of each range that expansion reaches is right, the document comes to its expansion, the first error too.
abbrev pub RightAnswersAreExpansion : Type 0
RightAnswersAreExpansion = (o : Options) (t : Tree) (known : RangeAnswers) → AreRightWhereReached o known t → document_with o known t ≡ document o t

-- So it does where the results of a legal and faithful plan's pieces are grafted: those of all pieces, or of the first ones up to an error.
abbrev pub GraftingIsExpansion : Type 0
GraftingIsExpansion = (o : Options) (t : Tree) (plan : List Piece) (results : List (Result (List Tree) Fault)) → IsLegal plan → IsFaithful o t plan → AreResults o plan results → grafted o t plan results ≡ document o t

-- The plan of a cut is legal, whatever the weight is.
abbrev pub CutsAreLegal : Type 0
CutsAreLegal = (o : Options) (t : Tree) (weight : ℕ) → KeysAscend t → IsLegal (cut o t weight)

-- It is faithful.
abbrev pub CutsAreFaithful : Type 0
CutsAreFaithful = (o : Options) (t : Tree) (weight : ℕ) → KeysAscend t → IsFaithful o t (cut o t weight)

-- It has at most 4,096 pieces.
abbrev pub CutsAreFew : Type 0
CutsAreFew = (o : Options) (t : Tree) (weight : ℕ) → 1 ≤ weight → length (cut o t weight) ≤ most_pieces

-- What weighs no more than the weight by which it is cut has no pieces.
abbrev pub ALightDocumentIsNotCut : Type 0
ALightDocumentIsNotCut = (o : Options) (t : Tree) (limit : ℕ) → weight t ≤ limit → cut o t limit ≡ []

-- The items of each piece stand in the document, in the array at the piece's place, from the piece's number on.
abbrev pub PiecesStandInTheDocument : Type 0
PiecesStandInTheDocument = (o : Options) (t : Tree) (weight : ℕ) → KeysAscend t → AllByRecursion (λ x. StandsIn t x) (cut o t weight)

-- The test is true exactly of legal plans.
abbrev pub LegalPlansAreTold : Type 0
LegalPlansAreTold = (plan : List Piece) → (is_legal plan ≡ true) ↔ IsLegal plan
