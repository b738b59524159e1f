-- Expansion that takes what ranges come to from elsewhere. [Ours.]
use Rattle.std.specs.Prelude.{ℕ, ◌≡◌, List, [], Option, None, Some, Result}
use Rattle.std.specs.Option.{option_map}
use Rattle.std.specs.List.{AllByRecursion}
use Rattle.ld_json.specs.declared.location.Step.{Step}
use Rattle.ld_model.specs.Tree.{Tree, Trees}
use Rattle.expand_model.specs.Scope.{Options, Fault}
use Rattle.expand_model.specs.Rules.{At}
use Rattle.expand_model.specs.Expand.{items}
use Rattle.expand_model.specs.Over.{Answer, expands, answers, Asked, document_over}
use Rattle.range_laws.specs.Right.{outcome, keeps_each}
use Rattle.cut_model.specs.Pieces.{Piece, Ranges, count_behind}
use Rattle.cut_model.specs.Reached.{reached_of}

-- What a range comes to: how many items it has behind its first one, and the items of the expanded form, or the first error.
pub record RangeAnswer : Type 0 where
  pub behind : ℕ
  pub result : Result (List Tree) Fault

-- What is known of ranges, by the place of the array and the number of the first item.
abbrev pub RangeAnswers : Type 0
RangeAnswers = List Step → ℕ → Option RangeAnswer

-- The ranges for which something is known.
abbrev pub answered : RangeAnswers → Ranges
answered known p n = option_map (λ g. g.behind) (known p n)

-- An item is expanded where nothing is known of a range that begins with it.
abbrev pub answer_of : Option RangeAnswer → Answer
answer_of None = expands
answer_of (Some g) = answers g.behind g.result

-- Each item is asked for, and the state stays as it is.
abbrev pub asks_known : {S : Type 0} → RangeAnswers → Trees → ℕ → At → S → Asked S
asks_known known ts n a s = record { answer = answer_of (known a.place n); state = s }

-- A document, where ranges come to what is known of them and the rest is expanded.
abbrev pub document_with : Options → RangeAnswers → Tree → Result (List Tree) Fault
document_with o known t = outcome (document_over o (asks_known known) keeps_each t (tt {0}))

-- What is known of this piece is right: it has as many items as the piece, and comes to what expansion has for them.
abbrev pub IsAnswered : Options → RangeAnswers → Piece → Type 0
IsAnswered o known x = known x.at.place x.from ≡ Some (record { behind = count_behind x.items; result = items o x.items x.from x.at [] })

-- That is so of each range that expansion reaches. Of others anything may be known.
abbrev pub AreRightWhereReached : Options → RangeAnswers → Tree → Type 0
AreRightWhereReached o known t = AllByRecursion (λ x. IsAnswered o known x) (reached_of o (answered known) t)
