-- What callers know of ranges of a document's arrays, and when it is right.
use Rattle.std.specs.Prelude.{ℕ, ◌≡◌, ◌+◌, ◌-◌, List, Option, None, Some, Result, Ok, Err}
use Rattle.std.specs.Option.{option_and_then}
use Rattle.std.specs.List.{AllByRecursion}
use Rattle.std.specs.Borrow.{Bor}
use Rattle.ld_json.specs.declared.location.Step.{Step}
use Rattle.ld_model.specs.Tree.{Tree}
use Rattle.expand_model.specs.Scope.{Options, Fault}
use Rattle.cut_model.specs.Pieces.{Piece, count}
use Rattle.cut_model.specs.Reached.{reached_of}
use Rattle.cut_model.specs.Answers.{RangeAnswer, RangeAnswers, answered}
use Rattle.cut_model.specs.Grafting.{piece_outcome}
use Rattle.tree_expand.specs.declared.answered.Answer.{Answer}
use Rattle.tree_expand.specs.declared.stop.ExpandStop.{ExpandStop}
use Rattle.tree_expand.specs.declared.stop.ExpandStop.TheVariants.{Refused, OutOfMemory}

-- What is known of a range: the number behind that of its last item, and what its items come to.
pub record KnownRange : Type 0 where
  pub to : ℕ
  pub result : Result (List Tree) ExpandStop

-- By the place of the array, and the number of the range's first item.
abbrev pub KnownRanges : Type 0
KnownRanges = List Step → ℕ → Option KnownRange

abbrev pub lent : Result (Bor (List Tree)) (Bor ExpandStop) → Result (List Tree) ExpandStop
lent (Ok ts) = Ok ts.now
lent (Err e) = Err e.now

abbrev pub answer_view : Answer → KnownRange
answer_view g = record { to = g.to; result = lent g.result }

-- What a range comes to that has so many items behind its first one. Of one that is want of memory nothing is known.
abbrev pub range_with : ℕ → Result (List Tree) ExpandStop → Option RangeAnswer
range_with behind (Ok ts) = Some (record { behind = behind; result = Ok ts })
range_with behind (Err (Refused code place)) = Some (record { behind = behind; result = Err (record { code = code; place = place }) })
range_with behind (Err OutOfMemory) = None

abbrev pub range_from : ℕ → KnownRange → Option RangeAnswer
range_from n k = range_with (k.to - n - 1) k.result

abbrev pub ranges_known : KnownRanges → RangeAnswers
ranges_known known p n = option_and_then (range_from n) (known p n)

-- What is to be known of a range: it ends with its last item, and comes to what expansion has for its items.
abbrev pub as_result : Result (List Tree) Fault → Result (List Tree) ExpandStop
as_result (Ok ts) = Ok ts
as_result (Err f) = Err (Refused f.code f.place)

abbrev pub due_range : Options → Piece → KnownRange
due_range o x = record { to = x.from + count x.items; result = as_result (piece_outcome o x) }

-- What is known of each range that expansion reaches is right. Of others anything may be known.
abbrev pub AreRightWhereReached : Options → KnownRanges → Tree → Type 0
AreRightWhereReached o known t = AllByRecursion (λ x. known x.at.place x.from ≡ Some (due_range o x)) (reached_of o (answered (ranges_known known)) t)
