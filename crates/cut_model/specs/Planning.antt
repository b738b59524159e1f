-- Planning where a document is cut, for one limit. It is expansion once more, in which a range that is noted, and an array that weighs no
-- more than the limit, are taken to come to nothing; so what lies in them isn't looked at, and planning ends at the first error that is left.
-- [Ours. Only arrays that expansion reaches as values to be expanded are cut. Those in a value object, in a JSON literal and in a map of
-- languages are none.]
use Rattle.std.specs.Prelude.{ℕ, zero, suc, ◌+◌, ◌-◌, ◌^◌, min, nat_le, nat_lt, Bool, List, [], ◌∷◌, ◌++◌, length, Option, None, Some, Ok, if◌then◌else◌}
use Rattle.ld_model.specs.Tree.{Tree, Trees, no_trees, tree, array, weight}
use Rattle.expand_model.specs.Scope.{Options}
use Rattle.expand_model.specs.Rules.{At}
use Rattle.expand_model.specs.Over.{expands, tries, answers, Asked, state_of, document_over}
use Rattle.cut_model.specs.Pieces.{Piece, count}
use Rattle.cut_model.specs.Reached.{piece_of}

-- Weights, sums of weights and limits go no higher than 2^64 - 1.
abbrev pub capped : ℕ → ℕ
capped n = min n (2 ^ 64 - 1)

-- A weight, or a sum of weights, is at most the limit.
abbrev pub is_light : ℕ → ℕ → Bool
is_light limit weighed = nat_le (capped weighed) limit

-- How many of these items a range takes behind those that it has, while their weights sum to at most the limit.
abbrev pub taken_behind : ℕ → ℕ → Trees → ℕ
taken_behind limit sum no_trees = 0
taken_behind limit sum (tree t ts) = if is_light limit (sum + weight t) then suc (taken_behind limit (sum + weight t) ts) else 0

-- What is done with an item of an array: it is expanded; it is opened if an array in it is cut, and else a range by itself; it is the first of
-- an array that is passed over, with so many items behind it; or a range begins with it, with so many items behind it.
pub data Choice : Type 0 where
  walks_item : Choice
  tries_item : Choice
  passes_array : ℕ → Choice
  takes_range : ℕ → Choice

-- An item of an array that is cut, with the items behind it. Where it weighs more than the limit it may be opened. The others form runs of
-- neighbours, which are divided from the left: a range takes items while their weights sum to at most the limit, and at least one.
abbrev pub cut_choice : ℕ → Tree → Trees → Choice
cut_choice limit t ts = if is_light limit (weight t) then takes_range (taken_behind limit (weight t) ts) else tries_item

-- The first item of an array that weighs more than the limit. The array is cut where it has at least two items. Otherwise the arrays in its
-- only item are walked.
abbrev pub heavy_choice : ℕ → Tree → Trees → Choice
heavy_choice limit t no_trees = walks_item
heavy_choice limit t (tree u us) = cut_choice limit t (tree u us)

-- An item with this number, and the items behind it. With the first one the whole array is seen, and passed over where it weighs at most the
-- limit. A later one is asked for only where the array is cut.
abbrev pub choice : ℕ → Tree → Trees → ℕ → Choice
choice limit t ts zero = if is_light limit (weight (array (tree t ts))) then passes_array (count ts) else heavy_choice limit t ts
choice limit t ts (suc n) = cut_choice limit t ts

-- A plan under way: its limit, and the pieces so far.
pub record Plan : Type 0 where
  pub limit : ℕ
  pub pieces : List Piece

abbrev pub empty_plan : ℕ → Plan
empty_plan limit = record { limit = limit; pieces = [] }

abbrev pub with_piece : Piece → Plan → Plan
with_piece x plan = record { limit = plan.limit; pieces = plan.pieces ++ x ∷ [] }

-- What is chosen, as an answer of expansion: what is passed over or taken comes to no items. The mark of a trial is how many pieces there
-- were before it.
abbrev pub chosen : Choice → Trees → ℕ → At → Plan → Asked Plan
chosen walks_item ts n a plan = record { answer = expands; state = plan }
chosen tries_item ts n a plan = record { answer = tries (length plan.pieces); state = plan }
chosen (passes_array behind) ts n a plan = record { answer = answers behind (Ok []); state = plan }
chosen (takes_range behind) ts n a plan = record { answer = answers behind (Ok []); state = with_piece (piece_of behind ts n a) plan }

abbrev pub chooses : Trees → ℕ → At → Plan → Asked Plan
chooses no_trees n a plan = record { answer = expands; state = plan }
chooses (tree t ts) n a plan = chosen (choice plan.limit t ts n) (tree t ts) n a plan

-- A trial is kept, so that the item is opened and belongs to no range, where a piece was noted in it: there an array is cut. Otherwise the
-- item is a range by itself, also where planning met an error in it before it came to such an array.
abbrev pub opens_or_takes : Trees → ℕ → At → ℕ → Plan → Option Plan
opens_or_takes ts n a mark plan = if nat_lt mark (length plan.pieces) then None else Some (with_piece (piece_of 0 ts n a) plan)

-- The pieces for this limit.
abbrev pub planned : Options → ℕ → Tree → List Piece
planned o limit t = (state_of (document_over o chooses opens_or_takes t (empty_plan limit))).pieces
