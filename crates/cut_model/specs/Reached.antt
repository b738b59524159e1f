-- The ranges of a plan that expansion reaches, and faithful plans, which have just these first. [Ours.]
use Rattle.std.specs.Prelude.{ℕ, suc, ◌≡◌, List, [], ◌∷◌, ◌++◌, Option, None, Some}
use Rattle.ld_model.specs.Tree.{Tree, Trees}
use Rattle.expand_model.specs.Scope.{Options}
use Rattle.expand_model.specs.Rules.{At}
use Rattle.expand_model.specs.Expand.{items}
use Rattle.expand_model.specs.Over.{Answer, expands, answers, Asked, state_of, document_over}
use Rattle.range_laws.specs.Right.{first_trees, keeps_each}
use Rattle.cut_model.specs.Pieces.{Piece, Ranges, ranges_of}

-- The piece that begins with the first of these items, which has this number, and has so many items behind it.
abbrev pub piece_of : ℕ → Trees → ℕ → At → Piece
piece_of behind ts n a = record { at = a; from = n; items = first_trees (suc behind) ts }

-- What an item comes to: where no range begins, it is expanded; where one does, that range has what expansion has for its items.
abbrev pub right_answer : Options → Option ℕ → Trees → ℕ → At → Answer
right_answer o None ts n a = expands
right_answer o (Some behind) ts n a = answers behind (items o (first_trees (suc behind) ts) n a [])

-- The pieces so far, with the range that begins here, if one does.
abbrev pub noted : Option ℕ → Trees → ℕ → At → List Piece → List Piece
noted None ts n a so_far = so_far
noted (Some behind) ts n a so_far = so_far ++ piece_of behind ts n a ∷ []

-- Expansion that notes each range which it comes to.
abbrev pub notes_ranges : Options → Ranges → Trees → ℕ → At → List Piece → Asked (List Piece)
notes_ranges o ranges ts n a so_far = record { answer = right_answer o (ranges a.place n) ts n a; state = noted (ranges a.place n) ts n a so_far }

-- The ranges that expansion comes to, in its order, each with the items, the active context, the active property and the flag from map that
-- it has there. They end at the first error; a range in which that error lies is the last one.
abbrev pub reached_of : Options → Ranges → Tree → List Piece
reached_of o ranges t = state_of (document_over o (notes_ranges o ranges) keeps_each t [])

-- Those of a plan.
abbrev pub reached : Options → Tree → List Piece → List Piece
reached o t plan = reached_of o (ranges_of plan) t

-- A plan is faithful where its first pieces are those that expansion reaches, in that order and with just these items, contexts, properties
-- and flags, and all others come behind them.
abbrev pub IsFaithful : Options → Tree → List Piece → Type 0
IsFaithful o t plan = (others : List Piece) × (plan ≡ reached o t plan ++ others)
