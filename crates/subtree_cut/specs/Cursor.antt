-- Results that are taken one after another, each where the next piece of the plan begins.
use Rattle.std.specs.Prelude.{ℕ, ◌+◌, List, [], ◌∷◌, Option, None, Some, Result, slice_get, if◌then◌else◌}
use Rattle.ld_json.specs.declared.location.Step.{Step}
use Rattle.ld_model.specs.Tree.{Tree, Trees}
use Rattle.expand_model.specs.Rules.{At}
use Rattle.expand_model.specs.Over.{expands, answers, Asked}
use Rattle.cut_model.specs.Pieces.{Piece, count_behind, begins_at}
use Rattle.tree_expand.specs.View.{given_view}
use Rattle.tree_expand.specs.declared.ranges.Refusal.{Refusal}
use Rattle.subtree_cut.specs.View.{piece_view}
use Rattle.subtree_cut.specs.declared.plan.ExpandPiece.{ExpandPiece}
use Rattle.subtree_cut.specs.declared.grafting.Cursor.{Cursor}

abbrev pub passes : Cursor → Asked Cursor
passes s = record { answer = expands; state = s }

-- The next result is the piece's; where there is none, its items are expanded.
abbrev pub takes : Piece → List (Result (List Tree) Refusal) → Cursor → Asked Cursor
takes x [] s = passes s
takes x (d ∷ ds) s = record { answer = answers (count_behind x.items) (given_view d); state = record s { next = s.next + 1; left = ds } }

abbrev pub takes_at : Option ExpandPiece → List Step → ℕ → Cursor → Asked Cursor
takes_at None p n s = passes s
takes_at (Some x) p n s = if begins_at p n (piece_view s.plan.now.contexts.items x) then takes (piece_view s.plan.now.contexts.items x) s.left s else passes s

abbrev pub asks : Trees → ℕ → At → Cursor → Asked Cursor
asks ts n a s = takes_at (slice_get s.plan.now.pieces.items s.next) a.place n s
