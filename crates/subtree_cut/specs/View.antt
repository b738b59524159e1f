-- The data that plans stand for.
use Rattle.std.specs.List.{AllByRecursion}
use Rattle.std.specs.Prelude.{◌<◌, length, List, Option, None, Some, map, slice_get}
use Rattle.ld_model.specs.Tree.{trees_of}
use Rattle.ld_tree.specs.View.{trees_view}
use Rattle.ctx_types.specs.Context.{Context, initial}
use Rattle.ctx_types.specs.ContextView.{context_view}
use Rattle.ctx_types.specs.declared.context.ActiveContext.{ActiveContext}
use Rattle.cut_model.specs.Pieces.{Piece}
use Rattle.subtree_cut.specs.declared.plan.ExpandPiece.{ExpandPiece}
use Rattle.subtree_cut.specs.declared.plan.ExpandPlan.{ExpandPlan}

-- The context with a number; where there is none, the one without a base that has nothing.
abbrev pub context_or_empty : Option ActiveContext → Context
context_or_empty None = initial None
context_or_empty (Some c) = context_view c

-- A piece, with this context, and by the contexts of its plan.
abbrev pub piece_in : Context → ExpandPiece → Piece
piece_in c x = record {
  at = record { scope = record { context = c; property = x.property; from_map = x.from_map }; place = x.array };
  from = x.from;
  items = trees_of (trees_view x.items.now);
}

abbrev pub piece_view : List ActiveContext → ExpandPiece → Piece
piece_view contexts x = piece_in (context_or_empty (slice_get contexts x.context)) x

-- The pieces of a plan.
abbrev pub plan_view : ExpandPlan → List Piece
plan_view plan = map (piece_view plan.contexts.items) plan.pieces.items

-- The plan has the context of each of its pieces.
abbrev pub AreHeld : ExpandPlan → Type 0
AreHeld plan = AllByRecursion (λ x. x.context < length plan.contexts.items) plan.pieces.items
