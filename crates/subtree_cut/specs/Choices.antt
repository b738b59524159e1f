-- What is done with an item, as the code has it.
use Rattle.std.specs.Prelude.{ℕ, ◌+◌, ◌-◌, ◌^◌, min, List, map, Bool, true, false, Result, Ok, Err}
use Rattle.ld_model.specs.Tree.{Trees, no_trees, tree, trees_of}
use Rattle.ld_tree.specs.View.{trees_view}
use Rattle.ctx_types.specs.ContextView.{context_view}
use Rattle.cut_model.specs.Pieces.{Piece}
use Rattle.cut_model.specs.Planning as model
use Rattle.cut_model.specs.Planning.{walks_item, tries_item, passes_array, takes_range}
use Rattle.tree_expand.specs.declared.stop.ExpandStop.{ExpandStop}
use Rattle.tree_expand.specs.declared.stop.ExpandStop.TheVariants.{Refused, OutOfMemory}
use Rattle.subtree_cut.specs.declared.choosing.Choice.{Choice}
use Rattle.subtree_cut.specs.declared.choosing.Choice.TheVariants.{Walks, Tries, Passes, Takes}
use Rattle.subtree_cut.specs.declared.planning.Note.{Note}

-- Sums are told apart up to this one: the first above the limit, or the greatest.
abbrev pub end_of : ℕ → ℕ
end_of limit = min (limit + 1) (2 ^ 64 - 1)

abbrev pub choice_view : Choice → model.Choice
choice_view Walks = walks_item
choice_view Tries = tries_item
choice_view (Passes behind) = passes_array behind
choice_view (Takes behind) = takes_range behind

-- Of an item and those behind it; where there is none, nothing is chosen.
abbrev pub chosen_of : ℕ → Trees → ℕ → model.Choice
chosen_of limit no_trees n = walks_item
chosen_of limit (tree t ts) n = model.choice limit t ts n

abbrev pub note_view : Note → Piece
note_view x = record {
  at = record { scope = record { context = context_view x.context; property = x.property; from_map = x.from_map }; place = x.place };
  from = x.from;
  items = trees_of (trees_view x.items.now);
}

abbrev pub notes_view : List Note → List Piece
notes_view xs = map note_view xs

-- Memory was refused.
abbrev pub is_want : {X : Type 0} → Result X ExpandStop → Bool
is_want (Ok x) = false
is_want (Err OutOfMemory) = true
is_want (Err (Refused code place)) = false
