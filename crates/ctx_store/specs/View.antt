-- The contexts that a store's map stands for.
use Rattle.std.specs.Prelude.{ℕ, List, Option, Some, None, map, String, string_bytes}
use Rattle.std.specs.declared.alloc.Global.{Global}
use Rattle.ld_model.specs.Tree as model
use Rattle.ld_tree.specs.View.{view}
use Rattle.ctx_store.specs.Stored.{Contexts}
use Rattle.ctx_store.specs.declared.store.Loaded.{Loaded}
use Rattle.ctx_store.specs.declared.store.Loaded.TheVariants.{Readable, Unreadable}

-- The tree of a file, if it was readable.
abbrev pub loaded_view : Loaded → Option model.Tree
loaded_view (Readable t) = Some (view t)
loaded_view Unreadable = None

-- An entry of the map, and its entries.
abbrev pub context_view : String Global × Loaded → List ℕ × Option model.Tree
context_view e = (string_bytes e.0, loaded_view e.1)

abbrev pub contexts_view : List (String Global × Loaded) → Contexts
contexts_view es = map context_view es
