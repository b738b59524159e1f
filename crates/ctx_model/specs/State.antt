-- What term creation changes, and what it leaves (JSON-LD 1.1 API, section 4.2).
use Rattle.std.specs.Prelude.{Bool, true, List, Option, Some, None, not, Result}
use Rattle.std.specs.Map.{lookup, remove_entry}
use Rattle.std.specs.BTreeMap.{is_at, insert_entry}
use Rattle.ld_model.specs.Tree.{Tree, Pairs, byte_order}
use Rattle.case_tables.specs.declared.code.Code.{Code}
use Rattle.ctx_types.specs.Context.{Text, Definition, Terms, Context}

-- The active context, and the map `defined`: false for a term that is being created, true for one that was.
pub record State : Type 0 where
  pub context : Context
  pub defined : List (Text × Bool)

-- What stays the same while the terms of one local context are created: its entries, the base URL, and whether its terms
-- are protected and may take the place of protected ones.
pub record Local : Type 0 where
  pub entries : Pairs
  pub base : Option Text
  pub protected : Bool
  pub overrides : Bool

-- A call of term creation, with the term and its value in the local context.
abbrev pub Create : Type 0
Create = Text → Tree → State → Result State Code

-- A call of context processing for a scoped context, with the active context and the scoped one.
abbrev pub Scoped : Type 0
Scoped = Context → Tree → Result Context Code

-- What `defined` says of a term.
abbrev pub mark_of : Text → State → Option Bool
mark_of t s = lookup (is_at (byte_order t)) s.defined

-- `defined` does not say that the term was created.
abbrev pub is_undone : Option Bool → Bool
is_undone None = true
is_undone (Some b) = not b

-- `defined` says this of the term.
abbrev pub mark : Text → Bool → State → State
mark t b s = record s { defined = insert_entry byte_order s.defined t b }

-- The context with these terms.
abbrev pub with_terms : Terms → Context → Context
with_terms ts c = record c { current = record c.current { terms = ts } }

-- The term has no definition.
abbrev pub without_term : Text → State → State
without_term t s = record s { context = with_terms (remove_entry (is_at (byte_order t)) s.context.current.terms) s.context }

-- The term has this definition, and `defined` says so.
abbrev pub stored : Text → Definition → State → State
stored t d s = record s { context = with_terms (insert_entry byte_order s.context.current.terms t d) s.context; defined = insert_entry byte_order s.defined t true }
