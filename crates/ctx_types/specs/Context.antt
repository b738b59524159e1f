-- Active contexts and term definitions as plain data (JSON-LD 1.1 API, section 4.1).
use Rattle.std.specs.Prelude.{ℕ, Bool, List, [], Option, None}
use Rattle.std.specs.List.{list_any}
use Rattle.std.specs.Map.{lookup}
use Rattle.std.specs.BTreeMap.{is_at}
use Rattle.ld_model.specs.Tree.{Tree, byte_order}
use Rattle.case_tables.specs.declared.shape.Shape.{Shape}
use Rattle.ctx_types.specs.declared.definition.Slot.{Slot}
use Rattle.ctx_types.specs.declared.definition.Side.{Side}

-- A text, as the bytes of its UTF-8.
abbrev pub Text : Type 0
Text = List ℕ

-- What a term means. A mapping of None is null, `local` is the scoped context and `base` its base URL, `kind` is the
-- type mapping.
pub record Definition : Type 0 where
  pub mapping : Option Text
  pub prefix : Bool
  pub protected : Bool
  pub reverse : Bool
  pub base : Option Text
  pub local : Option Tree
  pub container : Shape
  pub side : Slot Side
  pub index : Option Text
  pub language : Slot Text
  pub nest : Option Text
  pub kind : Option Text

-- Terms with their definitions, each term once, in ascending order.
abbrev pub Terms : Type 0
Terms = List (Text × Definition)

-- The settings of an active context: its base IRI, its original base URL, its vocabulary mapping, its default language and
-- base direction, its terms.
pub record Settings : Type 0 where
  pub base : Option Text
  pub original : Option Text
  pub vocab : Option Text
  pub language : Option Text
  pub side : Option Side
  pub terms : Terms

-- An active context: its settings, and those of its previous contexts, the latest first.
pub record Context : Type 0 where
  pub current : Settings
  pub earlier : List Settings

-- The definition of a term.
abbrev pub definition_at : Text → Terms → Option Definition
definition_at t ds = lookup (is_at (byte_order t)) ds

-- A definition is protected.
abbrev pub has_protected : Terms → Bool
has_protected ds = list_any (λ d. d.1.protected) ds

-- A newly initialized active context (section 4.1): it has the base URL, as base and as original base, and nothing else.
abbrev pub initial : Option Text → Context
initial base = record { current = record { base = base; original = base; vocab = None; language = None; side = None; terms = [] }; earlier = [] }
