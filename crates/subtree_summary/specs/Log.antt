-- What is said of a node, where a log of it stands for what is left without repeats.
use Rattle.std.specs.Prelude.{ℕ, ◌+◌, ◌-◌, ◌≤◌, List, [], ◌∷◌, Option, Some, None, length, slice_get, option_map, Box}
use Rattle.std.specs.declared.alloc.Global.{Global}
use Rattle.std.specs.Vec.{vec_len, vec_capacity}
use Rattle.op_model.specs.Names.{Name, same_name}
use Rattle.op_model.specs.Ops.{Entry}
use Rattle.sum_model.specs.Sums as model
use Rattle.sum_model.specs.Sums.{Place, Index, same_entry, conflict_with, properties_joined}
use Rattle.sum_laws.specs.Said.{once}
use Rattle.op_types.specs.View.{name_view, names_view, entry_view, entries_view}
use Rattle.subtree_summary.specs.declared.entry.SecondIndex.{SecondIndex}
use Rattle.subtree_summary.specs.declared.entry.IndexAt.{IndexAt}
use Rattle.subtree_summary.specs.declared.entry.Told.{Told}
use Rattle.subtree_summary.specs.declared.entry.PartEntry.{PartEntry}
use Rattle.subtree_summary.specs.declared.entry.Telling.{Telling}
use Rattle.subtree_summary.specs.declared.entry.Telling.TheVariants.{Property, Entry as EntryOf, TypeName, Index as IndexOf}

abbrev pub second_view : Option SecondIndex → Option (Place × List ℕ)
second_view None = None
second_view (Some s) = Some (record { chunk = s.chunk; number = s.op }, s.index)

abbrev pub index_at_view : IndexAt → Index
index_at_view i = record { place = record { chunk = i.chunk; number = i.op }; text = i.index; conflict = second_view i.conflict }

abbrev pub index_view : Option (Box IndexAt Global) → Option Index
index_view None = None
index_view (Some b) = Some (index_at_view b.value)

-- An index, once a later one is set.
abbrev pub joined_at : Index → Index → Index
joined_at a b = record { place = a.place; text = a.text; conflict = conflict_with a.text a.conflict b }

-- What was said of a property without a break, where repeats are left out.
abbrev pub told_view : Told → Name × List Entry
told_view t = (name_view t.property, once same_entry (entries_view t.entries.items))

-- The properties that a log tells of, each with its entries, one joined to those before.
abbrev pub properties_view : List Told → List (Name × List Entry)
properties_view [] = []
properties_view (t ∷ ts) = properties_joined (told_view t ∷ []) (properties_view ts)

-- The property of which something was said last.
abbrev pub last_property : List Told → Option Name
last_property ts = option_map (λ t. name_view t.property) (slice_get ts (length ts - 1))

-- What a log says of a node.
abbrev pub part_entry_view : PartEntry → model.PartEntry
part_entry_view e = record {
  types = once same_name (names_view e.types.items);
  index = index_view e.index;
  properties = properties_view e.told.items;
}

-- What an operation says of a node, as a part of it.
abbrev pub said : Telling → model.PartEntry
said (Property p) = record { types = []; index = None; properties = (name_view p.now, []) ∷ [] }
said (EntryOf p e) = record { types = []; index = None; properties = (name_view p.now, entry_view e ∷ []) ∷ [] }
said (TypeName t) = record { types = name_view t ∷ []; index = None; properties = [] }
said (IndexOf i) = record { types = []; index = Some (index_at_view i); properties = [] }

-- There is room for what a later log says.
abbrev pub HasRoom : PartEntry → PartEntry → Type 0
HasRoom e later = (vec_len e.types + vec_len later.types ≤ vec_capacity e.types) × (vec_len e.told + vec_len later.told ≤ vec_capacity e.told)
