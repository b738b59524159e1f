-- The sum that a part stands for.
use Rattle.std.specs.Prelude.{ℕ, ◌≡◌, List, Bool, Option, length, slice_get, option_map, map as each, IfSome}
use Rattle.std.specs.List.{list_all}
use Rattle.std.specs.Map.{lookup}
use Rattle.op_model.specs.Names.{Name, same_name}
use Rattle.sum_model.specs.Joins.{maps_joined}
use Rattle.sum_model.specs.Sums as model
use Rattle.sum_model.specs.Sums.{Placed, Key, Sum, same_key, bare, part_entries_joined, sum}
use Rattle.sum_model.specs.Shards.{in_shard, ops_in}
use Rattle.op_types.specs.View.{name_view, names_view, key_view}
use Rattle.op_types.specs.declared.name.Name as code
use Rattle.op_types.specs.declared.name.NodeKey.{NodeKey}
use Rattle.subtree_summary.specs.declared.entry.PartEntry.{PartEntry}
use Rattle.subtree_summary.specs.declared.part.Part.{Part}
use Rattle.subtree_summary.specs.Log.{part_entry_view, HasRoom}

-- The tests by which code tells names and keys apart.
abbrev pub same_code_name : code.Name → code.Name → Bool
same_code_name a b = same_name (name_view a) (name_view b)

abbrev pub same_code_key : NodeKey → NodeKey → Bool
same_code_key a b = same_key (key_view a) (key_view b)

abbrev pub nodes_view : List (NodeKey × PartEntry) → List (Key × model.PartEntry)
nodes_view es = each (λ e. (key_view e.0, part_entry_view e.1)) es

abbrev pub part_view : Part → Sum
part_view p = record { graphs = names_view p.graphs.keys; nodes = nodes_view p.nodes.entries }

-- Nodes with what is said of them, and then a later part's.
abbrev pub nodes_joined : List (Key × model.PartEntry) → List (Key × model.PartEntry) → List (Key × model.PartEntry)
nodes_joined = maps_joined same_key bare part_entries_joined

-- The node at an index.
abbrev pub key_in : List (NodeKey × PartEntry) → ℕ → Option Key
key_in es i = option_map (λ e. key_view e.0) (slice_get es i)

-- All of these nodes fall among these names.
abbrev pub all_fall : (Name → Bool) → List NodeKey → Bool
all_fall here ks = list_all (λ k. here (name_view k.node)) ks

-- Where nodes have this one, there is room for what a later part says of it.
abbrev pub HasRoomAt : List (NodeKey × PartEntry) → NodeKey → PartEntry → Type 0
HasRoomAt es k later = IfSome (lookup (same_code_key k) es) (λ e. HasRoom e later)

-- The parts are those of the shards, of so many: each is the sum of the operations that fall in its shard.
abbrev pub ArePartsOf : ℕ → List Placed → List Part → Type 0
ArePartsOf shards os parts = (length parts ≡ shards) × ((k : ℕ) → IfSome (slice_get parts k) (λ p. part_view p ≡ sum (ops_in (in_shard shards k) os)))
