-- What has been said so far, by shards.
use Rattle.std.specs.Prelude.{ℕ, ◌≡◌, List, [], ◌∷◌, true, slice_get, if◌then◌else◌, Option, option_map}
use Rattle.std.specs.Map.{keys_of}
use Rattle.sum_model.specs.Joins.{or_empty}
use Rattle.sum_model.specs.Sums as model
use Rattle.sum_model.specs.Sums.{Place, Key, Sum, empty_sum, at_node, sum_of_one}
use Rattle.sum_model.specs.Shards.{in_shard, falls_in}
use Rattle.op_model.specs.Names.{Name}
use Rattle.op_model.specs.Ops.{Op}
use Rattle.op_types.specs.declared.name.NodeKey.{NodeKey}
use Rattle.subtree_summary.specs.declared.entry.PartEntry.{PartEntry}
use Rattle.subtree_summary.specs.declared.part.Part.{Part}
use Rattle.subtree_summary.specs.Parts.{part_view, key_in, all_fall}

-- What the part with this number says; nothing where there is none.
abbrev pub part_at : List Part → ℕ → Sum
part_at parts k = or_empty empty_sum (option_map part_view (slice_get parts k))

-- What is said of a node, where it falls in this shard.
abbrev pub node_in : ℕ → ℕ → Key → model.PartEntry → Sum
node_in shards k key e = if in_shard shards k key.1 then at_node key.0 key.1 e else empty_sum

-- A graph that is made, where it falls in this shard.
abbrev pub graph_in : ℕ → ℕ → Name → Sum
graph_in shards k graph = if in_shard shards k graph then record { graphs = graph ∷ []; nodes = [] } else empty_sum

-- What an operation says, where it falls in this shard.
abbrev pub one_in : ℕ → ℕ → Place → Op → Sum
one_in shards k at o = if falls_in (in_shard shards k) o then sum_of_one at o else empty_sum

-- The nodes of the part with this number, each with what is said of it.
abbrev pub nodes_at : List Part → ℕ → List (NodeKey × PartEntry)
nodes_at parts k = or_empty [] (option_map (λ p. p.nodes.entries) (slice_get parts k))

-- The node at this index of the part with this number.
abbrev pub key_at : List Part → ℕ → ℕ → Option Key
key_at parts k i = key_in (nodes_at parts k) i

-- Each node stands in the part of its shard.
abbrev pub AreInPlace : ℕ → List Part → Type 0
AreInPlace shards parts = (k : ℕ) → all_fall (in_shard shards k) (keys_of (nodes_at parts k)) ≡ true
