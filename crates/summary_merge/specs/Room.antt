-- Room in a part for a later one.
use Rattle.std.specs.Prelude.{◌≤◌, List, length}
use Rattle.std.specs.List.{AllByRecursion}
use Rattle.indexmap.specs.IndexMap.{spare}
use Rattle.indexmap.specs.IndexSet as sets
use Rattle.op_types.specs.declared.name.NodeKey.{NodeKey}
use Rattle.subtree_summary.specs.declared.entry.PartEntry.{PartEntry}
use Rattle.subtree_summary.specs.declared.part.Part.{Part}
use Rattle.subtree_summary.specs.Parts.{HasRoomAt}

-- At each node that both have, there is room for what the later part says of it.
abbrev pub HasRoomForAll : List (NodeKey × PartEntry) → List (NodeKey × PartEntry) → Type 0
HasRoomForAll es later = AllByRecursion (λ e. HasRoomAt es e.0 e.1) later

-- There is room for all of a later part.
abbrev pub HasRoomForPart : Part → Part → Type 0
HasRoomForPart part later = (length later.graphs.keys ≤ sets.spare part.graphs) × (length later.nodes.entries ≤ spare part.nodes) × HasRoomForAll part.nodes.entries later.nodes.entries
