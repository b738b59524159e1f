-- Shards: which of them a name, an operation and what a sum has of a node falls in.
use Rattle.std.specs.Prelude.{ℕ, ◌+◌, ◌*◌, ◌%◌, ◌^◌, ◌==◌, List, [], ◌∷◌, Bool, false, filter}
use Rattle.op_model.specs.Names.{Name, iri, source, fresh}
use Rattle.op_model.specs.Ops.{Op, use_label, ensure_graph, ensure_node, ensure_property, add_entry, append_list, add_type, set_index}
use Rattle.sum_model.specs.Sums.{Placed, Sum}

-- [Ours] Numbers, folded from this one on, in 32 bits.
abbrev pub folded : ℕ → List ℕ → ℕ
folded x [] = x
folded x (n ∷ ns) = folded ((31 * x + n) % 2 ^ 32) ns

-- The bytes of an IRI or of a label of the document; the chunk of a node without one, and its number in 32 bits.
abbrev pub numbers_of : Name → List ℕ
numbers_of (iri s) = s
numbers_of (source s) = s
numbers_of (fresh chunk number) = chunk ∷ number % 2 ^ 32 ∷ []

-- [Ours] The shard of a name, of this many.
abbrev pub shard_of : ℕ → Name → ℕ
shard_of shards name = folded 0 (numbers_of name) % shards

-- Whether a name falls in the shard with this number.
abbrev pub in_shard : ℕ → ℕ → Name → Bool
in_shard shards number name = shard_of shards name == number

-- Whether an operation falls among these names: by its node, or by its graph where it makes one. A use of a label falls nowhere.
abbrev pub falls_in : (Name → Bool) → Op → Bool
falls_in here (use_label name) = false
falls_in here (ensure_graph graph) = here graph
falls_in here (ensure_node graph node) = here node
falls_in here (ensure_property graph node property) = here node
falls_in here (add_entry graph node property e) = here node
falls_in here (append_list graph node property es) = here node
falls_in here (add_type graph node name) = here node
falls_in here (set_index graph node text) = here node

-- The operations that fall among these names, each at the place that it has among all.
abbrev pub ops_in : (Name → Bool) → List Placed → List Placed
ops_in here os = filter (λ o. falls_in here o.1) os

-- What a sum has of the graphs and the nodes among these names.
abbrev pub part_in : (Name → Bool) → Sum → Sum
part_in here s = record { graphs = filter here s.graphs; nodes = filter (λ e. here e.0.1) s.nodes }
