-- What a node is that was told one thing after another.
use Rattle.std.specs.Prelude.{ℕ, List, [], ◌∷◌, Option, Some, None}
use Rattle.ld_model.specs.Tree.{Tree}
use Rattle.node_model.specs.Maps.{MapOf}
use Rattle.node_model.specs.NodeMap.{Node, told, type_told, with_entries, on_entries, with_type, with_index}
use Rattle.ld_tree.specs.View.{view}
use Rattle.node_logs.specs.declared.node.Node as code
use Rattle.node_logs.specs.declared.node.Told.{Told}
use Rattle.node_logs.specs.declared.node.Telling.{Telling}
use Rattle.node_logs.specs.declared.node.Telling.TheVariants.{Property, Entry, TypeName, Index}

-- The entries of a property once further ones were told, one after another.
abbrev pub all_told : List Tree → List Tree → List Tree
all_told [] es = es
all_told (t ∷ ts) es = all_told ts (told t es)

-- The types of a node once further ones were told.
abbrev pub types_told : List (List ℕ) → List (List ℕ) → List (List ℕ)
types_told [] ts = ts
types_told (t ∷ more) ts = types_told more (type_told t ts)

-- The properties of a node once what is in the log was told.
abbrev pub properties_told : List Told → MapOf (List Tree) → MapOf (List Tree)
properties_told [] ps = ps
properties_told (t ∷ ts) ps = properties_told ts (with_entries t.property (all_told t.entries) ps)

-- The index of a node once another one may have been told.
abbrev pub index_told : Option (List ℕ) → Option (List ℕ) → Option (List ℕ)
index_told (Some i) index = Some i
index_told None index = index

-- A node once what is in a log was told of it.
abbrev pub node_told : code.Node → Node → Node
node_told log n = record { types = types_told log.types.items n.types; index = index_told log.index n.index; properties = properties_told log.told.items n.properties }

-- The node that a log stands for.
abbrev pub node_view : code.Node → Node
node_view n = record { types = types_told n.types.items []; index = n.index; properties = properties_told n.told.items [] }

-- What is told of a node, as a change of it.
abbrev pub change_of : Telling → Node → Node
change_of (Property p) n = on_entries p.now (λ es. es) n
change_of (Entry p e) n = on_entries p.now (told (view e)) n
change_of (TypeName t) n = with_type t n
change_of (Index i) n = with_index i n
