-- Two chunks, summed up in two shards, renamed and joined.
use Rattle.std.proofs.Common.{◌≡◌, List, [], ◌∷◌, refl, None}
use Rattle.std.specs.Prelude.{codes, Err}
use Rattle.std.specs.Fmt.{digits}
use Rattle.ld_model.specs.Tree.{text, object, no_members, member}
use Rattle.node_model.specs.Maps.{with_at}
use Rattle.node_model.specs.NodeMap.{new_node}
use Rattle.op_model.specs.Names.{Name, iri, source, fresh}
use Rattle.op_model.specs.Ops.{Op, reference, ensure_graph, ensure_node, add_entry, add_type, set_index}
use Rattle.op_model.specs.Running.{with_name}
use Rattle.sum_model.specs.Sums.{placed_chunks}
use Rattle.shard_model.specs.Numbered.{numbered, number_of}
use Rattle.shard_model.specs.Joined.{graphs_joined, joined}
use Rattle.shard_laws.specs.Laws.{labels_by, shards_of}

abbrev default : Name
default = iri (codes "@default")

abbrev a : Name
a = iri (codes "http://e/a")

abbrev b : Name
b = source (codes "_:x")

abbrev c : Name
c = fresh 1 0

abbrev p : Name
p = iri (codes "http://e/p")

abbrev first : List Op
first = ensure_node default b ∷ add_type default b a ∷ []

abbrev second : List Op
second = ensure_node default c ∷ add_entry default a p (reference c) ∷ ensure_graph b ∷ []

abbrev names : List Name
names = b ∷ c ∷ []

are_numbered : numbered (labels_by (ensure_node default b ∷ add_type default b a ∷ ensure_node default c ∷ add_entry default a p (reference c) ∷ ensure_graph b ∷ [])) ≡ (b, 0) ∷ (c, 1) ∷ []
unfolding with_name
are_numbered = refl

no_number : number_of a names ≡ None
no_number = refl

-- The graph of the blank node's name is there, and without nodes.
together : graphs_joined (shards_of names 2 (placed_chunks 0 (first ∷ second ∷ [])))
    ≡ (
      codes "@default",
      (codes "_:b0", record { types = codes "http://e/a" ∷ []; index = None; properties = [] })
          ∷ (codes "_:b1", new_node)
          ∷ (codes "http://e/a", record { types = []; index = None; properties = (codes "http://e/p", object (member (codes "@id") (text (codes "_:b1")) no_members) ∷ []) ∷ [] }) ∷ [],
    )
    ∷ (codes "_:b0", []) ∷ []
unfolding with_at digits
together = refl

-- Of two conflicts the one in the earlier chunk counts.
in_conflict : joined (shards_of names 2 (placed_chunks 0 ((set_index default a (codes "1") ∷ set_index default b (codes "1") ∷ set_index default b (codes "2") ∷ []) ∷ (set_index default a (codes "3") ∷ []) ∷ [])))
    ≡ Err (record { node = codes "_:b0"; first = codes "1"; second = codes "2" })
unfolding with_at digits
in_conflict = refl
