-- Small lists of operations with their sums, computed from the definitions.
use Rattle.std.proofs.Common.{◌≡◌, ℕ, List, [], ◌∷◌, refl, Some, None}
use Rattle.std.specs.Prelude.{codes}
use Rattle.ld_model.specs.Tree.{text, object, no_members, member}
use Rattle.op_model.specs.Names.{Name, iri, source, fresh}
use Rattle.op_model.specs.Ops.{Entry, value, reference, list, no_entries, entry, use_label, ensure_graph, ensure_node, ensure_property, add_entry, append_list, add_type, set_index}
use Rattle.sum_model.specs.Sums.{Place, Placed, placed, placed_chunks, PartEntry, bare, Sum, empty_sum, join, sum}
use Rattle.sum_model.specs.Conflicts.{first_conflict}
use Rattle.sum_model.specs.Shards.{shard_of, in_shard, ops_in, part_in}

abbrev g : Name
g = iri (codes "@default")

abbrev a : Name
a = iri (codes "http://e/a")

abbrev b : Name
b = source (codes "_:b")

abbrev c : Name
c = fresh 0 0

abbrev p : Name
p = iri (codes "http://e/p")

abbrev q : Name
q = iri (codes "http://e/q")

abbrev v : Entry
v = value (object (member (codes "@value") (text (codes "v")) no_members))

abbrev l : Entry
l = list (entry v no_entries)

abbrev place : ℕ → ℕ → Place
place chunk number = record { chunk = chunk; number = number }

-- What is said of a node by its types or properties alone.
abbrev typed : List Name → PartEntry
typed types = record { types = types; index = None; properties = [] }

abbrev with_properties : List (Name × List Entry) → PartEntry
with_properties properties = record { types = []; index = None; properties = properties }

nothing : sum [] ≡ empty_sum
nothing = refl

a_label_adds_nothing : sum (placed 0 (use_label b ∷ [])) ≡ empty_sum
a_label_adds_nothing = refl

graphs_and_nodes_stand_once : sum (placed 0 (ensure_graph b ∷ ensure_node g c ∷ ensure_node b c ∷ ensure_graph a ∷ ensure_graph b ∷ ensure_node g c ∷ [])) ≡ record { graphs = b ∷ a ∷ []; nodes = ((g, c), bare) ∷ ((b, c), bare) ∷ [] }
graphs_and_nodes_stand_once = refl

a_type_stays_where_it_was_first : sum (placed 0 (add_type g a p ∷ add_type g a q ∷ add_type g a p ∷ [])) ≡ record { graphs = []; nodes = ((g, a), typed (p ∷ q ∷ [])) ∷ [] }
a_type_stays_where_it_was_first = refl

-- Values and references stand once, lists each time.
entries_of_a_property : sum (placed 0 (ensure_property g a q ∷ add_entry g a p v ∷ append_list g a p (entry v no_entries) ∷ add_entry g a p (reference b) ∷ add_entry g a p v ∷ append_list g a p (entry v no_entries) ∷ add_entry g a p (reference b) ∷ [])) ≡ record { graphs = []; nodes = ((g, a), with_properties ((q, []) ∷ (p, v ∷ l ∷ reference b ∷ l ∷ []) ∷ [])) ∷ [] }
entries_of_a_property = refl

-- The index that was first set stays, and so does the first one that differs from it.
indexes_of_a_node : sum (placed 3 (set_index g a (codes "x") ∷ set_index g a (codes "x") ∷ set_index g a (codes "y") ∷ set_index g a (codes "z") ∷ [])) ≡ record { graphs = []; nodes = ((g, a), record { types = []; index = Some (record { place = place 3 0; text = codes "x"; conflict = Some (place 3 2, codes "y") }); properties = [] }) ∷ [] }
indexes_of_a_node = refl

-- Three chunks, and the same in both bracketings.
abbrev first : Sum
first = sum (placed 0 (set_index g a (codes "x") ∷ add_entry g b p v ∷ []))

abbrev second : Sum
second = sum (placed 1 (add_type g c q ∷ set_index g a (codes "x") ∷ add_entry g b p (reference a) ∷ []))

abbrev third : Sum
third = sum (placed 2 (add_entry g b p v ∷ set_index g a (codes "y") ∷ []))

abbrev whole : Sum
whole = record {
  graphs = [];
  nodes = ((g, a), record { types = []; index = Some (record { place = place 0 0; text = codes "x"; conflict = Some (place 2 1, codes "y") }); properties = [] })
      ∷ ((g, b), with_properties ((p, v ∷ reference a ∷ []) ∷ []))
      ∷ ((g, c), typed (q ∷ []))
      ∷ [];
}

from_the_left : join (join first second) third ≡ whole
from_the_left = refl

from_the_right : join first (join second third) ≡ whole
from_the_right = refl

the_sum_of_all : sum (placed_chunks 0 ((set_index g a (codes "x") ∷ add_entry g b p v ∷ []) ∷ (add_type g c q ∷ set_index g a (codes "x") ∷ add_entry g b p (reference a) ∷ []) ∷ (add_entry g b p v ∷ set_index g a (codes "y") ∷ []) ∷ [])) ≡ whole
the_sum_of_all = refl

its_conflict : first_conflict whole ≡ Some (record { place = place 2 1; node = a; first = codes "x"; second = codes "y" })
its_conflict = refl

-- Of two nodes the one that has the earlier conflict, though the other was used first.
the_earlier_conflict : first_conflict (sum (placed 0 (set_index g a (codes "x") ∷ set_index g b (codes "x") ∷ set_index g b (codes "y") ∷ set_index g a (codes "y") ∷ []))) ≡ Some (record { place = place 0 2; node = b; first = codes "x"; second = codes "y" })
the_earlier_conflict = refl

-- (31 * (31 * 97 + 98) + 99) is 96354.
a_shard_of_a_text : shard_of 64 (iri (codes "abc")) ≡ 34
a_shard_of_a_text = refl

a_shard_of_a_label : shard_of 1000000 (source (codes "abc")) ≡ 96354
a_shard_of_a_label = refl

-- 31 * 2 + 3, with the number in 32 bits.
a_shard_of_a_fresh_name : shard_of 1000 (fresh 2 4294967299) ≡ 65
a_shard_of_a_fresh_name = refl

-- A long text wraps: the seven bytes of "abcdefg" fold to 88988021860 without it.
a_fold_wraps : shard_of 4294967296 (iri (codes "abcdefg")) ≡ 3088675940
a_fold_wraps = refl

-- Two nodes and a graph, of which one node falls in the shard. Its index keeps the place that it has among all operations.
abbrev divided : List Placed
divided = placed 0 (add_type g a q ∷ ensure_graph a ∷ use_label b ∷ set_index g b (codes "x") ∷ [])

a_shard_keeps_places : sum (ops_in (in_shard 3 2) divided) ≡ record { graphs = []; nodes = ((g, b), record { types = []; index = Some (record { place = place 0 3; text = codes "x"; conflict = None }); properties = [] }) ∷ [] }
a_shard_keeps_places = refl

a_shard_is_a_part : part_in (in_shard 3 1) (sum divided) ≡ record { graphs = a ∷ []; nodes = ((g, a), typed (q ∷ [])) ∷ [] }
a_shard_is_a_part = refl
