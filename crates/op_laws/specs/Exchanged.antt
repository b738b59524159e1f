-- Operations with other fresh names, and divisions of a document.
use Rattle.std.specs.Prelude.{ℕ, ◌≡◌, List, true, map as each}
use Rattle.std.specs.List.{list_any}
use Rattle.ld_model.specs.Tree.{Tree}
use Rattle.op_model.specs.Names.{Name, iri, source, fresh, same_name}
use Rattle.op_model.specs.Ops.{Entry, value, reference, list, Entries, no_entries, entry, Op, use_label, ensure_graph, ensure_node, ensure_property, add_entry, append_list, add_type, set_index}
use Rattle.op_model.specs.Noting.{Chunk, top_range, ops_of, ops_of_chunks}
use Rattle.op_model.specs.Running.{uses_of_all}

-- Which chunk and number stand for a chunk and a number.
abbrev pub Exchange : Type 0
Exchange = ℕ → ℕ → ℕ × ℕ

abbrev pub exchanged : Exchange → Name → Name
exchanged other (iri s) = iri s
exchanged other (source s) = source s
exchanged other (fresh c k) = fresh (other c k).0 (other c k).1

abbrev mutual
  pub exchanged_entry : Exchange → Entry → Entry
  exchanged_entry other (value t) = value t
  exchanged_entry other (reference n) = reference (exchanged other n)
  exchanged_entry other (list es) = list (exchanged_entries other es)

  pub exchanged_entries : Exchange → Entries → Entries
  exchanged_entries other no_entries = no_entries
  exchanged_entries other (entry e es) = entry (exchanged_entry other e) (exchanged_entries other es)

abbrev pub exchanged_op : Exchange → Op → Op
exchanged_op other (use_label n) = use_label (exchanged other n)
exchanged_op other (ensure_graph g) = ensure_graph (exchanged other g)
exchanged_op other (ensure_node g n) = ensure_node (exchanged other g) (exchanged other n)
exchanged_op other (ensure_property g n p) = ensure_property (exchanged other g) (exchanged other n) (exchanged other p)
exchanged_op other (add_entry g n p e) = add_entry (exchanged other g) (exchanged other n) (exchanged other p) (exchanged_entry other e)
exchanged_op other (append_list g n p es) = append_list (exchanged other g) (exchanged other n) (exchanged other p) (exchanged_entries other es)
exchanged_op other (add_type g n t) = add_type (exchanged other g) (exchanged other n) (exchanged other t)
exchanged_op other (set_index g n i) = set_index (exchanged other g) (exchanged other n) i

-- Different names among these stay different.
abbrev pub IsOneToOne : Exchange → List Name → Type 0
IsOneToOne other names = (a b : Name) → list_any (same_name a) names ≡ true → list_any (same_name b) names ≡ true → exchanged other a ≡ exchanged other b → a ≡ b

-- Chunks, ranges and others, divide a document where their operations are those of the whole document but for the names of nodes that
-- have no id.
pub record Divides (chunks : List Chunk) (items : List Tree) : Type 0 where
  pub other : Exchange
  pub one_to_one : IsOneToOne other (uses_of_all (ops_of 0 (top_range items)))
  pub same : ops_of_chunks 0 chunks ≡ each (exchanged_op other) (ops_of 0 (top_range items))
