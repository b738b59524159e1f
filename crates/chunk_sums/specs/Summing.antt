-- What the operations of a chunk say, made on the way through it: node map generation's traversal (JSON-LD 1.1 API, section 7.2), with
-- steps that tell at once what those of `op_model` note as an operation.
use Rattle.std.specs.Prelude.{ℕ, ◌+◌, List, length, if◌then◌else◌, Option, Some, None}
use Rattle.ld_model.specs.Label.{is_blank}
use Rattle.node_model.specs.Walk.{Steps}
use Rattle.op_model.specs.Names.{Name, source, fresh, name_of}
use Rattle.op_model.specs.Ops.{Entry, value, reference, list, entries_of, Op, use_label, ensure_graph, ensure_node, ensure_property, add_entry, append_list, add_type, set_index}
use Rattle.op_model.specs.Noting.{Notes}
use Rattle.op_model.specs.Running.{used, uses_of_all}
use Rattle.sum_model.specs.Shards.{in_shard, ops_in}
use Rattle.sum_model.specs.Sums.{placed, sum, join}
use Rattle.subtree_summary.specs.OnTheWay.{SoFar, turned_to, tell}

-- The number of the chunk, how many nodes without an id it has had so far, and what was said so far.
pub record OnTheWay : Type 0 where
  pub chunk : ℕ
  pub unnamed : ℕ
  pub so_far : SoFar

abbrev pub told : Op → OnTheWay → OnTheWay
told o s = record { chunk = s.chunk; unnamed = s.unnamed; so_far = tell o s.so_far }

-- A node by its id, or else one with a fresh name.
abbrev pub told_node : Name → Option (List ℕ) → OnTheWay → Name × OnTheWay
told_node g (Some x) s = (name_of x, told (ensure_node g (name_of x)) s)
told_node g None s =
    let name = fresh s.chunk s.unnamed in
    (name, record { chunk = s.chunk; unnamed = s.unnamed + 1; so_far = tell (ensure_node g name) s.so_far })

abbrev pub summing : Steps OnTheWay Name Entry
summing = record {
  named = λ x s. (name_of x, if is_blank x then told (use_label (source x)) s else s);
  node = told_node;
  property = λ g id x s. (name_of x, told (ensure_property g id (name_of x)) s);
  graph = λ g. told (ensure_graph g);
  value = value;
  reference = reference;
  list = λ es. list (entries_of es);
  add = λ g id p e. told (add_entry g id p e);
  append = λ g id p es. told (append_list g id p (entries_of es));
  type_ = λ g id t. told (add_type g id t);
  index = λ g id i. told (set_index g id i);
}

-- Before the first step of the chunk with this number, where this was said before.
abbrev pub on_the_way : ℕ → SoFar → OnTheWay
on_the_way chunk s = record { chunk = chunk; unnamed = 0; so_far = turned_to chunk s }

-- What was said before, and then by the operations of a chunk.
abbrev pub then_said : ℕ → SoFar → List Op → SoFar
then_said chunk s os = record {
  chunk = chunk;
  count = length os;
  shards = s.shards;
  said = λ k. join (s.said k) (sum (ops_in (in_shard s.shards k) (placed chunk os)));
  names = used s.names (uses_of_all os);
}

-- What was said before, and then what notes come to.
abbrev pub summed : SoFar → Notes → OnTheWay
summed s n = record { chunk = n.chunk; unnamed = n.unnamed; so_far = then_said n.chunk s n.ops }
