-- A node map to RDF, by its subjects in order: whole, and in ranges.
use Rattle.std.specs.Prelude.{ℕ, ◌-◌, ◌^◌, nat_le, List, [], ◌∷◌, map, take, drop, Option, Some, None, if◌then◌else◌}
use Rattle.std.specs.List.{flat_map}
use Rattle.std.specs.Str.{bytes_eq}
use Rattle.ld_model.specs.Keys.{default_graph}
use Rattle.ld_model.specs.Tree.{Tree, Pairs, object, member_list}
use Rattle.rdf_terms.specs.declared.term.Term.{Term}
use Rattle.rdf_terms.specs.declared.term.Quad.{Quad}
use Rattle.rdf_model.specs.ToRdf.{Said, node, node_term, then_said}

-- A node of a graph: the graph's name, the node's id, and what stands at it.
pub record Subject : Type 0 where
  pub graph : List ℕ
  pub id : List ℕ
  pub node : Tree

-- The nodes of a graph.
abbrev pub subjects_in : List ℕ × Tree → List Subject
subjects_in (name, object nodes) = map (λ m. record { graph = name; id = m.0; node = m.1 }) (member_list nodes)
subjects_in _ = []

-- All subjects, graph by graph, in the order of the names of graphs and of the ids.
abbrev pub subjects : Pairs → List Subject
subjects graphs = flat_map subjects_in graphs

-- What a subject of a named graph says: nothing where the graph's name names nothing (JSON-LD 1.1 API, section 8.1, step 1.1).
abbrev pub said_in : Option Term → Option Term → ℕ → Tree → Said
said_in None subject next t = record { next = next; quads = [] }
said_in (Some name) subject next t = node (Some name) subject next t

-- What a subject says. The default graph has no name.
abbrev pub said_of : ℕ → Subject → Said
said_of next s = if bytes_eq s.graph default_graph then node None (node_term s.id) next s.node else said_in (node_term s.graph) (node_term s.id) next s.node

-- What subjects say, one behind the other, with labels from this number on.
abbrev pub said : ℕ → List Subject → Said
said next [] = record { next = next; quads = [] }
said next (s ∷ ss) =
    let first = said_of next s in
    then_said first.quads (said first.next ss)

-- The quads of a node map, whose list cells are labelled from this number on (section 8.1).
abbrev pub to_rdf : Pairs → ℕ → List Quad
to_rdf graphs next = (said next (subjects graphs)).quads

-- The subjects numbered from the first to before the second.
abbrev pub within : ℕ → ℕ → Pairs → List Subject
within from to graphs = take (to - from) (drop from (subjects graphs))

-- How many labels subjects need.
abbrev pub labels_of : List Subject → ℕ
labels_of ss = (said 0 ss).next

-- As many as can be told: 2^63 stands for that many and more.
abbrev pub told : ℕ → ℕ
told n = if nat_le n (2 ^ 63) then n else 2 ^ 63
