-- Labels are issued as they are needed.
use Rattle.std.proofs.Common.{◌≡◌, ◌∙◌, refl, ℕ, ◌+◌, arith, Bool, true, false, List, [], ◌∷◌, length, Option, Some, None}
use Rattle.std.specs.Prelude.{if◌then◌else◌}
use Rattle.std.specs.Str.{bytes_eq}
use Rattle.iri_ref.specs.Parts.{is_well_formed}
use Rattle.ld_model.specs.Keys.{default_graph}
use Rattle.ld_model.specs.Tree.{Tree, Trees, Members, null, truth, whole, one_one, text, array, object, no_trees, tree, no_members, member, tree_list}
use Rattle.node_model.specs.Keys.{type_key, list_key}
use Rattle.rdf_terms.specs.declared.term.Term.{Term}
use Rattle.rdf_terms.specs.declared.term.Term.TheVariants.{Iri}
use Rattle.rdf_model.specs.ToRdf.{Said, object_of, object_only, list_object, cells, values, entry, entries, node, node_term, term_of, types}
use Rattle.rdf_model.specs.Subjects.{Subject, said, said_of, said_in, labels_of}
use Rattle.rdf_model.specs.Needs.{needs, all_need, entry_needs, entries_need, node_needs, needs_in, subject_needs, subjects_need}

listed : (b : Bool) (next : ℕ) (ts : Trees) (made : Said) (term : Option Term) → made.next ≡ (next + length (tree_list ts)) + all_need ts
    → (if b then list_object next ts made else object_only next term).next ≡ next + (if b then length (tree_list ts) + all_need ts else 0)
listed true next ts made term is = is ∙ (omega arith)
listed false next ts made term is = omega arith

mutual
  object_next : (graph : Option Term) (next : ℕ) (t : Tree) → (object_of graph next t).next ≡ next + needs t
  object_next graph next null = omega arith
  object_next graph next (truth b) = omega arith
  object_next graph next (whole z) = omega arith
  object_next graph next one_one = omega arith
  object_next graph next (text s) = omega arith
  object_next graph next (array ts) = omega arith
  object_next graph next (object no_members) = omega arith
  object_next graph next (object (member k null ms)) = omega arith
  object_next graph next (object (member k (truth b) ms)) = omega arith
  object_next graph next (object (member k (whole z) ms)) = omega arith
  object_next graph next (object (member k one_one ms)) = omega arith
  object_next graph next (object (member k (text s) ms)) = omega arith
  object_next graph next (object (member k (object ns) ms)) = omega arith
  object_next graph next (object (member k (array ts) (member l t ms))) = omega arith
  object_next graph next (object (member k (array ts) no_members)) =
      listed (bytes_eq k list_key) next ts (cells graph next (next + length (tree_list ts)) ts) (term_of ((k, array ts) ∷ []))
      (cells_next graph next (next + length (tree_list ts)) ts)

  cells_next : (graph : Option Term) (number next : ℕ) (ts : Trees) → (cells graph number next ts).next ≡ next + all_need ts
  cells_next graph number next no_trees = omega arith
  cells_next graph number next (tree t ts) =
      let item = object_next graph next t in
      let rest = cells_next graph (number + 1) (object_of graph next t).next ts in
      rest ∙ (omega arith)

values_next : (graph : Option Term) (subject predicate : Term) (next : ℕ) (ts : Trees) → (values graph subject predicate next ts).next ≡ next + all_need ts
values_next graph subject predicate next no_trees = omega arith
values_next graph subject predicate next (tree t ts) =
    let value = object_next graph next t in
    let rest = values_next graph subject predicate (object_of graph next t).next ts in
    rest ∙ (omega arith)

converted : (b : Bool) (next : ℕ) (made : Said) (ts : Trees) → made.next ≡ next + all_need ts
    → (if b then made else record { next = next; quads = [] }).next ≡ next + (if b then all_need ts else 0)
converted true next made ts is = is
converted false next made ts is = omega arith

typed : (b : Bool) (next : ℕ) (made first : Said) (need : ℕ) → first.next ≡ next → made.next ≡ next + need
    → (if b then first else made).next ≡ next + (if b then 0 else need)
typed true next made first need same is = same ∙ (omega arith)
typed false next made first need same is = is

entry_next : (graph : Option Term) (subject : Term) (next : ℕ) (k : List ℕ) (t : Tree) → (entry graph subject next k t).next ≡ next + entry_needs k t
entry_next graph subject next k null = omega arith
entry_next graph subject next k (truth b) = omega arith
entry_next graph subject next k (whole z) = omega arith
entry_next graph subject next k one_one = omega arith
entry_next graph subject next k (text s) = omega arith
entry_next graph subject next k (object ms) = omega arith
entry_next graph subject next k (array ts) =
    typed (bytes_eq k type_key) next (if is_well_formed k then values graph subject (Iri k) next ts else record { next = next; quads = [] })
    (record { next = next; quads = types graph subject ts }) (if is_well_formed k then all_need ts else 0) refl
    (converted (is_well_formed k) next (values graph subject (Iri k) next ts) ts (values_next graph subject (Iri k) next ts))

entries_next : (graph : Option Term) (subject : Term) (next : ℕ) (ms : Members) → (entries graph subject next ms).next ≡ next + entries_need ms
entries_next graph subject next no_members = omega arith
entries_next graph subject next (member k t ms) =
    let first = entry_next graph subject next k t in
    let rest = entries_next graph subject (entry graph subject next k t).next ms in
    rest ∙ (omega arith)

node_next : (graph subject : Option Term) (next : ℕ) (t : Tree) → (node graph subject next t).next ≡ next + node_needs subject t
node_next graph None next t = omega arith
node_next graph (Some s) next null = omega arith
node_next graph (Some s) next (truth b) = omega arith
node_next graph (Some s) next (whole z) = omega arith
node_next graph (Some s) next one_one = omega arith
node_next graph (Some s) next (text x) = omega arith
node_next graph (Some s) next (array ts) = omega arith
node_next graph (Some s) next (object ms) = entries_next graph s next ms

in_next : (graph subject : Option Term) (next : ℕ) (t : Tree) → (said_in graph subject next t).next ≡ next + needs_in graph subject t
in_next None subject next t = omega arith
in_next (Some name) subject next t = node_next (Some name) subject next t

graphed : (b : Bool) (next : ℕ) (first second : Said) (need other : ℕ) → first.next ≡ next + need → second.next ≡ next + other
    → (if b then first else second).next ≡ next + (if b then need else other)
graphed true next first second need other is are = is
graphed false next first second need other is are = are

subject_next : (next : ℕ) (s : Subject) → (said_of next s).next ≡ next + subject_needs s
subject_next next s =
    graphed (bytes_eq s.graph default_graph) next (node None (node_term s.id) next s.node) (said_in (node_term s.graph) (node_term s.id) next s.node)
    (node_needs (node_term s.id) s.node) (needs_in (node_term s.graph) (node_term s.id) s.node)
    (node_next None (node_term s.id) next s.node) (in_next (node_term s.graph) (node_term s.id) next s.node)

pub next_is_needed : (next : ℕ) (ss : List Subject) → (said next ss).next ≡ next + subjects_need ss
next_is_needed next [] = omega arith
next_is_needed next (s ∷ ss) =
    let first = subject_next next s in
    let rest = next_is_needed (said_of next s).next ss in
    rest ∙ (omega arith)

pub labels_are_counted : (ss : List Subject) → labels_of ss ≡ subjects_need ss
labels_are_counted ss = let is = next_is_needed 0 ss in omega arith
