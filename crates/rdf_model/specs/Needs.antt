-- How many labels the lists of a node map need, counted without a quad (JSON-LD 1.1 API, section 8.4.3, step 2).
use Rattle.std.specs.Prelude.{ℕ, ◌+◌, List, [], ◌∷◌, length, Option, Some, None, if◌then◌else◌}
use Rattle.std.specs.Str.{bytes_eq}
use Rattle.iri_ref.specs.Parts.{is_well_formed}
use Rattle.ld_model.specs.Keys.{default_graph}
use Rattle.ld_model.specs.Tree.{Tree, Trees, Members, array, object, no_trees, tree, no_members, member, tree_list}
use Rattle.node_model.specs.Keys.{type_key, list_key}
use Rattle.rdf_terms.specs.declared.term.Term.{Term}
use Rattle.rdf_model.specs.ToRdf.{node_term}
use Rattle.rdf_model.specs.Subjects.{Subject}

abbrev mutual
  -- A list needs one for each of its items, and those that the lists among them need.
  pub needs : Tree → ℕ
  needs (object (member k (array ts) no_members)) = if bytes_eq k list_key then length (tree_list ts) + all_need ts else 0
  needs _ = 0

  pub all_need : Trees → ℕ
  all_need no_trees = 0
  all_need (tree t ts) = needs t + all_need ts

-- What isn't converted needs none.
abbrev pub entry_needs : List ℕ → Tree → ℕ
entry_needs k (array ts) = if bytes_eq k type_key then 0 else (if is_well_formed k then all_need ts else 0)
entry_needs k _ = 0

abbrev pub entries_need : Members → ℕ
entries_need no_members = 0
entries_need (member k t ms) = entry_needs k t + entries_need ms

abbrev pub node_needs : Option Term → Tree → ℕ
node_needs (Some subject) (object ms) = entries_need ms
node_needs _ _ = 0

abbrev pub needs_in : Option Term → Option Term → Tree → ℕ
needs_in None subject t = 0
needs_in (Some name) subject t = node_needs subject t

abbrev pub subject_needs : Subject → ℕ
subject_needs s = if bytes_eq s.graph default_graph then node_needs (node_term s.id) s.node else needs_in (node_term s.graph) (node_term s.id) s.node

abbrev pub subjects_need : List Subject → ℕ
subjects_need [] = 0
subjects_need (s ∷ ss) = subject_needs s + subjects_need ss
