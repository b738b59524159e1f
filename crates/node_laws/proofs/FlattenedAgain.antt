-- A flattened document without labels, flattened again.
use Rattle.std.proofs.Common.{◌≡◌, ℕ, List, [], ◌∷◌, ◌++◌, Bool, ◌&&◌, if◌then◌else◌, Option, Some, None, Ok, refl, sym, ap, ap₂, ◌∙◌, subst, append_assoc}
use Rattle.std.specs.List.{flat_map}
use Rattle.ld_model.specs.Flatten.{flatten}
use Rattle.ld_model.proofs.Puts.{bytes_eq-refl}
use Rattle.ld_model.proofs.SameMembers.{same_members}
use Rattle.node_model.specs.NodeMap.{Node, Graphs, node_in, graph_in}
use Rattle.node_model.specs.AsTrees.{node_members, graph_pairs}
use Rattle.node_model.specs.Generating.{Generated, outcome, walked, generate}
use Rattle.node_model.specs.DueForm.{is_node_entry}
use Rattle.node_laws.specs.Stated.{Said, it_is, a_property, an_entry, a_type, an_index, Statement, of_graph, of_node, stated_in, said_by, said_of, indexes_said, first, conflict_by, conflict_with, conflicts_after, IsAsSaid}
use Rattle.node_laws.specs.Laws.{FlatteningAgainChangesNothing}
use Rattle.node_laws.proofs.Shape.{IsNode, IsMap, node_in_is, graph_in_is, walked_is}
use Rattle.node_laws.proofs.DueForm.{members_are, all_pass, map_in_form, given}
use Rattle.node_laws.proofs.ReadOut.{graph_there}
use Rattle.node_laws.proofs.Determined.{at_each}
use Rattle.node_laws.proofs.Issued.{OfGraphs, walked_issued}
use Rattle.node_laws.proofs.SameContents.{same_flattened}
use Rattle.node_laws.proofs.Stated.{Holds, node_stated, node_as_said, walked_told}
use Rattle.node_laws.proofs.SaidAgain.{flat-append, listed_index}
use Rattle.node_laws.proofs.Again.{contents_in_map, graph_again, node_again, one_index}

-- Where no node has two indexes, there is no conflict.
too_many : (i j : List ℕ) (xs ys : List (List ℕ)) (o : Option (List ℕ)) → i ∷ (xs ++ j ∷ ys) ≡ listed_index o → ⊥
too_many i j [] ys (Some l) is = absurd (cc)
too_many i j (x ∷ xs) ys (Some l) is = absurd (cc)
too_many i j xs ys None is = absurd (cc)

conflict_none : (g id index : List ℕ) (before after : List Statement) (o : Option (List ℕ)) → flat_map indexes_said (said_of g id (before ++ of_node g id (an_index index) ∷ after)) ≡ listed_index o → conflict_with before (of_node g id (an_index index)) ≡ []
conflict_none g id index before after o is = by_list (flat_map indexes_said (said_of g id before)) refl
  where
    all_indexes : flat_map indexes_said (said_of g id (before ++ of_node g id (an_index index) ∷ after)) ≡ flat_map indexes_said (said_of g id before) ++ index ∷ flat_map indexes_said (said_of g id after)
    all_indexes =
        ap (flat_map indexes_said) (flat-append (said_by g id) before (of_node g id (an_index index) ∷ after))
        ∙ flat-append indexes_said (said_of g id before) (said_of g id (of_node g id (an_index index) ∷ after))
        ∙ ap₂ (λ (a b : Bool). flat_map indexes_said (said_of g id before) ++ flat_map indexes_said ((if a && b then (an_index index ∷ []) else []) ++ said_of g id after)) (bytes_eq-refl g) (bytes_eq-refl id)

    by_list : (xs : List (List ℕ)) → flat_map indexes_said (said_of g id before) ≡ xs → conflict_by (first xs) id index ≡ []
    by_list [] same = refl
    by_list (i ∷ xs) same = absurd (too_many i index xs (flat_map indexes_said (said_of g id after)) o (sym (all_indexes ∙ ap (λ l. l ++ index ∷ flat_map indexes_said (said_of g id after)) same) ∙ is))

conflicts_none : (before xs : List Statement) → ((g id : List ℕ) → (o : Option (List ℕ)) × (flat_map indexes_said (said_of g id (before ++ xs)) ≡ listed_index o)) → conflicts_after before xs ≡ []
conflicts_none before [] one = refl
conflicts_none before (x ∷ xs) one =
    ap₂ (λ a b. a ++ b) (by_kind x (one))
    (conflicts_none (before ++ x ∷ []) xs (λ g id. let is = one g id in (is.0, ap (λ l. flat_map indexes_said (said_of g id l)) (append_assoc before (x ∷ []) xs) ∙ is.1)))
  where
    by_kind : (x : Statement) → ((g id : List ℕ) → (o : Option (List ℕ)) × (flat_map indexes_said (said_of g id (before ++ x ∷ xs)) ≡ listed_index o)) → conflict_with before x ≡ []
    by_kind (of_graph g) one = refl
    by_kind (of_node g id (an_index index)) one = let is = one g id in conflict_none g id index before xs is.0 is.1
    by_kind (of_node g id it_is) one = refl
    by_kind (of_node g id (a_property p)) one = refl
    by_kind (of_node g id (an_entry p e)) one = refl
    by_kind (of_node g id (a_type t)) one = refl

-- Nodes of which the same is said.
same_members_of : (ds : List Said) (k : List ℕ) (n m : Node) → IsNode n → IsNode m → IsAsSaid ds (node_members k n) → IsAsSaid ds (node_members k m) → node_members k n ≡ node_members k m
same_members_of ds k n m n_is m_is n_said m_said =
    let left = members_are k n n_is in
    let right = members_are k m m_is in
    same_members (node_members k n) (node_members k m) left.ascend right.ascend
    (λ q. at_each k ds (node_members k n) (node_members k m) (all_pass (is_node_entry k) (node_members k n) left.each) (all_pass (is_node_entry k) (node_members k m) right.each) n_said m_said q (left.id_at ∙ sym right.id_at))

flattened_again : (graphs : Graphs) → IsMap graphs → OfGraphs 0 graphs → (stated : List Statement) → Holds stated graphs
    → (again : Generated) × (generate (flatten (graph_pairs graphs)) ≡ Ok again) × (flatten again.graphs ≡ flatten (graph_pairs graphs))
flattened_again graphs map named stated holds =
    let fs = flatten (graph_pairs graphs) in
    let s = walked fs in
    let told = walked_told fs in
    let no_conflict : s.conflict ≡ None = told.1 ∙ ap first (conflicts_none [] (stated_in fs) (λ g id. ((node_in id (graph_in g graphs)).index, one_index graphs map named stated holds g id))) in
    let other = walked_is fs in (
      record { graphs = graph_pairs s.graphs; issued = s.labels.issued },
      ap (λ o. outcome o s) no_conflict,
      same_flattened (graph_pairs s.graphs) (graph_pairs graphs) (map_in_form s.graphs other) (map_in_form graphs map)
          (record {
            graph = λ g. graph_there g s.graphs ∙ told.0.graph g ∙ graph_again graphs map named g;
            node = λ g id.
                let n = node_in id (graph_in g s.graphs) in
                let n_is = node_in_is id (graph_in g s.graphs) (graph_in_is g s.graphs other) in
                contents_in_map s.graphs g id
                ∙ same_members_of (said_of g id (stated_in fs)) id n (node_in id (graph_in g graphs)) n_is (node_in_is id (graph_in g graphs) (graph_in_is g graphs map))
                (node_as_said id (said_of g id (stated_in fs)) n n_is (node_stated g id (stated_in fs) s.graphs told.0)) (node_again graphs map named stated holds g id)
                ∙ sym (contents_in_map graphs g id);
          }),
    )

pub flattening_again_changes_nothing : FlatteningAgainChangesNothing
flattening_again_changes_nothing ts m is none =
    let s = walked ts in
    let same = given s.conflict s m is in
    let count : s.labels.issued ≡ 0 = ap (λ (m : Generated). m.issued) same ∙ none in
    subst (λ (m : Generated). (again : Generated) × (generate (flatten m.graphs) ≡ Ok again) × (flatten again.graphs ≡ flatten m.graphs)) same
    (flattened_again s.graphs (walked_is ts) (subst (λ n. OfGraphs n s.graphs) count (walked_issued ts)) (stated_in ts) (walked_told ts).0)
