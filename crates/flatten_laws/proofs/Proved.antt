-- The laws of flattening.
use Rattle.std.proofs.Common.{◌≡◌, ◌≢◌, ◌||◌, ℕ, List, [], ◌∷◌, Bool, true, false, true≢false, cond, length, refl, sym, ap, ◌∙◌, subst, ltb-true}
use Rattle.std.specs.Prelude.{filter, map as each}
use Rattle.std.specs.Str.{bytes_eq}
use Rattle.std.specs.List.{list_any, AllByRecursion, IsDistinct}
use Rattle.std.proofs.lemmas.Bool.{false_from_ne_true}
use Rattle.ld_model.specs.Tree.{Tree, object, Pairs, member_list, same_tree}
use Rattle.ld_model.specs.Keys.{id_key}
use Rattle.ld_model.specs.Label.{Labels}
use Rattle.ld_model.specs.Plain.{are_plain_items}
use Rattle.ld_model.specs.Flatten.{has_more, nodes_of}
use Rattle.flatten_laws.specs.Statements.{statements, gives, once}
use Rattle.flatten_laws.specs.Laws.{flattened, EntriesKeepTheirOrder, EntriesAreKept, EntriesStandOnce, NoLabelIsIssued, IsInOrder, IsFlatteningOf, OutcomeIsDetermined, FlatteningAgainChangesNothing}
use Rattle.ld_model.proofs.Puts.{bytes_eq-exact}
use Rattle.flatten_laws.proofs.Once.{gathered, gathered-once, any-once, distinct-once, once-once}
use Rattle.flatten_laws.proofs.Graph.{IsNode}
use Rattle.flatten_laws.proofs.Ids.{nodes_from, flattened-is, nodes_from_is_graph, nodes_ascend}
use Rattle.flatten_laws.proofs.Gathering.{items_at}
use Rattle.flatten_laws.proofs.Properties.{items_have, none_at, gives-nodes_of}
use Rattle.flatten_laws.proofs.PlainNodes.{items_plain, outcome_is_plain}
use Rattle.flatten_laws.proofs.NoLabels.{items_keep}
use Rattle.flatten_laws.proofs.Readout.{statements-nodes_of, nothing_at}
use Rattle.flatten_laws.proofs.Determined.{IsFlat, keyed, keyed_is_flat, same_objects}

nodes_state : (ts : List Tree) → are_plain_items ts ≡ true → (id property : List ℕ) → statements id property (nodes_of (nodes_from ts)) ≡ once (statements id property ts)
nodes_state ts plain id property =
    statements-nodes_of id property (nodes_from ts) (nodes_from_is_graph ts)
    ∙ items_at id property ts _ plain
    ∙ ap (λ held. gathered held (statements id property ts)) (nothing_at id property)
    ∙ gathered-once (statements id property ts)

pub entries_keep_their_order : EntriesKeepTheirOrder
entries_keep_their_order ts plain id property = ap (statements id property) (flattened-is ts) ∙ nodes_state ts plain id property

pub entries_are_kept : EntriesAreKept
entries_are_kept ts plain id property entry =
    ap (list_any (same_tree entry)) (entries_keep_their_order ts plain id property) ∙ any-once entry (statements id property ts)

pub entries_stand_once : EntriesStandOnce
entries_stand_once ts plain id property =
    subst (IsDistinct same_tree) (sym (entries_keep_their_order ts plain id property)) (distinct-once (statements id property ts))

pub no_label_is_issued : NoLabelIsIssued
no_label_is_issued ts plain = ap (λ (l : Labels). l.issued) (items_keep ts _ plain)

-- The outcome is the flattening of the document.
node_in_order : (k : List ℕ) (t : Tree) → IsNode (k, t) → has_more (k, t) ≡ true → IsInOrder t
node_in_order k (object ms) is kept = (is.ascending, ltb-true 1 (length (member_list ms)) kept)
node_in_order k _ is kept = absurd is

outcome_in_order : (nodes : Pairs) → AllByRecursion IsNode nodes → AllByRecursion IsInOrder (nodes_of nodes)
outcome_in_order [] all = tt
outcome_in_order (m ∷ nodes) all = by_test (has_more m) refl (outcome_in_order nodes all.1)
  where
    by_test : (b : Bool) → has_more m ≡ b → AllByRecursion IsInOrder (nodes_of nodes) → AllByRecursion IsInOrder (each (λ m. m.1) (cond b (m ∷ filter has_more nodes) (filter has_more nodes)))
    by_test true kept rest = (node_in_order m.0 m.1 all.0 kept, rest)
    by_test false dropped rest = rest

apart_from : (property : List ℕ) → property ≢ id_key → bytes_eq property id_key ≡ false
apart_from property other = false_from_ne_true (bytes_eq property id_key) (λ same. other (bytes_eq-exact property id_key same))

other_than : (property : List ℕ) → bytes_eq property id_key ≡ false → property ≢ id_key
other_than property apart is = true≢false (subst (λ x. bytes_eq x id_key ≡ false) is apart)

nodes_give : (ts : List Tree) → are_plain_items ts ≡ true → (id property : List ℕ) → bytes_eq property id_key ≡ false → gives id property (nodes_of (nodes_from ts)) ≡ gives id property ts
nodes_give ts plain id property apart =
    gives-nodes_of id property (nodes_from ts) apart (nodes_from_is_graph ts)
    ∙ items_have id property ts _ apart plain
    ∙ ap (λ b. b || gives id property ts) (none_at id property apart)

outcome_is_flattening : (ts : List Tree) → are_plain_items ts ≡ true → IsFlatteningOf ts (flattened ts)
outcome_is_flattening ts plain =
    let graph = nodes_from_is_graph ts in
    subst (IsFlatteningOf ts) (sym (flattened-is ts))
    (record {
      plain = outcome_is_plain (nodes_from ts) graph.each (items_plain ts _ plain tt);
      ascend = nodes_ascend (nodes_from ts) graph;
      in_order = outcome_in_order (nodes_from ts) graph.each;
      properties = λ id property other. nodes_give ts plain id property (apart_from property other);
      entries = nodes_state ts plain;
    })

flat_from : (ts nodes : List Tree) → IsFlatteningOf ts nodes → IsFlat (keyed nodes)
flat_from ts nodes is = keyed_is_flat nodes is.plain is.ascend is.in_order

determined : (ts nodes : List Tree) → are_plain_items ts ≡ true → IsFlatteningOf ts nodes → nodes ≡ flattened ts
determined ts nodes plain is =
    let outcome = outcome_is_flattening ts plain in
    same_objects nodes (flattened ts) (flat_from ts nodes is) (flat_from ts (flattened ts) outcome)
    (λ q r apart. is.properties q r (other_than r apart) ∙ sym (outcome.properties q r (other_than r apart)))
    (λ q r. is.entries q r ∙ sym (outcome.entries q r))

pub outcome_is_determined : OutcomeIsDetermined
outcome_is_determined ts plain nodes =
    (determined ts nodes plain, λ is. subst (IsFlatteningOf ts) (sym is) (outcome_is_flattening ts plain))

pub flattening_again_changes_nothing : FlatteningAgainChangesNothing
flattening_again_changes_nothing ts plain =
    let first = outcome_is_flattening ts plain in
    let again = outcome_is_flattening (flattened ts) first.plain in
    determined ts (flattened (flattened ts)) plain
    (record {
      plain = again.plain;
      ascend = again.ascend;
      in_order = again.in_order;
      properties = λ id property other. again.properties id property other ∙ first.properties id property other;
      entries = λ id property. again.entries id property ∙ ap once (first.entries id property) ∙ once-once (statements id property ts);
    })
