-- The laws of node map generation.
use Rattle.std.specs.Prelude.{ℕ, map as each, ◌++◌, Err, length, ◌≡◌, ◌↔◌, List, true, Some, Ok}
use Rattle.std.specs.List.{AllByRecursion}
use Rattle.ld_model.specs.Tree.{Tree, Pairs, text, object, member_list, member_at, AreAscending}
use Rattle.ld_model.specs.Keys.{id_key}
use Rattle.ld_model.specs.Flatten.{flatten}
use Rattle.ld_model.specs.NodeMap as plain
use Rattle.ld_model.specs.Plain.{are_plain_items}
use Rattle.node_model.specs.DueForm.{has_due_form}
use Rattle.node_model.specs.NodeMap.{Conflict}
use Rattle.node_model.specs.Generating.{Generated, generate, walked}
use Rattle.node_laws.specs.Names.{names_in, IsIssued}
use Rattle.node_laws.specs.Renamed.{IsRenaming, renamed}
use Rattle.node_laws.specs.Stated.{first, stated_in, conflicts_in, IsAsStated}
use Rattle.node_laws.specs.Uses.{uses_in, AreNumbered}

-- A node stands at its own id, and its members ascend by their keys.
abbrev pub IsNodeInOrder : List ℕ × Tree → Type 0
IsNodeInOrder (id, object ms) = AreAscending (member_list ms) × (member_at id_key (member_list ms) ≡ Some (text id))
IsNodeInOrder _ = ⊥

-- The nodes of a graph ascend by their ids.
abbrev pub IsGraphInOrder : List ℕ × Tree → Type 0
IsGraphInOrder (name, object nodes) = AreAscending (member_list nodes) × AllByRecursion IsNodeInOrder (member_list nodes)
IsGraphInOrder _ = ⊥

-- The form that is due, with graphs that ascend by their names, and so nodes by their ids and members by their keys.
pub record IsInForm (graphs : Pairs) : Type 0 where
  pub form : has_due_form graphs ≡ true
  pub ascend : AreAscending graphs
  pub each : AllByRecursion IsGraphInOrder graphs

-- Whatever the document is, its node map is in this form.
abbrev pub NodeMapsHaveTheDueForm : Type 0
NodeMapsHaveTheDueForm = (ts : List Tree) (m : Generated) → generate ts ≡ Ok m → IsInForm m.graphs

-- Labels are numbered by the uses of the document, and as many are told to be issued as there are uses.
abbrev pub LabelsAreIssuedInOrder : Type 0
LabelsAreIssuedInOrder = (ts : List Tree) → AreNumbered (uses_in ts) (walked ts).labels × ((m : Generated) → generate ts ≡ Ok m → m.issued ≡ length (uses_in ts))

-- Each name of a blank node in the node map is a label that was issued.
abbrev pub BlankNodesHaveIssuedLabels : Type 0
BlankNodesHaveIssuedLabels = (ts : List Tree) (m : Generated) → generate ts ≡ Ok m → AllByRecursion (IsIssued m.issued) (names_in m.graphs)

-- What comes after the first conflict doesn't change it.
abbrev pub TheFirstConflictStays : Type 0
TheFirstConflictStays = (ts us : List Tree) (c : Conflict) → generate ts ≡ Err c → generate (ts ++ us) ≡ Err c

-- Whatever the document is, its node map has what is stated in it, and nothing else.
abbrev pub NodeMapsAreAsStated : Type 0
NodeMapsAreAsStated = (ts : List Tree) (m : Generated) → generate ts ≡ Ok m → IsAsStated (stated_in ts) m.graphs

-- There is one node map in the due form with what is stated in the document, and it is what generation gives.
abbrev pub OutcomeIsDetermined : Type 0
OutcomeIsDetermined = (ts : List Tree) (m : Generated) → generate ts ≡ Ok m → (graphs : Pairs) → IsInForm graphs → IsAsStated (stated_in ts) graphs → graphs ≡ m.graphs

-- Generation fails exactly where there is a conflict of indexes, and with the first one.
abbrev pub ConflictsAreThoseStated : Type 0
ConflictsAreThoseStated = (ts : List Tree) (c : Conflict) → (generate ts ≡ Err c) ↔ (first (conflicts_in (stated_in ts)) ≡ Some c)

-- Which labels a document has for its blank nodes makes no difference.
abbrev pub RenamingLabelsChangesNothing : Type 0
RenamingLabelsChangesNothing = (to : List ℕ → List ℕ) → IsRenaming to → (ts : List Tree) → generate (each (renamed to) ts) ≡ generate ts

-- For a plain document generation gives what its definition for plain documents gives.
abbrev pub PlainDocumentsAreACase : Type 0
PlainDocumentsAreACase = (ts : List Tree) → are_plain_items ts ≡ true → generate ts ≡ Ok (record { graphs = (plain.generate ts).graphs; issued = (plain.generate ts).issued })

-- A flattened document without blank nodes stays as it is when it is flattened again.
abbrev pub FlatteningAgainChangesNothing : Type 0
FlatteningAgainChangesNothing = (ts : List Tree) (m : Generated) → generate ts ≡ Ok m → m.issued ≡ 0 → (again : Generated) × (generate (flatten m.graphs) ≡ Ok again) × (flatten again.graphs ≡ flatten m.graphs)
