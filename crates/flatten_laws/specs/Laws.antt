-- The laws of flattening.
use Rattle.std.specs.Prelude.{ℕ, ◌≡◌, ◌≢◌, ◌↔◌, ◌<◌, List, length, true, Some, map as each}
use Rattle.std.specs.List.{AllByRecursion, IsDistinct}
use Rattle.std.specs.List.Sorted.{IsStrictlySortedBy}
use Rattle.ld_model.specs.Tree.{Tree, AreAscending, byte_order, same_tree}
use Rattle.ld_model.specs.Keys.{id_key}
use Rattle.ld_model.specs.Plain.{are_plain_items}
use Rattle.ld_model.specs.NodeMap.{generate}
use Rattle.ld_model.specs.Flatten.{flatten}
use Rattle.flatten_laws.specs.Statements.{id_of, members_in, statements, states, gives, once}

-- What flattening gives for the items of a document.
abbrev pub flattened : List Tree → List Tree
flattened ts = flatten (generate ts).graphs

-- Each of the nodes has an id, and each id comes before those after it.
abbrev pub AscendById : List Tree → Type 0
AscendById nodes = (ids : List (List ℕ)) × (each id_of nodes ≡ each Some ids) × IsStrictlySortedBy byte_order ids

-- The nodes of the outcome ascend by their ids, so no id stands twice. This holds of any document, plain or not.
abbrev pub NodesAscendById : Type 0
NodesAscendById = (ts : List Tree) → AscendById (flattened ts)

-- An entry stands under a property of a node of the outcome exactly where some item of a plain document states it there.
abbrev pub EntriesAreKept : Type 0
EntriesAreKept = (ts : List Tree) → are_plain_items ts ≡ true → (id property : List ℕ) (entry : Tree) → states id property entry (flattened ts) ≡ states id property entry ts

-- What stands under a property of a node of the outcome is all that the items of a plain document state there, in the
-- order in which they state it first, and each entry once.
abbrev pub EntriesKeepTheirOrder : Type 0
EntriesKeepTheirOrder = (ts : List Tree) → are_plain_items ts ≡ true → (id property : List ℕ) → statements id property (flattened ts) ≡ once (statements id property ts)

-- No entry stands twice under a property of a node of the outcome.
abbrev pub EntriesStandOnce : Type 0
EntriesStandOnce = (ts : List Tree) → are_plain_items ts ≡ true → (id property : List ℕ) → IsDistinct same_tree (statements id property (flattened ts))

-- No label is issued for a plain document.
abbrev pub NoLabelIsIssued : Type 0
NoLabelIsIssued = (ts : List Tree) → are_plain_items ts ≡ true → (generate ts).issued ≡ 0

-- The test of equal trees answers whether they are equal.
abbrev pub TreesAreToldApart : Type 0
TreesAreToldApart = (a b : Tree) → (same_tree a b ≡ true) ↔ (a ≡ b)

-- The members of a node object ascend by their keys, and there are more of them than its id.
abbrev pub IsInOrder : Tree → Type 0
IsInOrder t = AreAscending (members_in t) × (1 < length (members_in t))

-- What it is for node objects to be the items of a document, flattened: they are plain, in order, and each has more than
-- its id; they give a node the properties that the items give it; and they state there what the items state, in the order in
-- which they state it first, and each entry once.
pub record IsFlatteningOf (items nodes : List Tree) : Type 0 where
  pub plain : are_plain_items nodes ≡ true
  pub ascend : AscendById nodes
  pub in_order : AllByRecursion IsInOrder nodes
  pub properties : (id property : List ℕ) → property ≢ id_key → gives id property nodes ≡ gives id property items
  pub entries : (id property : List ℕ) → statements id property nodes ≡ once (statements id property items)

-- The outcome is that for a plain document, and nothing else is.
abbrev pub OutcomeIsDetermined : Type 0
OutcomeIsDetermined = (ts : List Tree) → are_plain_items ts ≡ true → (nodes : List Tree) → IsFlatteningOf ts nodes ↔ (nodes ≡ flattened ts)

-- A document that is flattened stays as it is when it is flattened again.
abbrev pub FlatteningAgainChangesNothing : Type 0
FlatteningAgainChangesNothing = (ts : List Tree) → are_plain_items ts ≡ true → flattened (flattened ts) ≡ flattened ts
