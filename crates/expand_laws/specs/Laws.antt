-- The laws of what expansion gives.
use Rattle.std.specs.Prelude.{◌≡◌, List, ◌++◌, length, true, Ok, filter}
use Rattle.std.specs.List.{AllByRecursion}
use Rattle.ld_model.specs.Tree.{Tree, array, trees_of}
use Rattle.ld_model.specs.Plain.{are_plain_items}
use Rattle.flatten_laws.specs.Laws.{flattened}
use Rattle.expand_model.specs.Scope.{Options}
use Rattle.expand_model.specs.Rules.{◌>>=◌}
use Rattle.expand_model.specs.Expand.{document}
use Rattle.expand_laws.specs.Objects.{AreItems}
use Rattle.expand_laws.specs.Statements.{IsNodeObject, HasKeysInOrder, has_more_than_id, items_later}

-- Whatever the document is, what it expands to has node objects alone as its items.
abbrev pub OnlyNodeObjectsStandAtTheTop : Type 0
OnlyNodeObjectsStandAtTheTop = (o : Options) (t : Tree) (ts : List Tree) → document o t ≡ Ok ts → AllByRecursion IsNodeObject ts

-- A plain document whose items have their keys in order expands to itself, without the items that have just an id.
abbrev pub APlainDocumentExpandsToItself : Type 0
APlainDocumentExpandsToItself = (o : Options) (ts : List Tree) → are_plain_items ts ≡ true → AllByRecursion HasKeysInOrder ts → document o (array (trees_of ts)) ≡ Ok (filter has_more_than_id ts)

-- Whatever the document is, what it expands to is made of value objects, list objects and node objects, down to its last entry.
abbrev pub OutcomeIsMadeOfObjects : Type 0
OutcomeIsMadeOfObjects = (o : Options) (t : Tree) (ts : List Tree) → document o t ≡ Ok ts → AreItems ts

-- An array expands item by item: first some of them, and then the others, whose errors stand so many items later.
abbrev pub ItemsExpandInTurn : Type 0
ItemsExpandInTurn = (o : Options) (ts us : List Tree) → document o (array (trees_of (ts ++ us))) ≡ (document o (array (trees_of ts)) >>= (λ xs. items_later (length ts) (document o (array (trees_of us))) >>= (λ ys. Ok (xs ++ ys))))

-- What a plain document expands to flattens to what the document itself flattens to.
abbrev pub PlainDocumentsFlattenAlike : Type 0
PlainDocumentsFlattenAlike = (o : Options) (ts us : List Tree) → are_plain_items ts ≡ true → AllByRecursion HasKeysInOrder ts → document o (array (trees_of ts)) ≡ Ok us → flattened us ≡ flattened ts
