-- What is due for the program's words, its folder of contexts and its input.
use Rattle.std.specs.Prelude.{ℕ, ◌++◌, List, [], ◌∷◌, length, Bool, true, false, nat_lt, if◌then◌else◌, Option, Some, None, Result, Ok, Err}
use Rattle.std.specs.Option.{option_map, option_map_or, option_and_then}
use Rattle.ld_io.specs.declared.whole.TheConstants.{LIMIT}
use Rattle.ld_model.specs.Tree.{Tree, array, trees_of}
use Rattle.ld_model.specs.CompactText.{compact}
use Rattle.ld_model.specs.Flatten.{flatten}
use Rattle.node_model.specs.NodeMap.{Conflict}
use Rattle.node_model.specs.Generating.{Generated, generate}
use Rattle.ld_json.specs.Read.{Reading, reads, no_json, number_at, version_at, reading}
use Rattle.ctx_store.specs.Stored.{Files, Contexts, Stored, holds, index_line, missing, stored}
use Rattle.expand_model.specs.Scope.{Fault}
use Rattle.expand_model.specs.Rules.{◌>>=◌}
use Rattle.expand_model.specs.Expand.{document}
use Rattle.ld_run.specs.declared.status.Refusal.{Refusal}
use Rattle.ld_run.specs.declared.status.Refusal.TheVariants.{IndexLine, Missing, Syntax, Number, VersionNumber, Expansion, ConflictingIndexes}
use Rattle.ld_run.specs.declared.words.Command.{Command}
use Rattle.ld_run.specs.declared.words.Command.TheVariants.{Flatten, Expand}
use Rattle.ld_run.specs.declared.words.Order.{Order}
use Rattle.ld_run.specs.Words.{order_of}

-- The bytes to write, or why there are none.
pub data Out : Type 0 where
  bytes : List ℕ → Out
  refused : Refusal → Out
  usage : Out
  too_large : Out

-- The tree that an input reads as, or the refusal of its text.
abbrev pub parsed : Reading → Result Tree Refusal
parsed no_json = Err Syntax
parsed (number_at at) = Err (Number at)
parsed (version_at place) = Err (VersionNumber place)
parsed (reads t) = Ok t

-- The items that expansion comes to, or the first error of its traversal.
abbrev pub as_refusal : Result (List Tree) Fault → Result (List Tree) Refusal
as_refusal (Ok ts) = Ok ts
as_refusal (Err f) = Err (Expansion f.code f.place)

-- The expanded items of an input (JSON-LD 1.1 API, section 9.1.2, expand), with a base URL and contexts.
abbrev pub expanded : Option (List ℕ) → Contexts → List ℕ → Result (List Tree) Refusal
expanded base cs input = do
  t ← parsed (reading input)
  as_refusal (document (record { base = base; contexts = cs }) t)

-- The node map of expanded items (section 7.2), or the first two different indexes of a node.
abbrev pub node_map_or_refusal : Result Generated Conflict → Result Generated Refusal
node_map_or_refusal (Ok m) = Ok m
node_map_or_refusal (Err c) = Err (ConflictingIndexes c.node c.first c.second)

-- The flattened form of expanded items (section 7.1).
abbrev pub flattened : List Tree → Result (List Tree) Refusal
flattened ts = do
  m ← node_map_or_refusal (generate ts)
  Ok (flatten m.graphs)

-- What a command gives of expanded items.
abbrev pub given : Command → List Tree → Result (List Tree) Refusal
given Flatten ts = flattened ts
given Expand ts = Ok ts

-- The items that an order gives for an input, with these contexts, or the first refusal.
abbrev pub items_for : Order → Contexts → List ℕ → Result (List Tree) Refusal
items_for o cs input = do
  ts ← expanded o.base cs input
  given o.command ts

-- The compact text of an array of these items, with a line feed.
abbrev pub text_line : List Tree → List ℕ
text_line ts = compact (array (trees_of ts)) ++ 10 ∷ []

abbrev pub written : Result (List Tree) Refusal → Out
written (Ok ts) = bytes (text_line ts)
written (Err r) = refused r

-- What is due for an order, contexts and an input. An input over the limit is refused before it is looked at.
abbrev pub due_of : Order → Contexts → List ℕ → Out
due_of o cs input = if nat_lt LIMIT (length input) then too_large else written (items_for o cs input)

-- What an order finds of contexts, where that is told: what the folder holds with the option `--contexts`, and nothing without it.
abbrev pub found : Order → Option Files → Option Stored
found o files = if o.contexts then option_map stored files else Some (holds [])

-- What is due for an order and what it finds of contexts, as far as the source tells. A folder that is refused comes first, whatever the
-- source has.
abbrev pub due_found : Order → Option (List ℕ) → Stored → Option Out
due_found o input (index_line n) = Some (refused (IndexLine n))
due_found o input (missing n) = Some (refused (Missing n))
due_found o input (holds cs) = option_map (due_of o cs) input

-- What is due for an order, as far as the folder and the source tell.
abbrev pub due_for : Order → Option Files → Option (List ℕ) → Option Out
due_for o files input = option_and_then (due_found o input) (found o files)

-- What is due, as far as the words, the folder and the source tell.
abbrev pub due : List (List ℕ) → Option Files → Option (List ℕ) → Option Out
due words files input = option_map_or (λ o. due_for o files input) (order_of words) (Some usage)

-- The words give an order with the option `--contexts`.
abbrev pub asks_for_contexts : List (List ℕ) → Bool
asks_for_contexts words = option_map_or (λ o. o.contexts) (order_of words) false

-- The contexts are told to be refused.
abbrev pub is_refused : Stored → Bool
is_refused (holds cs) = false
is_refused _ = true

abbrev pub is_told_refused : Option Stored → Bool
is_told_refused told = option_map_or is_refused told false

-- No input is asked for: the words give no order, or one whose contexts are told to be refused.
abbrev pub asks_for_no_input : List (List ℕ) → Option Files → Bool
asks_for_no_input words files = option_map_or (λ o. is_told_refused (found o files)) (order_of words) true
