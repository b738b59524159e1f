-- What needs a label in a document, in the order of the walk: the label of a blank node where it is used first, and a node without an id.
use Rattle.std.specs.Prelude.{ℕ, ◌≡◌, ◌↔◌, List, [], ◌∷◌, ◌++◌, length, Bool, false, if◌then◌else◌, Option, Some, None, ⊤}
use Rattle.std.specs.Str.{bytes_eq}
use Rattle.std.specs.List.{list_any, slice_get}
use Rattle.ld_model.specs.Tree.{Tree, array, trees_of}
use Rattle.ld_model.specs.Label.{is_blank}
use Rattle.node_model.specs.Maps.{at}
use Rattle.node_model.specs.Labels.{Labels}
use Rattle.node_model.specs.Walk.{Steps, nowhere, walk}

pub data Use : Type 0 where
  of_label : List ℕ → Use
  of_node : Use

abbrev pub is_of_label : List ℕ → Use → Bool
is_of_label s (of_label r) = bytes_eq s r
is_of_label s of_node = false

-- The uses with that of this name at their end, unless it is an IRI or was used before.
abbrev pub with_name : List ℕ → List Use → List Use
with_name s uses = if is_blank s then (if list_any (is_of_label s) uses then uses else (uses ++ of_label s ∷ [])) else uses

-- A node with this id, or without one.
abbrev pub with_node_use : Option (List ℕ) → List Use → List Use
with_node_use (Some s) uses = with_name s uses
with_node_use None uses = uses ++ of_node ∷ []

-- The steps that note uses, and do nothing else.
abbrev pub using : Steps (List Use) ⊤ ⊤
using = record {
  named = λ s uses. (tt, with_name s uses);
  node = λ g id uses. (tt, with_node_use id uses);
  property = λ g id s uses. (tt, with_name s uses);
  graph = λ g uses. uses;
  value = λ t. tt;
  reference = λ id. tt;
  list = λ es. tt;
  add = λ g id property e uses. uses;
  append = λ g id property es uses. uses;
  type_ = λ g id name uses. uses;
  index = λ g id index uses. uses;
}

-- The uses of a document.
abbrev pub uses_in : List Tree → List Use
uses_in ts = (walk using tt nowhere (array (trees_of ts)) (record { state = []; items = [] })).state

-- One label was issued for each use, in their order, and a label of the document was given the number of its use.
pub record AreNumbered (uses : List Use) (l : Labels) : Type 0 where
  pub count : l.issued ≡ length uses
  pub number : (s : List ℕ) (n : ℕ) → (at s l.given ≡ Some n) ↔ (slice_get uses n ≡ Some (of_label s))
