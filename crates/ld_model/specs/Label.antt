-- Labels of blank nodes, and how they are issued (JSON-LD 1.1 API, section 7.4, Generate Blank Node Identifier).
use Rattle.std.specs.Prelude.{ℕ, ◌+◌, ◌==◌, ◌&&◌, List, [], ◌∷◌, ◌++◌, Bool, false, Option, Some, None, codes}
use Rattle.std.specs.Fmt.{decimal}
use Rattle.std.specs.Map.{lookup}
use Rattle.std.specs.Str.{bytes_eq}

-- The text is the label of a blank node: it begins with `_:`.
abbrev pub is_blank : List ℕ → Bool
is_blank (a ∷ b ∷ s) = (a == 95) && (b == 58)
is_blank _ = false

-- How many labels have been issued, and the number that each label of the document was given, the earliest first.
pub record Labels : Type 0 where
  pub issued : ℕ
  pub given : List (List ℕ × ℕ)

-- Before the first label.
abbrev pub no_labels : Labels
no_labels = record { issued = 0; given = [] }

-- The label with this number.
abbrev pub label_of : ℕ → List ℕ
label_of n = codes "_:b" ++ decimal n

-- The labels once a further one is issued, for a label of the document or for a node without one.
abbrev pub with_further : Option (List ℕ) → Labels → Labels
with_further None l = record { issued = l.issued + 1; given = l.given }
with_further (Some s) l = record { issued = l.issued + 1; given = l.given ++ (s, l.issued) ∷ [] }

abbrev known : Option (List ℕ) → Labels → Option ℕ
known None l = None
known (Some s) l = lookup (bytes_eq s) l.given

abbrev issue_by : Option ℕ → Option (List ℕ) → Labels → List ℕ × Labels
issue_by (Some n) source l = (label_of n, l)
issue_by None source l = (label_of l.issued, with_further source l)

-- The label for a label of the document, or for a node without one: the one given before, or else a new one.
abbrev pub issue : Option (List ℕ) → Labels → List ℕ × Labels
issue source l = issue_by (known source l) source l
