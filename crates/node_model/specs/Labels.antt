-- Labels of blank nodes, and how they are issued (JSON-LD 1.1 API, section 7.4, Generate Blank Node Identifier).
use Rattle.std.specs.Prelude.{ℕ, ◌+◌, List, [], if◌then◌else◌, Option, Some, None}
use Rattle.ld_model.specs.Label.{is_blank, label_of}
use Rattle.node_model.specs.Maps.{MapOf, at, with_at}

-- How many labels have been issued, and the number that each label of the document was given.
pub record Labels : Type 0 where
  pub issued : ℕ
  pub given : MapOf ℕ

-- Before the first label.
abbrev pub no_labels : Labels
no_labels = record { issued = 0; given = [] }

-- A new label, for a node without one.
abbrev pub new_label : Labels → List ℕ × Labels
new_label l = (label_of l.issued, record { issued = l.issued + 1; given = l.given })

-- The label for a label of the document: the one given before, or else a new one.
abbrev pub label_by : Option ℕ → List ℕ → Labels → List ℕ × Labels
label_by (Some n) s l = (label_of n, l)
label_by None s l = (label_of l.issued, record { issued = l.issued + 1; given = with_at s l.issued l.given })

abbrev pub label_for : List ℕ → Labels → List ℕ × Labels
label_for s l = label_by (at s l.given) s l

-- A name of the document as it is in the node map, with the labels after it: the label of a blank node is replaced by the one that
-- is issued for it, and an IRI stays.
abbrev pub named : List ℕ → Labels → List ℕ × Labels
named s l = if is_blank s then label_for s l else (s, l)

-- The id of a node: its own, as a name, or else a new label (section 7.2, steps 6.1 and 6.2).
abbrev pub id_or_new : Option (List ℕ) → Labels → List ℕ × Labels
id_or_new (Some s) l = named s l
id_or_new None l = new_label l
