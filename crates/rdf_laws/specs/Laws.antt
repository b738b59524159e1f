-- What the laws of conversion to RDF say.
use Rattle.std.specs.Prelude.{ℕ, ◌+◌, ◌≡◌, ◌≤◌, List, length}
use Rattle.ld_model.specs.Tree.{Pairs}
use Rattle.rdf_model.specs.ToRdf.{then_said}
use Rattle.rdf_model.specs.Subjects.{Subject, said, subjects, within, labels_of}
use Rattle.rdf_model.specs.Needs.{subjects_need}

-- What subjects need is what is issued while they are converted, from whatever number on.
abbrev pub LabelsAreNeeded : Type 0
LabelsAreNeeded = (next : ℕ) (ss : List Subject) → (said next ss).next ≡ next + subjects_need ss

-- Converted alone from 0 on, they need as many.
abbrev pub LabelsAreCounted : Type 0
LabelsAreCounted = (ss : List Subject) → labels_of ss ≡ subjects_need ss

-- A range is two ranges, one behind the other, the second with labels from where the first one ends.
abbrev pub RangesAreJoined : Type 0
RangesAreJoined =
    (graphs : Pairs) (next from middle to : ℕ) → from ≤ middle → middle ≤ to
    → said next (within from to graphs) ≡ then_said (said next (within from middle graphs)).quads (said (next + labels_of (within from middle graphs)) (within middle to graphs))

-- The range of all subjects is the whole.
abbrev pub TheWholeIsARange : Type 0
TheWholeIsARange = (graphs : Pairs) → within 0 (length (subjects graphs)) graphs ≡ subjects graphs
