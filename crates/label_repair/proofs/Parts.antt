-- Names, part by part.
use Rattle.std.proofs.Common.{◌≡◌, List, [], ◌∷◌, ◌++◌, refl, sym, ◌∙◌}
use Rattle.std.specs.Prelude.{flat_map, map as each}
use Rattle.op_model.specs.Names.{Name}
use Rattle.op_model.specs.Running.{with_name, used}
use Rattle.shard_model.specs.Numbered.{names_of}
use Rattle.subtree_summary.specs.Uses.{uses_view}
use Rattle.subtree_summary.specs.declared.uses.LabelUses.{LabelUses}

-- These names, and then those that each part uses.
abbrev pub named_by : List Name → List LabelUses → List Name
named_by names [] = names
named_by names (u ∷ us) = named_by (used names (uses_view u)) us

used-append : (held a b : List Name) → used held (a ++ b) ≡ used (used held a) b
used-append held [] b = refl
used-append held (n ∷ ns) b = used-append (with_name held n) ns b

named_together : (names : List Name) (us : List LabelUses) → named_by names us ≡ used names (flat_map (λ ns. ns) (each uses_view us))
named_together names [] = refl
named_together names (u ∷ us) = named_together (used names (uses_view u)) us ∙ sym (used-append names (uses_view u) (flat_map (λ ns. ns) (each uses_view us)))

pub all_named : (us : List LabelUses) → named_by [] us ≡ names_of (each uses_view us)
all_named us = named_together [] us
