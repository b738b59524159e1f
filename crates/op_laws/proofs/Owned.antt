-- Names that are known, in operations that have their due form, are told apart by labels.
use Rattle.std.proofs.Common.{List, [], ◌∷◌, ◌++◌}
use Rattle.std.specs.List.{AllByRecursion}
use Rattle.op_model.specs.Names.{Name, iri, source, fresh, blank}
use Rattle.op_model.specs.Ops.{Entry, value, reference, list, Entries, no_entries, entry, Op, use_label, ensure_graph, ensure_node, ensure_property, add_entry, append_list, add_type, set_index}
use Rattle.op_model.specs.Running.{used, uses_of_entry, uses_of_entries, uses, uses_of_all}
use Rattle.op_laws.specs.Own.{HasOwn, EntryHasOwn, EntriesHaveOwn, OpHasOwn}
use Rattle.op_laws.specs.Sound.{IsSoundName, IsSoundProperty, IsSoundEntry, AreSoundEntries, IsSound}
use Rattle.op_laws.specs.Laws.{SoundNamesHaveOwnLabels}
use Rattle.op_laws.proofs.Known.{AllKnown, parts_known, all_known_now}

module _ (names : List Name) where
  own : (n : Name) → IsSoundName n → AllKnown names (blank n) → HasOwn names n
  own (iri s) is known = is
  own (source s) is known = known.0
  own (fresh c k) is known = known.0

  property_own : (p : Name) → IsSoundProperty p → AllKnown names (blank p) → HasOwn names p
  property_own (iri s) is known = is.0
  property_own (source s) is known = known.0
  property_own (fresh c k) is known = known.0

  mutual
    entry_own : (e : Entry) → IsSoundEntry e → AllKnown names (uses_of_entry e) → EntryHasOwn names e
    entry_own (value t) is known = is
    entry_own (reference n) is known = own n is known
    entry_own (list es) is known = entries_own es is known

    entries_own : (es : Entries) → AreSoundEntries es → AllKnown names (uses_of_entries es) → EntriesHaveOwn names es
    entries_own no_entries is known = tt
    entries_own (entry e es) is known =
        let parts = parts_known names (uses_of_entry e) (uses_of_entries es) known in
        (entry_own e is.0 parts.0, entries_own es is.1 parts.1)

  op_own : (o : Op) → IsSound o → AllKnown names (uses o) → OpHasOwn names o
  op_own (use_label n) is known = own n is known
  op_own (ensure_graph g) is known = own g is known
  op_own (ensure_node g n) is known =
      let parts = parts_known names (blank g) (blank n) known in
      (own g is.0 parts.0, own n is.1 parts.1)
  op_own (ensure_property g n p) is known =
      let parts = parts_known names (blank g) (blank n ++ blank p) known in
      let rest = parts_known names (blank n) (blank p) parts.1 in
      (own g is.0 parts.0, own n is.1 rest.0, property_own p is.2 rest.1)
  op_own (add_entry g n p e) is known =
      let parts = parts_known names (blank g) (blank n ++ (blank p ++ uses_of_entry e)) known in
      let rest = parts_known names (blank n) (blank p ++ uses_of_entry e) parts.1 in
      let last = parts_known names (blank p) (uses_of_entry e) rest.1 in
      (own g is.0 parts.0, own n is.1 rest.0, property_own p is.2 last.0, entry_own e is.3 last.1)
  op_own (append_list g n p es) is known =
      let parts = parts_known names (blank g) (blank n ++ (blank p ++ uses_of_entries es)) known in
      let rest = parts_known names (blank n) (blank p ++ uses_of_entries es) parts.1 in
      let last = parts_known names (blank p) (uses_of_entries es) rest.1 in
      (own g is.0 parts.0, own n is.1 rest.0, property_own p is.2 last.0, entries_own es is.3 last.1)
  op_own (add_type g n t) is known =
      let parts = parts_known names (blank g) (blank n ++ blank t) known in
      let rest = parts_known names (blank n) (blank t) parts.1 in
      (own g is.0 parts.0, own n is.1 rest.0, own t is.2 rest.1)
  op_own (set_index g n i) is known =
      let parts = parts_known names (blank g) (blank n) known in
      (own g is.0 parts.0, own n is.1 parts.1)

  ops_own : (os : List Op) → AllByRecursion IsSound os → AllKnown names (uses_of_all os) → AllByRecursion (OpHasOwn names) os
  ops_own [] are known = tt
  ops_own (o ∷ os) are known =
      let parts = parts_known names (uses o) (uses_of_all os) known in
      (op_own o are.0 parts.0, ops_own os are.1 parts.1)

pub sound_names_have_own_labels : SoundNamesHaveOwnLabels
sound_names_have_own_labels os are = ops_own (used [] (uses_of_all os)) os are (all_known_now [] (uses_of_all os))
