-- Uses of names that are known change nothing, and what is known stays as it is when more names are used.
use Rattle.std.proofs.Common.{◌≡◌, List, [], ◌∷◌, ◌++◌, true, refl, sym, ap, ap₂, ◌∙◌}
use Rattle.std.specs.List.{AllByRecursion}
use Rattle.std.proofs.lemmas.List.{append-nil}
use Rattle.ld_model.specs.NodeMap.{reference as reference_to}
use Rattle.node_model.specs.NodeMap.{list_object}
use Rattle.op_model.specs.Names.{Name, iri, source, fresh, blank}
use Rattle.op_model.specs.Ops.{Entry, value, reference, list, Entries, no_entries, entry}
use Rattle.op_model.specs.Running.{with_name, used, entry_in, entries_in, uses_of_entry, uses_of_entries}
use Rattle.op_laws.specs.Words.{is_known}
use Rattle.op_laws.proofs.Used.{used_again, used_now, used-append, known_stays, label_stays}

abbrev pub AllKnown : List Name → List Name → Type 0
AllKnown names ns = AllByRecursion (λ n. is_known names n ≡ true) ns

pub blank_known : (names : List Name) (n : Name) → is_known names n ≡ true → AllKnown names (blank n)
blank_known names (iri s) known = tt
blank_known names (source s) known = (known, tt)
blank_known names (fresh c k) known = (known, tt)

pub known_blank : (names : List Name) (n : Name) → AllKnown names (blank n) → is_known names n ≡ true
known_blank names (iri s) all = refl
known_blank names (source s) all = all.0
known_blank names (fresh c k) all = all.0

pub all_known-append : (names ns ms : List Name) → AllKnown names ns → AllKnown names ms → AllKnown names (ns ++ ms)
all_known-append names [] ms first rest = rest
all_known-append names (n ∷ ns) ms first rest = (first.0, all_known-append names ns ms first.1 rest)

pub parts_known : (names ns ms : List Name) → AllKnown names (ns ++ ms) → AllKnown names ns × AllKnown names ms
parts_known names [] ms all = (tt, all)
parts_known names (n ∷ ns) ms all = let rest = parts_known names ns ms all.1 in ((all.0, rest.0), rest.1)

pub all_known_stay : (names ns more : List Name) → AllKnown names ns → AllKnown (used names more) ns
all_known_stay names [] more all = tt
all_known_stay names (n ∷ ns) more all = (known_stays names n more all.0, all_known_stay names ns more all.1)

pub all_known_now : (names ns : List Name) → AllKnown (used names ns) ns
all_known_now names [] = tt
all_known_now names (iri s ∷ ns) = (refl, all_known_now (with_name names (iri s)) ns)
all_known_now names (source s ∷ ns) = (known_stays (with_name names (source s)) (source s) ns (used_now names (source s)), all_known_now (with_name names (source s)) ns)
all_known_now names (fresh c k ∷ ns) = (known_stays (with_name names (fresh c k)) (fresh c k) ns (used_now names (fresh c k)), all_known_now (with_name names (fresh c k)) ns)

-- Names that are known, before others.
pub skipped : (names : List Name) (n : Name) (ns : List Name) → is_known names n ≡ true → used names (blank n ++ ns) ≡ used names ns
skipped names n ns known = used-append names (blank n) ns ∙ ap (λ names. used names ns) (used_again names n known)

mutual
  entry_skipped : (names : List Name) (e : Entry) (ns : List Name) → AllKnown names (uses_of_entry e) → used names (uses_of_entry e ++ ns) ≡ used names ns
  entry_skipped names (value t) ns all = refl
  entry_skipped names (reference n) ns all = skipped names n ns (known_blank names n all)
  entry_skipped names (list es) ns all = entries_skipped names es ns all

  entries_skipped : (names : List Name) (es : Entries) (ns : List Name) → AllKnown names (uses_of_entries es) → used names (uses_of_entries es ++ ns) ≡ used names ns
  entries_skipped names no_entries ns all = refl
  entries_skipped names (entry e es) ns all =
      let parts = parts_known names (uses_of_entry e) (uses_of_entries es) all in
      used-append names (uses_of_entry e ++ uses_of_entries es) ns
      ∙ ap (λ names. used names ns) (entry_skipped names e (uses_of_entries es) parts.0)
      ∙ sym (used-append names (uses_of_entries es) ns)
      ∙ entries_skipped names es ns parts.1

pub entry_used : (names : List Name) (e : Entry) → AllKnown names (uses_of_entry e) → used names (uses_of_entry e) ≡ names
entry_used names e all = ap (used names) (sym (append-nil (uses_of_entry e))) ∙ entry_skipped names e [] all

pub entries_used : (names : List Name) (es : Entries) → AllKnown names (uses_of_entries es) → used names (uses_of_entries es) ≡ names
entries_used names es all = ap (used names) (sym (append-nil (uses_of_entries es))) ∙ entries_skipped names es [] all

mutual
  pub entry_stays : (names : List Name) (e : Entry) (more : List Name) → AllKnown names (uses_of_entry e) → entry_in (used names more) e ≡ entry_in names e
  entry_stays names (value t) more all = refl
  entry_stays names (reference n) more all = ap reference_to (label_stays names n more (known_blank names n all))
  entry_stays names (list es) more all = ap list_object (entries_stay names es more all)

  pub entries_stay : (names : List Name) (es : Entries) (more : List Name) → AllKnown names (uses_of_entries es) → entries_in (used names more) es ≡ entries_in names es
  entries_stay names no_entries more all = refl
  entries_stay names (entry e es) more all =
      let parts = parts_known names (uses_of_entry e) (uses_of_entries es) all in
      ap₂ (λ t ts. t ∷ ts) (entry_stays names e more parts.0) (entries_stay names es more parts.1)
