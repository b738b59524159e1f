-- Operations with other fresh names.
use Rattle.std.proofs.Common.{◌≡◌, ℕ, suc, List, [], ◌∷◌, ◌++◌, length, Bool, true, false, ◌||◌, if◌then◌else◌, refl, sym, ap, ap₂, ◌∙◌, subst}
use Rattle.std.specs.Prelude.{map as each}
use Rattle.std.specs.Bool.{one_answer}
use Rattle.std.specs.List.{list_any, AllByRecursion}
use Rattle.std.proofs.lemmas.List.{append-nil, append_assoc}
use Rattle.ld_model.specs.Tree.{Tree}
use Rattle.ld_model.specs.Label.{label_of}
use Rattle.ld_model.specs.NodeMap.{reference as reference_to}
use Rattle.node_model.specs.Maps.{with_at}
use Rattle.node_model.specs.NodeMap.{on_node, on_entries, list_object}
use Rattle.node_model.specs.Generating.{State, on_graphs, generating, walked}
use Rattle.op_model.specs.Names.{Name, iri, source, fresh, same_name, blank}
use Rattle.op_model.specs.Ops.{Entry, value, reference, list, Entries, no_entries, entry, Op, use_label, ensure_graph, ensure_node, ensure_property, add_entry, append_list, add_type, set_index}
use Rattle.op_model.specs.Noting.{top_range, ops_of}
use Rattle.op_model.specs.Running.{with_name, used, place_of, label_in, entry_in, entries_in, uses_of_entry, uses_of_entries, uses, uses_of_all, numbers_from, labelled, apply, Run, applied, run_one, run, before}
use Rattle.op_laws.specs.Exchanged.{Exchange, exchanged, exchanged_entry, exchanged_entries, exchanged_op, IsOneToOne}
use Rattle.op_laws.specs.Laws.{FreshNamesCanBeExchanged, DivisionsAreGeneration}
use Rattle.op_laws.proofs.SameName.{same_name-exact, same_name-refl}
use Rattle.op_laws.proofs.Used.{or_true}
use Rattle.op_laws.proofs.Added.{last_alike}
use Rattle.op_laws.proofs.Divided.{operations_are_generation}

each-append : {X Y : Type 0} (f : X → Y) (xs ys : List X) → each f (xs ++ ys) ≡ each f xs ++ each f ys
each-append f [] ys = refl
each-append f (x ∷ xs) ys = ap (λ l. f x ∷ l) (each-append f xs ys)

-- What is used is exchanged with the names.
module _ (other : Exchange) where
  blank_exchanged : (n : Name) → blank (exchanged other n) ≡ each (exchanged other) (blank n)
  blank_exchanged (iri s) = refl
  blank_exchanged (source s) = refl
  blank_exchanged (fresh c k) = refl

  two : (a b c d : List Name) → a ≡ each (exchanged other) c → b ≡ each (exchanged other) d → a ++ b ≡ each (exchanged other) (c ++ d)
  two a b c d first rest = ap₂ ◌++◌ first rest ∙ sym (each-append (exchanged other) c d)

  mutual
    entry_uses : (e : Entry) → uses_of_entry (exchanged_entry other e) ≡ each (exchanged other) (uses_of_entry e)
    entry_uses (value t) = refl
    entry_uses (reference n) = blank_exchanged n
    entry_uses (list es) = entries_uses es

    entries_uses : (es : Entries) → uses_of_entries (exchanged_entries other es) ≡ each (exchanged other) (uses_of_entries es)
    entries_uses no_entries = refl
    entries_uses (entry e es) = two _ _ (uses_of_entry e) (uses_of_entries es) (entry_uses e) (entries_uses es)

  three : (a b c d e f : List Name) → a ≡ each (exchanged other) d → b ≡ each (exchanged other) e → c ≡ each (exchanged other) f → a ++ (b ++ c) ≡ each (exchanged other) (d ++ (e ++ f))
  three a b c d e f first second third = two a (b ++ c) d (e ++ f) first (two b c e f second third)

  op_uses : (o : Op) → uses (exchanged_op other o) ≡ each (exchanged other) (uses o)
  op_uses (use_label n) = blank_exchanged n
  op_uses (ensure_graph g) = blank_exchanged g
  op_uses (ensure_node g n) = two _ _ (blank g) (blank n) (blank_exchanged g) (blank_exchanged n)
  op_uses (ensure_property g n p) = three _ _ _ (blank g) (blank n) (blank p) (blank_exchanged g) (blank_exchanged n) (blank_exchanged p)
  op_uses (add_entry g n p e) = three _ _ _ (blank g) (blank n) (blank p ++ uses_of_entry e) (blank_exchanged g) (blank_exchanged n) (two _ _ (blank p) (uses_of_entry e) (blank_exchanged p) (entry_uses e))
  op_uses (append_list g n p es) = three _ _ _ (blank g) (blank n) (blank p ++ uses_of_entries es) (blank_exchanged g) (blank_exchanged n) (two _ _ (blank p) (uses_of_entries es) (blank_exchanged p) (entries_uses es))
  op_uses (add_type g n t) = three _ _ _ (blank g) (blank n) (blank t) (blank_exchanged g) (blank_exchanged n) (blank_exchanged t)
  op_uses (set_index g n i) = two _ _ (blank g) (blank n) (blank_exchanged g) (blank_exchanged n)

  -- Labels of the document keep their numbers.
  length_exchanged : (names : List Name) → length (each (exchanged other) names) ≡ length names
  length_exchanged [] = refl
  length_exchanged (n ∷ names) = ap suc (length_exchanged names)

  numbers_exchanged : (i : ℕ) (names : List Name) → numbers_from i (each (exchanged other) names) ≡ numbers_from i names
  numbers_exchanged i [] = refl
  numbers_exchanged i (iri s ∷ names) = numbers_exchanged (suc i) names
  numbers_exchanged i (source s ∷ names) = ap (with_at s i) (numbers_exchanged (suc i) names)
  numbers_exchanged i (fresh c k ∷ names) = numbers_exchanged (suc i) names

  labelled_exchanged : (names : List Name) (s : State) → labelled (each (exchanged other) names) s ≡ labelled names s
  labelled_exchanged names s = λ i. record { graphs = s.graphs; labels = record { issued = length_exchanged names i; given = numbers_exchanged 0 names i }; conflict = s.conflict }

-- Among these names, which stay different.
module _ (other : Exchange) (all : List Name) (one_to_one : IsOneToOne other all) where
  abbrev Among : List Name → Type 0
  Among names = AllByRecursion (λ n. list_any (same_name n) all ≡ true) names

  among_parts : (ns ms : List Name) → Among (ns ++ ms) → Among ns × Among ms
  among_parts [] ms among = (tt, among)
  among_parts (n ∷ ns) ms among = let rest = among_parts ns ms among.1 in ((among.0, rest.0), rest.1)

  among_last : (names : List Name) (n : Name) → Among names → list_any (same_name n) all ≡ true → Among (names ++ n ∷ [])
  among_last [] n among last = (last, tt)
  among_last (m ∷ names) n among last = (among.0, among_last names n among.1 last)

  test_exchanged : (a b : Name) → list_any (same_name a) all ≡ true → list_any (same_name b) all ≡ true → same_name (exchanged other a) (exchanged other b) ≡ same_name a b
  test_exchanged a b first second =
      one_answer {P = a ≡ b} (same_name (exchanged other a) (exchanged other b)) (same_name a b)
      (λ same. one_to_one a b first second (same_name-exact (exchanged other a) (exchanged other b) same), λ e. subst (λ x. same_name (exchanged other a) (exchanged other x) ≡ true) e (same_name-refl (exchanged other a)))
      (same_name-exact a b, λ e. subst (λ x. same_name a x ≡ true) e (same_name-refl a))

  any_exchanged : (n : Name) (names : List Name) → list_any (same_name n) all ≡ true → Among names → list_any (same_name (exchanged other n)) (each (exchanged other) names) ≡ list_any (same_name n) names
  any_exchanged n [] first among = refl
  any_exchanged n (m ∷ names) first among = ap₂ ◌||◌ (test_exchanged n m first among.0) (any_exchanged n names first among.1)

  place_exchanged : (n : Name) (names : List Name) → list_any (same_name n) all ≡ true → Among names → place_of (exchanged other n) (each (exchanged other) names) ≡ place_of n names
  place_exchanged n [] first among = refl
  place_exchanged n (m ∷ names) first among = ap₂ (λ b p. if b then 0 else suc p) (test_exchanged n m first among.0) (place_exchanged n names first among.1)

  with_name_exchanged : (names : List Name) (n : Name) → list_any (same_name n) all ≡ true → Among names → with_name (each (exchanged other) names) (exchanged other n) ≡ each (exchanged other) (with_name names n)
  unfolding with_name
  with_name_exchanged names n first among =
      last_alike (exchanged other) (list_any (same_name (exchanged other n)) (each (exchanged other) names)) (list_any (same_name n) names) names n (any_exchanged n names first among)

  among_with_name : (names : List Name) (n : Name) → Among names → list_any (same_name n) all ≡ true → Among (with_name names n)
  unfolding with_name
  among_with_name names n among first = by_test (list_any (same_name n) names)
    where
      by_test : (b : Bool) → Among (if b then names else (names ++ n ∷ []))
      by_test true = among
      by_test false = among_last names n among first

  among_used : (names ns : List Name) → Among names → Among ns → Among (used names ns)
  among_used names [] among more = among
  among_used names (n ∷ ns) among more = among_used (with_name names n) ns (among_with_name names n among more.0) more.1

  used_exchanged : (names ns : List Name) → Among names → Among ns → used (each (exchanged other) names) (each (exchanged other) ns) ≡ each (exchanged other) (used names ns)
  used_exchanged names [] among more = refl
  used_exchanged names (n ∷ ns) among more =
      ap (λ l. used l (each (exchanged other) ns)) (with_name_exchanged names n more.0 among)
      ∙ used_exchanged (with_name names n) ns (among_with_name names n among more.0) more.1

  -- What names are called stays.
  module _ (names : List Name) (among : Among names) where
    label_exchanged : (n : Name) → Among (blank n) → label_in (each (exchanged other) names) (exchanged other n) ≡ label_in names n
    label_exchanged (iri s) is = refl
    label_exchanged (source s) is = ap label_of (place_exchanged (source s) names is.0 among)
    label_exchanged (fresh c k) is = ap label_of (place_exchanged (fresh c k) names is.0 among)

    mutual
      entry_exchanged : (e : Entry) → Among (uses_of_entry e) → entry_in (each (exchanged other) names) (exchanged_entry other e) ≡ entry_in names e
      entry_exchanged (value t) is = refl
      entry_exchanged (reference n) is = ap reference_to (label_exchanged n is)
      entry_exchanged (list es) is = ap list_object (all_exchanged es is)

      all_exchanged : (es : Entries) → Among (uses_of_entries es) → entries_in (each (exchanged other) names) (exchanged_entries other es) ≡ entries_in names es
      all_exchanged no_entries is = refl
      all_exchanged (entry e es) is =
          let parts = among_parts (uses_of_entry e) (uses_of_entries es) is in
          ap₂ (λ t ts. t ∷ ts) (entry_exchanged e parts.0) (all_exchanged es parts.1)

    apply_exchanged : (o : Op) (s : State) → Among (uses o) → apply (each (exchanged other) names) (exchanged_op other o) s ≡ apply names o s
    apply_exchanged (use_label n) s is = refl
    apply_exchanged (ensure_graph g) s is = λ i. generating.graph (label_exchanged g is i) s
    apply_exchanged (ensure_node g n) s is =
        let parts = among_parts (blank g) (blank n) is in
        λ i. on_graphs (on_node (label_exchanged g parts.0 i) (label_exchanged n parts.1 i) (λ n. n)) s
    apply_exchanged (ensure_property g n p) s is =
        let parts = among_parts (blank g) (blank n ++ blank p) is in
        let rest = among_parts (blank n) (blank p) parts.1 in
        λ i. on_graphs (on_node (label_exchanged g parts.0 i) (label_exchanged n rest.0 i) (on_entries (label_exchanged p rest.1 i) (λ es. es))) s
    apply_exchanged (add_entry g n p e) s is =
        let parts = among_parts (blank g) (blank n ++ (blank p ++ uses_of_entry e)) is in
        let rest = among_parts (blank n) (blank p ++ uses_of_entry e) parts.1 in
        let last = among_parts (blank p) (uses_of_entry e) rest.1 in
        λ i. generating.add (label_exchanged g parts.0 i) (label_exchanged n rest.0 i) (label_exchanged p last.0 i) (entry_exchanged e last.1 i) s
    apply_exchanged (append_list g n p es) s is =
        let parts = among_parts (blank g) (blank n ++ (blank p ++ uses_of_entries es)) is in
        let rest = among_parts (blank n) (blank p ++ uses_of_entries es) parts.1 in
        let last = among_parts (blank p) (uses_of_entries es) rest.1 in
        λ i. generating.append (label_exchanged g parts.0 i) (label_exchanged n rest.0 i) (label_exchanged p last.0 i) (all_exchanged es last.1 i) s
    apply_exchanged (add_type g n t) s is =
        let parts = among_parts (blank g) (blank n ++ blank t) is in
        let rest = among_parts (blank n) (blank t) parts.1 in
        λ i. generating.type_ (label_exchanged g parts.0 i) (label_exchanged n rest.0 i) (label_exchanged t rest.1 i) s
    apply_exchanged (set_index g n x) s is =
        let parts = among_parts (blank g) (blank n) is in
        λ i. generating.index (label_exchanged g parts.0 i) (label_exchanged n parts.1 i) x s

  abbrev with_names : Run → Run
  with_names r = record { names = each (exchanged other) r.names; state = r.state }

  one_exchanged : (o : Op) (r : Run) → Among r.names → Among (uses o) → run_one (exchanged_op other o) (with_names r) ≡ with_names (run_one o r)
  one_exchanged o r among more =
      let names = used r.names (uses o) in
      let still = among_used r.names (uses o) among more in
      ap (λ l. applied l (exchanged_op other o) r.state) (ap (used (each (exchanged other) r.names)) (op_uses other o) ∙ used_exchanged r.names (uses o) among more)
      ∙ ap (λ s. record { names = each (exchanged other) names; state = s })
      (ap (apply (each (exchanged other) names) (exchanged_op other o)) (labelled_exchanged other names r.state) ∙ apply_exchanged names still o (labelled names r.state) more)

  run_exchanged : (os : List Op) (r : Run) → Among r.names → Among (uses_of_all os) → run (each (exchanged_op other) os) (with_names r) ≡ with_names (run os r)
  run_exchanged [] r among more = refl
  run_exchanged (o ∷ os) r among more =
      let parts = among_parts (uses o) (uses_of_all os) more in
      ap (run (each (exchanged_op other) os)) (one_exchanged o r among parts.0)
      ∙ run_exchanged os (run_one o r) (among_used r.names (uses o) among parts.0) parts.1

-- Each of some names is among them.
all_among : (ns more : List Name) → AllByRecursion (λ n. list_any (same_name n) (more ++ ns) ≡ true) ns
all_among [] more = tt
all_among (n ∷ ns) more = (here more, subst (λ l. AllByRecursion (λ n. list_any (same_name n) l ≡ true) ns) (append_assoc more (n ∷ []) ns) (all_among ns (more ++ n ∷ [])))
  where
    here : (more : List Name) → list_any (same_name n) (more ++ n ∷ ns) ≡ true
    here [] = ap (λ b. b || list_any (same_name n) ns) (same_name-refl n)
    here (m ∷ more) = ap (λ b. same_name n m || b) (here more) ∙ or_true (same_name n m)

pub fresh_names_can_be_exchanged : FreshNamesCanBeExchanged
fresh_names_can_be_exchanged other os one_to_one = run_exchanged other (uses_of_all os) one_to_one os before tt (all_among (uses_of_all os) [])

-- A document as one chunk.
one_chunk : (items : List Tree) → (run (ops_of 0 (top_range items)) before).state ≡ walked items
one_chunk items =
    ap (λ os. (run os before).state) (sym (append-nil (ops_of 0 (top_range items))))
    ∙ operations_are_generation (items ∷ [])
    ∙ ap walked (append-nil items)

pub divisions_are_generation : DivisionsAreGeneration
divisions_are_generation chunks items is =
    ap (λ os. (run os before).state) is.same
    ∙ ap (λ (r : Run). r.state) (fresh_names_can_be_exchanged is.other (ops_of 0 (top_range items)) is.one_to_one)
    ∙ one_chunk items
