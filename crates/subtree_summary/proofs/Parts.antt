-- Sets of names and maps of nodes in the order of first use, seen as the definitions' lists.
use Rattle.std.proofs.Common.{◌≡◌, ℕ, zero, suc, ◌<◌, length, List, [], ◌∷◌, ◌++◌, Bool, true, false, cond, Option, Some, None, is_some, slice_get, ◌&&◌, ◌||◌, refl, sym, ap, ap₂, ◌∙◌}
use Rattle.std.specs.Prelude.{option_map}
use Rattle.std.specs.List.{list_any, AllByRecursion, IsDistinct}
use Rattle.std.specs.Map.{lookup, lookup_key, keys_of, set_value}
use Rattle.std.proofs.lemmas.List.{map-append}
use Rattle.std.proofs.lemmas.List.Folds.{list_all-append}
use Rattle.std.proofs.lemmas.Map.Keys.{IsDistinct-head, IsDistinct-tail}
use Rattle.std.proofs.lemmas.Map.Made.{is_some-lookup, lookup_key_passes}
use Rattle.std.proofs.lemmas.Map.Steps.{set_value_same}
use Rattle.std.proofs.lemmas.Option.{slice_get_within}
use Rattle.indexmap.specs.IndexMap.{insert_entry, set_value_at}
use Rattle.indexmap.specs.IndexSet.{insert_key}
use Rattle.op_model.specs.Names.{Name, same_name}
use Rattle.sum_model.specs.Joins.{lists_joined, or_empty}
use Rattle.sum_model.specs.Sums as model
use Rattle.sum_model.specs.Sums.{Key, same_key, bare, part_entries_joined}
use Rattle.sum_laws.proofs.Same.{same_key-exact, same_key-refl, same_key-sym}
use Rattle.sum_laws.proofs.Sums.{part_entries}
use Rattle.sum_laws.proofs.Steps.{old_joined, new_joined, absent_joined, present_joined, set_value-seen, lookup-seen, any-seen, distinct-seen}
use Rattle.op_types.specs.View.{name_view, names_view, key_view}
use Rattle.op_types.specs.declared.name.Name as code
use Rattle.op_types.specs.declared.name.NodeKey.{NodeKey}
use Rattle.subtree_summary.specs.declared.entry.PartEntry.{PartEntry}
use Rattle.subtree_summary.specs.Log.{part_entry_view}
use Rattle.subtree_summary.specs.Parts.{same_code_name, same_code_key, nodes_view, nodes_joined, key_in, all_fall}

pub any_view : (k : code.Name) (ks : List code.Name) → list_any (same_code_name k) ks ≡ list_any (same_name (name_view k)) (names_view ks)
any_view k [] = refl
any_view k (n ∷ ns) = ap (λ t. same_code_name k n || t) (any_view k ns)

pub insert_view : (k : code.Name) (ks : List code.Name) → names_view (insert_key same_code_name ks k) ≡ lists_joined same_name (names_view ks) (name_view k ∷ [])
insert_view k ks = by_test (list_any (same_code_name k) ks) refl
  where
    by_test : (t : Bool) → list_any (same_code_name k) ks ≡ t → names_view (insert_key same_code_name ks k) ≡ lists_joined same_name (names_view ks) (name_view k ∷ [])
    by_test true is =
        ap (λ t. names_view (cond t ks (ks ++ k ∷ []))) is
        ∙ sym (old_joined same_name (names_view ks) (name_view k) (sym (any_view k ks) ∙ is))
    by_test false is =
        ap (λ t. names_view (cond t ks (ks ++ k ∷ []))) is
        ∙ map-append name_view ks (k ∷ [])
        ∙ sym (new_joined same_name (names_view ks) (name_view k) (sym (any_view k ks) ∙ is))

-- A node that is there is joined where it stands.
pub changed : (es : List (NodeKey × PartEntry)) (k : NodeKey) (v w : PartEntry) (later : model.PartEntry) → IsDistinct same_code_key (keys_of es) → lookup (same_code_key k) es ≡ Some v → part_entry_view w ≡ part_entries_joined (part_entry_view v) later → nodes_view (set_value (same_code_key k) es w) ≡ nodes_joined (nodes_view es) ((key_view k, later) ∷ [])
changed es k v w later distinct found is =
    set_value-seen key_view part_entry_view same_code_key same_key (λ a b. refl) k w es
    ∙ ap (set_value (same_key (key_view k)) (nodes_view es)) is
    ∙ sym (present_joined same_key same_key-exact same_key-sym bare part_entries_joined part_entries (key_view k) (part_entry_view v) later (nodes_view es)
    (distinct-seen key_view part_entry_view same_code_key same_key (λ a b. refl) es distinct)
    (lookup-seen key_view part_entry_view same_code_key same_key (λ a b. refl) k es ∙ ap (option_map part_entry_view) found))

-- A new node goes last.
pub inserted : (es : List (NodeKey × PartEntry)) (k : NodeKey) (w : PartEntry) → lookup (same_code_key k) es ≡ None → insert_entry same_code_key es k w ≡ es ++ (k, w) ∷ []
inserted [] k w is = refl
inserted (e ∷ es) k w is = by_test (same_code_key k e.0) refl is (inserted es k w)
  where
    by_test : (t : Bool) → same_code_key k e.0 ≡ t → lookup (same_code_key k) (e ∷ es) ≡ None → (lookup (same_code_key k) es ≡ None → insert_entry same_code_key es k w ≡ es ++ (k, w) ∷ []) → insert_entry same_code_key (e ∷ es) k w ≡ (e ∷ es) ++ (k, w) ∷ []
    by_test true at is rest = absurd (let no : Some e.1 ≡ None = ap (λ t. cond t (Some e.1) (lookup (same_code_key k) es)) (sym at) ∙ is in cc)
    by_test false at is rest =
        ap (λ t. cond t ((e.0, w) ∷ es) (e ∷ insert_entry same_code_key es k w)) at
        ∙ ap (λ l. e ∷ l) (rest (ap (λ t. cond t (Some e.1) (lookup (same_code_key k) es)) (sym at) ∙ is))

pub added : (es : List (NodeKey × PartEntry)) (k : NodeKey) (w : PartEntry) → lookup (same_code_key k) es ≡ None → nodes_view (insert_entry same_code_key es k w) ≡ nodes_joined (nodes_view es) ((key_view k, part_entry_view w) ∷ [])
added es k w none =
    ap nodes_view (inserted es k w none)
    ∙ map-append (λ (e : NodeKey × PartEntry). (key_view e.0, part_entry_view e.1)) es ((k, w) ∷ [])
    ∙ sym (absent_joined same_key same_key-exact same_key-sym bare part_entries_joined part_entries (key_view k) (part_entry_view w) (nodes_view es)
    (any-seen key_view part_entry_view same_code_key same_key (λ a b. refl) k es ∙ sym (is_some-lookup (same_code_key k) es) ∙ ap is_some none))

-- What is at another key stays.
pub others_set : (es : List (NodeKey × PartEntry)) (k q : NodeKey) (w : PartEntry) → same_code_key q k ≡ false → lookup (same_code_key q) (set_value (same_code_key k) es w) ≡ lookup (same_code_key q) es
others_set [] k q w apart = refl
others_set (e ∷ es) k q w apart = by_test (same_code_key k e.0) refl (others_set es k q w apart)
  where
    by_test : (t : Bool) → same_code_key k e.0 ≡ t → lookup (same_code_key q) (set_value (same_code_key k) es w) ≡ lookup (same_code_key q) es → lookup (same_code_key q) (set_value (same_code_key k) (e ∷ es) w) ≡ lookup (same_code_key q) (e ∷ es)
    by_test true at rest =
        let away : same_code_key q e.0 ≡ false = ap (same_key (key_view q)) (sym (same_key-exact (key_view k) (key_view e.0) at)) ∙ apart in
        rw (at, away) refl
    by_test false at rest = rw at (ap (cond (same_code_key q e.0) (Some e.1)) rest)

pub others_added : (es : List (NodeKey × PartEntry)) (k q : NodeKey) (w : PartEntry) → same_code_key q k ≡ false → lookup (same_code_key q) (es ++ (k, w) ∷ []) ≡ lookup (same_code_key q) es
others_added [] k q w apart = ap (λ t. cond t (Some w) None) apart
others_added (e ∷ es) k q w apart = ap (cond (same_code_key q e.0) (Some e.1)) (others_added es k q w apart)

-- An entry at an index is the one at its key, since keys are distinct.
apart_from : (q : NodeKey) (es : List (NodeKey × PartEntry)) (j : ℕ) (p : NodeKey × PartEntry) → AllByRecursion (λ y. same_code_key q y ≡ false) (keys_of es) → slice_get es j ≡ Some p → same_code_key p.0 q ≡ false
apart_from q [] j p all at = absurd (cc)
apart_from q (x ∷ xs) zero p all at =
    same_key-sym (key_view p.0) (key_view q)
    ∙ ap (λ (e : NodeKey × PartEntry). same_code_key q e.0) (sym (ap (or_empty x) at))
    ∙ all.0
apart_from q (x ∷ xs) (suc j) p all at = apart_from q xs j p all.1 at

at_key : (es : List (NodeKey × PartEntry)) (j : ℕ) (p : NodeKey × PartEntry) → IsDistinct same_code_key (keys_of es) → slice_get es j ≡ Some p → (lookup (same_code_key p.0) es ≡ Some p.1) × ((w : PartEntry) → set_value_at es j w ≡ set_value (same_code_key p.0) es w)
at_key [] j p distinct at = absurd (cc)
at_key (x ∷ xs) zero p distinct at =
    let is : x ≡ p = ap (or_empty x) at in
    let own : same_code_key p.0 x.0 ≡ true = ap (λ (e : NodeKey × PartEntry). same_code_key p.0 e.0) is ∙ same_key-refl (key_view p.0) in (
      ap (λ t. cond t (Some x.1) (lookup (same_code_key p.0) xs)) own ∙ ap (λ (e : NodeKey × PartEntry). Some e.1) is,
      λ w. ap (λ t. cond t ((x.0, w) ∷ xs) (x ∷ set_value (same_code_key p.0) xs w)) (sym own),
    )
at_key (x ∷ xs) (suc j) p distinct at =
    let away : same_code_key p.0 x.0 ≡ false = apart_from x.0 xs j p (IsDistinct-head same_code_key x.0 (keys_of xs) distinct) at in
    let rest = at_key xs j p (IsDistinct-tail same_code_key x.0 (keys_of xs) distinct) at in (
      ap (λ t. cond t (Some x.1) (lookup (same_code_key p.0) xs)) away ∙ rest.0,
      λ w. ap (λ l. x ∷ l) (rest.1 w) ∙ ap (λ t. cond t ((x.0, w) ∷ xs) (x ∷ set_value (same_code_key p.0) xs w)) (sym away),
    )

-- A node is joined at the index at which it stands.
pub changed_at : (es : List (NodeKey × PartEntry)) (j : ℕ) (p : NodeKey × PartEntry) (w : PartEntry) (later : model.PartEntry) → IsDistinct same_code_key (keys_of es) → slice_get es j ≡ Some p → part_entry_view w ≡ part_entries_joined (part_entry_view p.1) later → nodes_view (set_value_at es j w) ≡ nodes_joined (nodes_view es) ((key_view p.0, later) ∷ [])
changed_at es j p w later distinct at is =
    let own = at_key es j p distinct at in
    ap nodes_view (own.1 w) ∙ changed es p.0 p.1 w later distinct own.0 is

-- Nothing further is said of a node that is there.
pub already_there : (es : List (NodeKey × PartEntry)) (k : NodeKey) (v : PartEntry) → IsDistinct same_code_key (keys_of es) → lookup (same_code_key k) es ≡ Some v → nodes_view es ≡ nodes_joined (nodes_view es) ((key_view k, bare) ∷ [])
already_there es k v distinct found = ap nodes_view (sym (set_value_same (same_code_key k) es v found)) ∙ changed es k v v bare distinct found (sym (part_entries.right (part_entry_view v)))

-- Where a key was found, and where a new one stands.
pub found_at : (es : List (NodeKey × PartEntry)) (k : NodeKey) (j : ℕ) (p : NodeKey × PartEntry) → slice_get es j ≡ Some p → lookup_key (same_code_key k) es ≡ Some p.0 → key_in es j ≡ Some (key_view k)
found_at es k j p at is = ap (option_map (λ (e : NodeKey × PartEntry). key_view e.0)) at ∙ ap Some (sym (same_key-exact (key_view k) (key_view p.0) (lookup_key_passes (same_code_key k) es p.0 is)))

pub last_at : (es : List (NodeKey × PartEntry)) (k : NodeKey) (w : PartEntry) → key_in (es ++ (k, w) ∷ []) (length es) ≡ Some (key_view k)
last_at [] k w = refl
last_at (e ∷ es) k w = last_at es k w

pub all_fall-added : (here : Name → Bool) (es : List (NodeKey × PartEntry)) (k : NodeKey) (w : PartEntry) → here (name_view k.node) ≡ true → all_fall here (keys_of es) ≡ true → all_fall here (keys_of (es ++ (k, w) ∷ [])) ≡ true
all_fall-added here es k w one all =
    ap (all_fall here) (map-append (λ (e : NodeKey × PartEntry). e.0) es ((k, w) ∷ []))
    ∙ list_all-append (λ (q : NodeKey). here (name_view q.node)) (keys_of es) (k ∷ [])
    ∙ ap₂ (λ a b. a && (b && true)) all one

-- A node among others falls where all of them do.
both : (a b : Bool) → (a && b) ≡ true → (a ≡ true) × (b ≡ true)
both true b is = (refl, is)
both false b is = absurd (cc)

pub fall_at : (here : Name → Bool) (es : List (NodeKey × PartEntry)) (j : ℕ) (k : Key) → all_fall here (keys_of es) ≡ true → key_in es j ≡ Some k → here k.1 ≡ true
fall_at here [] j k all at = absurd (cc)
fall_at here (e ∷ es) zero k all at =
    ap (λ (q : Key). here q.1) (sym (ap (or_empty (key_view e.0)) at))
    ∙ (both (here (name_view e.0.node)) (all_fall here (keys_of es)) all).0
fall_at here (e ∷ es) (suc j) k all at = fall_at here es j k (both (here (name_view e.0.node)) (all_fall here (keys_of es)) all).1 at

-- There is a node at an index only among those that there are.
pub key_within : (es : List (NodeKey × PartEntry)) (j : ℕ) (k : Key) → key_in es j ≡ Some k → j < length es
key_within es j k at = by_case (slice_get es j) refl at
  where
    by_case : (o : Option (NodeKey × PartEntry)) → slice_get es j ≡ o → option_map (λ (e : NodeKey × PartEntry). key_view e.0) o ≡ Some k → j < length es
    by_case None is at = absurd (cc)
    by_case (Some e) is at = slice_get_within es j e is

-- All of no nodes fall anywhere.
pub no_nodes : (here : Name → Bool) (es : List (NodeKey × PartEntry)) → nodes_view es ≡ [] → all_fall here (keys_of es) ≡ true
no_nodes here [] is = refl
no_nodes here (e ∷ es) is = absurd (cc)
