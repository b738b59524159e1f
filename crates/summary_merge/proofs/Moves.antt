-- A later part, taken one graph or node after another.
use Rattle.std.proofs.Common.{◌≡◌, List, [], ◌∷◌, Bool, true, false, cond, ◌||◌, Some, refl, sym, ap, ap₂, ◌∙◌, subst}
use Rattle.std.specs.Prelude.{IfSome}
use Rattle.std.specs.List.{list_any, AllByRecursion, IsDistinct}
use Rattle.std.specs.Map.{lookup, keys_of, set_value}
use Rattle.std.proofs.lemmas.Map.Keys.{IsDistinct-head}
use Rattle.op_model.specs.Names.{Name, same_name}
use Rattle.sum_model.specs.Joins.{lists_joined}
use Rattle.sum_model.specs.Sums as model
use Rattle.sum_model.specs.Sums.{Key, same_key, bare, part_entries_joined}
use Rattle.sum_laws.proofs.Same.{same_name-exact, same_name-sym, same_key-exact, same_key-sym}
use Rattle.sum_laws.proofs.Sums.{part_entries}
use Rattle.sum_laws.proofs.Steps.{next_joined, next_entry_joined, any-seen}
use Rattle.op_types.specs.View.{name_view, names_view, key_view}
use Rattle.op_types.specs.declared.name.Name as code
use Rattle.op_types.specs.declared.name.NodeKey.{NodeKey}
use Rattle.subtree_summary.specs.declared.entry.PartEntry.{PartEntry}
use Rattle.subtree_summary.specs.Log.{part_entry_view, HasRoom}
use Rattle.subtree_summary.specs.Parts.{same_code_name, same_code_key, nodes_view, nodes_joined, HasRoomAt}
use Rattle.subtree_summary.proofs.Parts.{any_view}
use Rattle.summary_merge.specs.Room.{HasRoomForAll}

neither : (a b : Bool) → (a || b) ≡ false → (a ≡ false) × (b ≡ false)
neither true b is = absurd (cc)
neither false b is = (refl, is)

none_same : {X : Type 0} (same : X → X → Bool) (x : X) (ys : List X) → AllByRecursion (λ y. same x y ≡ false) ys → list_any (same x) ys ≡ false
none_same same x [] differ = refl
none_same same x (y ∷ ys) differ = ap₂ ◌||◌ differ.0 (none_same same x ys differ.1)

-- One graph and then the rest, or all at once.
pub next_graph : (held : List Name) (n : code.Name) (ns : List code.Name) → IsDistinct same_code_name (n ∷ ns) → lists_joined same_name (lists_joined same_name held (name_view n ∷ [])) (names_view ns) ≡ lists_joined same_name held (names_view (n ∷ ns))
next_graph held n ns distinct =
    next_joined same_name same_name-sym same_name-exact held (name_view n) (names_view ns)
    (sym (any_view n ns) ∙ none_same same_code_name n ns (IsDistinct-head same_code_name n ns distinct))

-- The first of nodes that all differ isn't among the others.
not_among : (e : NodeKey × PartEntry) (es : List (NodeKey × PartEntry)) → IsDistinct same_code_key (keys_of (e ∷ es)) → list_any (same_code_key e.0) (keys_of es) ≡ false
not_among e es distinct = none_same same_code_key e.0 (keys_of es) (IsDistinct-head same_code_key e.0 (keys_of es) distinct)

-- One node and then the rest, or all at once.
pub next_node : (held : List (Key × model.PartEntry)) (e : NodeKey × PartEntry) (es : List (NodeKey × PartEntry)) → IsDistinct same_code_key (keys_of (e ∷ es)) → nodes_joined (nodes_joined held ((key_view e.0, part_entry_view e.1) ∷ [])) (nodes_view es) ≡ nodes_joined held (nodes_view (e ∷ es))
next_node held e es distinct =
    next_entry_joined same_key same_key-exact same_key-sym bare part_entries_joined part_entries held (key_view e.0, part_entry_view e.1) (nodes_view es)
    (any-seen key_view part_entry_view same_code_key same_key (λ a b. refl) e.0 es ∙ not_among e es distinct)

-- Room stays where what is at these nodes stays.
pub room_stays : (old new : List (NodeKey × PartEntry)) (key : NodeKey) (es : List (NodeKey × PartEntry)) → ((k : NodeKey) → same_code_key k key ≡ false → lookup (same_code_key k) new ≡ lookup (same_code_key k) old) → AllByRecursion (λ k. same_code_key key k ≡ false) (keys_of es) → HasRoomForAll old es → HasRoomForAll new es
room_stays old new key [] others apart room = tt
room_stays old new key (e ∷ es) others apart room =
    let away : same_code_key e.0 key ≡ false = same_key-sym (key_view e.0) (key_view key) ∙ apart.0 in
    (subst (λ o. IfSome o (λ m. HasRoom m e.1)) (sym (others e.0 away)) room.0, room_stays old new key es others apart.1 room.1)

pub room_for_rest : (old new : List (NodeKey × PartEntry)) (e : NodeKey × PartEntry) (es : List (NodeKey × PartEntry)) → IsDistinct same_code_key (keys_of (e ∷ es)) → ((k : NodeKey) → same_code_key k e.0 ≡ false → lookup (same_code_key k) new ≡ lookup (same_code_key k) old) → HasRoomForAll old (e ∷ es) → HasRoomForAll new es
room_for_rest old new e es distinct others room = room_stays old new e.0 es others (IsDistinct-head same_code_key e.0 (keys_of es) distinct) room.1

-- Whatever nodes come of these, where only what is at the rest of the later nodes changes: where they have room for the rest, they have it for all.
abbrev pub HasRoomButFor : List (NodeKey × PartEntry) → List (NodeKey × PartEntry) → List (NodeKey × PartEntry) → Type 0
HasRoomButFor nodes rest all = (new : List (NodeKey × PartEntry)) → ((k : NodeKey) → list_any (same_code_key k) (keys_of rest) ≡ false → lookup (same_code_key k) new ≡ lookup (same_code_key k) nodes) → HasRoomForAll new rest → HasRoomForAll new all

pub one_less : (old new : List (NodeKey × PartEntry)) (e : NodeKey × PartEntry) (es all : List (NodeKey × PartEntry)) → IsDistinct same_code_key (keys_of (e ∷ es)) → ((k : NodeKey) → same_code_key k e.0 ≡ false → lookup (same_code_key k) new ≡ lookup (same_code_key k) old) → HasRoomAt new e.0 e.1 → HasRoomButFor old (e ∷ es) all → HasRoomButFor new es all
one_less old new e es all distinct others room but later agrees held =
    but later
    (λ k none. let parts = neither (same_code_key k e.0) (list_any (same_code_key k) (keys_of es)) none in agrees k parts.1 ∙ others k parts.0)
    (subst (λ o. IfSome o (λ m. HasRoom m e.1)) (sym (agrees e.0 (not_among e es distinct))) room, held)

-- A node is changed to one that says the same.
pub same_said : (es : List (NodeKey × PartEntry)) (k : NodeKey) (v w : PartEntry) → lookup (same_code_key k) es ≡ Some v → part_entry_view w ≡ part_entry_view v → nodes_view (set_value (same_code_key k) es w) ≡ nodes_view es
same_said [] k v w found is = refl
same_said (e ∷ es) k v w found is = by_test (same_code_key k e.0) refl found (same_said es k v w)
  where
    by_test : (t : Bool) → same_code_key k e.0 ≡ t → cond t (Some e.1) (lookup (same_code_key k) es) ≡ Some v → (lookup (same_code_key k) es ≡ Some v → part_entry_view w ≡ part_entry_view v → nodes_view (set_value (same_code_key k) es w) ≡ nodes_view es) → nodes_view (set_value (same_code_key k) (e ∷ es) w) ≡ nodes_view (e ∷ es)
    by_test true at found rest =
        let same : e.1 ≡ v = cc in
        rw at (ap (λ p. (key_view e.0, p) ∷ nodes_view es) (is ∙ ap part_entry_view (sym same)))
    by_test false at found rest = rw at (ap (λ l. (key_view e.0, part_entry_view e.1) ∷ l) (rest found is))

pub found_set : (es : List (NodeKey × PartEntry)) (k : NodeKey) (v w : PartEntry) → lookup (same_code_key k) es ≡ Some v → lookup (same_code_key k) (set_value (same_code_key k) es w) ≡ Some w
found_set [] k v w found = absurd (cc)
found_set (e ∷ es) k v w found = by_test (same_code_key k e.0) refl found (found_set es k v w)
  where
    by_test : (t : Bool) → same_code_key k e.0 ≡ t → cond t (Some e.1) (lookup (same_code_key k) es) ≡ Some v → (lookup (same_code_key k) es ≡ Some v → lookup (same_code_key k) (set_value (same_code_key k) es w) ≡ Some w) → lookup (same_code_key k) (set_value (same_code_key k) (e ∷ es) w) ≡ Some w
    by_test true at found rest = rw (at, at) refl
    by_test false at found rest = rw (at, at) (rest found)
