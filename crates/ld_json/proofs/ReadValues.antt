-- The trees that a text and the values of `serde_json` stand for.
use Rattle.std.proofs.Common.{◌≡◌, ℕ, List, [], ◌∷◌, ◌++◌, Some, None, Option, Bool, true, false, map, String, Vec, BTreeMap, Global, string_bytes, refl, sym, ap, ◌∙◌, subst, append_assoc, string_cmp, Less, IsUtf8}
use Rattle.std.specs.List.{AllByRecursion}
use Rattle.std.specs.List.Sorted.{IsStrictlySortedBy}
use Rattle.std.specs.Map.{keys_of}
use Rattle.std.specs.BTreeMap.{insert_entry}
use Rattle.std.specs.Str.{is_utf8}
use Rattle.std.proofs.lemmas.Str.{is_utf8-from_IsUtf8, IsUtf8-from_is_utf8}
use Rattle.serde_json.specs.Read.{read}
use Rattle.serde_json.specs.View.{view as value_view, items_view, members_view}
use Rattle.serde_json.specs.declared.value.Value.{Value, Array, Object}
use Rattle.serde_json.proofs.Views.{view-Array, view-Object}
use Rattle.ld_model.specs.Tree.{Tree, array, object, trees_of, members_of, tree, member, Pairs, AreAscending, byte_order}
use Rattle.ld_json.specs.declared.location.Step.{Step}
use Rattle.ld_json.specs.Numbers.{refused_number}
use Rattle.ld_json.specs.Marks.{misplaced}
use Rattle.ld_json.specs.Read.{tree_of, trees_in, members_in, reading, reading_of, marked, no_json, value_tree, value_member}
use Rattle.ld_tree.proofs.ViewLemmas.{insert_entry-behind}

-- The trees of the values in an array and in an object.
trees_in-items_view : (vs : List Value) → trees_in (items_view vs) ≡ trees_of (map value_tree vs)
trees_in-items_view [] = refl
trees_in-items_view (v ∷ vs) = ap (tree (value_tree v)) (trees_in-items_view vs)

members_in-members_view : (es : List (String Global × Value)) → members_in (members_view es) ≡ members_of (map value_member es)
members_in-members_view [] = refl
members_in-members_view (e ∷ es) = ap (member (string_bytes e.0) (value_tree e.1)) (members_in-members_view es)

pub value_tree-Array : (v : Vec Value Global) → value_tree (Array v) ≡ array (trees_of (map value_tree v.items))
value_tree-Array v = ap tree_of (view-Array v) ∙ ap array (trees_in-items_view v.items)

pub value_tree-Object : (m : BTreeMap (String Global) Value) → value_tree (Object m) ≡ object (members_of (map value_member m.entries))
value_tree-Object m = ap tree_of (view-Object m) ∙ ap object (members_in-members_view m.entries)

-- A text in UTF-8 reads as what `serde_json` reads, where its numbers and its marks are accepted.
pub reading-utf8 : (bytes : List ℕ) (d : _) (refused : Option ℕ) → IsUtf8 bytes → refused_number bytes ≡ refused → read bytes ≡ d → reading bytes ≡ reading_of refused d
unfolding reading
reading-utf8 bytes d refused utf8 number is = rw (is_utf8-from_IsUtf8 bytes utf8, number, is)

pub reading-tree : (bytes : List ℕ) (value : Value) (t : Tree) (place : Option (List Step)) → IsUtf8 bytes → read bytes ≡ Some (value_view value) → refused_number bytes ≡ None → t ≡ value_tree value → place ≡ misplaced t → reading bytes ≡ marked place t
reading-tree bytes value t place utf8 is number same mark =
    reading-utf8 bytes (Some (value_view value)) None utf8 number is ∙ ap (λ u. marked (misplaced u) u) (sym same) ∙ ap (λ p. marked p t) (sym mark)

-- A text that `serde_json` doesn't read is no JSON, and neither is one that isn't in UTF-8.
pub reading-no_json : (bytes : List ℕ) → (IsUtf8 bytes → read bytes ≡ None) → reading bytes ≡ no_json
unfolding reading
reading-no_json bytes none = by_utf8 (is_utf8 bytes) refl
  where
    by_utf8 : (b : Bool) → is_utf8 bytes ≡ b → reading bytes ≡ no_json
    by_utf8 true utf8 = rw (utf8, none (IsUtf8-from_is_utf8 bytes utf8))
    by_utf8 false utf8 = rw utf8

-- The members of an object ascend, as the map's keys do.
all_members : (k : List ℕ) (es : List (String Global × Value)) → AllByRecursion (λ s. byte_order k (string_bytes s) ≡ Less) (keys_of es) → AllByRecursion (λ s. byte_order k s ≡ Less) (keys_of (map value_member es))
all_members k [] all = tt
all_members k (e ∷ es) all = (all.0, all_members k es all.1)

ascending_members : (es : List (String Global × Value)) → IsStrictlySortedBy string_cmp (keys_of es) → AreAscending (map value_member es)
unfolding IsStrictlySortedBy
ascending_members [] sorted = tt
ascending_members (e ∷ es) sorted = (all_members (string_bytes e.0) es sorted.0, ascending_members es sorted.1)

-- The members so far, with the next one set behind them.
pub set-next : (done new : Pairs) (e : String Global × Value) (more all : List (String Global × Value)) (t : Tree) → IsStrictlySortedBy string_cmp (keys_of all) → done ++ map value_member (e ∷ more) ≡ map value_member all → t ≡ value_tree e.1 → new ≡ insert_entry byte_order done (string_bytes e.0) t → new ++ map value_member more ≡ map value_member all
set-next done new e more all t sorted left same is =
    let whole : AreAscending (done ++ value_member e ∷ map value_member more) = subst AreAscending (sym left) (ascending_members all sorted) in
    let last : new ≡ done ++ value_member e ∷ [] = is ∙ ap (insert_entry byte_order done (string_bytes e.0)) same ∙ insert_entry-behind done (value_member e) (map value_member more) whole in
    ap (λ l. l ++ map value_member more) last ∙ append_assoc done (value_member e ∷ []) (map value_member more) ∙ left
