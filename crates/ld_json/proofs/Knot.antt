-- What the tokens read as is what `serde_json` reads, as a tree.
use Rattle.std.proofs.Common.{◌≡◌, ℕ, List, [], ◌∷◌, Option, Some, None, option_map, option_and_then, Ordering, Less, Equal, Greater, refl, sym, ap, ◌∙◌}
use Rattle.std.specs.BTreeMap.{insert_entry}
use Rattle.std.specs.Ordering.{match_ordering, nat_cmp}
use Rattle.std.specs.Cmp.Lexicographic.{slice_cmp}
use Rattle.json.specs.Lex.{tokens}
use Rattle.json.specs.Json as json
use Rattle.json.specs.Json.{value, if_last}
use Rattle.serde_json.specs.Data as sj
use Rattle.serde_json.specs.Read.{number_of, of_json, of_items, of_members}
use Rattle.ld_model.specs.Tree.{Tree, array, object, tree, member, Pairs, trees_of, members_of, byte_order}
use Rattle.ld_json.specs.Read.{number_tree, tree_of, trees_in, members_in}
use Rattle.ld_json.specs.Tokens.{tree_read, items_read, members_read, text_read}
use Rattle.ld_json.proofs.Turns.{whole}

abbrev list_in : sj.Items → List Tree
list_in sj.no_items = []
list_in (sj.item d ds) = tree_of d ∷ list_in ds

abbrev pairs_in : sj.Members → Pairs
pairs_in sj.no_members = []
pairs_in (sj.member k d ms) = (k, tree_of d) ∷ pairs_in ms

trees_of-list_in : (ds : sj.Items) → trees_of (list_in ds) ≡ trees_in ds
trees_of-list_in sj.no_items = refl
trees_of-list_in (sj.item d ds) = ap (tree (tree_of d)) (trees_of-list_in ds)

members_of-pairs_in : (ms : sj.Members) → members_of (pairs_in ms) ≡ members_in ms
members_of-pairs_in sj.no_members = refl
members_of-pairs_in (sj.member k d ms) = ap (member k (tree_of d)) (members_of-pairs_in ms)

pairs_in-match_ordering : (o : Ordering) (a b c : sj.Members) → pairs_in (match_ordering o a b c) ≡ match_ordering o (pairs_in a) (pairs_in b) (pairs_in c)
pairs_in-match_ordering Less a b c = refl
pairs_in-match_ordering Equal a b c = refl
pairs_in-match_ordering Greater a b c = refl

pairs_in-put : (k : List ℕ) (d : sj.Data) (ms : sj.Members) → pairs_in (sj.put k d ms) ≡ insert_entry byte_order (pairs_in ms) k (tree_of d)
pairs_in-put k d sj.no_members = refl
pairs_in-put k d (sj.member l e ms) = pairs_in-match_ordering (slice_cmp nat_cmp k l) _ _ _ ∙ rw (pairs_in-put k d ms)

as_array : (o : Option sj.Items) → option_map (λ ts. array (trees_of ts)) (option_map list_in o) ≡ option_map tree_of (option_map sj.array o)
as_array None = refl
as_array (Some ds) = ap (λ ts. Some (array ts)) (trees_of-list_in ds)

as_object : (o : Option sj.Members) → option_map (λ ms. object (members_of ms)) (option_map pairs_in o) ≡ option_map tree_of (option_map sj.object o)
as_object None = refl
as_object (Some ms) = ap (λ ts. Some (object ts)) (members_of-pairs_in ms)

as_number : (o : Option sj.Num) → option_map number_tree o ≡ option_map tree_of (option_map sj.number o)
as_number None = refl
as_number (Some n) = refl

next_item : (d : sj.Data) (o : Option sj.Items) → option_map (λ ts. tree_of d ∷ ts) (option_map list_in o) ≡ option_map list_in (option_map (sj.item d) o)
next_item d None = refl
next_item d (Some ds) = refl

first_item : (o : Option sj.Data) (r : Option sj.Items)
    → option_and_then (λ t. option_map (λ ts. t ∷ ts) (option_map list_in r)) (option_map tree_of o) ≡ option_map list_in (option_and_then (λ d. option_map (sj.item d) r) o)
first_item None r = refl
first_item (Some d) r = next_item d r

next_member : (k : List ℕ) (ms : json.Members) (old : sj.Members) → ((d : sj.Data) → members_read ms (pairs_in (sj.put k d old)) ≡ option_map pairs_in (of_members ms (sj.put k d old))) → (o : Option sj.Data)
    → option_and_then (λ t. members_read ms (insert_entry byte_order (pairs_in old) k t)) (option_map tree_of o) ≡ option_map pairs_in (option_and_then (λ d. of_members ms (sj.put k d old)) o)
next_member k ms old later None = refl
next_member k ms old later (Some d) = ap (members_read ms) (sym (pairs_in-put k d old)) ∙ later d

mutual
  pub same_tree : (j : json.Json) → tree_read j ≡ option_map tree_of (of_json j)
  same_tree json.null = refl
  same_tree (json.boolean b) = refl
  same_tree (json.number s) = as_number (number_of s)
  same_tree (json.string s) = refl
  same_tree (json.array js) = ap (option_map (λ ts. array (trees_of ts))) (same_items js) ∙ as_array (of_items js)
  same_tree (json.object ms) = ap (option_map (λ ms. object (members_of ms))) (same_members ms sj.no_members) ∙ as_object (of_members ms sj.no_members)

  same_items : (js : json.Items) → items_read js ≡ option_map list_in (of_items js)
  same_items json.no_items = refl
  same_items (json.item j js) = rw (same_tree j, same_items js) (first_item (of_json j) (of_items js))

  same_members : (ms : json.Members) (old : sj.Members) → members_read ms (pairs_in old) ≡ option_map pairs_in (of_members ms old)
  same_members json.no_members old = refl
  same_members (json.member k j ms) old = rw (same_tree j) (next_member k ms old (λ d. same_members ms (sj.put k d old)) (of_json j))

then_tree : (o : Option json.Json) → option_and_then tree_read o ≡ option_map tree_of (option_and_then of_json o)
then_tree None = refl
then_tree (Some j) = same_tree j

pub text_read-whole : (s : List ℕ) → whole (value 127 (tokens s)) ≡ text_read s
text_read-whole s = then_tree (option_and_then (λ p. if_last p.0 p.1) (value 127 (tokens s)))
