-- The canonical text of a value reads as that value.
use Rattle.std.proofs.Common.{◌≡◌, ℕ, suc, ◌+◌, ◌≤◌, ◌^◌, List, [], ◌∷◌, refl, ap, ap₂, ℤ, ◌∙◌, sym, subst, arith, cond, Some, Ordering, Less, Equal, Greater, map, pos, negsuc, append-nil}
use Rattle.std.specs.Prelude.{codes, max}
use Rattle.std.specs.Option.{option_map, option_and_then, unwrap_or}
use Rattle.std.specs.List.Sorted.{IsStrictlySortedBy}
use Rattle.std.specs.Map.{keys_of}
use Rattle.std.specs.BTreeMap.{insert_entry}
use Rattle.std.specs.Ordering.{match_ordering}
use Rattle.std.proofs.lemmas.Bool.{le-leb, cond_both}
use Rattle.json.specs.Json as json
use Rattle.json.specs.Print.{print, IsNumber}
use Rattle.json.specs.Tree.{json_tokens, depth, items_depth, members_depth, HasNumbers, ItemsHaveNumbers, MembersHaveNumbers}
use Rattle.json.proofs.Printed.Decimals.{IsNumber-signed_decimal}
use Rattle.json.proofs.Printed.Tokens.{tokens-print}
use Rattle.json.proofs.Printed.Trees.{value-json_tokens, ArePrintable-json_tokens}
use Rattle.json.proofs.OnLiterals.{json_on_literals}
use Rattle.serde_json.specs.Data as values
use Rattle.serde_json.specs.Read.{read, of_json, of_items, of_members}
use Rattle.serde_json.proofs.Numbers.{number_of-decimal, number_of-negative}
use Rattle.serde_json.proofs.OnLiterals.{serde_json_on_literals}
use Rattle.ld_json.specs.Read.{tree_of, trees_in, members_in}
use Rattle.ld_model.specs.Tree.{Tree, null, truth, whole, one_one, text, array, object, Trees, no_trees, tree, Members, no_members, member, members_of, member_list, byte_order}
use Rattle.ld_json.specs.Written.{json_of, json_items, json_members}
use Rattle.json_canon.specs.Canonical.{with_members_in_order, each_in_order, values_in_order, in_order, placed}
use Rattle.std.specs.Fmt.{signed_decimal}
use Rattle.json_canon.specs.Utf16.{comes_before}
use Rattle.json_canon.specs.Laws.{IsRead, AreRead, ValuesAreRead, ReadsBack}
use Rattle.json_canon.proofs.Members.{map-in_order}
use Rattle.json_canon.proofs.Inserting.{all_put, all_put-in_order}
use Rattle.ld_json.proofs.Printing.{print-json_tokens}

-- What is read for a value, and that the value comes back.
record Reads (t : Tree) : Type 0 where
  value : values.Data
  reads : of_json (json_of (with_members_in_order t)) ≡ Some value
  back : tree_of value ≡ t

-- A value with what is read for it.
abbrev Known : Type 0
Known = (t : Tree) × Reads t

abbrev known_tree : List ℕ × Known → List ℕ × Tree
known_tree m = (m.0, m.1.0)

abbrev known_data : List (List ℕ × Known) → values.Members
known_data [] = values.no_members
known_data (m ∷ ms) = values.member m.0 m.1.1.value (known_data ms)

abbrev known_written : List ℕ × Known → List ℕ × Tree
known_written m = (m.0, with_members_in_order m.1.0)

put_known : (k : List ℕ) (v : Known) (ms : List (List ℕ × Known)) → values.put k v.1.value (known_data ms) ≡ known_data (insert_entry byte_order ms k v)
put_known k v [] = refl
put_known k v (m ∷ ms) = by_order (byte_order k m.0) (put_known k v ms)
  where
    by_order : (o : Ordering) → values.put k v.1.value (known_data ms) ≡ known_data (insert_entry byte_order ms k v) → match_ordering o (values.member k v.1.value (known_data (m ∷ ms))) (values.member m.0 v.1.value (known_data ms)) (values.member m.0 m.1.1.value (values.put k v.1.value (known_data ms))) ≡ known_data (match_ordering o ((k, v) ∷ m ∷ ms) ((m.0, v) ∷ ms) (m ∷ insert_entry byte_order ms k v))
    by_order Less rest = refl
    by_order Equal rest = refl
    by_order Greater rest = ap (values.member m.0 m.1.1.value) rest

members_read : (ms found : List (List ℕ × Known)) → of_members (json_members (members_of (map known_written ms))) (known_data found) ≡ Some (known_data (all_put ms found))
members_read [] found = refl
members_read (m ∷ ms) found =
    rw m.1.1.reads (rw (put_known m.0 m.1 found) (members_read ms (insert_entry byte_order found m.0 m.1)))

known_values : (ms : List (List ℕ × Known)) → values_in_order (members_of (map known_tree ms)) ≡ map known_written ms
known_values [] = refl
known_values (m ∷ ms) = ap (λ l. known_written m ∷ l) (known_values ms)

known_back : (ms : List (List ℕ × Known)) → members_in (known_data ms) ≡ members_of (map known_tree ms)
known_back [] = refl
known_back (m ∷ ms) = λ i. member m.0 (m.1.1.back i) (known_back ms i)

known_keys : (ms : List (List ℕ × Known)) → keys_of (member_list (members_of (map known_tree ms))) ≡ keys_of ms
known_keys [] = refl
known_keys (m ∷ ms) = ap (λ l. m.0 ∷ l) (known_keys ms)

one_one_reads : Reads one_one
unfolding serde_json_on_literals
one_one_reads = record {
  value = unwrap_or (of_json (json.number (codes "1.1"))) values.null;
  reads = refl;
  back = refl;
}

whole_reads : (z : _) → IsRead (whole z) → Reads (whole z)
whole_reads (pos n) small = record {
  value = values.number (values.unsigned n);
  reads = ap (option_map values.number) (number_of-decimal n (omega arith));
  back = ap (λ b. cond b (whole (pos n)) one_one) (le-leb n (2 ^ 53) small);
}
whole_reads (negsuc n) small = record {
  value = values.number (values.negative (negsuc n));
  reads = ap (option_map values.number) (number_of-negative n (omega arith));
  back = ap (λ b. cond b (whole (negsuc n)) one_one) (le-leb (n + 1) (2 ^ 53) (omega arith));
}

object_reads : (ms : Members) → IsStrictlySortedBy byte_order (keys_of (member_list ms)) → (ks : List (List ℕ × Known)) → members_of (map known_tree ks) ≡ ms → Reads (object ms)
object_reads ms sorted ks is =
    let ks_sorted : IsStrictlySortedBy byte_order (keys_of ks) = subst (IsStrictlySortedBy byte_order) (ap (λ l. keys_of (member_list l)) (sym is) ∙ known_keys ks) sorted in
    let in_units : in_order (values_in_order ms) ≡ map known_written (in_order ks) = ap (λ l. in_order (values_in_order l)) (sym is) ∙ ap in_order (known_values ks) ∙ sym (map-in_order (λ (v : Known). with_members_in_order v.0) ks) in
    let as_read : of_members (json_members (members_of (in_order (values_in_order ms)))) values.no_members ≡ Some (known_data ks) = ap (λ l. of_members (json_members (members_of l)) values.no_members) in_units ∙ members_read (in_order ks) [] ∙ ap (λ l. Some (known_data l)) (all_put-in_order ks ks_sorted) in
    record { value = values.object (known_data ks); reads = ap (option_map values.object) as_read; back = ap object (known_back ks ∙ is) }

mutual
  value_reads : (t : Tree) → IsRead t → Reads t
  value_reads null is = record { value = values.null; reads = refl; back = refl }
  value_reads (truth b) is = record { value = values.boolean b; reads = refl; back = refl }
  value_reads (whole n) is = whole_reads n is
  value_reads one_one is = one_one_reads
  value_reads (text s) is = record { value = values.string s; reads = refl; back = refl }
  value_reads (array ts) is =
      let items = items_read ts is in
      record { value = values.array items.0; reads = ap (option_map values.array) items.1; back = ap array items.2 }
  value_reads (object ms) is = let known = members_known ms is.1 in object_reads ms is.0 known.0 known.1

  items_read : (ts : Trees) → AreRead ts → (ds : values.Items) × (of_items (json_items (each_in_order ts)) ≡ Some ds) × (trees_in ds ≡ ts)
  items_read no_trees are = (values.no_items, refl, refl)
  items_read (tree t ts) are =
      let first = value_reads t are.0 in
      let rest = items_read ts are.1 in
      (values.item first.value rest.0, rw (first.reads, rest.1) refl, λ i. tree (first.back i) (rest.2 i))

  members_known : (ms : Members) → ValuesAreRead ms → (ks : List (List ℕ × Known)) × (members_of (map known_tree ks) ≡ ms)
  members_known no_members are = ([], refl)
  members_known (member k t ms) are =
      let rest = members_known ms are.1 in
      ((k, (t, value_reads t are.0)) ∷ rest.0, ap (member k t) rest.1)

-- ---- the text of such a value is read as far as its numbers and its depth allow
numbers_placed : (m : List ℕ × Tree) (ms : List (List ℕ × Tree)) → HasNumbers (json_of m.1) → MembersHaveNumbers (json_members (members_of ms)) → MembersHaveNumbers (json_members (members_of (placed m ms)))
numbers_placed m [] here all = (here, tt)
numbers_placed m (n ∷ ms) here all =
    cond_both (comes_before n.0 m.0) _ _ (λ l. MembersHaveNumbers (json_members (members_of l))) (λ e. (all.0, numbers_placed m ms here all.1)) (λ e. (here, all))

numbers_in_order : (ms : List (List ℕ × Tree)) → MembersHaveNumbers (json_members (members_of ms)) → MembersHaveNumbers (json_members (members_of (in_order ms)))
numbers_in_order [] all = tt
numbers_in_order (m ∷ ms) all = numbers_placed m (in_order ms) all.0 (numbers_in_order ms all.1)

whole_number : (z : ℤ) → IsRead (whole z) → IsNumber (signed_decimal z)
whole_number (pos n) small = IsNumber-signed_decimal (pos n) (omega arith)
whole_number (negsuc n) small = IsNumber-signed_decimal (negsuc n) (omega arith)

one_one_number : IsNumber (codes "1.1")
unfolding json_on_literals
one_one_number = refl

mutual
  has_numbers : (t : Tree) → IsRead t → HasNumbers (json_of (with_members_in_order t))
  has_numbers null is = tt
  has_numbers (truth b) is = tt
  has_numbers (whole n) is = whole_number n is
  has_numbers one_one is = one_one_number
  has_numbers (text s) is = tt
  has_numbers (array ts) is = items_have_numbers ts is
  has_numbers (object ms) is = numbers_in_order (values_in_order ms) (members_have_numbers ms is.1)

  items_have_numbers : (ts : Trees) → AreRead ts → ItemsHaveNumbers (json_items (each_in_order ts))
  items_have_numbers no_trees are = tt
  items_have_numbers (tree t ts) are = (has_numbers t are.0, items_have_numbers ts are.1)

  members_have_numbers : (ms : Members) → ValuesAreRead ms → MembersHaveNumbers (json_members (members_of (values_in_order ms)))
  members_have_numbers no_members are = tt
  members_have_numbers (member k t ms) are = (has_numbers t are.0, members_have_numbers ms are.1)

abbrev deep : List (List ℕ × Tree) → ℕ
deep ms = members_depth (json_members (members_of ms))

depth_placed : (m : List ℕ × Tree) (ms : List (List ℕ × Tree)) → deep (placed m ms) ≡ max (depth (json_of m.1)) (deep ms)
depth_placed m [] = refl
depth_placed m (n ∷ ms) =
    cond_both (comes_before n.0 m.0) _ _ (λ l. deep l ≡ max (depth (json_of m.1)) (deep (n ∷ ms))) (λ e. omega (arith, depth_placed m ms)) (λ e. refl)

depth_in_order : (ms : List (List ℕ × Tree)) → deep (in_order ms) ≡ deep ms
depth_in_order [] = refl
depth_in_order (m ∷ ms) = depth_placed m (in_order ms) ∙ ap (max (depth (json_of m.1))) (depth_in_order ms)

mutual
  same_depth : (t : Tree) → depth (json_of (with_members_in_order t)) ≡ depth (json_of t)
  same_depth null = refl
  same_depth (truth b) = refl
  same_depth (whole n) = refl
  same_depth one_one = refl
  same_depth (text s) = refl
  same_depth (array ts) = ap suc (items_same_depth ts)
  same_depth (object ms) = ap suc (depth_in_order (values_in_order ms) ∙ members_same_depth ms)

  items_same_depth : (ts : Trees) → items_depth (json_items (each_in_order ts)) ≡ items_depth (json_items ts)
  items_same_depth no_trees = refl
  items_same_depth (tree t ts) = ap₂ max (same_depth t) (items_same_depth ts)

  members_same_depth : (ms : Members) → deep (values_in_order ms) ≡ members_depth (json_members ms)
  members_same_depth no_members = refl
  members_same_depth (member k t ms) = ap₂ max (same_depth t) (members_same_depth ms)

text_reads : (j : json.Json) → HasNumbers j → depth j ≤ 127 → read (print (json_tokens j)) ≡ of_json j
text_reads j numbers shallow =
    ap (λ ts. option_and_then of_json (option_and_then (λ p. json.if_last p.0 p.1) (json.value 127 ts))) (tokens-print (json_tokens j) (ArePrintable-json_tokens j numbers) ∙ sym (append-nil (json_tokens j)))
    ∙ ap (λ o. option_and_then of_json (option_and_then (λ p. json.if_last p.0 p.1) o)) (value-json_tokens j 127 [] shallow)

pub reads_back : ReadsBack
reads_back t is shallow =
    let known = value_reads t is in
    let text_known = text_reads (json_of (with_members_in_order t)) (has_numbers t is) (rw (same_depth t) shallow) in
    ap (λ s. option_map tree_of (read s)) (sym (print-json_tokens (with_members_in_order t))) ∙ ap (option_map tree_of) (text_known ∙ known.reads) ∙ ap Some known.back
