use Rattle.std.proofs.Common.{◌≡◌, ◌-◌, ◌<◌, [], ◌∷◌, ◌++◌, ◌&&◌, ℕ, List, length, Some, None, refl, sym, ap, ap₂, ◌∙◌, subst, arith, append-nil}
use Rattle.std.specs.BTreeMap.{insert_entry}
use Rattle.std.specs.List.{AllByRecursion}
use Rattle.json.specs.Token.{Token}
use Rattle.json.specs.Json.{parse_map, after_end_array, read_key, items, members, value}
use Rattle.json.specs.Reads.{token_of}
use Rattle.std.proofs.lemmas.List.{map-append}
use Rattle.json.proofs.Grammar.{value_is, value-begin_array, value-begin_object, read_key-shorter, closed_array, read_key_is}
use Rattle.serde_json.specs.Read.{converted}
use Rattle.ld_model.specs.Tree.{array, object, trees_of, members_of, byte_order}
use Rattle.ld_tree.specs.declared.value.Tree.{Tree}
use Rattle.ld_tree.specs.View.{view, trees_view, members_view, member_view}
use Rattle.ld_tree.specs.Built.{built}
use Rattle.ld_tree.proofs.Builds.{built-append, all-built}
use Rattle.ld_json.proofs.Unmarked.{no_mark_items, no_mark_members, all_behind}
use Rattle.ld_json.specs.Tokens.{tree_read, items_read, members_read, all_in, HasNoMark}
use Rattle.ld_json.proofs.Turns.{converted-array, converted-object, item_read, item_refused, items_over, member_read, member_refused, key_refused, members_over, none_before, one_more_item}
use Rattle.ld_json.proofs.by_tokens.+read.Goals as goal

pub read-returns-in_err-token-clause-err : goal.read-returns-in_err-token-clause-err
read-returns-in_err-token-clause-err t c refused =
    let empty : c.args.reader.now ≡ [] = grind arith in
    ap (converted tree_read) (ap (value c.args.depth) empty ∙ value_is c.args.depth [])

pub read-returns-then-depth-eq0-clause-err : goal.read-returns-then-depth-eq0-clause-err
unfolding value
read-returns-then-depth-eq0-clause-err t c never =
    let first : c.args.reader.now ≡ token_of c.in_ok-token.token ∷ c.next.new.self = grind arith in
    let none : c.args.depth ≡ 0 = omega arith in
    ap (converted tree_read) (ap₂ value none (first ∙ ap (λ k. token_of k ∷ c.next.new.self) c.in-BeginArray.is))

pub read-returns-then-depth-eq0-2-clause-err : goal.read-returns-then-depth-eq0-2-clause-err
unfolding value
read-returns-then-depth-eq0-2-clause-err t c never =
    let first : c.args.reader.now ≡ token_of c.in_ok-token.token ∷ c.next.new.self = grind arith in
    let none : c.args.depth ≡ 0 = omega arith in
    ap (converted tree_read) (ap₂ value none (first ∙ ap (λ k. token_of k ∷ c.next.new.self) c.in-BeginObject.is))

pub read-returns-in_err-read_items-in-BeginArray-clause-err : goal.read-returns-in_err-read_items-in-BeginArray-clause-err
read-returns-in_err-read_items-in-BeginArray-clause-err t c refused =
    let first : c.args.reader.now ≡ token_of c.in_ok-token.token ∷ c.next.new.self = grind arith in
    let opened = ap (converted tree_read) (ap (value c.args.depth) (first ∙ ap (λ k. token_of k ∷ c.next.new.self) c.in-BeginArray.is) ∙ value-begin_array c.args.depth c.next.new.self (omega arith)) ∙ converted-array (items (value (c.args.depth - 1)) (length c.next.new.self) c.next.new.self) in
    opened ∙ ap (parse_map (λ ts. array (trees_of ts))) (c.read_items.ensures.err (grind arith))

pub read-returns-in_err-read_members-in-BeginObject-clause-err : goal.read-returns-in_err-read_members-in-BeginObject-clause-err
read-returns-in_err-read_members-in-BeginObject-clause-err t c refused =
    let first : c.args.reader.now ≡ token_of c.in_ok-token.token ∷ c.next.new.self = grind arith in
    let opened = ap (converted tree_read) (ap (value c.args.depth) (first ∙ ap (λ k. token_of k ∷ c.next.new.self) c.in-BeginObject.is) ∙ value-begin_object c.args.depth c.next.new.self (omega arith)) ∙ converted-object (members (value (c.args.depth - 1)) (length c.next.new.self) c.next.new.self) in
    opened ∙ ap (parse_map (λ ms. object (members_of ms))) (c.read_members.ensures.err (grind arith))

pub read-returns-in_ok-new-in-String-clause-ok : goal.read-returns-in_ok-new-in-String-clause-ok
read-returns-in_ok-new-in-String-clause-ok t c =
    let first : c.args.reader.now ≡ token_of c.in_ok-token.token ∷ c.next.new.self = grind arith in
    let is : c.args.reader.now ≡ Token.string c.in-String.text.now ∷ c.next.new.self = grind (arith, first) in
    ap (converted tree_read) (ap (value c.args.depth) is ∙ value_is c.args.depth _) ∙ rw c.in_ok-new-in-String.ensures

pub read-returns-in-Bool-clause-ok : goal.read-returns-in-Bool-clause-ok
read-returns-in-Bool-clause-ok t c =
    let first : c.args.reader.now ≡ token_of c.in_ok-token.token ∷ c.next.new.self = grind arith in
    let is : c.args.reader.now ≡ Token.boolean c.in-Bool.b ∷ c.next.new.self = grind (arith, first) in
    ap (converted tree_read) (ap (value c.args.depth) is ∙ value_is c.args.depth _)

pub read-returns-in-Null-clause-ok : goal.read-returns-in-Null-clause-ok
read-returns-in-Null-clause-ok t c =
    let first : c.args.reader.now ≡ token_of c.in_ok-token.token ∷ c.next.new.self = grind arith in
    let is : c.args.reader.now ≡ Token.null ∷ c.next.new.self = grind (arith, first) in
    ap (converted tree_read) (ap (value c.args.depth) is ∙ value_is c.args.depth _)

pub read-returns-in-Some-clause-ok : goal.read-returns-in-Some-clause-ok
read-returns-in-Some-clause-ok t c =
    let first : c.args.reader.now ≡ token_of c.in_ok-token.token ∷ c.next.new.self = grind arith in
    let is : c.args.reader.now ≡ Token.number c.in-Number.text.now ∷ c.next.new.self = grind (arith, first) in
    ap (converted tree_read) (ap (value c.args.depth) is ∙ value_is c.args.depth _) ∙ rw (← c.in-Some.ensures.tree)

pub read-returns-in-None-clause-err : goal.read-returns-in-None-clause-err
read-returns-in-None-clause-err t c refused =
    let first : c.args.reader.now ≡ token_of c.in_ok-token.token ∷ c.next.new.self = grind arith in
    let is : c.args.reader.now ≡ Token.number c.in-Number.text.now ∷ c.next.new.self = grind (arith, first) in
    ap (converted tree_read) (ap (value c.args.depth) is ∙ value_is c.args.depth _) ∙ rw (← c.in-None.ensures.tree)

pub read-returns-in-EndObject-clause-err : goal.read-returns-in-EndObject-clause-err
read-returns-in-EndObject-clause-err t c refused =
    let first : c.args.reader.now ≡ token_of c.in_ok-token.token ∷ c.next.new.self = grind arith in
    let none : value c.args.depth c.args.reader.now ≡ None = rw (value_is c.args.depth c.args.reader.now, first) (grind arith) in
    ap (converted tree_read) none

pub read-returns-in_ok-read_items-in-BeginArray-clause-ok : goal.read-returns-in_ok-read_items-in-BeginArray-clause-ok
read-returns-in_ok-read_items-in-BeginArray-clause-ok t c =
    let first : c.args.reader.now ≡ token_of c.in_ok-token.token ∷ c.next.new.self = grind arith in
    let opened = ap (converted tree_read) (ap (value c.args.depth) (first ∙ ap (λ k. token_of k ∷ c.next.new.self) c.in-BeginArray.is) ∙ value-begin_array c.args.depth c.next.new.self (omega arith)) ∙ converted-array (items (value (c.args.depth - 1)) (length c.next.new.self) c.next.new.self) in
    opened ∙ ap (parse_map (λ ts. array (trees_of ts))) c.in_ok-read_items-in-BeginArray.ensures.ok

pub read-returns-in_ok-read_members-in-BeginObject-clause-ok : goal.read-returns-in_ok-read_members-in-BeginObject-clause-ok
read-returns-in_ok-read_members-in-BeginObject-clause-ok t c =
    let first : c.args.reader.now ≡ token_of c.in_ok-token.token ∷ c.next.new.self = grind arith in
    let opened = ap (converted tree_read) (ap (value c.args.depth) (first ∙ ap (λ k. token_of k ∷ c.next.new.self) c.in-BeginObject.is) ∙ value-begin_object c.args.depth c.next.new.self (omega arith)) ∙ converted-object (members (value (c.args.depth - 1)) (length c.next.new.self) c.next.new.self) in
    opened ∙ ap (parse_map (λ ms. object (members_of ms))) c.in_ok-read_members-in-BeginObject.ensures.ok

pub read_items-items-init : goal.read_items-items-init
read_items-items-init t c =
    let all = converted items_read (items (value c.args.depth) (length c.args.reader.now) c.args.reader.now) in
    (length c.args.reader.now, omega arith, none_before all ∙ ap (λ (vs : List Tree). parse_map (λ ts. trees_view vs ++ ts) all) (sym c.new-found.ensures.items), omega arith, refl, λ up. (up, subst (λ (vs : List Tree). AllByRecursion HasNoMark (trees_view vs)) (sym c.new-found.ensures.items) tt))

pub read_items-returns-in_err-item-clause-err : goal.read_items-returns-in_err-item-clause-err
read_items-returns-in_err-item-clause-err t c refused =
    let p = value c.args.depth in
    let l = c.items in
    let n = l.invariant.0 in
    let going : (after_end_array l.reader ≡ None) × (c.take_end_array.new.self ≡ l.reader) = grind arith in
    l.invariant.2 ∙ ap (parse_map (λ ts. trees_view l.found.items ++ ts)) (item_refused p n l.reader going.0 (rw (← going.1) (c.read.ensures.err (grind arith))))

pub read_items-items-preserved : goal.read_items-items-preserved
read_items-items-preserved t c =
    let p = value c.args.depth in
    let l = c.items in
    let n = l.invariant.0 in
    let going : (after_end_array l.reader ≡ None) × (c.take_end_array.new.self ≡ l.reader) = grind arith in
    let done = c.in_ok-item.ensures in
    let v = c.in_ok-item.item in
    let r = c.read.new.reader in
    let less : length r < length l.reader = rw (← going.1) done.shorter in
    let turn = item_read p n l.reader r (view v) (omega (arith, l.invariant.1)) going.0 (rw (← going.1) done.ok) in
    let pushed = ap trees_view c.in_ok-push.ensures ∙ map-append view l.found.items (v ∷ []) in (
      n - 1,
      omega (arith, l.invariant.1),
      l.invariant.2 ∙ ap (parse_map (λ ts. trees_view l.found.items ++ ts)) turn ∙ one_more_item (trees_view l.found.items) (view v) _
          ∙ ap (λ vs. parse_map (λ ts. vs ++ ts) (converted items_read (items p (n - 1) r))) (sym pushed),
      omega (arith, l.invariant.3),
      done.accepted ∙ ap (λ ts. l.seen.accepted && all_in ts) going.1 ∙ l.invariant.4,
      λ up.
          let held = done.unmarked up in
          let before = l.invariant.5 held.0 in
          (before.0, subst (AllByRecursion HasNoMark) (sym pushed) (all_behind HasNoMark (trees_view l.found.items) (view v) before.1 held.1)),
    )

pub read_items-returns-clause-ok : goal.read_items-returns-clause-ok
read_items-returns-clause-ok t c =
    let p = value c.args.depth in
    let l = c.items in
    let n = l.invariant.0 in
    let r = c.take_end_array.new.self in
    l.invariant.2 ∙ ap (parse_map (λ ts. trees_view l.found.items ++ ts)) (items_over p n l.reader r l.invariant.1 (grind arith)) ∙ ap (λ ds. Some (ds, r)) (append-nil (trees_view l.found.items) ∙ ap trees_view (sym c.in_ok-fitted.ensures) ∙ sym c.from_vec.ensures)

pub read_items-returns-clause-accepted : goal.read_items-returns-clause-accepted
read_items-returns-clause-accepted t c =
    let l = c.items in
    ap (λ ts. l.seen.accepted && all_in ts) (sym (closed_array l.reader c.take_end_array.new.self (grind arith))) ∙ l.invariant.4

pub read_members-members-init : goal.read_members-members-init
read_members-members-init t c =
    let all = members (value c.args.depth) (length c.args.reader.now) c.args.reader.now in
    (length c.args.reader.now, omega arith, ap (λ (es : List (List ℕ × Tree)). converted (λ ms. members_read ms (built (members_view es))) all) (sym c.new-found.ensures.items), omega arith, refl, λ up. (up, subst (λ (es : List (List ℕ × Tree)). AllByRecursion (λ m. HasNoMark m.1) (members_view es)) (sym c.new-found.ensures.items) tt))

pub read_members-returns-in_err-name-clause-err : goal.read_members-returns-in_err-name-clause-err
read_members-returns-in_err-name-clause-err t c refused =
    let p = value c.args.depth in
    let l = c.members in
    let n = l.invariant.0 in
    l.invariant.2 ∙ key_refused p (built (members_view l.found.items)) n l.reader c.in_err-name.ensures.value

pub read_members-returns-in_err-member-clause-err : goal.read_members-returns-in_err-member-clause-err
read_members-returns-in_err-member-clause-err t c refused =
    let p = value c.args.depth in
    let l = c.members in
    let n = l.invariant.0 in
    let k = c.in-Some.name.now in
    let s = c.next_key.new.self in
    let named : read_key l.reader ≡ Some (Some k, s) = grind arith in
    l.invariant.2 ∙ member_refused p (built (members_view l.found.items)) n k l.reader s named (c.read.ensures.err (grind arith))

pub read_members-members-preserved : goal.read_members-members-preserved
read_members-members-preserved t c =
    let p = value c.args.depth in
    let l = c.members in
    let n = l.invariant.0 in
    let k = c.in-Some.name.now in
    let s = c.next_key.new.self in
    let named : read_key l.reader ≡ Some (Some k, s) = grind arith in
    let done = c.in_ok-member.ensures in
    let v = c.in_ok-member.member in
    let r = c.read.new.reader in
    let less = read_key-shorter l.reader (Some k) s named in
    let lesser = done.shorter in
    let old = members_view l.found.items in
    let pair : List ℕ × Tree = (c.in_ok-key.key, v) in
    let pushed = ap members_view c.in_ok-push.ensures ∙ map-append member_view l.found.items (pair ∷ []) in
    let put = ap built pushed ∙ built-append old (member_view pair) ∙ ap (λ name. insert_entry byte_order (built old) name (view v)) c.in_ok-key.ensures in (
      n - 1,
      omega (arith, l.invariant.1),
      l.invariant.2 ∙ member_read p (built old) n k l.reader s r (view v) (omega (arith, l.invariant.1)) named done.ok
          ∙ ap (λ found. converted (λ ms. members_read ms found) (members p (n - 1) r)) (sym put),
      omega (arith, l.invariant.3),
      done.accepted ∙ ap (λ ts. l.seen.accepted && all_in ts) (sym (read_key_is l.reader (Some k) s named)) ∙ l.invariant.4,
      λ up.
          let held = done.unmarked up in
          let before = l.invariant.5 held.0 in
          (before.0, subst (AllByRecursion (λ m. HasNoMark m.1)) (sym pushed) (all_behind (λ m. HasNoMark m.1) old (member_view pair) before.1 held.1)),
    )

pub read_members-returns-clause-ok : goal.read_members-returns-clause-ok
read_members-returns-clause-ok t c =
    let p = value c.args.depth in
    let l = c.members in
    let n = l.invariant.0 in
    let r = c.next_key.new.self in
    l.invariant.2 ∙ members_over p (built (members_view l.found.items)) n l.reader r l.invariant.1 (grind arith) ∙ ap (λ ms. Some (ms, r)) (ap (λ (es : List (List ℕ × Tree)). built (members_view es)) (sym c.in_ok-fitted.ensures) ∙ sym c.in_ok-from_pairs.ensures)

pub read-returns-in_ok-read_items-in-BeginArray-clause-unmarked : goal.read-returns-in_ok-read_items-in-BeginArray-clause-unmarked
read-returns-in_ok-read_items-in-BeginArray-clause-unmarked t c up =
    let rest = c.in_ok-read_items-in-BeginArray.ensures.unmarked up in
    (rest.0, no_mark_items 0 _ rest.1)

pub read-returns-in_ok-read_members-in-BeginObject-clause-unmarked : goal.read-returns-in_ok-read_members-in-BeginObject-clause-unmarked
read-returns-in_ok-read_members-in-BeginObject-clause-unmarked t c up =
    let rest = c.in_ok-read_members-in-BeginObject.ensures.unmarked up in
    (rest.0, no_mark_members _ rest.1)

pub read_members-returns-clause-unmarked : goal.read_members-returns-clause-unmarked
read_members-returns-clause-unmarked t c up =
    let l = c.members in
    let rest = l.invariant.5 up in
    (rest.0, subst (AllByRecursion (λ m. HasNoMark m.1)) (ap (λ (es : List (List ℕ × Tree)). built (members_view es)) (sym c.in_ok-fitted.ensures) ∙ sym c.in_ok-from_pairs.ensures) (all-built (λ m. HasNoMark m.1) (members_view l.found.items) [] tt rest.1))
