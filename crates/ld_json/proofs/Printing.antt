-- The tokens of a value, printed, are its compact text.
use Rattle.std.proofs.Common.{◌≡◌, ℕ, List, [], ◌∷◌, ◌++◌, refl, ap, ◌∙◌, sym, true, false, Bool, append_assoc, append-nil}
use Rattle.json.specs.Token.{Token}
use Rattle.json.specs.Tree.{json_tokens, items_tokens, members_tokens}
use Rattle.json.specs.Print.{print, print_from, quoted, separator}
use Rattle.ld_model.specs.Tree.{Tree, null, truth, whole, one_one, text, array, object, Trees, no_trees, tree, Members, no_members, member}
use Rattle.ld_model.specs.CompactText.{compact, trees_text, members_text, comma_if}
use Rattle.ld_json.specs.Written.{json_of, json_items, json_members}

after_bracket : (x y : ℕ) (s rest : List ℕ) → x ∷ (s ++ y ∷ rest) ≡ (x ∷ (s ++ y ∷ [])) ++ rest
after_bracket x y s rest = ap (λ l. x ∷ l) (sym (append_assoc s (y ∷ []) rest))

regroup : (a b c d : List ℕ) → a ++ (b ++ (c ++ d)) ≡ (a ++ (b ++ c)) ++ d
regroup a b c d = simp append_assoc

regroup_member : (a k b c d : List ℕ) → a ++ ((k ++ 58 ∷ []) ++ (b ++ (c ++ d))) ≡ (a ++ (k ++ 58 ∷ (b ++ c))) ++ d
regroup_member a k b c d = simp append_assoc

comma : (later : Bool) (k : List ℕ) → separator later (Token.key k) ≡ comma_if later
comma true k = refl
comma false k = refl

mutual
  unfolding print_from

  -- What the tokens of a value print, where `later` says that a value stands before.
  tree_printed : (later : Bool) (t : Tree) (rest : List Token) → print_from later (json_tokens (json_of t) ++ rest) ≡ comma_if later ++ (compact t ++ print_from true rest)
  tree_printed true null rest = refl
  tree_printed false null rest = refl
  tree_printed true (truth true) rest = refl
  tree_printed true (truth false) rest = refl
  tree_printed false (truth true) rest = refl
  tree_printed false (truth false) rest = refl
  tree_printed true (whole n) rest = refl
  tree_printed false (whole n) rest = refl
  tree_printed true one_one rest = refl
  tree_printed false one_one rest = refl
  tree_printed true (text s) rest = refl
  tree_printed false (text s) rest = refl
  tree_printed true (array ts) rest =
      ap (λ l. 44 ∷ 91 ∷ l) (trees_printed false ts rest) ∙ ap (λ l. 44 ∷ l) (after_bracket 91 93 (trees_text false ts) (print_from true rest))
  tree_printed false (array ts) rest =
      ap (λ l. 91 ∷ l) (trees_printed false ts rest) ∙ after_bracket 91 93 (trees_text false ts) (print_from true rest)
  tree_printed true (object ms) rest =
      ap (λ l. 44 ∷ 123 ∷ l) (members_printed false ms rest) ∙ ap (λ l. 44 ∷ l) (after_bracket 123 125 (members_text false ms) (print_from true rest))
  tree_printed false (object ms) rest =
      ap (λ l. 123 ∷ l) (members_printed false ms rest) ∙ after_bracket 123 125 (members_text false ms) (print_from true rest)

  trees_printed : (later : Bool) (ts : Trees) (rest : List Token) → print_from later (items_tokens (json_items ts) ++ rest) ≡ trees_text later ts ++ 93 ∷ print_from true rest
  trees_printed true no_trees rest = refl
  trees_printed false no_trees rest = refl
  trees_printed later (tree t ts) rest =
      ap (print_from later) (append_assoc (json_tokens (json_of t)) (items_tokens (json_items ts)) rest) ∙ tree_printed later t (items_tokens (json_items ts) ++ rest) ∙ ap (λ l. comma_if later ++ (compact t ++ l)) (trees_printed true ts rest)
      ∙ regroup (comma_if later) (compact t) (trees_text true ts) (93 ∷ print_from true rest)

  members_printed : (later : Bool) (ms : Members) (rest : List Token) → print_from later (members_tokens (json_members ms) ++ rest) ≡ members_text later ms ++ 125 ∷ print_from true rest
  members_printed true no_members rest = refl
  members_printed false no_members rest = refl
  members_printed later (member k t ms) rest =
      ap (λ l. print_from later (Token.key k ∷ l)) (append_assoc (json_tokens (json_of t)) (members_tokens (json_members ms)) rest)
      ∙ ap (λ l. separator later (Token.key k) ++ ((quoted k ++ 58 ∷ []) ++ l)) (tree_printed false t (members_tokens (json_members ms) ++ rest) ∙ ap (λ l. compact t ++ l) (members_printed true ms rest))
      ∙ ap (λ l. l ++ ((quoted k ++ 58 ∷ []) ++ (compact t ++ (members_text true ms ++ 125 ∷ print_from true rest)))) (comma later k)
      ∙ regroup_member (comma_if later) (quoted k) (compact t) (members_text true ms) (125 ∷ print_from true rest)

-- The tokens of a value, printed, are its compact text.
pub print-json_tokens : (t : Tree) → print (json_tokens (json_of t)) ≡ compact t
unfolding print_from
print-json_tokens t =
    ap print (sym (append-nil (json_tokens (json_of t)))) ∙ tree_printed false t [] ∙ append-nil (compact t)

-- What a writer holds that began with nothing and took the tokens of one value.
pub printed_alone : (t : Tree) (old_before before items : List ℕ) (old tokens : List Token) → old_before ≡ [] → old ≡ [] → before ≡ old_before → tokens ≡ old ++ json_tokens (json_of t) → items ≡ before ++ print tokens → items ≡ compact t
printed_alone t old_before before items old tokens empty none same all is =
    is ∙ (λ i. (same ∙ empty) i ++ print ((all ∙ ap (λ l. l ++ json_tokens (json_of t)) none) i)) ∙ print-json_tokens t
