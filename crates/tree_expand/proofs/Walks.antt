-- Steps of the recursion, where they don't compute.
use Rattle.std.proofs.Common.{ℕ, suc, ◌≡◌, ◌+◌, ◌-◌, ◌<◌, ◌≤◌, List, [], ◌∷◌, Option, Ok, drop, take, get_or, length, sym, ap, ◌∙◌, subst, arith}
use Rattle.std.proofs.lemmas.List.{drop_more, take_rest}
use Rattle.ld_model.specs.Tree as model
use Rattle.ld_model.specs.Tree.{Pairs, members_weight, trees_of, members_of, member_list-members_of}
use Rattle.ld_tree.specs.View.{view, trees_view}
use Rattle.ld_tree.specs.declared.value.Tree.{Tree}
use Rattle.ld_tree.specs.declared.value.Tree.TheVariants.{Map}
use Rattle.ctx_types.specs.Context.{Text}
use Rattle.expand_model.specs.Scope.{Options, MapScope}
use Rattle.expand_model.specs.Contexts.{entered}
use Rattle.expand_model.specs.Rules.{At, Inside, ◌>>=◌, entered_at, entered_within, finished_at, nestable, nest_in, nest_item_in}
use Rattle.expand_model.specs.Over.{Asked, Outcome, here, entry_over, node, nest_walked, element_over, indexes_over, items_over, turn_over, entries_over, nested_over, nest_item_over, walk_over}

-- What is left weighs no more.
pub lighter_next : (left rest all : Pairs) (m : List ℕ × model.Tree) → left ≡ m ∷ rest → members_weight (members_of left) ≤ members_weight (members_of all) → members_weight (members_of rest) ≤ members_weight (members_of all)
lighter_next left rest all m is within =
    let next = subst (λ x. members_weight (members_of x) ≤ members_weight (members_of all)) is within in
    omega (arith, next)

module _ (o : Options) {S : Type 0} (ask : model.Trees → ℕ → At → S → Asked S) (settle : model.Trees → ℕ → At → ℕ → S → Option S) where
  -- An item, and then those behind it.
  pub items_next : (ts : List Tree) (i : ℕ) (t : Tree) (k n : ℕ) (a : At) (out : List model.Tree) (s : S) → i < length ts → t ≡ get_or ts i t
      → items_over o ask settle (trees_of (trees_view (drop i ts))) k n a out s ≡ (turn_over o ask settle (trees_of (trees_view (take (length ts - i) (drop i ts)))) (view t) k n a out s >>= (λ v. items_over o ask settle (trees_of (trees_view (drop (i + 1) ts))) v.0.1 (suc n) a v.0.0 v.1))
  items_next ts i t k n a out s within at =
      let next : drop i ts ≡ t ∷ drop (i + 1) ts = drop_more ts i t within ∙ ap (λ x. x ∷ drop (i + 1) ts) (sym at) in
      ap (λ xs. items_over o ask settle (trees_of (trees_view xs)) k n a out s) next
      ∙ sym (ap (λ xs. turn_over o ask settle (trees_of (trees_view xs)) (view t) k n a out s >>= (λ v. items_over o ask settle (trees_of (trees_view (drop (i + 1) ts))) v.0.1 (suc n) a v.0.0 v.1)) (take_rest ts i ∙ next))

  -- An entry, and then those behind it.
  pub entries_next : (left rest : Pairs) (k key : Text) (t : model.Tree) (e : Inside) (r : Pairs) (s : S) → left ≡ (k, t) ∷ rest → key ≡ k
      → entries_over o ask settle (members_of left) e r s ≡ (entry_over o (element_over o ask settle t) (indexes_over o ask settle t key) key t e r s >>= (λ v. entries_over o ask settle (members_of rest) e v.0 v.1))
  entries_next left rest k key t e r s is same =
      ap (λ ms. entries_over o ask settle (members_of ms) e r s) is
      ∙ ap (λ k. entry_over o (element_over o ask settle t) (indexes_over o ask settle t k) k t e r s >>= (λ v. entries_over o ask settle (members_of rest) e v.0 v.1)) (sym same)

  -- A map, as a value, as a nest, and as an item of a nest.
  pub element_map : (t : Tree) (ms : Pairs) (a : At) (s : S) → t ≡ Map ms → element_over o ask settle (view t) a s ≡ node o (walk_over o ask settle (members_of ms) []) ms a s
  element_map t ms a s is = ap (λ x. element_over o ask settle (view x) a s) is ∙ ap (λ es. node o (walk_over o ask settle (members_of ms) []) es a s) (member_list-members_of ms)

  pub nested_map : (t : Tree) (ms : Pairs) (k : Text) (e : Inside) (r : Pairs) (s : S) → t ≡ Map ms → nested_over o ask settle (view t) k e r s ≡ (here s (nestable ms k e) >>= (λ v. walk_over o ask settle (members_of ms) r (nest_in k e) v.1))
  nested_map t ms k e r s is = ap (λ x. nested_over o ask settle (view x) k e r s) is ∙ ap (λ es. nest_walked o (walk_over o ask settle (members_of ms) r) es k e (nest_in k e) s) (member_list-members_of ms)

  pub nest_item_map : (t : Tree) (ms : Pairs) (n : ℕ) (k : Text) (e : Inside) (r : Pairs) (s : S) → t ≡ Map ms → nest_item_over o ask settle (view t) n k e r s ≡ (here s (nestable ms k e) >>= (λ v. walk_over o ask settle (members_of ms) r (nest_item_in n k e) v.1))
  nest_item_map t ms n k e r s is = ap (λ x. nest_item_over o ask settle (view x) n k e r s) is ∙ ap (λ es. nest_walked o (walk_over o ask settle (members_of ms) r) es k e (nest_item_in n k e) s) (member_list-members_of ms)

-- A map that makes no context.
pub entered_lent : (o : Options) (es : Pairs) (a : At) (m : MapScope) → entered o es a.scope ≡ Ok m → entered_at o es a ≡ Ok (record { scope = m; place = a.place })
entered_lent o es a m is = ap (entered_within a.place) is

-- A map whose contexts are known.
pub node_next : (o : Options) {S : Type 0} (walked : Inside → S → Outcome S Pairs) (es : Pairs) (a : At) (s : S) (m n : MapScope) → entered_at o es a ≡ Ok (record { scope = m; place = a.place }) → n ≡ m
    → node o walked es a s ≡ (walked (record { scope = n; place = a.place }) s >>= (λ v. here v.1 (finished_at a v.0)))
unfolding node
node_next o walked es a s m n is same =
    ap (λ d. here s d >>= (λ v. walked v.0 v.1 >>= (λ v. here v.1 (finished_at a v.0)))) is
    ∙ ap (λ m. walked (record { scope = m; place = a.place }) s >>= (λ v. here v.1 (finished_at a v.0))) (sym same)
