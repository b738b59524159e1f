-- The items of an array one after another.
use Rattle.std.proofs.Common.{◌≡◌, ℕ, suc, ◌+◌, List, [], ◌∷◌, ◌++◌, length, Result, Ok, Err, refl, sym, ap, ◌∙◌, arith}
use Rattle.std.proofs.lemmas.List.{append_assoc, append-nil}
use Rattle.ld_json.specs.declared.location.Step.TheVariants.{Item}
use Rattle.ld_model.specs.Tree.{Tree, array, Trees, no_trees, tree, trees_of, tree_list-trees_of}
use Rattle.expand_model.specs.Scope.{Options, Fault}
use Rattle.expand_model.specs.Rules.{◌>>=◌, At, item_at, lists_at, spliced, start, whole_items}
use Rattle.expand_model.specs.Expand.{element, items, document}
use Rattle.expand_laws.specs.Statements.{items_later}
use Rattle.expand_laws.specs.Laws.{ItemsExpandInTurn}
use Rattle.expand_laws.proofs.Places.{within, element_moved}

module _ (o : Options) where
  document_is : (ts : List Tree) → document o (array (trees_of ts)) ≡ items o (trees_of ts) 0 (start o) []
  unfolding document
  document_is ts = by (items o (trees_of ts) 0 (start o) [])
    where
      by : (r : Result (List Tree) Fault) → (r >>= (λ rs. Ok (array (trees_of rs))) >>= (λ v. Ok (whole_items v))) ≡ r
      by (Ok rs) = ap (λ ts. Ok ts) (tree_list-trees_of rs)
      by (Err f) = refl

  -- in two parts
  items_cut : (ts us : List Tree) (n : ℕ) (a : At) (out : List Tree) → items o (trees_of (ts ++ us)) n a out ≡ (items o (trees_of ts) n a out >>= (λ xs. items o (trees_of us) (n + length ts) a xs))
  items_cut [] us n a out =
      let same : n ≡ n + 0 = omega arith in
      ap (λ m. items o (trees_of us) m a out) same
  items_cut (t ∷ ts) us n a out = by (element o t (item_at n a)) (λ v. items_cut ts us (suc n) a (out ++ spliced (lists_at a) v))
    where
      same : suc n + length ts ≡ n + length (t ∷ ts)
      same = omega arith

      by : (r : Result Tree Fault)
          → ((v : Tree) → items o (trees_of (ts ++ us)) (suc n) a (out ++ spliced (lists_at a) v) ≡ (items o (trees_of ts) (suc n) a (out ++ spliced (lists_at a) v) >>= (λ xs. items o (trees_of us) (suc n + length ts) a xs)))
          → (r >>= (λ v. items o (trees_of (ts ++ us)) (suc n) a (out ++ spliced (lists_at a) v))) ≡ (r >>= (λ v. items o (trees_of ts) (suc n) a (out ++ spliced (lists_at a) v)) >>= (λ xs. items o (trees_of us) (n + length (t ∷ ts)) a xs))
      by (Ok v) rest = rest v ∙ ap (λ m. items o (trees_of ts) (suc n) a (out ++ spliced (lists_at a) v) >>= (λ xs. items o (trees_of us) m a xs)) same
      by (Err f) rest = refl

  -- behind other items
  items_behind : (us : Trees) (k n : ℕ) (out more : List Tree) → items o us (k + n) (start o) (out ++ more) ≡ (items_later k (items o us n (start o) more) >>= (λ ys. Ok (out ++ ys)))
  items_behind no_trees k n out more = refl
  items_behind (tree t us) k n out more =
      ap (λ r. r >>= (λ v. items o us (suc (k + n)) (start o) ((out ++ more) ++ spliced (lists_at (start o)) v))) (element_moved (Item (k + n) ∷ []) o t (start o))
      ∙ by (element o t (start o)) (λ v. items_behind us k (suc n) out (more ++ spliced (lists_at (start o)) v))
      ∙ ap (λ r. items_later k (r >>= (λ v. items o us (suc n) (start o) (more ++ spliced (lists_at (start o)) v))) >>= (λ ys. Ok (out ++ ys))) (sym (element_moved (Item n ∷ []) o t (start o)))
    where
      same : suc (k + n) ≡ k + suc n
      same = omega arith

      by : (r : Result Tree Fault)
          → ((v : Tree) → items o us (k + suc n) (start o) (out ++ (more ++ spliced (lists_at (start o)) v)) ≡ (items_later k (items o us (suc n) (start o) (more ++ spliced (lists_at (start o)) v)) >>= (λ ys. Ok (out ++ ys))))
          → (within (Item (k + n) ∷ []) r >>= (λ v. items o us (suc (k + n)) (start o) ((out ++ more) ++ spliced (lists_at (start o)) v)))
          ≡ (items_later k (within (Item n ∷ []) r >>= (λ v. items o us (suc n) (start o) (more ++ spliced (lists_at (start o)) v))) >>= (λ ys. Ok (out ++ ys)))
      by (Ok v) rest =
          ap (λ m. items o us m (start o) ((out ++ more) ++ spliced (lists_at (start o)) v)) same
          ∙ ap (λ ts. items o us (k + suc n) (start o) ts) (append_assoc out more (spliced (lists_at (start o)) v))
          ∙ rest v
      by (Err f) rest = refl

  others : (us : List Tree) (k : ℕ) (xs : List Tree) → items o (trees_of us) (0 + k) (start o) xs ≡ (items_later k (document o (array (trees_of us))) >>= (λ ys. Ok (xs ++ ys)))
  others us k xs =
      let same : 0 + k ≡ k + 0 = omega arith in
      ap (λ m. items o (trees_of us) m (start o) xs) same
      ∙ ap (λ ts. items o (trees_of us) (k + 0) (start o) ts) (sym (append-nil xs))
      ∙ items_behind (trees_of us) k 0 xs []
      ∙ ap (λ r. items_later k r >>= (λ ys. Ok (xs ++ ys))) (sym (document_is us))

pub items_expand_in_turn : ItemsExpandInTurn
items_expand_in_turn o ts us =
    document_is o (ts ++ us)
    ∙ items_cut o ts us 0 (start o) []
    ∙ ap (λ (h : List Tree → Result (List Tree) Fault). items o (trees_of ts) 0 (start o) [] >>= h) (λ i xs. others o us (length ts) xs i)
    ∙ ap (λ r. r >>= (λ xs. items_later (length ts) (document o (array (trees_of us))) >>= (λ ys. Ok (xs ++ ys)))) (sym (document_is o ts))
