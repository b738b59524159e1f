-- What planning notes, and the plan that it makes.
use Rattle.std.proofs.Common.{ℕ, zero, suc, ◌≡◌, ◌+◌, ◌-◌, ◌*◌, ◌<◌, nat_le, true, false, List, [], ◌∷◌, ◌++◌, Option, Some, map, take, length, refl, sym, ap, ◌∙◌, arith}
use Rattle.std.specs.Prelude.{if◌then◌else◌, slice_get}
use Rattle.std.specs.List.{AllByRecursion}
use Rattle.ld_model.specs.Tree as model
use Rattle.ld_model.specs.Tree.{tree, trees_of, array, same_trees, tree_list, tree_list-trees_of}
use Rattle.ld_model.proofs.SameTree.{same_tree-exact}
use Rattle.ld_tree.specs.declared.value.Tree.{Tree}
use Rattle.ld_tree.specs.View.{view, trees_view}
use Rattle.ctx_types.specs.ContextView.{context_view}
use Rattle.ctx_types.specs.declared.context.ActiveContext.{ActiveContext}
use Rattle.expand_model.specs.Scope.{Options}
use Rattle.range_laws.specs.Right.{first_trees}
use Rattle.cut_model.specs.Pieces.{Piece}
use Rattle.cut_model.specs.Planning.{capped, Plan, with_piece, planned}
use Rattle.cut_model.specs.Cutting.{most_pieces, cut_within}
use Rattle.subtree_cut.specs.View.{context_or_empty, piece_view}
use Rattle.subtree_cut.specs.Choices.{note_view, notes_view}
use Rattle.subtree_cut.specs.declared.planning.Note.{Note}
use Rattle.subtree_cut.specs.declared.plan.ExpandPiece.{ExpandPiece}

abbrev plan_with : ℕ → List Piece → Plan
plan_with limit ps = record { limit = limit; pieces = ps }

abbrev plan_so_far : ℕ → List Note → Plan
plan_so_far limit xs = plan_with limit (notes_view xs)

so_many : (n : ℕ) (ts : List model.Tree) → trees_of (take n ts) ≡ first_trees n (trees_of ts)
so_many zero [] = refl
so_many zero (t ∷ ts) = refl
so_many (suc n) [] = refl
so_many (suc n) (t ∷ ts) = ap (tree t) (so_many n ts)

-- The first items, as values and as what they stand for.
pub firsts : (k : ℕ) (ts : List model.Tree) → trees_of (take (k + 1) ts) ≡ first_trees (suc k) (trees_of ts)
firsts k ts = let one : k + 1 ≡ suc k = omega arith in ap (λ n. trees_of (take n ts)) one ∙ so_many (suc k) ts

pub same_items : (xs ys : List model.Tree) → same_trees (trees_of xs) (trees_of ys) ≡ true → xs ≡ ys
same_items xs ys same = sym (tree_list-trees_of xs) ∙ ap listed (same_tree-exact (array (trees_of xs)) (array (trees_of ys)) same) ∙ tree_list-trees_of ys
  where
    listed : model.Tree → List model.Tree
    listed (array ts) = tree_list ts
    listed t = []

pub viewed : (k : ℕ) (ts : List Tree) → trees_view (take k ts) ≡ take k (trees_view ts)
viewed zero ts = refl
viewed (suc k) [] = refl
viewed (suc k) (t ∷ ts) = ap (λ us. view t ∷ us) (viewed k ts)

-- A piece more is noted.
pub same_piece : (x : Note) (p : Piece) → x.place ≡ p.at.place → x.from ≡ p.from → context_view x.context ≡ p.at.scope.context → x.property ≡ p.at.scope.property → x.from_map ≡ p.at.scope.from_map → trees_of (trees_view x.items.now) ≡ p.items → note_view x ≡ p
same_piece x p place from context property from_map items i = record { at = record { scope = record { context = context i; property = property i; from_map = from_map i }; place = place i }; from = from i; items = items i }

one_noted : (xs : List Note) (x : Note) → notes_view (xs ++ x ∷ []) ≡ notes_view xs ++ note_view x ∷ []
one_noted [] x = refl
one_noted (y ∷ xs) x = ap (λ ys. note_view y ∷ ys) (one_noted xs x)

pub noted_more : (limit : ℕ) (before after : List Note) (x : Note) (p : Piece) (s : Plan) → after ≡ before ++ x ∷ [] → note_view x ≡ p → s ≡ record { limit = limit; pieces = notes_view before } → plan_so_far limit after ≡ with_piece p s
noted_more limit before after x p s is piece was =
    ap (plan_so_far limit) is
    ∙ ap (λ ps. plan_with limit ps) (one_noted before x ∙ ap (λ q. notes_view before ++ q ∷ []) piece)
    ∙ ap (with_piece p) (sym was)

-- The limit is doubled, or it isn't.
pub done_at_last : (o : Options) (t : model.Tree) (limit times : ℕ) → times ≡ 0 → planned o limit t ≡ cut_within times o t limit
unfolding cut_within
done_at_last o t limit zero h = refl
done_at_last o t limit (suc times) h = cc

pub done_if_few : (o : Options) (t : model.Tree) (limit times : ℕ) → nat_le (length (planned o limit t)) most_pieces ≡ true → planned o limit t ≡ cut_within times o t limit
unfolding cut_within
done_if_few o t limit zero h = refl
done_if_few o t limit (suc times) h = sym (ap (λ b. if b then planned o limit t else cut_within times o t (capped (limit * 2))) h)

pub doubled : (o : Options) (t : model.Tree) (limit times : ℕ) → 0 < times → nat_le (length (planned o limit t)) most_pieces ≡ false → cut_within (times - 1) o t (capped (limit * 2)) ≡ cut_within times o t limit
unfolding cut_within
doubled o t limit zero some h = absurd (omega (arith, some))
doubled o t limit (suc times) some h = ap (λ n. cut_within n o t (capped (limit * 2))) (omega arith) ∙ sym (ap (λ b. if b then planned o limit t else cut_within times o t (capped (limit * 2))) h)

-- A piece more, with its context.
abbrev piece_in : Option ActiveContext → ExpandPiece → Piece
piece_in g x = record { at = record { scope = record { context = context_or_empty g; property = x.property; from_map = x.from_map }; place = x.array }; from = x.from; items = trees_of (trees_view x.items.now) }

held_get : (cs : List ActiveContext) (c : ActiveContext) (n : ℕ) → n < length cs → slice_get (cs ++ c ∷ []) n ≡ slice_get cs n
held_get [] c n h = absurd (omega (arith, h))
held_get (d ∷ cs) c zero h = refl
held_get (d ∷ cs) c (suc n) h = held_get cs c n (omega (arith, h))

last_get : (cs : List ActiveContext) (c : ActiveContext) → slice_get (cs ++ c ∷ []) (length cs) ≡ Some c
last_get [] c = refl
last_get (d ∷ cs) c = last_get cs c

one_added : (cs : List ActiveContext) (c : ActiveContext) (xs : List ExpandPiece) (x : ExpandPiece) → AllByRecursion (λ y. y.context < length cs) xs → map (piece_view (cs ++ c ∷ [])) (xs ++ x ∷ []) ≡ map (piece_view cs) xs ++ piece_view (cs ++ c ∷ []) x ∷ []
one_added cs c [] x h = refl
one_added cs c (y ∷ xs) x h =
    ap (λ g. record { at = record { scope = record { context = context_or_empty g; property = y.property; from_map = y.from_map }; place = y.array }; from = y.from; items = (piece_view cs y).items } ∷ map (piece_view (cs ++ c ∷ [])) (xs ++ x ∷ [])) (held_get cs c y.context h.0)
    ∙ ap (λ ys. piece_view cs y ∷ ys) (one_added cs c xs x h.1)

pub piece_added : (cs : List ActiveContext) (c : ActiveContext) (xs : List ExpandPiece) (x : ExpandPiece) (contexts : List ActiveContext) (pieces : List ExpandPiece) → AllByRecursion (λ y. y.context < length cs) xs → x.context ≡ length cs → contexts ≡ cs ++ c ∷ [] → pieces ≡ xs ++ x ∷ []
    → map (piece_view contexts) pieces ≡ map (piece_view cs) xs ++ piece_in (Some c) x ∷ []
piece_added cs c xs x contexts pieces held number longer more =
    ap (λ ds. map (piece_view ds) pieces) longer
    ∙ ap (map (piece_view (cs ++ c ∷ []))) more
    ∙ one_added cs c xs x held
    ∙ ap (λ g. map (piece_view cs) xs ++ piece_in g x ∷ []) (ap (slice_get (cs ++ c ∷ [])) number ∙ last_get cs c)
