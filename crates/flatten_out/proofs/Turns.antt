-- The nodes of a graph, one at a time.
use Rattle.std.proofs.Common.{◌≡◌, ℕ, List, [], ◌∷◌, ◌++◌, true, false, cond, map, filter, append_assoc, refl, ap, ◌∙◌}
use Rattle.ld_model.specs.Tree.{Tree, Pairs}
use Rattle.ld_model.specs.Flatten.{has_more, nodes_of}

pub nodes_of-cons : (m : List ℕ × Tree) (ms : Pairs) → nodes_of (m ∷ []) ++ nodes_of ms ≡ nodes_of (m ∷ ms)
nodes_of-cons m ms =
    elim (has_more m) as (λ b. map (λ x. x.1) (cond b (m ∷ []) []) ++ nodes_of ms ≡ map (λ x. x.1) (cond b (m ∷ filter has_more ms) (filter has_more ms)))
    [ true ↦ refl | false ↦ refl ]

pub nodes_of-more : (m : List ℕ × Tree) → has_more m ≡ true → nodes_of (m ∷ []) ≡ m.1 ∷ []
nodes_of-more m h = ap (λ b. map (λ x. x.1) (cond b (m ∷ []) [])) h

pub nodes_of-less : (m : List ℕ × Tree) → has_more m ≡ false → nodes_of (m ∷ []) ≡ []
nodes_of-less m h = ap (λ b. map (λ x. x.1) (cond b (m ∷ []) [])) h

-- One turn over the nodes.
pub one_more : (done new : List Tree) (m : List ℕ × Tree) (ms all : Pairs) → done ++ nodes_of (m ∷ ms) ≡ nodes_of all → new ≡ done ++ nodes_of (m ∷ []) → new ++ nodes_of ms ≡ nodes_of all
one_more done new m ms all left is =
    ap (λ ts. ts ++ nodes_of ms) is ∙ append_assoc done (nodes_of (m ∷ [])) (nodes_of ms) ∙ ap (λ ts. done ++ ts) (nodes_of-cons m ms) ∙ left
