-- A spine under way has what its steps note, and the chunks before it stay.
use Rattle.std.proofs.Common.{◌≡◌, List, [], ◌∷◌, refl, ap, ap₂}
use Rattle.ld_model.specs.Tree.{Trees, Members}
use Rattle.node_model.specs.Walk.{To, nowhere, under, in_list, reverse, At, entered, walk_all}
use Rattle.node_laws.proofs.Likeness.{Likeness, Pairwise, Reach, Beside, Toward, AnswerAlike, lasts_here}
use Rattle.node_laws.proofs.Alike.{entered_beside, all_beside}
use Rattle.op_model.specs.Names.{Name}
use Rattle.op_model.specs.Ops.{Entry}
use Rattle.op_model.specs.Noting.{Notes, noting, Chunk}
use Rattle.division_model.specs.Dividing.{Division, spine_noting, outside_lists}

module _ (chunks : List Chunk) where
  abbrev showing : Likeness Division Name Entry Notes Name Entry
  showing = record {
    states = λ d n. (d.chunks ≡ chunks) × (d.notes ≡ n);
    names = λ d a b. a ≡ b;
    properties = λ d a b. a ≡ b;
    entries = λ d e f. e ≡ f;
  }

  reach : (d e : Division) (n : Notes) → e.chunks ≡ chunks → e.notes ≡ n → Reach showing d e n
  reach d e n first second = record { states = (first, second); lasts = record { names = λ a b is. is; properties = λ a b is. is; entries = λ a b is. is } }

  same_items : (es fs : List Entry) → Pairwise (λ e f. e ≡ f) es fs → es ≡ fs
  same_items [] [] are = refl
  same_items (e ∷ es) (f ∷ fs) are = ap₂ (λ e es. e ∷ es) are.0 (same_items es fs are.1)
  same_items [] (f ∷ fs) are = absurd are
  same_items (e ∷ es) [] are = absurd are

  steps_shown : AnswerAlike showing spine_noting noting
  steps_shown = record {
    named = λ x d n is. (reach d (spine_noting.named x d).1 (noting.named x n).1 is.0 (λ i. (noting.named x (is.1 i)).1), refl, λ apart. refl);
    node = λ g h id d n graph is. (reach d (spine_noting.node g id d).1 (noting.node h id n).1 is.0 (λ i. (noting.node (graph i) id (is.1 i)).1), λ i. (noting.node (graph i) id (is.1 i)).0);
    property = λ g h a b x d n apart graph node is. (reach d (spine_noting.property g a x d).1 (noting.property h b x n).1 is.0 (λ i. (noting.property (graph i) (node i) x (is.1 i)).1), refl);
    graph = λ g h d n graph is. reach d (spine_noting.graph g d) (noting.graph h n) is.0 (λ i. noting.graph (graph i) (is.1 i));
    value = λ ms d is_value. refl;
    reference = λ a b d node. ap noting.reference node;
    list = λ es fs d are. ap noting.list (same_items es fs are);
    add = λ g h a b p q e f d n graph node property item is. reach d (spine_noting.add g a p e d) (noting.add h b q f n) is.0
        (λ i. noting.add (graph i) (node i) (property i) (item i) (is.1 i));
    append = λ g h a b p q es fs d n graph node property are is. reach d (spine_noting.append g a p es d) (noting.append h b q fs n) is.0
        (λ i. noting.append (graph i) (node i) (property i) (same_items es fs are i) (is.1 i));
    type_ = λ g h a b x y d n graph node type is. reach d (spine_noting.type_ g a x d) (noting.type_ h b y n) is.0 (λ i. noting.type_ (graph i) (node i) (type i) (is.1 i));
    index = λ g h a b x d n graph node is. reach d (spine_noting.index g a x d) (noting.index h b x n) is.0 (λ i. noting.index (graph i) (node i) x (is.1 i));
  }

  same_place : (d : Division) (to : To Name) → Toward showing d to to
  same_place d nowhere = tt
  same_place d (under n p) = (refl, refl)
  same_place d in_list = tt
  same_place d (reverse n p) = (refl, refl)

-- The notes of a division, before its next step.
abbrev notes_at : Division → At Notes Entry
notes_at d = record { state = d.notes; items = [] }

from_here : (d : Division) → Beside (showing d.chunks) d (outside_lists d) (notes_at d)
from_here d = record { states = (refl, refl); gathered = tt; lasts = lasts_here (showing d.chunks) d }

pub items_in_spine : (g : Name) (to : To Name) (ts : Trees) (d : Division)
    → ((walk_all spine_noting g to ts (outside_lists d)).state.chunks ≡ d.chunks)
    × ((walk_all spine_noting g to ts (outside_lists d)).state.notes ≡ (walk_all noting g to ts (notes_at d)).state)
items_in_spine g to ts d =
    (all_beside (showing d.chunks) spine_noting noting (steps_shown d.chunks) g g to to ts d (outside_lists d) (notes_at d) refl (same_place d.chunks d to) (from_here d)).states

pub entered_in_spine : (g : Name) (to : To Name) (ms : Members) (d : Division) → (entered spine_noting g to ms (outside_lists d)).1.state.chunks ≡ d.chunks
entered_in_spine g to ms d =
    (entered_beside (showing d.chunks) spine_noting noting (steps_shown d.chunks) g g to to ms d (outside_lists d) (notes_at d) refl (same_place d.chunks d to) (from_here d)).0.states.0
