-- The first conflict of indexes stays, whatever is walked after it.
use Rattle.std.proofs.Common.{◌≡◌, ℕ, List, [], ◌∷◌, ◌++◌, Bool, true, false, if◌then◌else◌, Option, Some, None, Err, refl, ap, ◌∙◌}
use Rattle.std.specs.Prelude.{⊤}
use Rattle.std.specs.Str.{bytes_eq}
use Rattle.ld_model.specs.Tree.{Tree, Trees, array, trees_of}
use Rattle.ld_model.specs.Keys.{default_graph}
use Rattle.node_model.specs.NodeMap.{Conflict}
use Rattle.node_model.specs.Generating.{State, generating, or_conflict, index_by, empty, outcome, walked}
use Rattle.node_model.specs.Walk.{Steps, To, nowhere, under, in_list, reverse, At, walk, walk_all}
use Rattle.node_laws.specs.Laws.{TheFirstConflictStays}
use Rattle.node_laws.proofs.Likeness.{Likeness, Pairwise, Reach, Toward, AnswerAlike, lasts_here}
use Rattle.node_laws.proofs.Alike.{walk_beside}
use Rattle.node_laws.proofs.Idle.{idle, idle_place, idle_items}

module _ (c : Conflict) where
  abbrev conflicting : Likeness State (List ℕ) Tree ⊤ ⊤ ⊤
  conflicting = record { states = λ s t. s.conflict ≡ Some c; names = λ s n m. ⊤; properties = λ s n m. ⊤; entries = λ s e f. ⊤ }

  reach : (s r : State) → r.conflict ≡ Some c → Reach conflicting s r tt
  reach s r is = record { states = is; lasts = record { names = λ n m is. is; properties = λ n m is. is; entries = λ e f is. is } }

  index_keeps : (o : Option (List ℕ)) (g id index : List ℕ) (s : State) → s.conflict ≡ Some c → (index_by o g id index s).conflict ≡ Some c
  index_keeps None g id index s is = is
  index_keeps (Some first) g id index s is = by_test (bytes_eq first index) s _ is (ap (λ o. or_conflict o (record { node = id; first = first; second = index })) is)
    where
      by_test : (b : Bool) (r u : State) → r.conflict ≡ Some c → u.conflict ≡ Some c → (if b then r else u).conflict ≡ Some c
      by_test true r u is other = is
      by_test false r u is other = other

  steps_keep : AnswerAlike conflicting generating idle
  steps_keep = record {
    named = λ x s t is. (reach s _ is, tt, λ apart. tt);
    node = λ g h id s t graph is. (reach s _ is, tt);
    property = λ g h n m x s t apart graph id is. (reach s _ is, tt);
    graph = λ g h s t graph is. reach s _ is;
    value = λ ms s is. tt;
    reference = λ n m s is. tt;
    list = λ es fs s is. tt;
    add = λ g h n m p q e f s t graph id property entry is. reach s _ is;
    append = λ g h n m p q es fs s t graph id property entries is. reach s _ is;
    type_ = λ g h n m x y s t graph id name is. reach s _ is;
    index = λ g h n m x s t graph id is. reach s _ (index_keeps _ g n x s is);
  }

  to_same_place : (s : State) (to : To (List ℕ)) → Toward conflicting s to (idle_place to)
  to_same_place s nowhere = tt
  to_same_place s (under n p) = (tt, tt)
  to_same_place s in_list = tt
  to_same_place s (reverse n p) = (tt, tt)

  any_items : (es : List Tree) → Pairwise (λ e f. ⊤) es (idle_items es)
  any_items [] = tt
  any_items (e ∷ es) = (tt, any_items es)

  -- In the middle of a document too.
  pub conflict_stays : (g : List ℕ) (to : To (List ℕ)) (t : Tree) (w : At State Tree) → w.state.conflict ≡ Some c → (walk generating g to t w).state.conflict ≡ Some c
  conflict_stays g to t w is =
      (walk_beside conflicting generating idle steps_keep g tt to (idle_place to) t w.state w (record { state = tt; items = idle_items w.items }) tt (to_same_place w.state to)
      (record { states = is; gathered = any_items w.items; lasts = lasts_here conflicting w.state })).states

  pub conflict_stays_in_all : (g : List ℕ) (to : To (List ℕ)) (ts : Trees) (w : At State Tree) → w.state.conflict ≡ Some c → (walk_all generating g to ts w).state.conflict ≡ Some c
  conflict_stays_in_all g to ts w is = conflict_stays g to (array ts) w is

-- The items of two lists, one list after the other.
pub walk_all-append : {S N E : Type 0} (p : Steps S N E) (g : N) (to : To N) (ts us : List Tree) (w : At S E) → walk_all p g to (trees_of (ts ++ us)) w ≡ walk_all p g to (trees_of us) (walk_all p g to (trees_of ts) w)
walk_all-append p g to [] us w = refl
walk_all-append p g to (t ∷ ts) us w = walk_all-append p g to ts us (walk p g to t w)

pub conflict_of : (o : Option Conflict) (s : State) (c : Conflict) → outcome o s ≡ Err c → o ≡ Some c
conflict_of (Some d) s c is = cc
conflict_of None s c is = absurd (cc)

pub the_first_conflict_stays : TheFirstConflictStays
the_first_conflict_stays ts us c is =
    let first = conflict_of (walked ts).conflict (walked ts) c is in
    let begun : At State Tree = walk_all generating default_graph nowhere (trees_of ts) (record { state = empty; items = [] }) in
    ap (λ (w : At State Tree). outcome w.state.conflict w.state) (walk_all-append generating default_graph nowhere ts us (record { state = empty; items = [] }))
    ∙ ap (λ o. outcome o (walk_all generating default_graph nowhere (trees_of us) begun).state) (conflict_stays_in_all c default_graph nowhere (trees_of us) begun first)
