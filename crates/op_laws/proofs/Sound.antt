-- What is noted on the way through a document has the form of operations.
use Rattle.std.proofs.Common.{◌≡◌, ℕ, List, [], ◌∷◌, ◌++◌, Bool, true, false, if◌then◌else◌, Option, Some, None, refl}
use Rattle.std.specs.Prelude.{⊤}
use Rattle.std.specs.List.{AllByRecursion}
use Rattle.ld_model.specs.Tree.{trees_of}
use Rattle.ld_model.specs.Label.{is_blank}
use Rattle.ctx_types.specs.Expansion.{is_keyword}
use Rattle.node_model.specs.Walk.{To, nowhere, under, in_list, reverse}
use Rattle.node_laws.proofs.Likeness.{Likeness, Pairwise, Reach, Toward, AnswerAlike, lasts_here}
use Rattle.node_laws.proofs.Alike.{all_beside}
use Rattle.node_laws.proofs.Idle.{idle, idle_place}
use Rattle.op_model.specs.Names.{Name, iri, source, name_of}
use Rattle.op_model.specs.Ops.{Entry, entries_of, Op, use_label, ensure_graph, ensure_node, ensure_property, add_entry, append_list, add_type, set_index}
use Rattle.op_model.specs.Noting.{Notes, note, noting, no_notes, place_of_items}
use Rattle.op_laws.specs.Sound.{IsSoundName, IsSoundProperty, IsSoundEntry, AreSoundEntries, IsSound, IsSoundPlace}
use Rattle.op_laws.specs.Laws.{OperationsAreSound}

abbrev sound : Likeness Notes Name Entry ⊤ ⊤ ⊤
sound = record { states = λ n t. AllByRecursion IsSound n.ops; names = λ n name t. IsSoundName name; properties = λ n p t. IsSoundProperty p; entries = λ n e t. IsSoundEntry e }

one_more : (os : List Op) (o : Op) → AllByRecursion IsSound os → IsSound o → AllByRecursion IsSound (os ++ o ∷ [])
one_more [] o all last = (last, tt)
one_more (x ∷ os) o all last = (all.0, one_more os o all.1 last)

reach : (n m : Notes) → AllByRecursion IsSound m.ops → Reach sound n m tt
reach n m all = record { states = all; lasts = record { names = λ x t is. is; properties = λ x t is. is; entries = λ e t is. is } }

noted : (o : Op) (n : Notes) → AllByRecursion IsSound n.ops → IsSound o → Reach sound n (note o n) tt
noted o n all is = reach n (note o n) (one_more n.ops o all is)

sound_name : (x : List ℕ) → IsSoundName (name_of x)
sound_name x = by_form (is_blank x) refl
  where
    by_form : (b : Bool) → is_blank x ≡ b → IsSoundName (if b then source x else iri x)
    by_form true is = tt
    by_form false is = is

sound_property : (x : List ℕ) → is_keyword x ≡ false → IsSoundProperty (name_of x)
sound_property x apart = by_form (is_blank x) refl
  where
    by_form : (b : Bool) → is_blank x ≡ b → IsSoundProperty (if b then source x else iri x)
    by_form true is = tt
    by_form false is = (is, apart)

named_sound : (x : List ℕ) (n : Notes) → AllByRecursion IsSound n.ops → Reach sound n (noting.named x n).1 tt
named_sound x n all = by_form (is_blank x)
  where
    by_form : (b : Bool) → Reach sound n (if b then note (use_label (source x)) n else n) tt
    by_form true = noted (use_label (source x)) n all tt
    by_form false = reach n n all

node_sound : (g : Name) (id : Option (List ℕ)) (n : Notes) → IsSoundName g → AllByRecursion IsSound n.ops → Reach sound n (noting.node g id n).1 tt × IsSoundName (noting.node g id n).0
node_sound g (Some x) n graph all = (noted (ensure_node g (name_of x)) n all (graph, sound_name x), sound_name x)
node_sound g None n graph all = (reach n (noting.node g None n).1 (one_more n.ops _ all (graph, tt)), tt)

items_sound : (es : List Entry) (fs : List ⊤) → Pairwise (λ e f. IsSoundEntry e) es fs → AreSoundEntries (entries_of es)
items_sound [] [] are = tt
items_sound (e ∷ es) (f ∷ fs) are = (are.0, items_sound es fs are.1)
items_sound [] (f ∷ fs) are = absurd are
items_sound (e ∷ es) [] are = absurd are

steps_are_sound : AnswerAlike sound noting idle
steps_are_sound = record {
  named = λ x n t all. (named_sound x n all, sound_name x, sound_property x);
  node = λ g h id n t graph all. node_sound g id n graph all;
  property = λ g h id s x n t apart graph node all. (noted (ensure_property g id (name_of x)) n all (graph, node, sound_property x apart), sound_property x apart);
  graph = λ g h n t graph all. noted (ensure_graph g) n all graph;
  value = λ ms n is_value. is_value;
  reference = λ id s n node. node;
  list = λ es fs n are. items_sound es fs are;
  add = λ g h id s p q e f n t graph node property item all. noted (add_entry g id p e) n all (graph, node, property, item);
  append = λ g h id s p q es fs n t graph node property are all. noted (append_list g id p (entries_of es)) n all (graph, node, property, items_sound es fs are);
  type_ = λ g h id s x y n t graph node type all. noted (add_type g id x) n all (graph, node, type);
  index = λ g h id s x n t graph node all. noted (set_index g id x) n all (graph, node);
}

same_place : (number : ℕ) (to : To Name) → IsSoundPlace to → Toward sound (no_notes number) to (idle_place to)
same_place number nowhere is = tt
same_place number (under n p) is = is
same_place number in_list is = tt
same_place number (reverse n p) is = is

pub operations_are_sound : OperationsAreSound
operations_are_sound number items graph subject property reversed is_graph is_place =
    let to = place_of_items subject property reversed in
    (all_beside sound noting idle steps_are_sound graph tt to (idle_place to) (trees_of items) (no_notes number) (record { state = no_notes number; items = [] }) (record { state = tt; items = [] }) is_graph (same_place number to is_place)
    (record { states = tt; gathered = tt; lasts = lasts_here sound (no_notes number) })).states
