-- Labels are numbered by the uses of the document.
use Rattle.std.proofs.Common.{◌≡◌, ℕ, zero, suc, ◌+◌, List, [], ◌∷◌, ◌++◌, length, Bool, true, false, if◌then◌else◌, ◌||◌, Option, Some, None, refl, sym, ap, ◌∙◌, subst}
use Rattle.std.specs.Prelude.{⊤, ◌↔◌}
use Rattle.std.specs.Str.{bytes_eq}
use Rattle.std.specs.List.{list_any, slice_get}
use Rattle.std.proofs.lemmas.List.{length-append}
use Rattle.ld_model.specs.Tree.{Tree, trees_of}
use Rattle.ld_model.specs.Keys.{default_graph}
use Rattle.ld_model.specs.Label.{is_blank}
use Rattle.ld_model.proofs.Puts.{bytes_eq-refl, bytes_eq-exact}
use Rattle.node_model.specs.Maps.{at, with_at}
use Rattle.node_model.specs.Labels.{Labels, no_labels, new_label, label_by, label_for, named, id_or_new}
use Rattle.node_model.specs.Generating.{State, generating, index_by, Generated, empty, walked}
use Rattle.node_model.specs.Walk.{nowhere}
use Rattle.node_laws.specs.Uses.{Use, of_label, of_node, is_of_label, with_name, with_node_use, using, uses_in, AreNumbered}
use Rattle.node_laws.specs.Laws.{LabelsAreIssuedInOrder}
use Rattle.node_laws.proofs.DueForm.{given}
use Rattle.node_laws.proofs.Maps.{at-with_at, at-with_at_other}
use Rattle.node_laws.proofs.Likeness.{Likeness, Reach, AnswerAlike, lasts_here}
use Rattle.node_laws.proofs.Alike.{all_beside}

-- Places in a list with one more at its end.
module _ {X : Type 0} where
  place_stays : (xs : List X) (x y : X) (n : ℕ) → slice_get xs n ≡ Some y → slice_get (xs ++ x ∷ []) n ≡ Some y
  place_stays [] x y n is = absurd (cc)
  place_stays (z ∷ xs) x y zero is = is
  place_stays (z ∷ xs) x y (suc n) is = place_stays xs x y n is

  last_place : (xs : List X) (x : X) → slice_get (xs ++ x ∷ []) (length xs) ≡ Some x
  last_place [] x = refl
  last_place (z ∷ xs) x = last_place xs x

  -- What is found there was there, or is the last.
  data Found (xs : List X) (x y : X) (n : ℕ) : Type 0 where
    before : slice_get xs n ≡ Some y → Found xs x y n
    last : n ≡ length xs → x ≡ y → Found xs x y n

  found_later : (z : X) (xs : List X) (x y : X) (n : ℕ) → Found xs x y n → Found (z ∷ xs) x y (suc n)
  found_later z xs x y n (before is) = before is
  found_later z xs x y n (last place is) = last (ap suc place) is

  found : (xs : List X) (x y : X) (n : ℕ) → slice_get (xs ++ x ∷ []) n ≡ Some y → Found xs x y n
  found [] x y zero is = last refl (cc)
  found [] x y (suc n) is = absurd (cc)
  found (z ∷ xs) x y zero is = before is
  found (z ∷ xs) x y (suc n) is = found_later z xs x y n (found xs x y n is)

one_longer : (uses : List Use) (u : Use) → length (uses ++ u ∷ []) ≡ length uses + 1
one_longer uses u = length-append uses (u ∷ [])

-- A label that is used has its place, and one that has a place is used.
place_of : (s : List ℕ) (uses : List Use) → list_any (is_of_label s) uses ≡ true → (n : ℕ) × (slice_get uses n ≡ Some (of_label s))
place_of s [] used = absurd (cc)
place_of s (of_label r ∷ uses) used = by_test (bytes_eq s r) refl used (place_of s uses)
  where
    by_test : (b : Bool) → bytes_eq s r ≡ b → (bytes_eq s r || list_any (is_of_label s) uses) ≡ true → (list_any (is_of_label s) uses ≡ true → (n : ℕ) × (slice_get uses n ≡ Some (of_label s))) → (n : ℕ) × (slice_get (of_label r ∷ uses) n ≡ Some (of_label s))
    by_test true same used rest = (0, ap (λ x. Some (of_label x)) (sym (bytes_eq-exact s r same)))
    by_test false apart used rest =
        let later = rest (sym (ap (λ b. b || list_any (is_of_label s) uses) apart) ∙ used) in
        (suc later.0, later.1)
place_of s (of_node ∷ uses) used = let later = place_of s uses used in (suc later.0, later.1)

has_place : (s : List ℕ) (uses : List Use) (n : ℕ) → slice_get uses n ≡ Some (of_label s) → list_any (is_of_label s) uses ≡ true
has_place s [] n is = absurd (cc)
has_place s (u ∷ uses) zero is = let same : u ≡ of_label s = cc in ap (λ u. is_of_label s u || list_any (is_of_label s) uses) same ∙ ap (λ b. b || list_any (is_of_label s) uses) (bytes_eq-refl s)
has_place s (u ∷ uses) (suc n) is = either (is_of_label s u) (has_place s uses n is)
  where
    either : (b : Bool) → list_any (is_of_label s) uses ≡ true → (b || list_any (is_of_label s) uses) ≡ true
    either true rest = refl
    either false rest = rest

-- One more of either kind.
one_node_more : (uses : List Use) (l : Labels) → AreNumbered uses l → AreNumbered (uses ++ of_node ∷ []) (new_label l).1
one_node_more uses l is = record {
  count = ap (λ n. n + 1) is.count ∙ sym (one_longer uses of_node);
  number = λ s n. (λ given. place_stays uses of_node (of_label s) n ((is.number s n).0 given), λ place. was s n (found uses of_node (of_label s) n place));
}
  where
    was : (s : List ℕ) (n : ℕ) → Found uses of_node (of_label s) n → at s l.given ≡ Some n
    was s n (before place) = (is.number s n).1 place
    was s n (last place never) = absurd (cc)

one_label_more : (s : List ℕ) (uses : List Use) (l : Labels) → at s l.given ≡ None → AreNumbered uses l → AreNumbered (uses ++ of_label s ∷ []) (record { issued = l.issued + 1; given = with_at s l.issued l.given })
one_label_more s uses l new is = record {
  count = ap (λ n. n + 1) is.count ∙ sym (one_longer uses (of_label s));
  number = λ r n. by_label r n (bytes_eq r s) refl;
}
  where
    was : (r : List ℕ) (n : ℕ) → bytes_eq r s ≡ false → Found uses (of_label s) (of_label r) n → at r l.given ≡ Some n
    was r n apart (before place) = (is.number r n).1 place
    was r n apart (last place same) = absurd (let e : s ≡ r = cc in let there : bytes_eq r s ≡ true = ap (bytes_eq r) e ∙ bytes_eq-refl r in let no_way : true ≡ false = sym there ∙ apart in cc)

    here : (n : ℕ) → Found uses (of_label s) (of_label s) n → l.issued ≡ n
    here n (before place) = absurd (let given = (is.number s n).1 place in let no_way : None ≡ Some n = sym new ∙ given in cc)
    here n (last place same) = is.count ∙ sym place

    by_label : (r : List ℕ) (n : ℕ) (b : Bool) → bytes_eq r s ≡ b → (at r (with_at s l.issued l.given) ≡ Some n) ↔ (slice_get (uses ++ of_label s ∷ []) n ≡ Some (of_label r))
    by_label r n true same =
        let e : r ≡ s = bytes_eq-exact r s same in
        subst (λ x. (at x (with_at s l.issued l.given) ≡ Some n) ↔ (slice_get (uses ++ of_label s ∷ []) n ≡ Some (of_label x))) (sym e) (
          (λ given. let number : l.issued ≡ n = let both : Some l.issued ≡ Some n = sym (at-with_at s l.issued l.given) ∙ given in cc in
              ap (slice_get (uses ++ of_label s ∷ [])) (sym number ∙ is.count) ∙ last_place uses (of_label s)),
          (λ place. at-with_at s l.issued l.given ∙ ap Some (here n (found uses (of_label s) (of_label s) n place))),
        )
    by_label r n false apart = (
      (λ given. place_stays uses (of_label s) (of_label r) n ((is.number r n).0 (sym (at-with_at_other r s l.issued l.given apart) ∙ given))),
      (λ place. at-with_at_other r s l.issued l.given apart ∙ was r n apart (found uses (of_label s) (of_label r) n place)),
    )

label_noted : (s : List ℕ) (uses : List Use) (l : Labels) → AreNumbered uses l → AreNumbered (if list_any (is_of_label s) uses then uses else (uses ++ of_label s ∷ [])) (label_for s l).1
label_noted s uses l is = by_given (at s l.given) refl (list_any (is_of_label s) uses) refl
  where
    by_given : (o : Option ℕ) → at s l.given ≡ o → (b : Bool) → list_any (is_of_label s) uses ≡ b → AreNumbered (if b then uses else (uses ++ of_label s ∷ [])) (label_by o s l).1
    by_given (Some n) given true used = is
    by_given (Some n) given false unused = absurd (let no_way : true ≡ false = sym (has_place s uses n ((is.number s n).0 given)) ∙ unused in cc)
    by_given None new true used = absurd (let place = place_of s uses used in let given = (is.number s place.0).1 place.1 in let no_way : None ≡ Some place.0 = sym new ∙ given in cc)
    by_given None new false unused = one_label_more s uses l new is

pub name_noted : (s : List ℕ) (uses : List Use) (l : Labels) → AreNumbered uses l → AreNumbered (with_name s uses) (named s l).1
name_noted s uses l is = by_form (is_blank s)
  where
    by_form : (b : Bool) → AreNumbered (if b then (if list_any (is_of_label s) uses then uses else (uses ++ of_label s ∷ [])) else uses) (if b then label_for s l else (s, l)).1
    by_form true = label_noted s uses l is
    by_form false = is

pub node_noted : (id : Option (List ℕ)) (uses : List Use) (l : Labels) → AreNumbered uses l → AreNumbered (with_node_use id uses) (id_or_new id l).1
node_noted (Some s) uses l is = name_noted s uses l is
node_noted None uses l is = one_node_more uses l is

abbrev noted : Likeness State (List ℕ) Tree (List Use) ⊤ ⊤
noted = record { states = λ s uses. AreNumbered uses s.labels; names = λ s n m. ⊤; properties = λ s n m. ⊤; entries = λ s e f. ⊤ }

reach : (s r : State) (uses : List Use) → AreNumbered uses r.labels → Reach noted s r uses
reach s r uses is = record { states = is; lasts = record { names = λ n m is. is; properties = λ n m is. is; entries = λ e f is. is } }

-- An index issues no label.
index_keeps : (o : Option (List ℕ)) (g id index : List ℕ) (s : State) (uses : List Use) → AreNumbered uses s.labels → AreNumbered uses (index_by o g id index s).labels
index_keeps None g id index s uses is = is
index_keeps (Some first) g id index s uses is = by_test (bytes_eq first index) s _ is is
  where
    by_test : (b : Bool) (r u : State) → AreNumbered uses r.labels → AreNumbered uses u.labels → AreNumbered uses (if b then r else u).labels
    by_test true r u is other = is
    by_test false r u is other = other

steps_note : AnswerAlike noted generating using
steps_note = record {
  named = λ x s uses is. (reach s _ _ (name_noted x uses s.labels is), tt, λ apart. tt);
  node = λ g h id s uses graph is. (reach s _ _ (node_noted id uses s.labels is), tt);
  property = λ g h n m x s uses apart graph id is. (reach s _ _ (name_noted x uses s.labels is), tt);
  graph = λ g h s uses graph is. reach s _ _ is;
  value = λ ms s is. tt;
  reference = λ n m s is. tt;
  list = λ es fs s is. tt;
  add = λ g h n m p q e f s uses graph id property entry is. reach s _ _ is;
  append = λ g h n m p q es fs s uses graph id property entries is. reach s _ _ is;
  type_ = λ g h n m x y s uses graph id name is. reach s _ _ is;
  index = λ g h n m x s uses graph id is. reach s _ _ (index_keeps _ g n x s uses is);
}

none_noted : AreNumbered [] no_labels
none_noted = record { count = refl; number = λ s n. ((λ given. absurd (cc)), (λ place. absurd (cc))) }

labels_numbered : (ts : List Tree) → AreNumbered (uses_in ts) (walked ts).labels
labels_numbered ts =
    (all_beside noted generating using steps_note default_graph tt nowhere nowhere (trees_of ts) empty (record { state = empty; items = [] }) (record { state = []; items = [] }) tt tt
    (record { states = none_noted; gathered = tt; lasts = lasts_here noted empty })).states

pub labels_are_issued_in_order : LabelsAreIssuedInOrder
labels_are_issued_in_order ts =
    let is = labels_numbered ts in
    (is, λ m given_is. ap (λ (m : Generated). m.issued) (sym (given (walked ts).conflict (walked ts) m given_is)) ∙ is.count)
