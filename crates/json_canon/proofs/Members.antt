-- The members of an object as `write_tree` meets them.
use Rattle.std.proofs.Common.{◌≡◌, ℕ, zero, suc, Bool, true, false, ◌<◌, List, [], ◌∷◌, ◌++◌, ◌≤◌, length, get_or, drop, OnOk, Result, refl, ap, ◌∙◌, sym, subst, arith, map, cond, IsUtf8}
use Rattle.std.specs.Borrow.{Bor}
use Rattle.std.specs.List.{AllByRecursion, Contains, IsDistinct}
use Rattle.std.specs.List.Sorted.{IsPermutation, IsSortedBy, IsStrictlySortedBy}
use Rattle.std.specs.Map.{keys_of}
use Rattle.std.specs.Ordering.{eq_by_cmp}
use Rattle.std.proofs.lemmas.Cmp.{eq_by_cmp_equiv}
use Rattle.std.proofs.lemmas.List.{drop_all}
use Rattle.std.proofs.lemmas.Map.Keys.{IsDistinct-from_sorted, IsDistinct-IsPermutation}
use Rattle.std.proofs.lemmas.List.Sorted.{IsPermutation-sym, IsPermutation-map, Contains-permutation}
use Rattle.std.proofs.lemmas.Result.{on_ok_weaker}
use Rattle.json.specs.Token.{Token}
use Rattle.json.specs.Tree.{json_tokens, members_tokens}
use Rattle.ld_model.specs.Tree as model
use Rattle.ld_model.specs.Tree.{weight, members_weight, members_of, object, byte_order, AreAscending}
use Rattle.ld_tree.specs.declared.value.Tree.{Tree}
use Rattle.ld_tree.specs.View.{view}
use Rattle.json_canon.specs.Utf16.{utf16_order, comes_before}
use Rattle.ld_json.specs.Written.{json_of, json_members}
use Rattle.json_canon.specs.Canonical.{placed, in_order, with_members_in_order, values_in_order}
use Rattle.json_canon.specs.Lent.{lent}
use Rattle.json_canon.proofs.OrderLemmas.{utf16_order_total}
use Rattle.json_canon.proofs.Sorting.{AreInOrder, IsPermutation-in_order, in_order-AreInOrder, in_order_from_sorted, distinct_units, same_members}

-- A borrowed member as it is written.
abbrev pub written : Bor (List ℕ) × Bor Tree → List ℕ × model.Tree
written m = (m.0.now, with_members_in_order (view m.1.now))

-- Sorting looks at names alone.
module _ {X Y : Type 0} (f : X → Y) where
  abbrev on_value : List ℕ × X → List ℕ × Y
  on_value m = (m.0, f m.1)

  map-placed : (m : List ℕ × X) (ms : List (List ℕ × X)) → map on_value (placed m ms) ≡ placed (on_value m) (map on_value ms)
  map-placed m [] = refl
  map-placed m (n ∷ ms) =
      map-cond (comes_before n.0 m.0) ∙ ap (λ l. cond (comes_before n.0 m.0) (on_value n ∷ l) (on_value m ∷ on_value n ∷ map on_value ms)) (map-placed m ms)
    where
      map-cond : (b : Bool) → map on_value (cond b (n ∷ placed m ms) (m ∷ n ∷ ms)) ≡ cond b (on_value n ∷ map on_value (placed m ms)) (on_value m ∷ on_value n ∷ map on_value ms)
      map-cond true = refl
      map-cond false = refl

  pub map-in_order : (ms : List (List ℕ × X)) → map on_value (in_order ms) ≡ in_order (map on_value ms)
  map-in_order [] = refl
  map-in_order (m ∷ ms) = map-placed m (in_order ms) ∙ ap (placed (on_value m)) (map-in_order ms)

-- The members in order, each as it is written.
written_as : (ms : List (Bor (List ℕ) × Bor Tree)) → map written ms ≡ map (on_value with_members_in_order) (map lent ms)
written_as [] = refl
written_as (m ∷ ms) = ap (λ l. written m ∷ l) (written_as ms)

values_in_order-members_of : (ps : model.Pairs) → values_in_order (members_of ps) ≡ map (on_value with_members_in_order) ps
values_in_order-members_of [] = refl
values_in_order-members_of (p ∷ ps) = ap (λ l. (p.0, with_members_in_order p.1) ∷ l) (values_in_order-members_of ps)

pub written_in_order : (ms : List (Bor (List ℕ) × Bor Tree)) (ps : model.Pairs) → map lent ms ≡ in_order ps → map written ms ≡ in_order (values_in_order (members_of ps))
written_in_order ms ps sorted =
    written_as ms ∙ ap (map (on_value with_members_in_order)) sorted ∙ map-in_order with_members_in_order ps ∙ ap in_order (sym (values_in_order-members_of ps))

-- A borrowed member is lighter than the object.
member_within : (ps : model.Pairs) (i : ℕ) (m : List ℕ × model.Tree) → i < length ps → m ≡ get_or ps i m → weight m.1 ≤ members_weight (members_of ps)
member_within [] i m within at = absurd (omega arith)
member_within (p ∷ ps) zero m within at = rw at (omega arith)
member_within (p ∷ ps) (suc i) m within at = omega (arith, member_within ps i m (omega arith) at)

contains_lent : (ms : List (Bor (List ℕ) × Bor Tree)) (i : ℕ) (m : Bor (List ℕ) × Bor Tree) → i < length ms → m ≡ get_or ms i m → Contains (map lent ms) (lent m)
contains_lent [] i m within at = absurd (omega arith)
contains_lent (n ∷ ms) zero m within at = (0, omega arith, ap lent (sym at))
contains_lent (n ∷ ms) (suc i) m within at =
    let rest = contains_lent ms i m (omega arith) at in
    (suc rest.0, omega arith, rest.2)

pub borrowed_is_lighter : (self : Tree) (members : model.Pairs) (ps : model.Pairs) (ms : List (Bor (List ℕ) × Bor Tree)) (i : ℕ) (m : Bor (List ℕ) × Bor Tree) → view self ≡ object (members_of members) → ps ≡ members → map lent ms ≡ in_order ps → i < length ms → m ≡ get_or ms i m → weight (view m.1.now) < weight (view self)
borrowed_is_lighter self members ps ms i m is same sorted within at =
    let in_list : Contains (in_order ps) (lent m) = subst (λ l. Contains l (lent m)) sorted (contains_lent ms i m within at) in
    let found = Contains-permutation (in_order ps) ps (lent m) (IsPermutation-sym _ _ (IsPermutation-in_order ps)) in_list in
    let light = member_within ps found.0 (lent m) found.1 (sym found.2) in
    rw (is, ← same) (omega arith)

all_names : (ps : model.Pairs) → AllByRecursion (λ m. IsUtf8 m.0) ps → AllByRecursion IsUtf8 (keys_of ps)
all_names [] all = tt
all_names (p ∷ ps) all = (all.0, all_names ps all.1)

names-lent : (ms : List (Bor (List ℕ) × Bor Tree)) → map (λ m. m.0.now) ms ≡ keys_of (map lent ms)
names-lent [] = refl
names-lent (m ∷ ms) = ap (λ l. m.0.now ∷ l) (names-lent ms)

-- The text of one more name.
pub names_more : (ms : List (Bor (List ℕ) × Bor Tree)) (m : Bor (List ℕ) × Bor Tree) → AllByRecursion (λ m. IsUtf8 m.0) (map lent ms) → IsUtf8 m.0.now → AllByRecursion (λ m. IsUtf8 m.0) (map lent (ms ++ m ∷ []))
names_more [] m all here = (here, tt)
names_more (n ∷ ms) m all here = (all.0, names_more ms m all.1 here)

-- The borrowed members, once they are sorted.
pub sorted_lent : (ms sorted : List (Bor (List ℕ) × Bor Tree)) (ps : model.Pairs) → map lent ms ≡ ps → AllByRecursion (λ m. IsUtf8 m.0) (map lent ms) → AreAscending ps → IsPermutation ms sorted → IsSortedBy (λ x y. comes_before x.0.now y.0.now) sorted → map lent sorted ≡ in_order ps
sorted_lent ms sorted ps same texts ascending moved in_sort =
    let moved_ps : IsPermutation ps (map lent sorted) = subst (λ l. IsPermutation l (map lent sorted)) same (IsPermutation-map lent ms sorted moved) in
    let utf8 : AllByRecursion IsUtf8 (keys_of ps) = all_names ps (subst (AllByRecursion (λ m. IsUtf8 m.0)) same texts) in
    let distinct : IsDistinct (eq_by_cmp utf16_order) (keys_of ps) = distinct_units (keys_of ps) utf8 (IsDistinct-from_sorted byte_order (keys_of ps) ascending) in
    let still_distinct : IsDistinct (eq_by_cmp utf16_order) (keys_of (map lent sorted)) = IsDistinct-IsPermutation _ (eq_by_cmp_equiv utf16_order_total).symm (keys_of ps) (keys_of (map lent sorted)) (IsPermutation-map (λ (m : List ℕ × model.Tree). m.0) ps (map lent sorted) moved_ps) distinct in
    let ordered : AreInOrder (map lent sorted) = subst (IsStrictlySortedBy utf16_order) (names-lent sorted) (in_order_from_sorted (λ (m : Bor (List ℕ) × Bor Tree). m.0.now) sorted in_sort (subst (IsDistinct (eq_by_cmp utf16_order)) (sym (names-lent sorted)) still_distinct)) in
    same_members utf16_order_total (map lent sorted) (in_order ps) ordered (in_order-AreInOrder ps distinct) (λ m h. Contains-permutation ps (in_order ps) m (IsPermutation-in_order ps) (Contains-permutation (map lent sorted) ps m (IsPermutation-sym _ _ moved_ps) h)) (λ m h. Contains-permutation ps (map lent sorted) m moved_ps (Contains-permutation (in_order ps) ps m (IsPermutation-sym _ _ (IsPermutation-in_order ps)) h))

-- What is written once the borrowed members are.
pub object_written : {E : Type 0} (r : Result (Unit {0}) E) (self : Tree) (members : model.Pairs) (ps : model.Pairs) (ms : List (Bor (List ℕ) × Bor Tree)) (i : ℕ) (old new out : List Token) → view self ≡ object (members_of members) → ps ≡ members → map lent ms ≡ in_order ps → length ms ≤ i → out ++ members_tokens (json_members (members_of (map written (drop i ms)))) ≡ old ++ Token.begin_object ∷ members_tokens (json_members (members_of (map written ms))) → OnOk r (new ≡ out ++ Token.end_object ∷ []) → OnOk r (new ≡ old ++ json_tokens (json_of (with_members_in_order (view self))))
object_written r self members ps ms i old new out is same sorted past done ended =
    let none : drop i ms ≡ [] = drop_all i ms past in
    let ready : out ++ Token.end_object ∷ [] ≡ old ++ Token.begin_object ∷ members_tokens (json_members (members_of (in_order (values_in_order (members_of members))))) = rw (← same, ← written_in_order ms ps sorted) (rw none at done) in
    on_ok_weaker r (λ e. rw is (e ∙ ready)) ended
