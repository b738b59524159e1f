-- What a map has left once keywords were taken out of it.
use Rattle.std.proofs.Common.{◌≡◌, ℕ, ◌+◌, ◌≤◌, arith, List, [], ◌∷◌, Bool, true, false, cond, Option, Some, None, refl, sym, ap, ◌∙◌, subst}
use Rattle.std.specs.Prelude.{not, ◌||◌}
use Rattle.std.specs.Str.{bytes_eq}
use Rattle.std.specs.List.{list_any}
use Rattle.std.specs.Map.{set_value}
use Rattle.std.specs.BTreeMap.{is_at}
use Rattle.std.proofs.lemmas.Map.Text.{is_eq-slice_cmp}
use Rattle.ld_model.specs.Tree.{Tree, null, truth, whole, one_one, text, array, object, Pairs, members_of, member_at, byte_order, weight, members_weight}
use Rattle.ld_model.proofs.Puts.{bytes_eq-exact, at_first, at_later}
use Rattle.ctx_types.specs.Expansion.{is_keyword}
use Rattle.node_walk.specs.Found.{IsLeft, found_weight, members_in, properties_in}

-- The members with null at this key, if it is there.
abbrev pub without : List ℕ → Pairs → Pairs
without key ms = set_value (is_at (byte_order key)) ms null

weighs_some : (t : Tree) → 1 ≤ weight t
weighs_some null = omega arith
weighs_some (truth b) = omega arith
weighs_some (whole n) = omega arith
weighs_some one_one = omega arith
weighs_some (text s) = omega arith
weighs_some (array ts) = omega arith
weighs_some (object ms) = omega arith

-- What a key has is no heavier than the whole.
pub found_weighs : (key : List ℕ) (ms : Pairs) → found_weight (member_at key ms) ≤ members_weight (members_of ms)
found_weighs key [] = omega arith
found_weighs key (m ∷ ms) = by_test (bytes_eq key m.0) refl (found_weighs key ms)
  where
    by_test : (b : Bool) → bytes_eq key m.0 ≡ b → found_weight (member_at key ms) ≤ members_weight (members_of ms) → found_weight (member_at key (m ∷ ms)) ≤ weight m.1 + members_weight (members_of ms)
    by_test true is rest = rw (at_first key m ms is) (omega arith)
    by_test false is rest = rw (at_later key m ms is) (omega arith)

pub members_weigh : (found : Option Tree) → members_weight (members_in found) ≤ found_weight found
members_weigh None = omega arith
members_weigh (Some null) = omega arith
members_weigh (Some (truth b)) = omega arith
members_weigh (Some (whole n)) = omega arith
members_weigh (Some one_one) = omega arith
members_weigh (Some (text s)) = omega arith
members_weigh (Some (array ts)) = omega arith
members_weigh (Some (object ms)) = omega arith

null_weighs : (key : List ℕ) (ms : Pairs) → members_weight (members_of (without key ms)) ≤ members_weight (members_of ms)
null_weighs key [] = omega arith
null_weighs key (m ∷ ms) = by_test (is_at (byte_order key) m.0) refl (null_weighs key ms)
  where
    by_test : (b : Bool) → is_at (byte_order key) m.0 ≡ b → members_weight (members_of (without key ms)) ≤ members_weight (members_of ms)
        → members_weight (members_of (without key (m ∷ ms))) ≤ weight m.1 + members_weight (members_of ms)
    by_test true is rest = let some = weighs_some m.1 in rw is (omega (arith, some))
    by_test false is rest = rw is (omega (arith, rest))

same_key : (key other : List ℕ) → is_at (byte_order key) other ≡ true → key ≡ other
same_key key other is = bytes_eq-exact key other (sym (is_eq-slice_cmp key other) ∙ is)

other_stays : (q key : List ℕ) (ms : Pairs) → bytes_eq q key ≡ false → member_at q (without key ms) ≡ member_at q ms
other_stays q key [] apart = refl
other_stays q key (m ∷ ms) apart = by_test (is_at (byte_order key) m.0) refl (bytes_eq q m.0) refl (other_stays q key ms apart)
  where
    by_test : (b : Bool) → is_at (byte_order key) m.0 ≡ b → (c : Bool) → bytes_eq q m.0 ≡ c → member_at q (without key ms) ≡ member_at q ms
        → member_at q (without key (m ∷ ms)) ≡ member_at q (m ∷ ms)
    by_test true is c found rest =
        let other : bytes_eq q m.0 ≡ false = subst (λ k. bytes_eq q k ≡ false) (same_key key m.0 is) apart in
        rw is (at_later q (m.0, null) ms other ∙ sym (at_later q m ms other))
    by_test false is true found rest = rw is (at_first q m _ found ∙ sym (at_first q m ms found))
    by_test false is false found rest = rw is (at_later q m _ found ∙ rest ∙ sym (at_later q m ms found))

properties_stay : (key : List ℕ) (ms : Pairs) → is_keyword key ≡ true → properties_in (without key ms) ≡ properties_in ms
properties_stay key [] keyword = refl
properties_stay key (m ∷ ms) keyword = by_test (is_at (byte_order key) m.0) refl (properties_stay key ms keyword)
  where
    by_test : (b : Bool) → is_at (byte_order key) m.0 ≡ b → properties_in (without key ms) ≡ properties_in ms → properties_in (without key (m ∷ ms)) ≡ properties_in (m ∷ ms)
    by_test true is rest =
        let word : is_keyword m.0 ≡ true = subst (λ k. is_keyword k ≡ true) (same_key key m.0 is) keyword in
        rw (is, word) refl
    by_test false is rest = rw is (ap (λ l. cond (not (is_keyword m.0)) (m ∷ l) l) rest)

pub nothing_taken : (ms : Pairs) → IsLeft [] ms ms
nothing_taken ms = record { others = λ q apart. refl; properties = refl; weighs = omega arith }

apart_first : (a b : Bool) → (a || b) ≡ false → a ≡ false
apart_first true b is = is
apart_first false b is = refl

apart_rest : (a b : Bool) → (a || b) ≡ false → b ≡ false
apart_rest true b is = absurd (cc)
apart_rest false b is = is

-- One keyword more is taken.
pub taken_too : (taken : List (List ℕ)) (key : List ℕ) (all left next : Pairs) → IsLeft taken all left → is_keyword key ≡ true → next ≡ without key left → IsLeft (key ∷ taken) all next
taken_too taken key all left next so keyword is = record {
  others = λ q apart.
      ap (member_at q) is
      ∙ other_stays q key left (apart_first (bytes_eq q key) (list_any (bytes_eq q) taken) apart)
      ∙ so.others q (apart_rest (bytes_eq q key) (list_any (bytes_eq q) taken) apart);
  properties = ap properties_in is ∙ properties_stay key left keyword ∙ so.properties;
  weighs = let fewer = null_weighs key left in let weighs = so.weighs in rw is (omega (arith, fewer, weighs));
}
