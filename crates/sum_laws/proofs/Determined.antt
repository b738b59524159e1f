-- What operations say determines their sum.
use Rattle.std.proofs.Common.{◌≡◌, List, [], ◌∷◌, Bool, true, false, cond, Some, refl, sym, ap, ◌∙◌, subst}
use Rattle.std.specs.List.{AllByRecursion, IsDistinct}
use Rattle.std.specs.Map.{lookup, keys_of}
use Rattle.std.proofs.lemmas.Map.Keys.{IsDistinct-head, IsDistinct-tail}
use Rattle.op_model.specs.Names.{same_name}
use Rattle.sum_model.specs.Joins.{or_empty, value_at}
use Rattle.sum_model.specs.Sums.{Placed, Key, same_key, same_entry, bare, Sum, sum}
use Rattle.sum_laws.specs.Said.{at_key, IsSaid, TheSumIsWhatIsSaid, NothingStandsTwice}
use Rattle.sum_laws.proofs.Lists.{IsExact}
use Rattle.sum_laws.proofs.Same.{same_name-exact, same_name-refl, same_key-exact, same_key-refl}
use Rattle.sum_laws.proofs.Once.{distinct-once}
use Rattle.sum_laws.proofs.Read.{graphs_are_said, nodes_are_said, types_are_said, properties_are_said, entries_are_said, indexes_are_said}

pub nothing_stands_twice : NothingStandsTwice
nothing_stands_twice os = record {
  graphs = subst (IsDistinct same_name) (sym (graphs_are_said os)) (distinct-once same_name _);
  nodes = subst (IsDistinct same_key) (sym (nodes_are_said os)) (distinct-once same_key _);
  types = λ k. subst (IsDistinct same_name) (sym (types_are_said os k)) (distinct-once same_name _);
  properties = λ k. subst (IsDistinct same_name) (sym (properties_are_said os k)) (distinct-once same_name _);
  entries = λ k p. subst (IsDistinct same_entry) (sym (entries_are_said os k p)) (distinct-once same_entry _);
}

module _ {K V : Type 0} (same : K → K → Bool) (exact : IsExact same) (itself : (k : K) → same k k ≡ true) (empty : V) where
  at_first : (e : K × V) (es : List (K × V)) (k : K) → same k e.0 ≡ true → value_at same empty k (e ∷ es) ≡ e.1
  at_first e es k is = ap (λ t. or_empty empty (cond t (Some e.1) (lookup (same k) es))) is

  at_later : (e : K × V) (es : List (K × V)) (k : K) → same k e.0 ≡ false → value_at same empty k (e ∷ es) ≡ value_at same empty k es
  at_later e es k is = ap (λ t. or_empty empty (cond t (Some e.1) (lookup (same k) es))) is

  at_none : (k : K) (es : List (K × V)) → AllByRecursion (λ x. same k x ≡ false) (keys_of es) → value_at same empty k es ≡ empty
  at_none k [] differ = refl
  at_none k (e ∷ es) differ = at_later e es k differ.0 ∙ at_none k es differ.1

  -- Behind two first entries with one key, each key has the same value as before.
  behind : (e f : K × V) (es fs : List (K × V)) → e.0 ≡ f.0 → AllByRecursion (λ x. same e.0 x ≡ false) (keys_of es) → AllByRecursion (λ x. same f.0 x ≡ false) (keys_of fs) → ((k : K) → value_at same empty k (e ∷ es) ≡ value_at same empty k (f ∷ fs)) → (k : K) → value_at same empty k es ≡ value_at same empty k fs
  behind e f es fs one_key e_differs f_differs values k = by_test (same k e.0) refl
    where
      by_test : (t : Bool) → same k e.0 ≡ t → value_at same empty k es ≡ value_at same empty k fs
      by_test true is =
          let here : e.0 ≡ k = sym (exact k e.0 is) in
          at_none k es (subst (λ y. AllByRecursion (λ x. same y x ≡ false) (keys_of es)) here e_differs)
          ∙ sym (at_none k fs (subst (λ y. AllByRecursion (λ x. same y x ≡ false) (keys_of fs)) (sym one_key ∙ here) f_differs))
      by_test false is =
          sym (at_later e es k is) ∙ values k ∙ at_later f fs k (ap (same k) (sym one_key) ∙ is)

  -- Maps with the same keys, each once, and the same value at each key are equal.
  pub same_maps : (a b : List (K × V)) → keys_of a ≡ keys_of b → IsDistinct same (keys_of a) → IsDistinct same (keys_of b) → ((k : K) → value_at same empty k a ≡ value_at same empty k b) → a ≡ b
  same_maps [] [] keys a_once b_once values = refl
  same_maps [] (f ∷ fs) keys a_once b_once values = absurd (cc)
  same_maps (e ∷ es) [] keys a_once b_once values = absurd (cc)
  same_maps (e ∷ es) (f ∷ fs) keys a_once b_once values =
      let one_key : e.0 ≡ f.0 = cc in
      let rest : keys_of es ≡ keys_of fs = cc in
      let value : e.1 ≡ f.1 = sym (at_first e es e.0 (itself e.0)) ∙ values e.0 ∙ at_first f fs e.0 (ap (same e.0) (sym one_key) ∙ itself e.0) in
      λ i. (one_key i, value i)
      ∷ same_maps es fs rest (IsDistinct-tail same e.0 (keys_of es) a_once) (IsDistinct-tail same f.0 (keys_of fs) b_once)
      (behind e f es fs one_key (IsDistinct-head same e.0 (keys_of es) a_once) (IsDistinct-head same f.0 (keys_of fs) b_once) values) i

pub sum_is_said : (os : List Placed) → IsSaid os (sum os)
sum_is_said os = record {
  graphs = graphs_are_said os;
  nodes = nodes_are_said os;
  types = types_are_said os;
  properties = properties_are_said os;
  entries = entries_are_said os;
  indexes = indexes_are_said os;
}

module _ (os : List Placed) (s t : Sum) (a : IsSaid os s) (b : IsSaid os t) where
  same_properties : (k : Key) → (at_key k s).properties ≡ (at_key k t).properties
  same_properties k =
      same_maps same_name same_name-exact same_name-refl [] (at_key k s).properties (at_key k t).properties
      (a.properties k ∙ sym (b.properties k))
      (subst (IsDistinct same_name) (sym (a.properties k)) (distinct-once same_name _))
      (subst (IsDistinct same_name) (sym (b.properties k)) (distinct-once same_name _))
      (λ p. a.entries k p ∙ sym (b.entries k p))

  same_at_key : (k : Key) → at_key k s ≡ at_key k t
  same_at_key k = λ i. record {
    types = (a.types k ∙ sym (b.types k)) i;
    index = (a.indexes k ∙ sym (b.indexes k)) i;
    properties = same_properties k i;
  }

  same_nodes : s.nodes ≡ t.nodes
  same_nodes =
      same_maps same_key same_key-exact same_key-refl bare s.nodes t.nodes
      (a.nodes ∙ sym b.nodes)
      (subst (IsDistinct same_key) (sym a.nodes) (distinct-once same_key _))
      (subst (IsDistinct same_key) (sym b.nodes) (distinct-once same_key _))
      same_at_key

  -- What is said leaves no choice.
  same_sums : s ≡ t
  same_sums = λ i. record { graphs = (a.graphs ∙ sym b.graphs) i; nodes = same_nodes i }

pub the_sum_is_what_is_said : TheSumIsWhatIsSaid
the_sum_is_what_is_said os s = (λ is. same_sums os s (sum os) is (sum_is_said os), λ is. subst (IsSaid os) (sym is) (sum_is_said os))
