-- The tests of names, keys and entries.
use Rattle.std.proofs.Common.{◌≡◌, ◌==◌, ◌&&◌, true, false, refl, sym, ap, ap₂, eqb-true, subst}
use Rattle.std.specs.Bool.{one_answer}
use Rattle.std.proofs.lemmas.Bool.Decides.{Decides-eqb}
use Rattle.ld_model.proofs.Puts.{bytes_eq-exact, bytes_eq-refl}
use Rattle.ld_model.proofs.SameTree.{same_tree-refl, same_tree-exact, same_tree-sym}
use Rattle.ld_model.proofs.Truths.{both}
use Rattle.op_model.specs.Names.{Name, iri, source, fresh, same_name}
use Rattle.op_model.specs.Ops.{Entry, value, reference, list}
use Rattle.sum_model.specs.Sums.{Key, same_key, same_entry}
use Rattle.sum_laws.specs.Laws.{is_list, SameNamesAreEqual, SameNodesAreEqual, SameEntriesAreEqual}
use Rattle.sum_laws.proofs.Lists.{IsExact}

pub same_name-exact : IsExact same_name
same_name-exact (iri a) (iri b) is = ap iri (bytes_eq-exact a b is)
same_name-exact (source a) (source b) is = ap source (bytes_eq-exact a b is)
same_name-exact (fresh c n) (fresh d m) is =
    let parts = both (c == d) (n == m) is in
    ap₂ fresh (eqb-true c d parts.0) (eqb-true n m parts.1)
same_name-exact _ _ is = absurd (cc)

pub same_key-exact : IsExact same_key
same_key-exact a b is =
    let parts = both (same_name a.0 b.0) (same_name a.1 b.1) is in
    λ i. (same_name-exact a.0 b.0 parts.0 i, same_name-exact a.1 b.1 parts.1 i)

pub same_entry-exact : IsExact same_entry
same_entry-exact (value a) (value b) is = ap value (same_tree-exact a b is)
same_entry-exact (reference a) (reference b) is = ap reference (same_name-exact a b is)
same_entry-exact _ _ is = absurd (cc)

-- Each of them answers the same in both orders.
pub same_name-refl : (a : Name) → same_name a a ≡ true
same_name-refl (iri a) = bytes_eq-refl a
same_name-refl (source a) = bytes_eq-refl a
same_name-refl (fresh c n) = ap₂ ◌&&◌ ((Decides-eqb c c).1 refl) ((Decides-eqb n n).1 refl)

same_name-from : (a b : Name) → a ≡ b → same_name a b ≡ true
same_name-from a b is = subst (λ x. same_name a x ≡ true) is (same_name-refl a)

pub same_name-sym : (a b : Name) → same_name a b ≡ same_name b a
same_name-sym a b =
    one_answer {P = a ≡ b} (same_name a b) (same_name b a)
    (same_name-exact a b, same_name-from a b)
    (λ is. sym (same_name-exact b a is), λ is. same_name-from b a (sym is))

pub same_key-refl : (a : Key) → same_key a a ≡ true
same_key-refl a = ap₂ ◌&&◌ (same_name-refl a.0) (same_name-refl a.1)

pub same_key-sym : (a b : Key) → same_key a b ≡ same_key b a
same_key-sym a b = ap₂ ◌&&◌ (same_name-sym a.0 b.0) (same_name-sym a.1 b.1)

pub same_entry-sym : (a b : Entry) → same_entry a b ≡ same_entry b a
same_entry-sym (value a) (value b) = same_tree-sym a b
same_entry-sym (value a) (reference b) = refl
same_entry-sym (value a) (list b) = refl
same_entry-sym (reference a) (value b) = refl
same_entry-sym (reference a) (reference b) = same_name-sym a b
same_entry-sym (reference a) (list b) = refl
same_entry-sym (list a) (value b) = refl
same_entry-sym (list a) (reference b) = refl
same_entry-sym (list a) (list b) = refl

-- And each says yes of equal ones, but for lists.
same_entry-no_list : (a b : Entry) → same_entry a b ≡ true → is_list a ≡ false
same_entry-no_list (value a) b is = refl
same_entry-no_list (reference a) b is = refl
same_entry-no_list (list a) b is = absurd (cc)

same_entry-itself : (a : Entry) → is_list a ≡ false → same_entry a a ≡ true
same_entry-itself (value a) is = same_tree-refl a
same_entry-itself (reference a) is = same_name-refl a
same_entry-itself (list a) is = absurd (cc)

pub same_names_are_equal : SameNamesAreEqual
same_names_are_equal a b = (same_name-exact a b, same_name-from a b)

pub same_nodes_are_equal : SameNodesAreEqual
same_nodes_are_equal a b = (same_key-exact a b, λ is. subst (λ x. same_key a x ≡ true) is (same_key-refl a))

pub same_entries_are_equal : SameEntriesAreEqual
same_entries_are_equal a b = (
  λ is. (same_entry-exact a b is, same_entry-no_list a b is),
  λ is. subst (λ x. same_entry a x ≡ true) is.0 (same_entry-itself a is.1),
)
