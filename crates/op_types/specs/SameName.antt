-- The test of names and that of keys are lawful: each is `≡` on what the definitions see, and what is the same is hashed alike.
use Rattle.std.specs.Prelude.{◌≡◌, List, ◌++◌, ◌==◌, ◌&&◌, ℕ, Bool, true, false, refl, IsTrue}
use Rattle.std.specs.Bool.{Decides}
use Rattle.std.specs.Cmp.{IsEquivalence, decided, on_equiv}
use Rattle.std.specs.Hash as fed
use Rattle.std.proofs.lemmas.Slice.Eq.{bytes_eq-Decides}
use Rattle.std.proofs.Common.{ap, ap₂, sym, ◌∙◌}
use borrow.Author.Tests.{eqb-true, eq-eqb}
use Rattle.op_model.specs.Names.{Name, iri, source, fresh, same_name}
use Rattle.sum_model.specs.Sums.{Key, same_key}
use Rattle.op_types.specs.declared.name.Name as code
use Rattle.op_types.specs.declared.name.NodeKey.{NodeKey}
use Rattle.op_types.specs.View.{name_view, key_view}

-- What is written of a name when it is hashed: the bytes of an IRI or a label, or the two numbers.
abbrev pub name_writes : Name → List (List ℕ)
name_writes (iri s) = fed.str s
name_writes (source s) = fed.str s
name_writes (fresh chunk number) = fed.u32 chunk ++ fed.u64 number

both : (a b : Bool) → (a && b) ≡ true → (a ≡ true) × (b ≡ true)
both true b is = (refl, is)
both false b is = absurd (cc)

pub same_name-exact : (a b : Name) → same_name a b ≡ true → a ≡ b
same_name-exact (iri a) (iri b) same = ap iri ((bytes_eq-Decides a b).0 same)
same_name-exact (source a) (source b) same = ap source ((bytes_eq-Decides a b).0 same)
same_name-exact (fresh c n) (fresh d m) same =
    let parts = both (c == d) (n == m) same in
    ap₂ fresh (eqb-true c d parts.0) (eqb-true n m parts.1)
same_name-exact _ _ same = absurd (cc)

pub same_name-refl : (a : Name) → same_name a a ≡ true
same_name-refl (iri a) = (bytes_eq-Decides a a).1 refl
same_name-refl (source a) = (bytes_eq-Decides a a).1 refl
same_name-refl (fresh c n) = rw (eq-eqb c c refl, eq-eqb n n refl) refl

pub same_key-exact : (a b : Key) → same_key a b ≡ true → a ≡ b
same_key-exact a b same =
    let parts = both (same_name a.0 b.0) (same_name a.1 b.1) same in
    λ i. (same_name-exact a.0 b.0 parts.0 i, same_name-exact a.1 b.1 parts.1 i)

pub same_key-refl : (a : Key) → same_key a a ≡ true
same_key-refl a = rw (same_name-refl a.0, same_name-refl a.1) refl

same_name-decides : (a b : Name) → Decides (same_name a b) (a ≡ b)
same_name-decides a b = (same_name-exact a b, λ e. ap (same_name a) (sym e) ∙ same_name-refl a)

same_key-decides : (a b : Key) → Decides (same_key a b) (a ≡ b)
same_key-decides a b = (same_key-exact a b, λ e. ap (same_key a) (sym e) ∙ same_key-refl a)

pub same_view_equiv : IsEquivalence (λ (a b : code.Name). same_name (name_view a) (name_view b))
same_view_equiv = on_equiv name_view (decided same_name same_name-decides)

pub same_view_writes : (a b : code.Name) → IsTrue (same_name (name_view a) (name_view b)) → name_writes (name_view a) ≡ name_writes (name_view b)
same_view_writes a b same = ap name_writes (same_name-exact (name_view a) (name_view b) same)

pub same_key_view_equiv : IsEquivalence (λ (a b : NodeKey). same_key (key_view a) (key_view b))
same_key_view_equiv = on_equiv key_view (decided same_key same_key-decides)

pub same_key_view_writes : (a b : NodeKey) → IsTrue (same_key (key_view a) (key_view b)) → name_writes (name_view a.graph) ++ name_writes (name_view a.node) ≡ name_writes (name_view b.graph) ++ name_writes (name_view b.node)
same_key_view_writes a b same = ap (λ (k : Key). name_writes k.0 ++ name_writes k.1) (same_key-exact (key_view a) (key_view b) same)
