-- The test of names is exact.
use Rattle.std.proofs.Common.{◌≡◌, ◌==◌, Bool, true, false, refl, sym, ap, ap₂, ◌∙◌}
use borrow.Author.Tests.{eqb-true}
use Rattle.std.proofs.lemmas.Bool.Decides.{Decides-eqb}
use Rattle.ld_model.proofs.Puts.{bytes_eq-exact, bytes_eq-refl}
use Rattle.ld_model.proofs.Truths.{both}
use Rattle.op_model.specs.Names.{Name, iri, source, fresh, same_name}

pub same_name-exact : (a b : Name) → same_name a b ≡ true → a ≡ b
same_name-exact (iri a) (iri b) same = ap iri (bytes_eq-exact a b same)
same_name-exact (source a) (source b) same = ap source (bytes_eq-exact a b same)
same_name-exact (fresh c n) (fresh d m) same =
    let parts = both (c == d) (n == m) same in
    ap₂ fresh (eqb-true c d parts.0) (eqb-true n m parts.1)
same_name-exact _ _ same = absurd (cc)

pub same_name-refl : (a : Name) → same_name a a ≡ true
same_name-refl (iri a) = bytes_eq-refl a
same_name-refl (source a) = bytes_eq-refl a
same_name-refl (fresh c n) = rw ((Decides-eqb c c).1 refl, (Decides-eqb n n).1 refl)

pub same_name-apart : (a b : Name) → same_name a b ≡ false → same_name b a ≡ false
same_name-apart a b apart = by_test (same_name b a) refl
  where
    by_test : (t : Bool) → same_name b a ≡ t → t ≡ false
    by_test true same = sym (same_name-refl a) ∙ ap (same_name a) (sym (same_name-exact b a same)) ∙ apart
    by_test false same = refl
