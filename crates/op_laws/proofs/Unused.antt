-- Fresh names that aren't used yet.
use Rattle.std.proofs.Common.{◌≡◌, ℕ, ◌+◌, ◌≤◌, ◌<◌, arith, List, [], ◌∷◌, Bool, true, false, ◌||◌, ◌&&◌, ◌==◌, if◌then◌else◌, refl, ap₂, ◌∙◌}
use borrow.Author.Tests.{eqb-true}
use Rattle.std.specs.List.{list_any}
use Rattle.ld_model.specs.Label.{is_blank}
use Rattle.op_model.specs.Names.{Name, iri, source, fresh, same_name, name_of, blank}
use Rattle.op_model.specs.Running.{used}
use Rattle.op_laws.proofs.Used.{any-used}

-- No name of this chunk is used that has this number or a greater one, and none of a later chunk.
pub record AreUnused (chunk n : ℕ) (names : List Name) : Type 0 where
  pub here : (k : ℕ) → n ≤ k → list_any (same_name (fresh chunk k)) names ≡ false
  pub later : (d k : ℕ) → chunk < d → list_any (same_name (fresh d k)) names ≡ false

still_unused : (x : Name) (names ns : List Name) → list_any (same_name x) names ≡ false → list_any (same_name x) ns ≡ false → list_any (same_name x) (used names ns) ≡ false
still_unused x names ns first rest = any-used x names ns ∙ ap₂ ◌||◌ first rest

other_kind : (d k : ℕ) (s : List ℕ) → list_any (same_name (fresh d k)) (blank (name_of s)) ≡ false
other_kind d k s = by_form (is_blank s)
  where
    by_form : (b : Bool) → list_any (same_name (fresh d k)) (blank (if b then source s else iri s)) ≡ false
    by_form true = refl
    by_form false = refl

greater_is_other : (m n : ℕ) → n < m → (m == n) ≡ false
greater_is_other m n less = by_test (m == n) refl
  where
    by_test : (b : Bool) → (m == n) ≡ b → b ≡ false
    by_test true same = absurd (let e : m ≡ n = eqb-true m n same in omega arith)
    by_test false other = refl

pub unused_after_name : (c n : ℕ) (names : List Name) (s : List ℕ) → AreUnused c n names → AreUnused c n (used names (blank (name_of s)))
unused_after_name c n names s are = record {
  here = λ k from. still_unused (fresh c k) names (blank (name_of s)) (are.here k from) (other_kind c k s);
  later = λ d k less. still_unused (fresh d k) names (blank (name_of s)) (are.later d k less) (other_kind d k s);
}

pub unused_after_fresh : (c n : ℕ) (names : List Name) → AreUnused c n names → AreUnused c (n + 1) (used names (fresh c n ∷ []))
unused_after_fresh c n names are = record {
  here = λ k from. still_unused (fresh c k) names (fresh c n ∷ []) (are.here k (omega arith)) (rw (greater_is_other k n (omega arith)) (neither (c == c)));
  later = λ d k less. still_unused (fresh d k) names (fresh c n ∷ []) (are.later d k less) (rw (greater_is_other d c less) refl);
}
  where
    neither : (b : Bool) → ((b && false) || false) ≡ false
    neither true = refl
    neither false = refl
