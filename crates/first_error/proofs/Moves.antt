-- Each step on the word keeps its rule, and what it tells is so.
use Rattle.std.proofs.Common.{◌≡◌, ℕ, ◌<◌, ◌≤◌, ◌≢◌, ◌^◌, Bool, true, List, [], ◌∷◌, ◌++◌, set, min, refl, sym, subst, inr, ⊎_elim, le_trans, slice_index, Some, arith}
use mathlib.Core.Option.{some, none}
use native.Mathlib.Decide.{dec_le}
use lib.ListN.{get_elem?}
use Rattle.atomic_table.specs.Table.{step, Allows, Splits, Joins}
use Rattle.atomic_table.specs.Table.Act.{keeps}
use Rattle.atomic_table.proofs.Lists.{at_set, at_snoc}
use Rattle.first_error.specs.declared.view.View.{View}
use Rattle.first_error.specs.Word.{Holds, IsLeast, Knows, HasLooked, HasReported, again, joined, spent, reported, looked}

module _ {J : Type 0} (count : J → ℕ) (fails : J → ℕ → Bool) (job : J) where
  abbrev AllKnow : ℕ → List (View J) → Type 0
  AllKnow word views = (k : ℕ) (v : View J) → get_elem? views k ≡ some v → Knows count fails job word v

  -- a seat that knows of nothing less than the word knows of nothing less than a lower one
  lower : (word n : ℕ) (v : View J) → n ≤ word → Knows count fails job word v → Knows count fails job n v
  lower word n v le knows own is = ((knows own is).0, le_trans le (knows own is).1)

  all_set : (word : ℕ) (views : List (View J)) (id : ℕ) (w : View J) → AllKnow word views → Knows count fails job word w → AllKnow word (set views id w)
  all_set word views id w all one k u at = ⊎_elim (λ (t : (k ≡ id) × (w ≡ u)). subst (λ (z : View J). Knows count fails job word z) t.1 one) (λ (t : (k ≢ id) × (get_elem? views k ≡ some u)). all k u t.1) (at_set views id k w u at)

  all_snoc : (word : ℕ) (views : List (View J)) (w : View J) → AllKnow word views → Knows count fails job word w → AllKnow word (views ++ w ∷ [])
  all_snoc word views w all one k u at = ⊎_elim (λ t. all k u t) (λ t. subst (λ (z : View J). Knows count fails job word z) t one) (at_snoc views w u k at)

  least_min : (word piece : ℕ) → IsLeast count fails job word → (piece < count job) × (fails job piece ≡ true) → Dec (word ≤ piece) → IsLeast count fails job (min word piece)
  least_min word piece least bad (yes d) = let e : word ≡ min word piece = omega arith in subst (λ (n : ℕ). IsLeast count fails job n) e least
  least_min word piece least bad (no d) = let e : piece ≡ min word piece = omega arith in subst (λ (n : ℕ). IsLeast count fails job n) e (inr bad)

  -- a report: the word becomes the lesser of it and a piece that fails
  pub reports : (id : ℕ) (v : View J) (c : List (ℕ × Unit)) (piece slots : ℕ) → piece < count job → fails job piece ≡ true
      → Allows (Holds count fails job) slots id (v, c) 0 (λ n. min n piece) (HasReported (step slots 0 piece 0 none) (v, c))
  reports id v c piece slots inside bad s h homes at fits =
      let low : min h.word piece ≤ h.word = omega arith in
      let new : Knows count fails job (min h.word piece) (reported v piece) = λ own is. let old = h.each id v at own is in let b = old.1 in (old.0, (omega arith)) in (
        reported v piece,
        keeps,
        tt,
        record {
          word = min h.word piece;
          words = rw h.words refl;
          small = h.small;
          least = least_min h.word piece h.least (inside, bad) (dec_le h.word piece);
          each = all_set (min h.word piece) s.views id (reported v piece) (λ k u e. lower h.word (min h.word piece) u low (h.each k u e)) new;
        },
        (refl, refl),
      )

  -- a look: the word stays, and the seat knows it
  pub looks : (id : ℕ) (v : View J) (c : List (ℕ × Unit)) (slots : ℕ)
      → Allows (Holds count fails job) slots id (v, c) 0 (λ n. n) (HasLooked count fails (step slots 0 0 0 none) (v, c))
  looks id v c slots s h homes at fits =
      let is : h.word ≡ slice_index s.words 0 = rw h.words refl in
      let new : Knows count fails job h.word (looked v (slice_index s.words 0)) = λ own mine. ((h.each id v at own mine).0, omega arith) in (
        looked v (slice_index s.words 0),
        keeps,
        tt,
        record {
          word = h.word;
          words = rw h.words refl;
          small = h.small;
          least = h.least;
          each = all_set h.word s.views id (looked v (slice_index s.words 0)) h.each new;
        },
        (
          refl,
          refl,
          (λ own mine. let old = h.each id v at own mine in
              let Told : J → Type 0 = λ j. IsLeast count fails j (slice_index s.words 0) × (slice_index s.words 0 ≤ v.bound) × (count j < 2 ^ 32) in
              subst Told (sym old.0) (subst (λ (n : ℕ). IsLeast count fails job n) is h.least, (let b = old.1 in omega arith), h.small)),
        ),
      )

  pub splits : (id : ℕ) (v : View J) → Splits (Holds count fails job) id v v (again v)
  splits id v s h at = record {
    word = h.word;
    words = h.words;
    small = h.small;
    least = h.least;
    each = all_snoc h.word (set s.views id v) (again v) (all_set h.word s.views id v h.each (h.each id v at)) (h.each id v at);
  }

  pub joins : (id : ℕ) (v : View J) (other : ℕ) (w : View J) → w.job ≡ Some job → Joins (Holds count fails job) id v other w (joined v w) spent
  joins id v other w mine s h at apart there =
      let known : Knows count fails job h.word w = ⊎_elim (λ (t : (other ≡ id) × (joined v w ≡ w)). absurd (apart t.0)) (λ (t : (other ≢ id) × (get_elem? s.views other ≡ some w)). h.each other w t.1) (at_set s.views id other (joined v w) w there) in
      let both : Knows count fails job h.word (joined v w) = λ own is. let a = h.each id v at own is in let b = known job mine in let a' = a.1 in let b' = b.1 in (a.0, omega arith) in record {
        word = h.word;
        words = h.words;
        small = h.small;
        least = h.least;
        each = all_set h.word (set s.views id (joined v w)) other spent (all_set h.word s.views id (joined v w) h.each both) (λ own is. absurd (cc));
      }
