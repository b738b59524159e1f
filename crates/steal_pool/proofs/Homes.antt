-- What the homes of the deques have, as the pieces are dealt.
use Rattle.std.proofs.Common.{◌≡◌, ℕ, zero, suc, ◌+◌, ◌<◌, ◌≤◌, ◌%◌, ◌≢◌, ◌⊎◌, List, [], ◌∷◌, ◌++◌, refl, sym, ap, ◌∙◌, subst, inl, inr, ⊎_elim, arith}
use Rattle.std.proofs.Common.{nat_eq, true, false}
use Rattle.std.proofs.lemmas.Bool.Decides.{eqb_tells}
use Rattle.steal_pool.specs.Deals.{times}
use Rattle.steal_pool.specs.Pools.{IsHome}
use Rattle.steal_pool.proofs.Moves.{times_append, times_here, times_else}

none_or_some : (k : ℕ) → (k ≡ 0) ⊎ (0 < k)
none_or_some zero = inl refl
none_or_some (suc k) = inr (omega arith)

same_or_apart : (x y : ℕ) → (x ≡ y) ⊎ (x ≢ y)
same_or_apart x y = ⊎_elim (λ (q : (nat_eq x y ≡ true) × (x ≡ y)). inl q.1) (λ (q : (nat_eq x y ≡ false) × (x ≢ y)). inr q.1) (eqb_tells x y)

-- the next piece stands in no home yet
pub home_fresh : (n deques at : ℕ) (home : List ℕ) → IsHome n deques at home → times n home ≡ 0
home_fresh n deques at home h = ⊎_elim (λ e. e) (λ (l : 0 < times n home). let i = (h.inside n l).0 in absurd (omega arith)) (none_or_some (times n home))

-- a deque before any piece is dealt
pub home_empty : (deques at : ℕ) → IsHome 0 deques at []
home_empty deques at = record {
  once = λ x. omega arith;
  inside = λ x some. absurd (omega arith);
  all = λ x below left. absurd (omega arith);
}

-- the next piece comes into its home
pub home_here : (n deques : ℕ) (home : List ℕ) → IsHome n deques (n % deques) home → IsHome (n + 1) deques (n % deques) (home ++ n ∷ [])
home_here n deques home h = record {
  once = λ x. ⊎_elim
      (λ (e : x ≡ n). subst (λ (y : ℕ). times y (home ++ n ∷ []) ≤ 1) (sym e) (let f = home_fresh n deques (n % deques) home h in let t = times_here n in let a = times_append n home (n ∷ []) in omega arith))
      (λ (apart : x ≢ n). let o = h.once x in let t = times_else x n (λ e. apart (sym e)) in let a = times_append x home (n ∷ []) in omega arith)
      (same_or_apart x n);
  inside = λ x some. ⊎_elim
      (λ (e : x ≡ n). (omega arith, ap (λ (y : ℕ). y % deques) e))
      (λ (apart : x ≢ n). let t = times_else x n (λ e. apart (sym e)) in let a = times_append x home (n ∷ []) in let i = h.inside x (omega arith) in let i' = i.0 in (omega arith, i.1))
      (same_or_apart x n);
  all = λ x below left. ⊎_elim
      (λ (e : x ≡ n). subst (λ (y : ℕ). 0 < times y (home ++ n ∷ [])) (sym e) (let t = times_here n in let a = times_append n home (n ∷ []) in omega arith))
      (λ (apart : x ≢ n). let o = h.all x (let m : x < n = strictly x n below apart in m) left in let a = times_append x home (n ∷ []) in omega arith)
      (same_or_apart x n);
}
  where
    strictly : (x n : ℕ) → x < n + 1 → x ≢ n → x < n
    strictly x n below apart = omega (arith, apart)

-- the other homes stay
pub home_else : (n deques at : ℕ) (home : List ℕ) → at ≢ n % deques → IsHome n deques at home → IsHome (n + 1) deques at home
home_else n deques at home other h = record {
  once = h.once;
  inside = λ x some. let i = h.inside x some in let i' = i.0 in (omega arith, i.1);
  all = λ x below left. ⊎_elim
      (λ (e : x ≡ n). absurd (other (sym left ∙ ap (λ (y : ℕ). y % deques) e)))
      (λ (apart : x ≢ n). h.all x (omega (arith, apart)) left)
      (same_or_apart x n);
}
